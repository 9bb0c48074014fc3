pub mod Tables
pub mod Rowed
pub mod Sound
pub mod Flips
pub mod Growths
