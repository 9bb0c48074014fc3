pub mod Ranges
pub mod Facts
pub mod Lawful
pub mod Making
pub mod Sailing
