pub mod Cuts
pub mod Shaping
