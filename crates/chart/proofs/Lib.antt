pub mod Lawful
pub mod Distances
