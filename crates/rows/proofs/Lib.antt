pub mod Weights
pub mod Bounds
pub mod Firsts
pub mod Steps
pub mod Comparisons
