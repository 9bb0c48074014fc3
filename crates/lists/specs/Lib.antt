pub mod Some
pub mod Chosen
