pub mod Berths
pub mod Lines
