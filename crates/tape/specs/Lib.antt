pub mod Kinds
pub mod Written
pub mod Reading
pub mod Holds
pub mod Readers
