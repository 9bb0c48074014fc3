pub mod Heard
pub mod Right
pub mod Step
pub mod Ran
