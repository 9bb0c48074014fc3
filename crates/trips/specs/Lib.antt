pub mod Gaps
pub mod Default
