pub mod Kept
pub mod Members
pub mod Histories
