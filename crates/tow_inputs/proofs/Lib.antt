pub mod Keeping
pub mod Accepted
pub mod Unrefused
