pub mod Places
pub mod Pairs
pub mod Kept
pub mod Adds
pub mod Exactly
pub mod Reasons
pub mod Undone
