pub mod Exactly
pub mod Lent
