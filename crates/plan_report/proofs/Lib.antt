pub mod Duties
pub mod Places
