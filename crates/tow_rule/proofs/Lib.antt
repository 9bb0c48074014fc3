pub mod Places
pub mod Entries
pub mod Twice
pub mod Entering
pub mod Allowing
