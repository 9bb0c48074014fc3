pub mod Listed
pub mod Places
pub mod Refusals
pub mod Indexing
pub mod Allowed
pub mod Making
pub mod Lawful
