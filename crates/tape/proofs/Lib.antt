pub mod Forms
pub mod Steps
pub mod Given
pub mod Held
