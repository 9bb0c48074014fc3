pub mod Rules
pub mod Reading
pub mod Rows
pub mod Says
pub mod Spaces
