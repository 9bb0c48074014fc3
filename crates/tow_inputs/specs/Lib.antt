pub mod Sheets
pub mod Rules
