pub mod Links
pub mod Charges
