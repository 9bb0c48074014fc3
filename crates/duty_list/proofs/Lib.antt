pub mod Onward
pub mod Looking
