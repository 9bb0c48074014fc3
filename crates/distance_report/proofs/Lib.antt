pub mod Named
pub mod Texts
