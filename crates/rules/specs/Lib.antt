pub mod Laws
pub mod Caps
