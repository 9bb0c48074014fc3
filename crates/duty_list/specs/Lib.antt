pub mod Along
pub mod Firsts
pub mod ToCome
