pub mod Tows
