pub mod Sailed
