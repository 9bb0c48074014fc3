pub mod Text
pub mod Shapes
pub mod Stages
pub mod Tokens
