pub mod Edges
pub mod Charts
