pub mod Terms
pub mod Answers
pub mod Exact
pub mod Lent
