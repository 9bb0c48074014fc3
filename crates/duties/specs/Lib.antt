pub mod Duties
pub mod Tables
pub mod Rows
pub mod Plans
pub mod Words
pub mod Traces
pub mod Theorems
