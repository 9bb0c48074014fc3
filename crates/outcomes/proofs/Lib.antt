pub mod RowSums
pub mod Successors
pub mod Totals
pub mod Accepts
pub mod Refuses
