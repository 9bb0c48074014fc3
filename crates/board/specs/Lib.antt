pub mod Order
pub mod Ranges
pub mod Lists
pub mod Refusals
pub mod Boards
pub mod Exact
pub mod Standing
