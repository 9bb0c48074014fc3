pub mod Entries
pub mod Searches
pub mod Costs
pub mod Outcomes
pub mod Answered
