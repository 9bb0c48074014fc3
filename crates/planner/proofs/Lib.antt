pub mod EntryTests
pub mod Reaches
pub mod Settles
pub mod HighCosts
pub mod Endings
pub mod DayBounds
pub mod Fronts
pub mod Answering
