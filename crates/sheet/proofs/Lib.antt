pub mod Judging
pub mod Saying
pub mod Only
pub mod Tokenwise
pub mod Taking
pub mod Every
pub mod Taken
