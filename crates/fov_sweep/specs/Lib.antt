pub mod Sweep
pub mod Answers
pub mod Claims
pub mod Reach
pub mod OffsetList
