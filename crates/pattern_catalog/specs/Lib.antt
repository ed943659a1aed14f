pub mod Blocks
pub mod Rank
pub mod Answers
pub mod SlotPlace
pub mod SlotRead
pub mod Claims
