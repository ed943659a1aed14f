pub mod Answers
pub mod Iterating
pub mod SkippedReads
pub mod Calling
pub mod Demand3
pub mod Run
