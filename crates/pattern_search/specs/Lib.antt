pub mod Answers
pub mod Iteration
pub mod Demand3
pub mod Claims
