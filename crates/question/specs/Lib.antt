pub mod Question
pub mod Claims
