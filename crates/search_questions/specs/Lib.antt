pub mod Question8
pub mod Questions
