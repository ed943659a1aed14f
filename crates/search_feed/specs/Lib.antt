pub mod Data
pub mod Image
pub mod Lent
pub mod Feed
pub mod TableRead
pub mod Claims
