pub mod Lists
pub mod Combinations
pub mod Successor
pub mod Claims
