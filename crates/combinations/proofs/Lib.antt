pub mod Lists
pub mod EachCombination
pub mod Order
pub mod Enumeration
pub mod Count
pub mod Successor
pub mod Steps
