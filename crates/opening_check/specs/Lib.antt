pub mod OpenCheck
pub mod Shortcuts
pub mod Claims
