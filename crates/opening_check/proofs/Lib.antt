pub mod OpenCheck
pub mod Passed
