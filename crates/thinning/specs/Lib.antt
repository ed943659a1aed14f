pub mod Separation
pub mod Columns
pub mod KeptList
pub mod LookAhead
