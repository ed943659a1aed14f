pub mod Question8
pub mod Questions1To7
pub mod StateFits
