pub mod AngleArray
pub mod Cache
pub mod CombinationKeys
