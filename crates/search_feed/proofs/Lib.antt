pub mod KeptSpots
pub mod WithinLimits
pub mod OpenedValid
pub mod TableRead
