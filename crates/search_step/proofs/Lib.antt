pub mod PassStart
pub mod CacheAfter
pub mod NextPass
pub mod NextRead
pub mod CallStart
pub mod Stepping
