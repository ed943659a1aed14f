pub mod PassStart
pub mod CacheAfter
pub mod LoadedRead
