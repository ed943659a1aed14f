pub mod Config
pub mod State
pub mod Candidate
pub mod Answer
pub mod Results
