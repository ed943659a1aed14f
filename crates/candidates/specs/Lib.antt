pub mod StarVectors
pub mod StarsInside
pub mod Comparisons
pub mod NoCandidate
pub mod EntryTests
pub mod Claims
