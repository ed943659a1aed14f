pub mod Offsets
pub mod OffsetList
pub mod CountValues
pub mod WriteValues
pub mod BuildFovSweep
pub mod Answers
