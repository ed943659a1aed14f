pub mod ValidStars
pub mod SlotPeek
pub mod ProbeChain
pub mod SkipReads
pub mod SkipStep
pub mod Skippable
