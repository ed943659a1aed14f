pub mod ValidStars
pub mod SlotPeek
pub mod ProbeChain
pub mod FilledKeys
pub mod SkipStep
pub mod Skippable
pub mod SkippedReads
