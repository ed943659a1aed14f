pub mod CountOnes
pub mod SlotPlace
pub mod SlotRead
pub mod Parts
