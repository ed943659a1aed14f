pub mod Coordinates
pub mod UnitVectors
pub mod BrightnessList
