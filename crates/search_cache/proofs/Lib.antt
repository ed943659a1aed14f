pub mod AnglePlaces
pub mod AngleArray
pub mod PassDirections
pub mod LoadPass
pub mod Loaded
pub mod LoadCombination
