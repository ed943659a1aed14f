pub mod Questions
pub mod UnitVectors
pub mod UnitVectorsClaims
pub mod BrightnessList
pub mod BrightnessListClaims
