pub mod Question14
pub mod ImageVectors
pub mod PlacesInside
pub mod Answers
pub mod Completing
pub mod Claims
