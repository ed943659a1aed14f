pub mod Question14
pub mod PlacesInside
pub mod QuestionOrder
pub mod Answers
