pub mod FovConsistent
pub mod FieldFits
pub mod EntryTests
pub mod Hits
pub mod StarsInside
pub mod Inside
