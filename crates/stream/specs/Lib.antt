pub mod Kind
pub mod Lent
pub mod Words
pub mod Records
pub mod NextRecord
