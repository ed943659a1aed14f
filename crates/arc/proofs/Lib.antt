pub mod Laws
pub mod Constants
