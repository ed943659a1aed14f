pub mod Ceiling
pub mod SettingsLimits
pub mod PassLimits
