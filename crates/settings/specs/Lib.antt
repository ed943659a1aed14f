pub mod Tolerance
pub mod ToleranceClaims
pub mod SettingsLimits
pub mod SettingsLimitsClaims
pub mod PassLimits
pub mod Passes
