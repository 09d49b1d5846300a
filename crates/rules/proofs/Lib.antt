pub mod Document01
pub mod Manual
pub mod Samples
pub mod Computes
pub mod Settings
pub mod EveryRefusal
pub mod Differences
pub mod Stated
