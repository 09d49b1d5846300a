pub mod Legal
pub mod Computes
pub mod Agreement
pub mod Readings
pub mod Refused
pub mod Report
pub mod Unweakened
pub mod Demands
