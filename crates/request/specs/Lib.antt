pub mod Parts
pub mod Chips
pub mod Request
