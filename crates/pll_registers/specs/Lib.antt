pub mod Fields
pub mod Registers
pub mod Calls
pub mod Stated
