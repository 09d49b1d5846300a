-- The Rust, file by file, with its names.
pub mod Run
pub mod CoreClocks
pub mod Pll
pub mod Mco
pub mod Rcc
pub mod ResetReason
pub mod Pwr
