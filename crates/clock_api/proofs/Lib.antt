pub mod Fits
pub mod Stated
