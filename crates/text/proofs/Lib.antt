pub mod Parts
pub mod Stores
pub mod Named
pub mod Digits
pub mod Least
