pub mod Cap
pub mod Chains
pub mod Fits
pub mod Within
