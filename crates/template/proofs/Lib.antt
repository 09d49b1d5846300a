pub mod Written
pub mod Digits
pub mod Reading
pub mod Whole
