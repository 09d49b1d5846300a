pub mod Document01
pub mod Manual
pub mod Stated
pub mod Words
