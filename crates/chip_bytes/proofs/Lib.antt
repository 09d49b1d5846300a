pub mod Asked
pub mod Stated
