pub mod Same
pub mod Freed
pub mod Named
