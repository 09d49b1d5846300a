pub mod Rust
pub mod Demands
