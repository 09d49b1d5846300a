pub mod Write
pub mod Template
