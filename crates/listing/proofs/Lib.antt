pub mod Showing
pub mod Told
pub mod Listed
pub mod Walked
