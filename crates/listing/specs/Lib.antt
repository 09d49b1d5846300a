pub mod Showing
pub mod Show
pub mod Walked
