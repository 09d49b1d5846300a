pub mod Line
pub mod Says
