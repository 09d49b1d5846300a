pub mod Accept
pub mod Pattern
pub mod Sides
