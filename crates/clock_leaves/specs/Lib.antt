pub mod Leaves
pub mod Reasons
