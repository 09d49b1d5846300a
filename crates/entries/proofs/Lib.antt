pub mod Told
pub mod Counted
pub mod Picked
