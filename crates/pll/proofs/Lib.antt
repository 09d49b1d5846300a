pub mod Search
pub mod Settled
pub mod Divided
