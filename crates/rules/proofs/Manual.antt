pub mod Paths
pub mod Codes
pub mod Chains
pub mod Firm
pub mod Worked
