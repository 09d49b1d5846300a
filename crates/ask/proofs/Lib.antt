pub mod Keys
pub mod Pairs
pub mod Listed
pub mod Taking
pub mod Bytewise
