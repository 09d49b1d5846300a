pub mod Says
pub mod OnePll
pub mod Above0
pub mod Typed
pub mod Bytes
pub mod Calls
pub mod Overlaps
