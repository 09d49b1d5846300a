pub mod Decoding
pub mod Chips
pub mod Wrong
pub mod Reading
