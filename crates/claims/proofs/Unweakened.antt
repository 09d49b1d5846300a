pub mod Wrong
pub mod Agreement
pub mod Legal
pub mod Calls
pub mod Walks
pub mod Readings
pub mod Word
