pub mod Table
pub mod Words
pub mod Sheet
pub mod All
