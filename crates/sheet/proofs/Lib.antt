pub mod Length
