pub mod Sink
pub mod Count
pub mod Pick
