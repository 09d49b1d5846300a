pub mod Answer
pub mod Spans
pub mod Search
pub mod Settle
