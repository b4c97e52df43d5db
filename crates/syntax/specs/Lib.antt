pub mod Spans
pub mod Events
