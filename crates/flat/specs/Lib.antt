pub mod Spans
pub mod Views
pub mod Walks
