pub mod View
pub mod Settled
pub mod Declares
pub mod Writes
pub mod Views
