pub mod Refusals
pub mod Lines
pub mod Expects
pub mod Sheets
pub mod Reads
pub mod Views
pub mod Halting
