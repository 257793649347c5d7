pub mod Declaring
pub mod Writing
