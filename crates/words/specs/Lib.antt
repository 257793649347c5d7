pub mod Split
pub mod Parts
pub mod Lines
pub mod Words
pub mod Shapes
pub mod Tokens
