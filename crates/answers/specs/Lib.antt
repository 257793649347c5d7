pub mod Lines
pub mod Claims
pub mod Literals
pub mod Assignments
pub mod Seeing
pub mod Marks
