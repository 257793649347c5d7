pub mod Growth
pub mod Moves
pub mod Relations
pub mod Roots
pub mod Views
