pub mod GoesOn
pub mod Leaves
pub mod Listed
pub mod Moves
pub mod Parts
pub mod Tied
pub mod Walks
