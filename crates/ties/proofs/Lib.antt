pub mod Counts
pub mod Equivalences
pub mod Grows
pub mod Moves
pub mod Refills
