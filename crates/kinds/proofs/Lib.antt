pub mod Ranging
pub mod Rows
pub mod FamilyFacts
pub mod Making
pub mod Loops
pub mod Inclusive
