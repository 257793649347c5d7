pub mod Expecting
pub mod LineSteps
pub mod Rounds
