pub mod Inside
pub mod Keeping
pub mod NumberSteps
pub mod Passing
pub mod Proper
pub mod Reducing
pub mod Rooting
pub mod Scans
