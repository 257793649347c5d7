pub mod Numbering
pub mod Ending
pub mod Claiming
pub mod Marking
pub mod Gathering
pub mod Setting
