pub mod Ranges
pub mod Literals
pub mod Bounds
pub mod Variables
pub mod Between
pub mod Orders
pub mod Visits
