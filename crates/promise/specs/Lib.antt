pub mod Refusals
pub mod Readings
pub mod Layouts
pub mod Faithful
