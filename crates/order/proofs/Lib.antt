pub mod Ranging
pub mod Signs
pub mod Stretches
pub mod Visiting
