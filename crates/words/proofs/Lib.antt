pub mod Splitting
pub mod Places
pub mod Shaping
