pub mod Told
pub mod Compiles
