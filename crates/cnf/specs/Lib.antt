pub mod Reduced
pub mod Numbered
pub mod Encoded
pub mod Lending
pub mod Passed
pub mod Roles
