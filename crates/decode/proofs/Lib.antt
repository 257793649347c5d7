pub mod BitSteps
pub mod Picking
pub mod Ones
pub mod Counting
pub mod Ordering
pub mod Failing
pub mod ValueSteps
