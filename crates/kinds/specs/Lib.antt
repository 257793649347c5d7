pub mod Items
pub mod Meaning
pub mod Tests
pub mod Families
pub mod BothKindsLemmas
