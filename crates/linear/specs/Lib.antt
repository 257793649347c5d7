pub mod Leq
pub mod Plus
pub mod Same
pub mod LeqLaws
pub mod Owned
pub mod PlusLaws
pub mod SameLaws
