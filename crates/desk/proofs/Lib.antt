pub mod Letters
pub mod Commanding
pub mod Opening
pub mod Handling
