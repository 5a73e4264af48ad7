pub mod Reserved
pub mod Lends
