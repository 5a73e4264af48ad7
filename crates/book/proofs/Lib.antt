pub mod Positions
pub mod Permitting
