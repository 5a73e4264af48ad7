pub mod Faults
pub mod Commands
pub mod Lines
