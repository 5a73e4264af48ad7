pub mod Refusals
pub mod Tables
pub mod Rows
pub mod State
pub mod Capacity
pub mod Calls
