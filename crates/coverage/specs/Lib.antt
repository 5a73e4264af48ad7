pub mod Allocation
pub mod Capacity
pub mod Meaning
pub mod Admission
pub mod Figures
