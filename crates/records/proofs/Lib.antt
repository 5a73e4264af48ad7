pub mod Searches
pub mod Refusing
pub mod Ranges
pub mod Capacities
pub mod Performing
