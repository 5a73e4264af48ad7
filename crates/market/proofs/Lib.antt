pub mod Lists
pub mod Open
pub mod Range
