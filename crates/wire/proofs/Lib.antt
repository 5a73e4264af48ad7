pub mod Reading
pub mod Splitting
pub mod Writing
pub mod Streaming
