pub mod Decoding
pub mod Wanted
pub mod Viewed
pub mod Paths
pub mod Streaming
pub mod Names
