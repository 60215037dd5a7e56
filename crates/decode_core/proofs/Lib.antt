pub mod calls
pub mod Streaming
pub mod Answering
