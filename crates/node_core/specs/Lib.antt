pub mod Encoding
pub mod Leaves
pub mod Remaining
pub mod Shown
pub mod Whats
