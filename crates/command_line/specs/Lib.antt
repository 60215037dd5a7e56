pub mod Explained
pub mod Line
pub mod Name
