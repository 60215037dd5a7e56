pub mod Annotations
pub mod Calls
pub mod Kept
pub mod Nodes
pub mod Owned
pub mod Paths
pub mod TypeNames
pub mod Types
