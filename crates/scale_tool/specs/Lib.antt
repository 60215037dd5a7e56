pub mod Answer
pub mod Devices
pub mod Metadatas
pub mod Moved
pub mod Opaque
pub mod Refused
pub mod Reported
pub mod Values
