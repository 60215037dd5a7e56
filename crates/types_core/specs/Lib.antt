pub mod Bits
pub mod Bytes
pub mod Fits
pub mod Keys
pub mod Kinds
