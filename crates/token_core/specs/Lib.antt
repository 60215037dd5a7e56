pub mod Tokens
pub mod Digits
pub mod Places
