pub mod Hexadecimal
pub mod Binary
pub mod Outputs
pub mod Placing
pub mod Decimal
