pub mod Defined
pub mod Json
pub mod Laws
pub mod Printed
pub mod Tokens
