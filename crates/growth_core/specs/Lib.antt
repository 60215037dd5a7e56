pub mod Evidence
pub mod Growth
