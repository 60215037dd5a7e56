pub mod Moves
pub mod Registries
pub mod FileValues
pub mod Reports
pub mod Metadatas
pub mod FoundNames
