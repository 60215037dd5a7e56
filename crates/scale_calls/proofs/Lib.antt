pub mod Appended
pub mod Decoded
pub mod KeptClasses
pub mod Metadatas
pub mod PathTexts
pub mod Registries
pub mod TypeLines
