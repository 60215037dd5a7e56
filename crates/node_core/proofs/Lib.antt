pub mod Below
pub mod CellsOf
pub mod Halves
pub mod Members
pub mod SpelledNodes
pub mod SpelledParts
pub mod Words
