pub mod NodeForms
pub mod Needs
pub mod WholeCompacts
pub mod WholeRuns
pub mod PlainReads
pub mod Fronts
