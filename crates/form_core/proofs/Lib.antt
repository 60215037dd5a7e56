pub mod Firsts
pub mod WholeCompacts
pub mod WholeRuns
pub mod ReadFronts
pub mod PlainReads
