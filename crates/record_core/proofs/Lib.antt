pub mod Adds
pub mod Back
pub mod Fitting
pub mod Passed
pub mod Puts
