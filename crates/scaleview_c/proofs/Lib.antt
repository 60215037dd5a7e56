pub mod Ended
pub mod Handles
pub mod Lents
pub mod Pointers
pub mod Steps
pub mod Written
