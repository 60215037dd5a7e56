pub mod Reasons
pub mod NodeAdds
pub mod Running
pub mod Turned
