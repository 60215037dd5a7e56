pub mod BitWords
pub mod BitsAllowed
pub mod KeyMaps
pub mod KeyOrders
pub mod Widths
