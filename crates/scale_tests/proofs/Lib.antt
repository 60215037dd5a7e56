pub mod Rationing
