pub mod AsIs
