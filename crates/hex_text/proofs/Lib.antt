pub mod HexDigits
pub mod HexPlaces
