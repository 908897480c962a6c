pub mod HexPieces
pub mod Lines
pub mod NamedValues
