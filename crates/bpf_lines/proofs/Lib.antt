pub mod HexLemmas
pub mod HexReading
pub mod DigitLemmas
pub mod LineCuts
