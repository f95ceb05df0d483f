pub mod CryptoLine
pub mod LineParts
