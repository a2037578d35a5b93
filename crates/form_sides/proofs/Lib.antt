pub mod Arguing
pub mod OnePiece
pub mod Pairing
pub mod Reading
