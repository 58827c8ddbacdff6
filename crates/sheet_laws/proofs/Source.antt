pub mod Closed
pub mod Origins
pub mod Parts
pub mod Pieces
pub mod Places
pub mod Raw
pub mod Whole
