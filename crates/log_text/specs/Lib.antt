pub mod CheckedTexts
pub mod Laws
pub mod Messages
