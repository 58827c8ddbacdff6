pub mod Laws
pub mod ListTexts
pub mod Standing
