pub mod Laws
pub mod SameTexts
pub mod Telling
