pub mod Errors
pub mod Explaining
pub mod Laws
pub mod PairTexts
pub mod WhyTexts
