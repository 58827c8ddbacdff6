pub mod Inputs
pub mod Laws
pub mod Lines
pub mod Messages
pub mod Reading
pub mod Styled
