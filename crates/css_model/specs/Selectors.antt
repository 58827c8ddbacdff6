-- Selectors from their texts, section by section beside Selectors 3, and the reasons against them.
pub mod Arguments
pub mod Attributes
pub mod Classes
pub mod Compounds
pub mod Negations
pub mod Profile
pub mod PseudoClasses
pub mod PseudoElements
pub mod Reading
pub mod Reasons
pub mod Refusals
pub mod Simples
pub mod Terms
pub mod Tokens
pub mod Types
