-- Documents and which of their elements a selector matches.
pub mod Attribute
pub mod Digests
pub mod Document
pub mod FeatureParts
pub mod Features
pub mod Matching
pub mod RunDocumentParts
pub mod RunDocuments
pub mod SelectorParts
pub mod Specificity
