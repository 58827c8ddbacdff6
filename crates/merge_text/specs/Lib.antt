pub mod Counts
pub mod MergedTexts
pub mod Working
