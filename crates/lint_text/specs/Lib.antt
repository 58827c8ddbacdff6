pub mod Asking
pub mod Findings
pub mod Laws
pub mod LintTexts
