pub mod Free
pub mod Leading
pub mod Left
pub mod RuleParting
pub mod Sizes
pub mod StepEdits
pub mod Steps
