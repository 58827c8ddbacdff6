pub mod Counting
pub mod DiffTexts
pub mod Laid
pub mod Lines
pub mod Shown
pub mod Winning
pub mod Words
