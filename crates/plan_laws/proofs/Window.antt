pub mod Beside
pub mod Both
pub mod Splitting
pub mod StepWindows
pub mod Telling
pub mod TellingKept
