mod Examples
pub mod Blanks
pub mod Bytes
pub mod Caps
pub mod Cases
pub mod CommonMultiples
pub mod Digits
pub mod FirstPassing
pub mod ForCallers
pub mod Meanings
pub mod Multiples
pub mod Numbers
pub mod Offsets
pub mod Outcomes
pub mod Repeats
pub mod Steps
pub mod Texts
