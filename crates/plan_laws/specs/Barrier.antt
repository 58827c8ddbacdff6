pub mod Hindering
pub mod Keyed
pub mod Renumbering
pub mod SideBySide
pub mod Staying
pub mod Barriers
