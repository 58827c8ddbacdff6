pub mod Same
pub mod Scenes
pub mod Told
