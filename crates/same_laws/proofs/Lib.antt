mod Alike
mod Blanked
mod Couples
pub mod ForCallers
mod Keeping
mod KeptAlike
mod NeverSame
mod OpenedAlone
mod Scenes
mod Winning
