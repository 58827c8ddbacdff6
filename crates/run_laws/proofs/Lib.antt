mod Edited
mod Examples
mod Leading
mod Listed
mod NextCuts
mod Numbered
mod OneRule
mod OtherCuts
pub mod ForCallers
