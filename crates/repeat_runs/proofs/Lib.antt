mod Led
mod Marking
mod OneRule
mod Ran
