mod Beating
mod Descending
mod Leading
mod Limits
mod Lines
mod Matches
mod Placing
mod Told
