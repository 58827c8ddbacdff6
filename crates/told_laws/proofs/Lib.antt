mod All
mod Competing
mod Showing
mod Word
