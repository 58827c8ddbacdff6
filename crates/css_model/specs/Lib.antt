pub mod Cascade
pub mod Documents
pub mod Lists
pub mod Positions
pub mod Selectors
pub mod Sheets
pub mod Text
