pub mod Bodies
pub mod Items
pub mod Sheets
pub mod Texts
