pub mod Afterwards
pub mod InTurn
pub mod Listed
pub mod Others
pub mod Places
pub mod Told
pub mod Walked
