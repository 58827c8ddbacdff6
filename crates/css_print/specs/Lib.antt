pub mod Fronts
pub mod Places
pub mod Positions
pub mod Putting
pub mod TallyLaws
pub mod Terms
pub mod Walking
pub mod Words
