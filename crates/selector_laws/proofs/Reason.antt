pub mod Calm
pub mod Examples
pub mod Places
pub mod Told
pub mod ToldStates
pub mod ToldTerms
pub mod ToldTests
