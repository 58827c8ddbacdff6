pub mod Ends
pub mod Pathway
