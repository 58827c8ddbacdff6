pub mod Numbered
pub mod Ranking
pub mod Saving
pub mod Walking
