pub mod Analysis
pub mod Ledgers
pub mod Search
pub mod Verdict
