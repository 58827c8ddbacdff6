pub mod Explanation
pub mod Report
