pub mod Forms
pub mod Answers
pub mod Messages
pub mod Tokens
