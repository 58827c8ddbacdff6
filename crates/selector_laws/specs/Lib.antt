pub mod Grammar
pub mod Limits
pub mod Positions
pub mod Reason
