pub mod AtSlots
pub mod Conditions
pub mod SolvedShape
pub mod Uncounted
