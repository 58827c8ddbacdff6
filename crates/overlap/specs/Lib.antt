pub mod Answers
pub mod Combined
pub mod Laws
pub mod Lending
pub mod PairsParts
pub mod Remembered
pub mod Singles
pub mod Stored
