pub mod Listing
pub mod DeadTexts
pub mod Laws
