pub mod Claims
pub mod InspectTexts
pub mod Laws
pub mod Leading
pub mod SameClaims
