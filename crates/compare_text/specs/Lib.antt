pub mod ComparedTexts
pub mod Laws
pub mod LoggedTexts
pub mod Reading
