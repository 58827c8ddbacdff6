-- What the tokens of a style sheet are read as, and how that is printed.
pub mod ComesFrom
pub mod Declarations
pub mod Fault
pub mod Items
pub mod KeptItems
pub mod KeptRuleParts
pub mod Limits
pub mod Printed
pub mod PrintedSelector
pub mod RuleParts
pub mod Selectors
pub mod Sheet
pub mod SheetParts
pub mod Sound
pub mod Spelling
pub mod StyleRule
