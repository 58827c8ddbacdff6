-- Lemmas that other crates cite.
pub use Rattle.sheet_read.proofs.SheetSteps.{lexed_fault, lexed_same}
