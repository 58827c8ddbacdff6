-- What the proofs of other crates may cite: an edit of two items puts others in their places, and what stands in place of one.
pub use Rattle.indexed_sheet.proofs.EditPuts.{two_put}
pub use Rattle.indexed_sheet.proofs.Puts.{put_none}
