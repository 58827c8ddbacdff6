-- What the proofs of other crates may cite: a part that is found after itself, or before, is in the list again; its cut is a step;
-- and what is where in a list without an element.
pub use Rattle.repeat_laws.proofs.Cutting.{decl_cut_is_step, left_is, sel_cut_is_step, repeats_free}
pub use Rattle.repeat_laws.proofs.Finding.{IsFound, decl_again, found, sel_after, sel_before}
pub use Rattle.repeat_laws.proofs.Removing.{Shifts, inside, removed_back, some_left}
