-- What the proofs of other crates may cite: what is held and done stays so while more is answered.
pub use Rattle.merge_plan.proofs.Answering.{done_more, first_more, stays_among, stays_itself, stays_on}
