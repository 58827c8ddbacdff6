-- What the proofs of other crates may cite: what stands at the place of a pair, and what a document in which two pairs meet shows.
pub use Rattle.why_text.proofs.Evidence.{meeting_shown}
pub use Rattle.why_text.proofs.OrderShown.{pair_of, order_shown}
pub use Rattle.why_text.proofs.Places.{last_is_place, selector_is, decl_is}
