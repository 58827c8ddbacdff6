-- What the proofs of other crates may cite: elements of parts of a list, and the test whether a pair stands in items.
pub use Rattle.window_order.proofs.Ranges.{get_drop, at_range}
pub use Rattle.window_order.proofs.StandingTests.{stands_is}
