-- What the proofs of other crates may cite: the window of a step, and what is reversed in it.
pub use Rattle.step_obstacles.proofs.Deciding.{kept_reversed_from, kept_reversed_to, kept_stands, kept_there, middle_same, number_of, reversed_from, reversed_to, stands_at}
pub use Rattle.step_obstacles.proofs.KeptPlaces.{kept_at}
pub use Rattle.step_obstacles.proofs.WindowFacts.{WindowFacts, window_facts}
