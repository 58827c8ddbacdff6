-- What the proofs of other crates may cite: declarations before which one more stands that is not among them stand once with it.
pub use Rattle.step_queue.proofs.Once.{more_once}
