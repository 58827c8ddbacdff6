-- The lemmas that other crates cite.
pub use Rattle.remainders.proofs.Dividing.{common_divides}
pub use Rattle.remainders.proofs.Joining.{HaveSteps, joint_left, joint_positive, joint_same}
pub use Rattle.remainders.proofs.Moving.{moved_left}
