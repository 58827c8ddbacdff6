-- What the proofs of other crates may cite: plans of bodies one after the other, and what is planned, merged and told while more is
-- answered.
pub use Rattle.opened_merge_laws.proofs.Answering.{merged_more, told_more}
pub use Rattle.opened_merge_laws.proofs.BodyPlans.{plan_more, plan_spent, plans_more, plans_on, plans_spent}
