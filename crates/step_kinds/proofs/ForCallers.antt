-- What the proofs of other crates may cite: the order of kinds, and that a step is the one of its kind and numbers.
pub use Rattle.step_kinds.proofs.KindNumbers.{kind_cmp, kinds_compare, same_kind, few_kinds, rank_of, rank_is, made_of, kind_is, first_is, second_is}
