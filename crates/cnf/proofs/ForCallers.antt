-- The lemmas that other crates cite.
pub use Rattle.cnf.proofs.LitLemmas.{
  parity,
  number-eq,
  negation-even,
  negation-odd,
  variable-negation,
  variable-positive,
  value-negation,
  value-positive,
  is_below-negation,
  are_below-get,
  are_below-take,
  are_below-mono,
  are_below-negations,
  is_below-mono,
  is_below-positive,
  all_below-mono,
  all_hold-values,
  holds-append,
  value-append,
  one_below,
  pair_below,
  triple_below,
  list_all-append-from,
  list_all-append-parts,
  list_all-mono,
  list_all-get,
}
pub use Rattle.cnf.proofs.MemberLemmas.{
  same-eq,
  same-refl,
  same-from_eq,
  any-among,
  any-witness,
  all-among,
  all-from,
  any-at,
  any-mono,
  negation-twice,
  negation-apart,
  among-negations,
  negations-among,
  among-append_left,
  among-append_right,
  among-append_cases,
}
pub use Rattle.cnf.proofs.PropagationLemmas.{follows-from_forced}
pub use Rattle.cnf.proofs.ExtensionLemmas.{Extends-trans, kept-hold}
pub use Rattle.cnf.proofs.GateLemmas.{
  and_gate-below,
  and_gate-extends,
  and_gate-means,
  false-below,
  false-extends,
  false-means,
}
pub use Rattle.cnf.proofs.SumLemmas.{adder-facts, length-adder}
pub use Rattle.cnf.proofs.ComparisonLemmas.{at_least-facts}
pub use Rattle.cnf.proofs.DivisionLemmas.{division-facts, quotient_of, remainder_of}
pub use Rattle.cnf.proofs.GrowLemmas.{
  adder-grows,
  and_gate-grows,
  at_least-grows,
  division-grows,
  false-grows,
}
pub use Rattle.cnf.proofs.SizeLemmas.{
  GrowsBy-more,
  GrowsBy-trans,
  adder-size,
  and_gate-size,
  at_least-size,
  division-size,
  length-remainder,
}
