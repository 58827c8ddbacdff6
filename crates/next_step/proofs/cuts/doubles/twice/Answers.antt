use Rattle.std.proofs.Common.{ℕ, List, sym, subst}
use Rattle.std.specs.List.Sorted.{IsNonDecreasingBy}
use Rattle.std.proofs.lemmas.List.Sorted.{IsNonDecreasingBy-from_sort}
use Rattle.next_step.specs.Repeated.{HasTwice}
use Rattle.next_step.proofs.Repeats.{in_any_order}
use Rattle.next_step.proofs.cuts.doubles.twice.Goals as goal

pub put_twice-requires : goal.put_twice-requires
put_twice-requires c = subst (IsNonDecreasingBy (λ (n : ℕ). n)) (sym c.deref.ensures.value) (IsNonDecreasingBy-from_sort (λ (n : ℕ). n) c.sort_unstable.new.self.items c.sort_unstable.ensures.sorted)

pub returns : goal.returns
returns c = in_any_order c.args.numbers.items c.sort_unstable.new.self.items c.put_twice.new.found c.sort_unstable.ensures.permutation (subst (λ (ns : List ℕ). HasTwice ns c.put_twice.new.found) c.deref.ensures.value c.in_ok-put_twice.ensures)
