use Rattle.std.proofs.Common.{◌≡◌, ◌++◌, List, [], ◌∷◌, Option, Some, None, length, drop, sym, ◌∙◌, ap, arith}
use Rattle.std.specs.Option.{option_to_list}
use Rattle.std.specs.Vec.Iter.{into_iter_items, into_iter_len, into_iter_steps}
use Rattle.std.specs.declared.vec.IntoIter.{IntoIter}
use Rattle.std.proofs.lemmas.Iterator.{items_from_collect}
use Rattle.std.proofs.lemmas.Iterator.Adapters.{YieldsList-from_vec}
use Rattle.cssmin_run.proofs.words.behind_first.Goals as goal

-- what is left when the first one was taken, if there was one
left_behind : {X Z : Type 0} → (first : Option X) (old new : IntoIter X Z) → into_iter_len old ≡ length (into_iter_items old) → into_iter_steps old first new → into_iter_items old ≡ option_to_list first ++ into_iter_items new
    → into_iter_items new ≡ drop 1 (into_iter_items old)
left_behind None old new size steps taken = none (into_iter_items old) (into_iter_items new) (sym size ∙ steps.0) taken
  where
    none : {X : Type 0} → (all rest : List X) → length all ≡ 0 → all ≡ rest → rest ≡ drop 1 all
    none [] rest empty same = sym same
    none (x ∷ all) rest empty same = absurd (omega (arith, empty))
left_behind (Some x) old new size steps taken = sym (ap (drop 1) taken)

pub returns : goal.returns
returns c =
    let rest = c.next-first.new.self in
    let behind : into_iter_items rest ≡ drop 1 (into_iter_items c.args.words) =
    left_behind c.next-first.result c.args.words rest c.args.words.rest.ok.0 c.next-first.ensures.cases c.next-first.ensures.items in
    items_from_collect {s = rest} c.collect.result c.collect.ensures.ran (YieldsList-from_vec {s = rest} _ behind (rest.rest.ok.0 ∙ ap length behind))
