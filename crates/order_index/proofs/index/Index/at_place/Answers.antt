use Rattle.std.proofs.Common.{◌≡◌, ℕ, Some, None, sym, ◌∙◌}
use Rattle.order_index.proofs.Classes.{some_place_is}
use Rattle.order_index.proofs.Telling.{none_of}
use Rattle.order_index.proofs.index.Index.at_place.Goals as goal
use Rattle.order_index.specs.Told.{IsAtSome, reversed_by}
use Rattle.order_laws.specs.Reversed.{other_place}

none_some : (n : ℕ) → Some n ≡ None → ⊥
none_some n e = cc

pub returns-in-Some-clause-told : goal.returns-in-Some-clause-told
returns-in-Some-clause-told c =
    some_place_is c.at_number.new.pairs.answers (reversed_by c.args.change.now.window.items.now c.args.change.now.step) c.args.place c.in-Some.number c.args.far c.in-Some.is c.at_number.result c.at_number.ensures.told

pub returns-in-None-clause-told : goal.returns-in-None-clause-told
returns-in-None-clause-told c =
    none_of c.args.pairs.now.answers (reversed_by c.args.change.now.window.items.now c.args.change.now.step) (IsAtSome c.args.place c.args.far) (λ r there of. let e : Some (other_place r.other).item ≡ None = sym of.0 ∙ c.in-None.is in none_some (other_place r.other).item e)
