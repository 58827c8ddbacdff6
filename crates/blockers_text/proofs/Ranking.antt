-- Items are ranked by a strict weak order.
use Rattle.std.proofs.Common.{◌≡◌, true, false, refl, sym, ◌∙◌}
use Rattle.std.specs.Cmp.{IsStrictWeakOrder}
use Rattle.std.proofs.lemmas.Bool.{false≢true, false_from_ne_true}
use Rattle.cascade_laws.proofs.ForCallers.{exceeds-irreflexive, exceeds-not_transitive, exceeds-transitive}
use Rattle.blockers_text.specs.BlockersTexts.{comes_first, rank}
use Rattle.blockers_text.specs.Lines.{Ranked}

one_way : (x y : Ranked) → comes_first x y ≡ true → comes_first y x ≡ false
one_way x y h = false_from_ne_true (comes_first y x) (λ back. false≢true (sym (exceeds-irreflexive (rank x)) ∙ exceeds-transitive (rank x) (rank y) (rank x) h back))

pub weak : IsStrictWeakOrder comes_first
weak = record { one_way = one_way; chain = λ x y z h i. exceeds-not_transitive (rank x) (rank y) (rank z) refl h i }
