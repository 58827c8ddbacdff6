-- No two entries have one rank.
use Rattle.std.proofs.Common.{◌≡◌, ℕ, Bool, true, false, List, [], ◌∷◌, refl, sym, ap, ◌∙◌}
use Rattle.std.specs.List.{AllByRecursion, IsDistinct}
use Rattle.std.specs.Cmp.Lexicographic.{bytes_decides}
use Rattle.std.proofs.lemmas.Bool.{false≢true, false_from_ne_true}
use Rattle.std.proofs.lemmas.List.Sorted.{IsPermutation-sym}
use Rattle.std.proofs.lemmas.Map.Keys.{IsDistinct-IsPermutation}
use Rattle.cascade_laws.proofs.ForCallers.{exceeds-irreflexive}
use Rattle.css_model.specs.Cascade.Winner.{exceeds}
use Rattle.css_model.specs.Lists.{same_text}
use Rattle.inspect_laws.specs.Entries.{Entry, entries_by}
use Rattle.inspect_laws.specs.Laws.{RanksDiffer}
use Rattle.inspect_laws.specs.Order.{numbers_of, rank, same_rank}
use Rattle.inspect_laws.proofs.Ascending.{Ascends, IsBefore}
use Rattle.inspect_laws.proofs.Walking.{ascends, walked, walks_all}

rank_numbers : (e f : Entry) → rank e ≡ rank f → numbers_of e.spot ≡ numbers_of f.spot
rank_numbers e f same = cc

before_differs : (e f : Entry) → IsBefore e f → same_rank e f ≡ false
before_differs e f before = false_from_ne_true (same_rank e f) (λ yes.
    let same : numbers_of e.spot ≡ numbers_of f.spot = rank_numbers e f ((bytes_decides (rank e) (rank f)).0 yes) in
    false≢true (sym (exceeds-irreflexive (numbers_of f.spot)) ∙ ap (exceeds (numbers_of f.spot)) (sym same) ∙ before))

all_differ : (e : Entry) (es : List Entry) → AllByRecursion (IsBefore e) es → AllByRecursion (λ f. same_rank e f ≡ false) es
all_differ e [] before = tt
all_differ e (f ∷ es) before = (before_differs e f before.0, all_differ e es before.1)

distinct : (es : List Entry) → Ascends es → IsDistinct same_rank es
unfolding IsDistinct
distinct [] up = tt
distinct (e ∷ es) up = (all_differ e es up.0, distinct es up.1)

pub flips : (e f : Entry) → same_rank e f ≡ same_rank f e
flips e f = which (same_rank e f) refl (same_rank f e) refl
  where
    which : (b : Bool) → same_rank e f ≡ b → (c : Bool) → same_rank f e ≡ c → b ≡ c
    which true h true g = refl
    which true h false g = absurd (false≢true (sym g ∙ (bytes_decides (rank f) (rank e)).1 (sym ((bytes_decides (rank e) (rank f)).0 h))))
    which false h true g = absurd (false≢true (sym h ∙ (bytes_decides (rank e) (rank f)).1 (sym ((bytes_decides (rank f) (rank e)).0 g))))
    which false h false g = refl

pub differ : RanksDiffer
differ matched source items =
    IsDistinct-IsPermutation same_rank flips (walked matched source items 0 items) (entries_by matched source items)
    (IsPermutation-sym (entries_by matched source items) (walked matched source items 0 items) (walks_all matched source items))
    (distinct (walked matched source items 0 items) (ascends matched source items 0 items).0)
