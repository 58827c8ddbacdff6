-- A move that is told to be free keeps the sheet.
use Rattle.std.proofs.Common.{◌≡◌, ℕ, zero, suc, ◌==◌, Bool, true, false, List, [], ◌∷◌, map, Some, None, refl, sym, ap, ◌∙◌, subst}
use Rattle.std.specs.Prelude.{slice_get}
use Rattle.std.specs.List.{All, Contains, insert, remove}
use Rattle.std.proofs.lemmas.Bool.{false≢true}
use Rattle.std.proofs.lemmas.Bool.Decides.{Decides-eqb}
use Rattle.std.proofs.lemmas.List.Elements.{All-cons, All-nil}
use Rattle.list_facts.proofs.Members.{Contains-here, Contains-there}
use Rattle.cascade_laws.proofs.ForCallers.{some-same}
use Rattle.css_model.specs.declared.sheet.Item.{Item}
use Rattle.css_model.specs.declared.sheet.Item.TheVariants.{Rule, KeptRule, KeptBlock}
use Rattle.css_model.specs.Cascade.Order.{Keeps}
use Rattle.css_model.specs.Documents.SelectorParts.{SelectorParts}
use Rattle.css_model.specs.Sheets.RuleParts.{RuleParts}
use Rattle.order_laws.specs.Edits.{Moved, whole_rule}
use Rattle.order_laws.specs.Keeping.{EachSheetKeepsItself}
use Rattle.order_laws.specs.Members.{has_number}
use Rattle.order_laws.specs.Moving.{item_moved, MovingApartKeeps}
use Rattle.order_laws.specs.Places.{PlacedPair, StandsLast}
use Rattle.order_laws.specs.Reversed.{Other, AnotherPair, KeptAt, Reversal, IsApart, reversed, IsReversedWith, ListedIsReversed}
use Rattle.overlap.specs.declared.answer.Answer.{Answer}
use Rattle.overlap.specs.declared.answer.Answer.TheVariants.{Apart, Meet, Outside, Spent}
use Rattle.overlap.specs.Laws.{ApartSelectorsDoNotMeet}
use Rattle.overlap.specs.PairsParts.{PairsParts}
use Rattle.overlap.specs.Remembered.{IsAnswered, IsTrueList}
use Rattle.sheet_order.specs.Places.{entry_of, place_of, other_of}
use Rattle.why_text.specs.Explaining.{told_by, TellsOther, TellNothing}
use Rattle.why_text.specs.Laws.{FreeMovesKeep}
use Rattle.why_text.proofs.Places.{selector_is}

-- an item that is taken out and put back
put_back : (items : List Item) (i : ℕ) (item : Item) → slice_get items i ≡ Some item → insert (remove items i) i item ≡ items
put_back [] i item at = absurd (let e : None ≡ Some item = at in cc)
put_back (x ∷ items) zero item at = ap (λ (y : Item). y ∷ items) (sym (some-same at))
put_back (x ∷ items) (suc i) item at = ap (λ (ys : List Item). x ∷ ys) (put_back items i item at)

module _ (apart : ApartSelectorsDoNotMeet) (listed : ListedIsReversed) (pairs : PairsParts) (all_true : ∥ IsTrueList pairs ∥₁) (items items' : List Item) (m : Moved) where
  answer_apart : (p q : PlacedPair) (answer : Answer) → IsAnswered pairs.answers p.pair.selector q.pair.selector answer → told_by (place_of p.place) (place_of q.place) answer ≡ None → IsApart p.pair (AnotherPair q)
  answer_apart p q Apart held is = apart pairs p.pair.selector q.pair.selector all_true held
  answer_apart p q (Meet e) held is = absurd (let bad = is in cc)
  answer_apart p q (Outside reason number) held is = absurd (let bad = is in cc)
  answer_apart p q (Spent ledger) held is = absurd (let bad = is in cc)

  entry_apart : (p : PlacedPair) (o : Other) → StandsLast (has_number m.out_of) items p → IsReversedWith items items' m p.pair o → TellsOther pairs.answers items (place_of p.place) (other_of o) None → IsApart p.pair o
  entry_apart p (AnotherPair q) stands with h =
      let first = selector_is (has_number m.out_of) items p h.moved h.there.first_decl stands h.there.first in
      let second = selector_is (λ n. true) items q h.other h.there.second_decl with.0 h.there.second in
      answer_apart p q h.answer
      (subst (λ (x : SelectorParts). IsAnswered pairs.answers x q.pair.selector h.answer) first (subst (λ (y : SelectorParts). IsAnswered pairs.answers h.moved.selector y h.answer) second h.held)) h.tells
  entry_apart p (KeptAt n) stands with h = absurd (let bad = h in cc)

  all_apart : (rs : List Reversal) → ((r : Reversal) → Contains rs r → Contains (reversed items items' m) r) → TellNothing pairs.answers items (map entry_of rs) → All (λ r. IsApart r.moved.pair r.other) rs
  all_apart [] among h = All-nil (λ r. IsApart r.moved.pair r.other)
  all_apart (r ∷ rs) among h =
      let said = (listed items items' m r).0 (among r (Contains-here r rs)) in
      All-cons (λ r. IsApart r.moved.pair r.other) r rs (entry_apart r.moved r.other said.0 said.1 h.0) (all_apart rs (λ s g. among s (Contains-there r rs s g)) h.1)

module _ (apart : ApartSelectorsDoNotMeet) (itself : EachSheetKeepsItself) (listed : ListedIsReversed) (moving : MovingApartKeeps) (pairs : PairsParts) (all_true : ∥ IsTrueList pairs ∥₁) where
  rule_keeps : (source : List ℕ) (items : List Item) (from to : ℕ) (r : RuleParts) (other : Item) → slice_get items from ≡ Some (Rule r) → slice_get items to ≡ Some other →
      TellNothing pairs.answers items (map entry_of (reversed items (item_moved items from to (Rule r)) (whole_rule from r))) → Keeps source items source (item_moved items from to (Rule r))
  rule_keeps source items from to r other at there free = which (from == to) refl
    where
      all : All (λ x. IsApart x.moved.pair x.other) (reversed items (item_moved items from to (Rule r)) (whole_rule from r))
      all = all_apart apart listed pairs all_true items (item_moved items from to (Rule r)) (whole_rule from r) (reversed items (item_moved items from to (Rule r)) (whole_rule from r)) (λ s g. g) free

      which : (b : Bool) → (from == to) ≡ b → Keeps source items source (item_moved items from to (Rule r))
      which true e =
          let same : from ≡ to = (Decides-eqb from to).0 e in
          let back : item_moved items from to (Rule r) ≡ items = ap (λ (n : ℕ). item_moved items from n (Rule r)) (sym same) ∙ put_back items from (Rule r) at in
          subst (λ (xs : List Item). Keeps source items source xs) (sym back) (itself source items)
      which false e = moving source items from to r other at there (λ same. false≢true (sym e ∙ (Decides-eqb from to).1 same)) all

pub free_moves_keep : ApartSelectorsDoNotMeet → EachSheetKeepsItself → ListedIsReversed → MovingApartKeeps → FreeMovesKeep
free_moves_keep apart itself listed moving source items from to (Rule r) other pairs all_true at there free = rule_keeps apart itself listed moving pairs all_true source items from to r other at there free
free_moves_keep apart itself listed moving source items from to (KeptRule kept) other pairs all_true at there free = absurd (let bad = free in cc)
free_moves_keep apart itself listed moving source items from to (KeptBlock piece) other pairs all_true at there free = absurd (let bad = free in cc)
