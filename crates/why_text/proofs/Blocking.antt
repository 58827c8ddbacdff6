-- The two pairs of a move that is told to be blocked.
use Rattle.std.proofs.Common.{◌≡◌, ℕ, true, List, ◌∷◌, map, Some, sym, subst}
use Rattle.std.specs.List.{Contains}
use Rattle.std.proofs.lemmas.List.Elements.{Contains-append_right}
use Rattle.list_facts.proofs.Members.{Contains-here}
use Rattle.css_model.specs.declared.example.Example.{Example}
use Rattle.css_model.specs.declared.sheet.Item.{Item}
use Rattle.css_model.specs.declared.sheet.Item.TheVariants.{Rule, KeptRule, KeptBlock}
use Rattle.css_model.specs.Documents.SelectorParts.{SelectorParts}
use Rattle.order_laws.proofs.ForCallers.{map_from}
use Rattle.order_laws.specs.Edits.{Moved, whole_rule}
use Rattle.order_laws.specs.Members.{has_number}
use Rattle.order_laws.specs.Moving.{item_moved}
use Rattle.order_laws.specs.Places.{PlacedPair, StandsLast}
use Rattle.order_laws.specs.Reversed.{Other, AnotherPair, KeptAt, Reversal, reversed, IsReversedWith, ListedIsReversed}
use Rattle.order_laws.specs.Reversing.{ReversesPair}
use Rattle.overlap.specs.declared.answer.Answer.{Answer}
use Rattle.overlap.specs.declared.answer.Answer.TheVariants.{Apart, Meet, Outside, Spent}
use Rattle.overlap.specs.PairsParts.{Answered}
use Rattle.overlap.specs.Remembered.{IsAnswered}
use Rattle.sheet_order.specs.declared.places.PairPlace.{PairPlace}
use Rattle.sheet_order.specs.declared.places.Reversed.{Reversed}
use Rattle.sheet_order.specs.Places.{entry_of, place_of, other_of}
use Rattle.why_text.specs.declared.explaining.Explained.TheVariants.{Blocked}
use Rattle.why_text.specs.Explaining.{told_by, TellsOther, Tells, FirstTells, IsExplained}
use Rattle.why_text.proofs.Places.{selector_is}

-- two pairs at these places are reversed, and meet by the answer that is held
pub record IsBlockedBy (answers : List Answered) (items items' : List Item) (m : Moved) (p q : PairPlace) (e : Example) : Type 0 where
  pub moved : PlacedPair
  pub other : PlacedPair
  pub moved_at : place_of moved.place ≡ p
  pub other_at : place_of other.place ≡ q
  pub held : IsAnswered answers moved.pair.selector other.pair.selector (Meet e)
  pub moved_stands : StandsLast (has_number m.out_of) items moved
  pub other_stands : StandsLast (λ n. true) items other
  pub reverses : ReversesPair items items' m moved.pair other.pair

module _ (listed : ListedIsReversed) (answers : List Answered) (items items' : List Item) (m : Moved) (p q : PairPlace) (e : Example) where
  of_answer : (r : Reversal) (o : PlacedPair) (answer : Answer) → StandsLast (has_number m.out_of) items r.moved → IsReversedWith items items' m r.moved.pair (AnotherPair o) →
      IsAnswered answers r.moved.pair.selector o.pair.selector answer → told_by (place_of r.moved.place) (place_of o.place) answer ≡ Some (Blocked p q e) → IsBlockedBy answers items items' m p q e
  of_answer r o Apart stands with held is = absurd (let bad = is in cc)
  of_answer r o (Meet f) stands with held is =
      let first : place_of r.moved.place ≡ p = let same = is in cc in
      let second : place_of o.place ≡ q = let same = is in cc in
      let third : f ≡ e = let same = is in cc in
      record {
        moved = r.moved;
        other = o;
        moved_at = first;
        other_at = second;
        held = subst (λ (x : Example). IsAnswered answers r.moved.pair.selector o.pair.selector (Meet x)) third held;
        moved_stands = stands;
        other_stands = with.0;
        reverses = with.1;
      }
  of_answer r o (Outside reason number) stands with held is = absurd (let bad = is in cc)
  of_answer r o (Spent ledger) stands with held is = absurd (let bad = is in cc)

  of_other : (r : Reversal) (o : Other) → StandsLast (has_number m.out_of) items r.moved → IsReversedWith items items' m r.moved.pair o →
      TellsOther answers items (place_of r.moved.place) (other_of o) (Some (Blocked p q e)) → IsBlockedBy answers items items' m p q e
  of_other r (AnotherPair o) stands with h =
      let first = selector_is (has_number m.out_of) items r.moved h.moved h.there.first_decl stands h.there.first in
      let second = selector_is (λ n. true) items o h.other h.there.second_decl with.0 h.there.second in
      of_answer r o h.answer stands with
      (subst (λ (x : SelectorParts). IsAnswered answers x o.pair.selector h.answer) first (subst (λ (y : SelectorParts). IsAnswered answers h.moved.selector y h.answer) second h.held)) h.tells
  of_other r (KeptAt n) stands with h = absurd (let bad = h in cc)

  pub told_blocked : FirstTells answers items (map entry_of (reversed items items' m)) (Blocked p q e) → IsBlockedBy answers items items' m p q e
  told_blocked first =
      let inside : Contains (map entry_of (reversed items items' m)) first.entry =
      subst (λ (rs : List Reversed). Contains rs first.entry) (sym first.parts) (Contains-append_right first.before (first.entry ∷ first.behind) first.entry (Contains-here first.entry first.behind)) in
      let w : (r : Reversal) × Contains (reversed items items' m) r × (entry_of r ≡ first.entry) = map_from entry_of (reversed items items' m) first.entry inside in
      let said = (listed items items' m w.0).0 w.1 in
      let tells : Tells answers items (entry_of w.0) (Some (Blocked p q e)) = subst (λ (z : Reversed). Tells answers items z (Some (Blocked p q e))) (sym w.2) first.tells in
      of_other w.0 w.0.other said.0 said.1 tells

-- the same of the move of an item
pub record IsBlockedMove (answers : List Answered) (items : List Item) (p q : PairPlace) (e : Example) : Type 0 where
  pub items' : List Item
  pub out : Moved
  pub by : IsBlockedBy answers items items' out p q e

pub explained_blocked : ListedIsReversed → (answers : List Answered) (items : List Item) (from to : ℕ) (item : Item) (p q : PairPlace) (e : Example) → IsExplained answers items from to item (Blocked p q e) →
    IsBlockedMove answers items p q e
explained_blocked listed answers items from to (Rule r) p q e is =
    record { items' = item_moved items from to (Rule r); out = whole_rule from r; by = told_blocked listed answers items (item_moved items from to (Rule r)) (whole_rule from r) p q e is }
explained_blocked listed answers items from to (KeptRule kept) p q e is = absurd (let bad = is in cc)
explained_blocked listed answers items from to (KeptBlock piece) p q e is = absurd (let bad = is in cc)
