-- Steps that may be taken are free, and others are blocked.
use Rattle.std.proofs.Common.{◌≡◌, ◌⊎◌, ℕ, Bool, true, false, List, [], ◌∷◌, map, Some, None, refl, sym, subst, inl, inr}
use Rattle.std.specs.List.{Contains}
use Rattle.std.proofs.lemmas.List.Elements.{Contains-append_right}
use Rattle.css_model.specs.Cascade.Order.{Pair}
use Rattle.css_model.specs.declared.sheet.Item.{Item}
use Rattle.css_model.specs.Documents.SelectorParts.{SelectorParts}
use Rattle.css_model.specs.Sheets.KeptItems.{kept_before}
use Rattle.list_facts.proofs.Members.{Contains-here, Contains-nil, Contains-cons_cases}
use Rattle.order_laws.proofs.ForCallers.{map_has}
use Rattle.order_laws.specs.Edits.{Edit, edited, StandsIn}
use Rattle.order_laws.specs.Members.{has_number}
use Rattle.order_laws.specs.Places.{PlacedPair, StandsLast, ListedStandsLast}
use Rattle.order_laws.specs.Reversed.{Other, AnotherPair, KeptAt, Reversal, reversed, IsReversedWith, ListedIsReversed}
use Rattle.order_laws.specs.Reversing.{ReversesPair, ReversesKept}
use Rattle.overlap.specs.declared.answer.Answer.{Answer}
use Rattle.overlap.specs.declared.answer.Answer.TheVariants.{Apart, Meet, Outside, Spent}
use Rattle.overlap.specs.PairsParts.{Answered}
use Rattle.overlap.specs.Remembered.{IsAnswered}
use Rattle.step_laws.specs.declared.cause.BlockCause.{BlockCause}
use Rattle.step_laws.specs.declared.step.Step.{Step}
use Rattle.step_laws.specs.Free.{AreApart, AreNotApart, IsFree, IsBlocked, by_pair, by_kept}
use Rattle.step_laws.specs.Left.{StepsRearrange}
use Rattle.step_laws.specs.Steps.{IsStep}
use Rattle.sheet_order.specs.Allowing.{Judges, JudgesOther, AreFree, IsAllowed, cause_by}
use Rattle.sheet_order.specs.declared.permitting.Allowed.TheVariants.{Free, Blocked}
use Rattle.sheet_order.specs.Laws.{is_apart, answer_seen}
use Rattle.sheet_order.proofs.Somewhere.{stands_somewhere, KeptPlace, place_of_kept}

-- what is said of each entry is said of each member
member_free : (answers : List Answered) (entries : List Reversal) (r : Reversal) → AreFree answers entries → Contains entries r → Judges answers r None
member_free answers [] r all h = absurd (Contains-nil r h)
member_free answers (s ∷ entries) r all h = which (Contains-cons_cases s entries r h) (λ g. member_free answers entries r all.1 g)
  where
    which : (s ≡ r) ⊎ Contains entries r → (Contains entries r → Judges answers r None) → Judges answers r None
    which (inl e) rest = subst (λ (z : Reversal). Judges answers z None) e all.0
    which (inr g) rest = rest g

apart : (answers : List Answered) (x y : SelectorParts) → IsAnswered answers x y Apart → AreApart (map answer_seen answers) x y
apart answers x y h = map_has answer_seen answers (record { left = x; right = y; answer = Apart }) h

module _ (stands : ListedStandsLast) (listed : ListedIsReversed) (rearranges : StepsRearrange) (answers : List Answered) (items : List Item) (k : Step) (e : Edit) (is : IsStep items k e) where
  -- a moved pair at its last place
  moved_somewhere : (p : Pair) → StandsIn e.moved.out_of items p → (x : PlacedPair) × StandsLast (has_number e.moved.out_of) items x × (x.pair ≡ p)
  moved_somewhere p h = stands_somewhere stands (has_number e.moved.out_of) items p h.0 h.1 h.2

  pair_free : AreFree answers (reversed items (edited e items) e.moved) → (p q : Pair) → ReversesPair items (edited e items) e.moved p q → AreApart (map answer_seen answers) p.selector q.selector
  pair_free free p q h =
      let x = moved_somewhere p ((rearranges items k e is).from p h.moved) in
      let y = stands_somewhere stands (λ n. true) items q h.there.0 h.there.1 refl in
      let r : Reversal = record { moved = x.0; other = AnotherPair y.0 } in
      let g : ReversesPair items (edited e items) e.moved x.0.pair y.0.pair = subst (λ (z : Pair). ReversesPair items (edited e items) e.moved z y.0.pair) (sym x.2) (subst (λ (z : Pair). ReversesPair items (edited e items) e.moved p z) (sym y.2) h) in
      let w : IsAnswered answers x.0.pair.selector y.0.pair.selector Apart = member_free answers (reversed items (edited e items) e.moved) r free ((listed items (edited e items) e.moved r).1 (x.1, (y.1, g))) in
      subst (λ (z : Pair). AreApart (map answer_seen answers) p.selector z.selector) y.2 (subst (λ (z : Pair). AreApart (map answer_seen answers) z.selector y.0.pair.selector) x.2 (apart answers x.0.pair.selector y.0.pair.selector w))

  kept_free : AreFree answers (reversed items (edited e items) e.moved) → (p : Pair) (number : ℕ) → ReversesKept items (edited e items) e.moved p number → ⊥
  kept_free free p number h =
      let x = moved_somewhere p ((rearranges items k e is).from p h.moved) in
      let y : KeptPlace items number h.item = place_of_kept items number h.item h.item_at in
      let r : Reversal = record { moved = x.0; other = KeptAt y.index } in
      let g : ReversesKept items (edited e items) e.moved x.0.pair (kept_before y.index items) =
      subst (λ (z : Pair). ReversesKept items (edited e items) e.moved z (kept_before y.index items)) (sym x.2) (subst (λ (n : ℕ). ReversesKept items (edited e items) e.moved p n) (sym y.number) h) in
      let w : Judges answers r None = member_free answers (reversed items (edited e items) e.moved) r free ((listed items (edited e items) e.moved r).1 (x.1, (h.item, y.at, y.kept, g))) in
      absurd (let f = w in cc)

pub allowed_steps_are_free : ListedStandsLast → ListedIsReversed → StepsRearrange → (answers : List Answered) (items : List Item) (k : Step) (e : Edit) → IsStep items k e →
    IsAllowed answers (reversed items (edited e items) e.moved) Free → IsFree (map answer_seen answers) items e
allowed_steps_are_free stands listed rearranges answers items k e is free = record {
  pairs = pair_free stands listed rearranges answers items k e is free;
  kept = kept_free stands listed rearranges answers items k e is free;
}

-- an answer that is a cause is not that they are apart
not_apart : (item : ℕ) (answer : Answer) (cause : BlockCause) → cause_by item answer ≡ Some cause → is_apart answer ≡ false
not_apart item Apart cause e = absurd (let f = e in cc)
not_apart item (Meet x) cause e = refl
not_apart item (Outside reason number) cause e = refl
not_apart item (Spent ledger) cause e = refl

not_apart_seen : (answers : List Answered) (x y : SelectorParts) (answer : Answer) → IsAnswered answers x y answer → is_apart answer ≡ false → AreNotApart (map answer_seen answers) x y
not_apart_seen answers x y answer h e =
    subst (λ (b : Bool). Contains (map answer_seen answers) (record { first = x; second = y; is_apart = b })) e (map_has answer_seen answers (record { left = x; right = y; answer = answer }) h)

pub other_steps_are_blocked : ListedIsReversed → (answers : List Answered) (items : List Item) (k : Step) (e : Edit) (cause : BlockCause) → IsStep items k e →
    IsAllowed answers (reversed items (edited e items) e.moved) (Blocked cause) → IsBlocked (map answer_seen answers) items e
other_steps_are_blocked listed answers items k e cause is first = which first.entry.other refl
  where
    r : Reversal
    r = first.entry

    inside : Contains (reversed items (edited e items) e.moved) r
    inside = subst (λ (rs : List Reversal). Contains rs r) (sym first.parts) (Contains-append_right first.before (r ∷ first.behind) r (Contains-here r first.behind))

    said : IsReversedWith items (edited e items) e.moved r.moved.pair r.other
    said = ((listed items (edited e items) e.moved r).0 inside).1

    blocks : JudgesOther answers r.moved.pair.selector r.other (Some cause)
    blocks = first.blocks

    which : (o : Other) → r.other ≡ o → IsBlocked (map answer_seen answers) items e
    which (AnotherPair q) same =
        let s : IsReversedWith items (edited e items) e.moved r.moved.pair (AnotherPair q) = subst (λ (z : Other). IsReversedWith items (edited e items) e.moved r.moved.pair z) same said in
        let b : JudgesOther answers r.moved.pair.selector (AnotherPair q) (Some cause) = subst (λ (z : Other). JudgesOther answers r.moved.pair.selector z (Some cause)) same blocks in
        by_pair r.moved.pair q.pair s.1 (not_apart_seen answers r.moved.pair.selector q.pair.selector b.0 b.1 (not_apart q.place.item b.0 cause b.2))
    which (KeptAt n) same =
        let s : IsReversedWith items (edited e items) e.moved r.moved.pair (KeptAt n) = subst (λ (z : Other). IsReversedWith items (edited e items) e.moved r.moved.pair z) same said in
        by_kept r.moved.pair (kept_before n items) s.3
