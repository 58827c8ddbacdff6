-- What is known of the rules of an indexed sheet stays so behind a step.
use Rattle.std.proofs.Common.{◌≡◌, ◌≢◌, ◌⊎◌, ℕ, zero, suc, ◌+◌, ◌<◌, ◌≤◌, Bool, true, false, ◌||◌, List, [], ◌∷◌, Option, Some, None, get_or, length, refl, sym, ap, ◌∙◌, subst, inl, inr, arith}
use Rattle.std.specs.Prelude.{IfSome, slice_get}
use Rattle.std.specs.List.{All, AllPairs}
use Rattle.std.proofs.lemmas.Bool.{and_parts, or_cases}
use Rattle.std.proofs.lemmas.Option.{slice_get-get_or, slice_get_within, get_or_from_slice_get}
use Rattle.css_model.specs.declared.sheet.Item.{Item}
use Rattle.pending_laws.specs.declared.way.Way.{Way}
use Rattle.pending_laws.specs.Facts.{HasOwnPairs, JoinedHasNoCut, JoinedHasOwnParts, NoCutComes, OwnPairsGoOn, OwnPartsStay}
use Rattle.pending_laws.specs.Ways.{IsMove}
use Rattle.order_laws.specs.Edits.{Edit, edited}
use Rattle.step_laws.specs.declared.step.Step.{Step}
use Rattle.step_laws.specs.Steps.{IsStep, first_item, last_item}
use Rattle.plan_laws.specs.Barrier.Renumbering.{Leaves, new_number}
use Rattle.plan_laws.specs.Barrier.SideBySide.{HasCome}
use Rattle.indexed_sheet.specs.IndexedParts.{IndexedParts}
use Rattle.indexed_sheet.specs.declared.facts.Facts.{Facts}
use Rattle.indexed_sheet.specs.declared.marks.Mark.{Mark}
use Rattle.indexed_sheet.specs.Facts.{AreKnown, AreLearnt, AreLearntOf, AreLearntOfEach, AreTrueOf, AreTrueOfBoth, by_both, by_either, facts_under, nothing, of_own_pairs}
use Rattle.indexed_sheet.specs.MarkList.{AreMarks}
use Rattle.indexed_sheet.specs.Marking.{AreKept, IsLeft}

-- ---- What is known of one rule

no_truth : {A : Type 0} → false ≡ true → A
no_truth e = absurd (let f : false ≡ true = e in cc)

pub nothing_is_true : (items : List Item) (n : ℕ) → AreTrueOf items n nothing
nothing_is_true items n = record { no_cut = (λ e. no_truth e); own_selectors = (λ e. no_truth e); own_decls = (λ e. no_truth e); own_pairs = (λ e. no_truth e) }

both_are_true : (items : List Item) (n : ℕ) (f g : Facts) → AreTrueOf items n f ⊎ AreTrueOf items n g → AreTrueOf items n (by_both f g)
both_are_true items n f g (inl a) = record {
  no_cut = (λ e. a.no_cut (and_parts f.no_cut g.no_cut e).0);
  own_selectors = (λ e. a.own_selectors (and_parts f.own_selectors g.own_selectors e).0);
  own_decls = (λ e. a.own_decls (and_parts f.own_decls g.own_decls e).0);
  own_pairs = (λ e. a.own_pairs (and_parts f.own_pairs g.own_pairs e).0);
}
both_are_true items n f g (inr a) = record {
  no_cut = (λ e. a.no_cut (and_parts f.no_cut g.no_cut e).1);
  own_selectors = (λ e. a.own_selectors (and_parts f.own_selectors g.own_selectors e).1);
  own_decls = (λ e. a.own_decls (and_parts f.own_decls g.own_decls e).1);
  own_pairs = (λ e. a.own_pairs (and_parts f.own_pairs g.own_pairs e).1);
}

pub true_of_both : (items : List Item) (k : Step) (way : Way) (f g : Facts) → IsMove way k → AreTrueOf items (first_item k) f → AreTrueOf items (last_item k) g → AreTrueOfBoth items k (by_both f g)
true_of_both items k way f g move a b = record {
  way = way;
  move = move;
  upper = both_are_true items (first_item k) f g (inl a);
  lower = both_are_true items (last_item k) f g (inr b);
}

from_either : {A : Type 0} (a b : Bool) → (a ≡ true → A) → (b ≡ true → A) → (a || b) ≡ true → A
from_either {A} a b left right e = which (or_cases a b e)
  where
    which : (a ≡ true) ⊎ (b ≡ true) → A
    which (inl h) = left h
    which (inr h) = right h

pub either_is_true : (items : List Item) (n : ℕ) (f g : Facts) → AreTrueOf items n f → AreTrueOf items n g → AreTrueOf items n (by_either f g)
either_is_true items n f g a b = record {
  no_cut = from_either f.no_cut g.no_cut a.no_cut b.no_cut;
  own_selectors = from_either f.own_selectors g.own_selectors a.own_selectors b.own_selectors;
  own_decls = from_either f.own_decls g.own_decls a.own_decls b.own_decls;
  own_pairs = from_either f.own_pairs g.own_pairs a.own_pairs b.own_pairs;
}

past_end : {X : Type 0} (xs : List X) (k : ℕ) (d : X) → length xs ≤ k → get_or xs k d ≡ d
past_end [] k d past = refl
past_end (x ∷ xs) zero d past = absurd (omega (arith, past))
past_end (x ∷ xs) (suc k) d past = past_end xs k d (omega (arith, past))

pub none_is_known : (known : List Facts) (b : ℕ) → length known ≤ b → facts_under known b ≡ nothing
none_is_known known b past = past_end known b nothing past

-- ---- Once something is put down

three : (m n : ℕ) → (m < n) ⊎ ((m ≡ n) ⊎ (n < m))
three zero zero = inr (inl refl)
three zero (suc n) = inl (omega arith)
three (suc m) zero = inr (inr (omega arith))
three (suc m) (suc n) = which (three m n)
  where
    which : (m < n) ⊎ ((m ≡ n) ⊎ (n < m)) → (suc m < suc n) ⊎ ((suc m ≡ suc n) ⊎ (suc n < suc m))
    which (inl h) = inl (omega (arith, h))
    which (inr (inl h)) = inr (inl (ap suc h))
    which (inr (inr h)) = inr (inr (omega (arith, h)))

-- marks of different numbers have different item ids
item_ids_differ : (marks : List Mark) (m n : ℕ) (x y : Mark) → AllPairs (λ a b. a.item_id ≢ b.item_id) marks → m < n → slice_get marks m ≡ Some x → slice_get marks n ≡ Some y → x.item_id ≢ y.item_id
item_ids_differ marks m n x y differ less x_at y_at =
    subst (λ (z : Mark). z.item_id ≢ y.item_id) (get_or_from_slice_get marks m x x x_at)
    (subst (λ (z : Mark). (get_or marks m x).item_id ≢ z.item_id) (get_or_from_slice_get marks n y x y_at) (differ m n x less (slice_get_within marks n y y_at)))

item_id_is_past : (marks : List Mark) (next n : ℕ) (x : Mark) → All (λ a. a.item_id < next) marks → slice_get marks n ≡ Some x → x.item_id < next
item_id_is_past marks next n x past at = subst (λ (z : Mark). z.item_id < next) (get_or_from_slice_get marks n x x at) (past n x (slice_get_within marks n x at))

pub known_more : (indexed : IndexedParts) (known known' : List Facts) (n : ℕ) (mark : Mark) (facts : Facts) → AreMarks indexed.marks indexed.next → AreKnown indexed known → slice_get indexed.marks n ≡ Some mark →
    AreTrueOf indexed.items n facts →
    (facts_under known' mark.item_id ≡ by_either (facts_under known mark.item_id) facts) ⊎ (facts_under known' mark.item_id ≡ facts_under known mark.item_id) →
    ((b : ℕ) → b ≢ mark.item_id → facts_under known' b ≡ facts_under known b) →
    ((i : ℕ) → length known ≤ i → mark.item_id < i → length known' ≤ i) → AreKnown indexed known'
known_more indexed known known' n mark facts marks are at true_of learnt others few = record { are_true = are_true; few = few indexed.next are.few (item_id_is_past indexed.marks indexed.next n mark marks.past at) }
  where
    own : (facts_under known' mark.item_id ≡ by_either (facts_under known mark.item_id) facts) ⊎ (facts_under known' mark.item_id ≡ facts_under known mark.item_id) → AreTrueOf indexed.items n (facts_under known' mark.item_id)
    own (inl e) = subst (AreTrueOf indexed.items n) (sym e) (either_is_true indexed.items n (facts_under known mark.item_id) facts (are.are_true n mark at) true_of)
    own (inr e) = subst (AreTrueOf indexed.items n) (sym e) (are.are_true n mark at)

    other_is_true : (m : ℕ) (other : Mark) → slice_get indexed.marks m ≡ Some other → other.item_id ≢ mark.item_id → AreTrueOf indexed.items m (facts_under known' other.item_id)
    other_is_true m other other_at apart = subst (AreTrueOf indexed.items m) (sym (others other.item_id apart)) (are.are_true m other other_at)

    are_true : (m : ℕ) (other : Mark) → slice_get indexed.marks m ≡ Some other → AreTrueOf indexed.items m (facts_under known' other.item_id)
    are_true m other other_at = which (three m n)
      where
        which : (m < n) ⊎ ((m ≡ n) ⊎ (n < m)) → AreTrueOf indexed.items m (facts_under known' other.item_id)
        which (inl less) = other_is_true m other other_at (item_ids_differ indexed.marks m n other mark marks.differ less other_at at)
        which (inr (inr more)) = other_is_true m other other_at (λ e. item_ids_differ indexed.marks n m mark other marks.differ more at other_at (sym e))
        which (inr (inl same)) =
            let e : other ≡ mark = (let f : slice_get indexed.marks n ≡ Some other = subst (λ (i : ℕ). slice_get indexed.marks i ≡ Some other) same other_at in let g : slice_get indexed.marks n ≡ Some mark = at in cc) in
            subst (λ (i : ℕ). AreTrueOf indexed.items i (facts_under known' other.item_id)) (sym same) (subst (λ (x : Mark). AreTrueOf indexed.items n (facts_under known' x.item_id)) (sym e) (own learnt))

-- what is put down of one item id after another
pub each_none : (known : List Facts) (from : ℕ) (own : Facts) → AreLearntOfEach known known from from own
each_none known from own = ((λ b. inl refl), (λ n long least. long))

pub each_next : (old known new : List Facts) (from i : ℕ) (own : Facts) → from ≤ i → AreLearntOfEach old known from i own → facts_under new i ≡ own → ((b : ℕ) → b ≢ i → facts_under new b ≡ facts_under known b) →
    ((n : ℕ) → length known ≤ n → i < n → length new ≤ n) → AreLearntOfEach old new from (i + 1) own
each_next old known new from i own order learnt is others few = (each, (λ n long least. few n (learnt.1 n long (omega (arith, least))) (omega (arith, least))))
  where
    each : (b : ℕ) → (facts_under new b ≡ facts_under old b) ⊎ ((from ≤ b) × (b < i + 1) × (facts_under new b ≡ own))
    each b = which (three b i)
      where
        before : b ≢ i → (facts_under known b ≡ facts_under old b) ⊎ ((from ≤ b) × (b < i) × (facts_under known b ≡ own)) → (facts_under new b ≡ facts_under old b) ⊎ ((from ≤ b) × (b < i + 1) × (facts_under new b ≡ own))
        before other (inl e) = inl (others b other ∙ e)
        before other (inr (first, less, e)) = inr (first, (omega (arith, less)), others b other ∙ e)

        which : (b < i) ⊎ ((b ≡ i) ⊎ (i < b)) → (facts_under new b ≡ facts_under old b) ⊎ ((from ≤ b) × (b < i + 1) × (facts_under new b ≡ own))
        which (inl less) = before (λ e. absurd (let f : b ≡ i = e in omega (arith, less, f))) (learnt.0 b)
        which (inr (inl same)) = inr ((omega (arith, order, same)), (omega (arith, same)), subst (λ (k : ℕ). facts_under new k ≡ own) (sym same) is)
        which (inr (inr more)) = before (λ e. absurd (let f : b ≡ i = e in omega (arith, more, f))) (learnt.0 b)

-- ---- Behind a step

if_some : {A : Type 0} (P Q : A → Type 0) (o : Option A) → ((a : A) → P a → Q a) → IfSome o P → IfSome o Q
if_some P Q None f h = tt
if_some P Q (Some a) f h = f a h

some_is : {A : Type 0} (P : A → Type 0) (o : Option A) (a : A) → o ≡ Some a → IfSome o P → P a
some_is P o a e h = subst (λ (p : Option _). IfSome p P) e h

module _ (comes : NoCutComes) (stay : OwnPartsStay) (joined_cut : JoinedHasNoCut) (joined_own : JoinedHasOwnParts) (pairs : OwnPairsGoOn) (old new : IndexedParts) (k : Step) (e : Edit) (is : IsStep old.items k e) (kept : AreKept old new e) where
  -- of a rule that the step left
  left_is_true : (n : ℕ) (facts : Facts) → Leaves e n → n < length old.items → AreTrueOf old.items n facts → AreTrueOf (edited e old.items) (new_number e old.items n) facts
  left_is_true n facts leaves less a = record {
    no_cut = (λ t. comes old.items k e is n leaves less (a.no_cut t));
    own_selectors = (λ t. (stay old.items k e is n leaves less).0 (a.own_selectors t));
    own_decls = (λ t. (stay old.items k e is n leaves less).1 (a.own_decls t));
    own_pairs = (λ t. (pairs old.items k e is).1 n leaves less (a.own_pairs t));
  }

  -- of a rule that it made
  made_is_true : (n : ℕ) (facts : Facts) → (HasCome e old.items n → ⊥) → AreTrueOfBoth old.items k facts → AreTrueOf (edited e old.items) n facts
  made_is_true n facts not_come b = record {
    no_cut = (λ t. joined_cut old.items k e is b.way b.move n not_come (b.upper.no_cut t) (b.lower.no_cut t));
    own_selectors = (λ t. (joined_own old.items k e is b.way b.move n not_come).0 (b.upper.own_selectors t) (b.lower.own_selectors t));
    own_decls = (λ t. (joined_own old.items k e is b.way b.move n not_come).1 (b.upper.own_decls t) (b.lower.own_decls t));
    own_pairs = (λ t. (pairs old.items k e is).0 (b.upper.own_pairs t) (b.lower.own_pairs t) n not_come);
  }

  -- of one that it made of rules with pairs of their own
  pairs_are_true : (n : ℕ) → (HasCome e old.items n → ⊥) → HasOwnPairs old.items (first_item k) → HasOwnPairs old.items (last_item k) → AreTrueOf (edited e old.items) n of_own_pairs
  pairs_are_true n not_come first last = record {
    no_cut = (λ t. no_truth t);
    own_selectors = (λ t. no_truth t);
    own_decls = (λ t. no_truth t);
    own_pairs = (λ t. (pairs old.items k e is).0 first last n not_come);
  }

  -- what was created later has not come
  later_has_not_come : AreMarks old.marks old.next → length old.marks ≡ length old.items → (n : ℕ) (m : Mark) → slice_get new.marks n ≡ Some m → old.next ≤ m.item_id → HasCome e old.items n → ⊥
  later_has_not_come marks as_many n m at later come =
      let less : come.0 < length old.marks = (let h = come.2 in omega (arith, h, as_many)) in
      let x : Mark = get_or old.marks come.0 m in
      let x_at : slice_get old.marks come.0 ≡ Some x = slice_get-get_or old.marks come.0 m less in
      let there : slice_get new.marks (new_number e old.items come.0) ≡ Some x = kept.kept come.0 x come.1 x_at in
      let here : slice_get new.marks n ≡ Some x = subst (λ (i : ℕ). slice_get new.marks i ≡ Some x) come.3 there in
      let same : x ≡ m = (let f : slice_get new.marks n ≡ Some m = at in cc) in
      let past : x.item_id < old.next = item_id_is_past old.marks old.next come.0 x marks.past x_at in
      absurd (let g : x.item_id ≡ m.item_id = ap (λ (y : Mark). y.item_id) same in omega (arith, past, g, later))

  pub known_behind : (known known' : List Facts) (made : Option Facts) → AreMarks old.marks old.next → length old.marks ≡ length old.items → AreKnown old known → new.items ≡ edited e old.items →
      old.next ≤ new.next → ((way : Way) → IsMove way k → old.next < new.next) → IfSome made (AreTrueOfBoth old.items k) → AreLearnt known known' old.next made → AreKnown new known'
  known_behind known known' made marks as_many are items_are more created of_both learnt = record {
    are_true = (λ n m at. subst (λ (items : List Item). AreTrueOf items n (facts_under known' m.item_id)) (sym items_are) (are_true n m at));
    few = learnt.few new.next (let h = are.few in omega (arith, h, more)) (if_some (AreTrueOfBoth old.items k) (λ _. old.next < new.next) made (λ f b. created b.way b.move) of_both);
  }
    where
      are_true : (n : ℕ) (m : Mark) → slice_get new.marks n ≡ Some m → AreTrueOf (edited e old.items) n (facts_under known' m.item_id)
      are_true n m at = which (kept.created n m at) (learnt.each m.item_id)
        where
          which : (old.next ≤ m.item_id) ⊎ IsLeft old e n m → (facts_under known' m.item_id ≡ facts_under known m.item_id) ⊎ ((m.item_id ≡ old.next) × (made ≡ Some (facts_under known' m.item_id))) → AreTrueOf (edited e old.items) n (facts_under known' m.item_id)
          which (inl later) (inl same) =
              let none : facts_under known' m.item_id ≡ nothing = same ∙ none_is_known known m.item_id (let h = are.few in omega (arith, h, later)) in
              subst (AreTrueOf (edited e old.items) n) (sym none) (nothing_is_true (edited e old.items) n)
          which (inl later) (inr (next, is_made)) =
              made_is_true n (facts_under known' m.item_id) (later_has_not_come marks as_many n m at later) (some_is (AreTrueOfBoth old.items k) made (facts_under known' m.item_id) is_made of_both)
          which (inr left) (inl same) =
              let less : left.number < length old.items = (let h : left.number < length old.marks = slice_get_within old.marks left.number m left.mark_at in omega (arith, h, as_many)) in
              subst (λ (i : ℕ). AreTrueOf (edited e old.items) i (facts_under known' m.item_id)) (sym left.is)
              (subst (AreTrueOf (edited e old.items) (new_number e old.items left.number)) (sym same)
              (left_is_true left.number (facts_under known m.item_id) left.leaves less (are.are_true left.number m left.mark_at)))
          which (inr left) (inr (next, is_made)) =
              let past : m.item_id < old.next = item_id_is_past old.marks old.next left.number m marks.past left.mark_at in
              absurd (omega (arith, past, next))

  -- what is known of each rule that it made of rules with pairs of their own
  pub pairs_known_behind : (known known' : List Facts) → AreMarks old.marks old.next → length old.marks ≡ length old.items → AreKnown old known → new.items ≡ edited e old.items →
      old.next ≤ new.next → HasOwnPairs old.items (first_item k) → HasOwnPairs old.items (last_item k) → AreLearntOfEach known known' old.next new.next of_own_pairs → AreKnown new known'
  pairs_known_behind known known' marks as_many are items_are more first last learnt = record {
    are_true = (λ n m at. subst (λ (items : List Item). AreTrueOf items n (facts_under known' m.item_id)) (sym items_are) (are_true n m at));
    few = learnt.1 new.next (let h = are.few in omega (arith, h, more)) (omega arith);
  }
    where
      are_true : (n : ℕ) (m : Mark) → slice_get new.marks n ≡ Some m → AreTrueOf (edited e old.items) n (facts_under known' m.item_id)
      are_true n m at = which (kept.created n m at) (learnt.0 m.item_id)
        where
          which : (old.next ≤ m.item_id) ⊎ IsLeft old e n m → (facts_under known' m.item_id ≡ facts_under known m.item_id) ⊎ ((old.next ≤ m.item_id) × (m.item_id < new.next) × (facts_under known' m.item_id ≡ of_own_pairs)) →
              AreTrueOf (edited e old.items) n (facts_under known' m.item_id)
          which (inl later) (inl same) =
              let none : facts_under known' m.item_id ≡ nothing = same ∙ none_is_known known m.item_id (let h = are.few in omega (arith, h, later)) in
              subst (AreTrueOf (edited e old.items) n) (sym none) (nothing_is_true (edited e old.items) n)
          which (inl later) (inr own) = subst (AreTrueOf (edited e old.items) n) (sym own.2) (pairs_are_true n (later_has_not_come marks as_many n m at later) first last)
          which (inr left) (inl same) =
              let less : left.number < length old.items = (let h : left.number < length old.marks = slice_get_within old.marks left.number m left.mark_at in omega (arith, h, as_many)) in
              subst (λ (i : ℕ). AreTrueOf (edited e old.items) i (facts_under known' m.item_id)) (sym left.is)
              (subst (AreTrueOf (edited e old.items) (new_number e old.items left.number)) (sym same)
              (left_is_true left.number (facts_under known m.item_id) left.leaves less (are.are_true left.number m left.mark_at)))
          which (inr left) (inr own) =
              let past : m.item_id < old.next = item_id_is_past old.marks old.next left.number m marks.past left.mark_at in
              absurd (let later = own.0 in omega (arith, past, later))

  -- either way
  pub facts_behind : (known known' : List Facts) (made : Option Facts) (own_pairs : Bool) → AreMarks old.marks old.next → length old.marks ≡ length old.items → AreKnown old known → new.items ≡ edited e old.items →
      old.next ≤ new.next → ((way : Way) → IsMove way k → old.next < new.next) → IfSome made (AreTrueOfBoth old.items k) →
      (own_pairs ≡ true → HasOwnPairs old.items (first_item k)) → (own_pairs ≡ true → HasOwnPairs old.items (last_item k)) →
      AreLearntOf known known' old.next new.next made own_pairs → AreKnown new known'
  facts_behind known known' made own_pairs marks as_many are items_are more created of_both first last (inl learnt) = known_behind known known' made marks as_many are items_are more created of_both learnt
  facts_behind known known' made own_pairs marks as_many are items_are more created of_both first last (inr (own, learnt)) = pairs_known_behind known known' marks as_many are items_are more (first own) (last own) learnt
