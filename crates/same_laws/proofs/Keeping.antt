-- Where nothing is found in two sheets, they have the same pairs in the same order.
use Rattle.std.proofs.Common.{◌≡◌, ◌↔◌, ◌⊎◌, ℕ, zero, suc, ◌+◌, Bool, true, false, not, List, [], ◌∷◌, ◌++◌, map, Option, Some, None, refl, sym, ap, ◌∙◌, subst, inl, inr, arith}
use Rattle.std.specs.Bool.{beq}
use Rattle.std.specs.Prelude.{◌&&◌, if◌then◌else◌, slice_get}
use Rattle.std.specs.List.{Contains}
use Rattle.std.proofs.lemmas.Bool.{false≢true, and_from, or_left, or_right}
use Rattle.std.proofs.lemmas.List.Elements.{Contains-append_left, Contains-append_right}
use Rattle.cascade_laws.proofs.ForCallers.{some-same}
use Rattle.css_model.specs.declared.sheet.Decl.{Decl}
use Rattle.css_model.specs.declared.sheet.DeclItem.{DeclItem}
use Rattle.css_model.specs.declared.sheet.Item.{Item}
use Rattle.css_model.specs.declared.sheet.Item.TheVariants.{Rule, KeptRule, KeptBlock}
use Rattle.css_model.specs.Cascade.Order.{Meet, Pair, HasPair, Weigh, WeighsKept, IsBefore, IsBeforeKept}
use Rattle.css_model.specs.Documents.SelectorParts.{SelectorParts}
use Rattle.css_model.specs.Sheets.KeptItems.{is_kept, kept_before, kept_items}
use Rattle.css_model.specs.Sheets.StyleRule.{selectors_of}
use Rattle.list_facts.proofs.Members.{Contains-here, Contains-there, Contains-nil, Contains-cons_cases}
use Rattle.media_groups.specs.declared.media.Media.{Media}
use Rattle.order_laws.proofs.ForCallers.{map_has}
use Rattle.order_laws.specs.Comparing.{OrderIsDecided, WeighingIsDecided, weigh, weighs_kept, comes_before, comes_before_kept}
use Rattle.order_laws.specs.Places.{PlacedPair, StandsLast, last_pairs, has_pair, ListedStandsLast}
use Rattle.order_laws.specs.Reversed.{kept_from, is_reversed, is_reversed_kept}
use Rattle.overlap.specs.declared.answer.Answer.{Answer}
use Rattle.overlap.specs.declared.answer.Answer.TheVariants as answers
use Rattle.overlap.specs.Laws.{ApartSelectorsDoNotMeet}
use Rattle.overlap.specs.PairsParts.{PairsParts}
use Rattle.overlap.specs.Remembered.{IsTrueList, IsAnswered}
use Rattle.sheet_order.proofs.ForCallers.{stands_somewhere, has_pair_from, KeptPlace, place_of_kept}
use Rattle.sheet_order.specs.declared.places.PairPlace.{PairPlace}
use Rattle.sheet_same.specs.declared.compared.Compared.{Compared}
use Rattle.sheet_same.specs.declared.compared.Compared.TheVariants.{KeptItem}
use Rattle.sheet_same.specs.Compared.{found_in_parts, FoundBehind, IsFound}
use Rattle.sheet_same.specs.Judging.{found_by, JudgesPair, JudgesMembers, Judges, AreApart}
use Rattle.sheet_same.specs.Kept.{first_differing}
use Rattle.sheet_same.specs.Lacking.{lacking, first_lacking}
use Rattle.sheet_same.specs.Members.{Member, Paired, KeptAt, is_behind, put_in, in_order, kept_member, members}
use Rattle.sheet_same.specs.Turned.{Couple, is_turned, couple, turned_from, turned}
use Rattle.sheet_same.proofs.ForCallers.{at_has, both_none, not_lacking, AllNone, all_none}
use Rattle.same_laws.proofs.Couples.{couple_apart, turned_has}

-- ---- Members

put_here : (m : Member) (xs : List Member) → Contains (put_in m xs) m
put_here m [] = Contains-here m []
put_here m (x ∷ xs) = which (is_behind m x) (put_here m xs)
  where
    which : (b : Bool) → Contains (put_in m xs) m → Contains (if b then x ∷ put_in m xs else m ∷ x ∷ xs) m
    which true h = Contains-there x (put_in m xs) m h
    which false h = Contains-here m (x ∷ xs)

put_there : (m : Member) (xs : List Member) (y : Member) → Contains xs y → Contains (put_in m xs) y
put_there m [] y h = absurd (Contains-nil y h)
put_there m (x ∷ xs) y h = which (is_behind m x) (Contains-cons_cases x xs y h) (λ g. put_there m xs y g)
  where
    which : (b : Bool) → (x ≡ y) ⊎ Contains xs y → (Contains xs y → Contains (put_in m xs) y) → Contains (if b then x ∷ put_in m xs else m ∷ x ∷ xs) y
    which true (inl e) rest = subst (λ (z : Member). Contains (x ∷ put_in m xs) z) e (Contains-here x (put_in m xs))
    which true (inr g) rest = Contains-there x (put_in m xs) y (rest g)
    which false side rest = Contains-there m (x ∷ xs) y h

order_has : (xs : List Member) (y : Member) → Contains xs y → Contains (in_order xs) y
order_has [] y h = absurd (Contains-nil y h)
order_has (x ∷ xs) y h = which (Contains-cons_cases x xs y h) (λ g. order_has xs y g)
  where
    which : (x ≡ y) ⊎ Contains xs y → (Contains xs y → Contains (in_order xs) y) → Contains (put_in x (in_order xs)) y
    which (inl e) rest = subst (λ (z : Member). Contains (put_in x (in_order xs)) z) e (put_here x (in_order xs))
    which (inr g) rest = put_there x (in_order xs) y (rest g)

abbrev kept_with : ℕ → Item → ℕ × Item
kept_with n item = (n, item)

kept_has : (k : ℕ) (items : List Item) (i : ℕ) (item : Item) → slice_get items i ≡ Some item → is_kept item ≡ true → Contains (kept_from k items) (kept_with (k + i) item)
kept_has k [] i item at kept = absurd (let e : None ≡ Some item = at in cc)
kept_has k (Rule r ∷ items) zero item at kept = absurd (false≢true (ap is_kept (some-same at) ∙ kept))
kept_has k (KeptRule r ∷ items) zero item at kept =
    let e : k ≡ k + 0 = omega arith in
    subst (λ (n : ℕ). Contains ((k, KeptRule r) ∷ kept_from (suc k) items) (kept_with n item)) e
    (subst (λ (z : Item). Contains ((k, KeptRule r) ∷ kept_from (suc k) items) (kept_with k z)) (some-same at) (Contains-here (kept_with k (KeptRule r)) (kept_from (suc k) items)))
kept_has k (KeptBlock r ∷ items) zero item at kept =
    let e : k ≡ k + 0 = omega arith in
    subst (λ (n : ℕ). Contains ((k, KeptBlock r) ∷ kept_from (suc k) items) (kept_with n item)) e
    (subst (λ (z : Item). Contains ((k, KeptBlock r) ∷ kept_from (suc k) items) (kept_with k z)) (some-same at) (Contains-here (kept_with k (KeptBlock r)) (kept_from (suc k) items)))
kept_has k (Rule r ∷ items) (suc i) item at kept =
    let e : suc k + i ≡ k + suc i = omega arith in subst (λ (n : ℕ). Contains (kept_from (suc k) items) (kept_with n item)) e (kept_has (suc k) items i item at kept)
kept_has k (KeptRule r ∷ items) (suc i) item at kept =
    let e : suc k + i ≡ k + suc i = omega arith in
    Contains-there (kept_with k (KeptRule r)) (kept_from (suc k) items) (kept_with (k + suc i) item) (subst (λ (n : ℕ). Contains (kept_from (suc k) items) (kept_with n item)) e (kept_has (suc k) items i item at kept))
kept_has k (KeptBlock r ∷ items) (suc i) item at kept =
    let e : suc k + i ≡ k + suc i = omega arith in
    Contains-there (kept_with k (KeptBlock r)) (kept_from (suc k) items) (kept_with (k + suc i) item) (subst (λ (n : ℕ). Contains (kept_from (suc k) items) (kept_with n item)) e (kept_has (suc k) items i item at kept))

kept_is_member : (items : List Item) (i : ℕ) (item : Item) → slice_get items i ≡ Some item → is_kept item ≡ true → Contains (members items) (KeptAt i item)
kept_is_member items i item at kept =
    let e : 0 + i ≡ i = omega arith in
    order_has (map Paired (last_pairs items) ++ map kept_member (kept_from 0 items)) (KeptAt i item)
    (Contains-append_right (map Paired (last_pairs items)) (map kept_member (kept_from 0 items)) (KeptAt i item)
    (map_has kept_member (kept_from 0 items) (kept_with i item) (subst (λ (n : ℕ). Contains (kept_from 0 items) (kept_with n item)) e (kept_has 0 items i item at kept))))

pub listed_is_member : (items : List Item) (x : PlacedPair) → Contains (last_pairs items) x → Contains (members items) (Paired x)
listed_is_member items x h =
    order_has (map Paired (last_pairs items) ++ map kept_member (kept_from 0 items)) (Paired x)
    (Contains-append_left (map Paired (last_pairs items)) (map kept_member (kept_from 0 items)) (Paired x) (map_has Paired (last_pairs items) x h))

-- ---- Pairs

stands_has : (items : List Item) (x : PlacedPair) → StandsLast (λ n. true) items x → HasPair items x.pair
stands_has items x s = (
  record { item = x.place.item; position = x.place.decl },
  record {
    rule = s.rule;
    decl = s.item;
    rule_at = s.rule_at;
    selector_in = at_has (selectors_of s.rule) x.place.selector x.pair.selector s.selector_at;
    decl_at = s.decl_at;
    decl_is = s.decl_is;
  },
)

-- a pair that a sheet has is a member
pub record PairMember (items : List Item) (p : Pair) : Type 0 where
  pub x : PlacedPair
  pub listed : Contains (last_pairs items) x
  pub is : x.pair ≡ p

pub pair_member : ListedStandsLast → (items : List Item) (p : Pair) → HasPair items p → PairMember items p
pair_member listed items p h =
    let w : (x : PlacedPair) × StandsLast (λ n. true) items x × (x.pair ≡ p) = stands_somewhere listed (λ n. true) items p h.0 h.1 refl in
    record { x = w.0; listed = (listed (λ n. true) items w.0).1 w.1; is = w.2 }

listed_has : ListedStandsLast → (items : List Item) (p : Pair) → has_pair (last_pairs items) p ≡ true → HasPair items p
listed_has listed items p h =
    let w : (x : PlacedPair) × Contains (last_pairs items) x × (x.pair ≡ p) = has_pair_from (last_pairs items) p h in
    subst (λ (q : Pair). HasPair items q) w.2 (stands_has items w.0 ((listed (λ n. true) items w.0).0 w.1))

none_lacking : (pairs : List PlacedPair) (ms : List Member) (x : PlacedPair) → first_lacking pairs ms ≡ None → Contains ms (Paired x) → has_pair pairs x.pair ≡ true
none_lacking pairs [] x none h = absurd (Contains-nil (Paired x) h)
none_lacking pairs (m ∷ ms) x none h = which (both_none (lacking pairs m) (first_lacking pairs ms) none) (Contains-cons_cases m ms (Paired x) h) (λ f g. none_lacking pairs ms x f g)
  where
    which : (lacking pairs m ≡ None) × (first_lacking pairs ms ≡ None) → (m ≡ Paired x) ⊎ Contains ms (Paired x) → (first_lacking pairs ms ≡ None → Contains ms (Paired x) → has_pair pairs x.pair ≡ true) → has_pair pairs x.pair ≡ true
    which w (inl e) rest = not_lacking pairs x (subst (λ (z : Member). lacking pairs z ≡ None) e w.0)
    which w (inr g) rest = rest w.1 g

pairs_there : ListedStandsLast → (s t : List Item) (p : Pair) → first_lacking (last_pairs t) (members s) ≡ None → HasPair s p → HasPair t p
pairs_there listed s t p none h =
    let m : PairMember s p = pair_member listed s p h in
    listed_has listed t p (subst (λ (q : Pair). has_pair (last_pairs t) q ≡ true) m.is (none_lacking (last_pairs t) (members s) m.x none (listed_is_member s m.x m.listed)))

-- ---- Order

meet_swap : (x y : SelectorParts) → Meet x y → Meet y x
meet_swap x y m = record { doc = m.doc; target = m.target; legal = m.legal; first = m.second; second = m.first }

pub says_apart : (p q : PairPlace) (answer : Answer) → found_by p q answer ≡ None → answer ≡ answers.Apart
says_apart p q answers.Apart h = refl
says_apart p q (answers.Meet e) h = absurd (let f = h in cc)
says_apart p q (answers.Outside reason number) h = absurd (let f = h in cc)
says_apart p q (answers.Spent ledger) h = absurd (let f = h in cc)

abbrev pair_or : PlacedPair → Member → PlacedPair
pair_or other (Paired x) = x
pair_or other (KeptAt n item) = other

same_beq : (a b : Bool) → (not (beq a b) ≡ true → ⊥) → a ≡ b
same_beq true true h = refl
same_beq true false h = absurd (h refl)
same_beq false true h = absurd (h refl)
same_beq false false h = refl

module _ (listed : ListedStandsLast) (order : OrderIsDecided) (weighing : WeighingIsDecided) (law : ApartSelectorsDoNotMeet)
    (pairs : PairsParts) (true_list : ∥ IsTrueList pairs ∥₁) (s t : List Item) (apart : AreApart pairs.answers s (turned s t)) where
  judged_apart : (x y : PlacedPair) → Contains (turned s t) (couple (Paired x) (Paired y)) → Meet x.pair.selector y.pair.selector → ⊥
  judged_apart x y h =
      let j : JudgesPair pairs.answers x y None = couple_apart pairs.answers s (turned s t) (couple (Paired x) (Paired y)) apart h in
      let a = says_apart (record { item = x.place.item; sel = x.place.selector; decl = x.place.decl }) (record { item = y.place.item; sel = y.place.selector; decl = y.place.decl }) j.answer j.says in
      law pairs x.pair.selector y.pair.selector true_list (subst (λ (z : Answer). IsAnswered pairs.answers x.pair.selector y.pair.selector z) a j.answered)

  no_pair_turned : (x y : PlacedPair) → Contains (last_pairs s) x → Contains (last_pairs s) y → Weigh x.pair y.pair → Meet x.pair.selector y.pair.selector → is_reversed s t x.pair y.pair ≡ true → ⊥
  no_pair_turned x y hx hy w meet reversed =
      which (turned_has s t (members s) (Paired x) (Paired y) (listed_is_member s x hx) (listed_is_member s y hy) differ
      (or_left (is_reversed s t x.pair y.pair) (is_reversed s t y.pair x.pair) reversed)
      (or_right (is_reversed s t y.pair x.pair) (is_reversed s t x.pair y.pair) reversed))
    where
      differ : Paired x ≡ Paired y → ⊥
      differ e = w.different (ap (λ (m : Member). (pair_or x m).pair.decl) e)

      which : Contains (turned s t) (couple (Paired x) (Paired y)) ⊎ Contains (turned s t) (couple (Paired y) (Paired x)) → ⊥
      which (inl h) = judged_apart x y h meet
      which (inr h) = judged_apart y x h (meet_swap x.pair.selector y.pair.selector meet)

  same_order : (p q : Pair) → Weigh p q → Meet p.selector q.selector → HasPair s p → HasPair s q → comes_before s p q ≡ comes_before t p q
  same_order p q w meet hp hq = same_beq (comes_before s p q) (comes_before t p q) no
    where
      m : PairMember s p
      m = pair_member listed s p hp

      n : PairMember s q
      n = pair_member listed s q hq

      Claim : Pair → Pair → Type 0
      Claim a b = Weigh a b → Meet a.selector b.selector → is_reversed s t a b ≡ true → ⊥

      claim : Weigh p q → Meet p.selector q.selector → is_reversed s t p q ≡ true → ⊥
      claim = subst (λ (a : Pair). Weigh a q → Meet a.selector q.selector → is_reversed s t a q ≡ true → ⊥) m.is
          (subst (λ (b : Pair). Weigh m.x.pair b → Meet m.x.pair.selector b.selector → is_reversed s t m.x.pair b ≡ true → ⊥) n.is (no_pair_turned m.x n.x m.listed n.listed))

      no : not (beq (comes_before s p q) (comes_before t p q)) ≡ true → ⊥
      no h = claim w meet (and_from (weigh p q) (not (beq (comes_before s p q) (comes_before t p q))) ((weighing.0 p q).1 w) h)

  no_kept_turned : (x : PlacedPair) (i : ℕ) (item : Item) → Contains (last_pairs s) x → slice_get s i ≡ Some item → is_kept item ≡ true → is_reversed_kept s t x.pair (i, item) ≡ true → ⊥
  no_kept_turned x i item hx at kept reversed =
      which (turned_has s t (members s) (Paired x) (KeptAt i item) (listed_is_member s x hx) (kept_is_member s i item at kept) differ reversed reversed)
    where
      differ : Paired x ≡ KeptAt i item → ⊥
      differ e = let f = e in cc

      found : Option Compared
      found = Some (KeptItem (kept_before i s))

      which : Contains (turned s t) (couple (Paired x) (KeptAt i item)) ⊎ Contains (turned s t) (couple (KeptAt i item) (Paired x)) → ⊥
      which (inl h) = let e : None ≡ found = couple_apart pairs.answers s (turned s t) (couple (Paired x) (KeptAt i item)) apart h in cc
      which (inr h) = let e : None ≡ found = couple_apart pairs.answers s (turned s t) (couple (KeptAt i item) (Paired x)) apart h in cc

  same_kept_order : (p : Pair) (number : ℕ) (item : Item) → slice_get (kept_items s) number ≡ Some item → WeighsKept p item → HasPair s p → comes_before_kept s p number ≡ comes_before_kept t p number
  same_kept_order p number item at w hp = same_beq (comes_before_kept s p number) (comes_before_kept t p number) no
    where
      m : PairMember s p
      m = pair_member listed s p hp

      k : KeptPlace s number item
      k = place_of_kept s number item at

      claim : is_reversed_kept s t p (k.index, item) ≡ true → ⊥
      claim = subst (λ (a : Pair). is_reversed_kept s t a (k.index, item) ≡ true → ⊥) m.is (no_kept_turned m.x k.index item m.listed k.at k.kept)

      no : not (beq (comes_before_kept s p number) (comes_before_kept t p number)) ≡ true → ⊥
      no h = claim (subst (λ (n : ℕ). (weighs_kept p item && not (beq (comes_before_kept s p n) (comes_before_kept t p n))) ≡ true) (sym k.number)
          (and_from (weighs_kept p item) (not (beq (comes_before_kept s p number) (comes_before_kept t p number))) ((weighing.1 p item).1 w) h))

  order_stays : ((p : Pair) → HasPair t p → HasPair s p) → (p q : Pair) → Weigh p q → Meet p.selector q.selector → IsBefore s p q ↔ IsBefore t p q
  order_stays back p q w meet = (
    λ b. (order.0 t p q).0 (sym (same_order p q w meet (b.place, b.first.stands) (b.later, b.second.stands)) ∙ (order.0 s p q).1 b),
    λ b. (order.0 s p q).0 (same_order p q w meet (back p (b.place, b.first.stands)) (back q (b.later, b.second.stands)) ∙ (order.0 t p q).1 b),
  )

  kept_order_stays : ((p : Pair) → HasPair t p → HasPair s p) → (p : Pair) (number : ℕ) (item : Item) → slice_get (kept_items s) number ≡ Some item → WeighsKept p item → IsBeforeKept s p number ↔ IsBeforeKept t p number
  kept_order_stays back p number item at w = (
    λ b. (order.1 t p number).0 (sym (same_kept_order p number item at w (b.place, b.stands.stands)) ∙ (order.1 s p number).1 b),
    λ b. (order.1 s p number).0 (same_kept_order p number item at w (back p (b.place, b.stands.stands)) ∙ (order.1 t p number).1 b),
  )

-- Two sheets have the same pairs, and those that have to stay in order do.
pub record IsOrderKept (s t : List Item) : Type 0 where
  pub pairs : (p : Pair) → HasPair s p ↔ HasPair t p
  pub order : (p q : Pair) → Weigh p q → Meet p.selector q.selector → IsBefore s p q ↔ IsBefore t p q
  pub kept_order : (p : Pair) (number : ℕ) (item : Item) → slice_get (kept_items s) number ≡ Some item → WeighsKept p item → IsBeforeKept s p number ↔ IsBeforeKept t p number

-- what is known where nothing is found
pub record IsNothing (source : List ℕ) (media : List Media) (s : List Item) (other : List ℕ) (media' : List Media) (t : List Item) : Type 0 where
  pub parts : IsOrderKept s t
  pub kept : first_differing source media s other media' t ≡ None

pub nothing_found : ListedStandsLast → OrderIsDecided → WeighingIsDecided → ApartSelectorsDoNotMeet → (pairs : PairsParts) → ∥ IsTrueList pairs ∥₁ →
    (source : List ℕ) (media : List Media) (s : List Item) (other : List ℕ) (media' : List Media) (t : List Item) → IsFound pairs.answers source media s other media' t None → IsNothing source media s other media' t
nothing_found listed order weighing law pairs true_list source media s other media' t found = which (found_in_parts source media s other media' t) refl found
  where
    which : (o : Option Compared) → found_in_parts source media s other media' t ≡ o → FoundBehind pairs.answers s t o None → IsNothing source media s other media' t
    which (Some c) e h = absurd (let f : None ≡ Some c = h in cc)
    which None e h =
        let none : AllNone (first_lacking (last_pairs t) (members s)) (first_lacking (last_pairs s) (members t)) (first_differing source media s other media' t) =
        all_none (first_lacking (last_pairs t) (members s)) (first_lacking (last_pairs s) (members t)) (first_differing source media s other media' t) e in
        let back : (p : Pair) → HasPair t p → HasPair s p = λ p. pairs_there listed t s p none.second in
        record {
          parts = record {
            pairs = λ p. (pairs_there listed s t p none.first, back p);
            order = order_stays listed order weighing law pairs true_list s t h back;
            kept_order = kept_order_stays listed order weighing law pairs true_list s t h back;
          };
          kept = none.third;
        }
