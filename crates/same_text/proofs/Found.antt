-- What is found in two sheets, by its pairs.
use Rattle.std.proofs.Common.{◌≡◌, ◌⊎◌, ℕ, Bool, true, false, List, [], ◌∷◌, ◌++◌, map, Option, Some, None, refl, sym, ap, ◌∙◌, subst, inl, inr}
use Rattle.std.specs.Prelude.{◌||◌, if◌then◌else◌}
use Rattle.std.specs.List.{AllByRecursion, Contains, filter}
use Rattle.std.proofs.lemmas.Bool.{false≢true, and_parts, or_cases}
use Rattle.std.proofs.lemmas.List.Elements.{Contains-append_right}
use Rattle.std.specs.Bool.{beq}
use Rattle.std.specs.Prelude.{not}
use Rattle.cascade_laws.proofs.ForCallers.{some-same, weigh_back}
use Rattle.css_model.specs.declared.example.Example.{Example}
use Rattle.css_model.specs.declared.sheet.Item.{Item}
use Rattle.css_model.specs.Cascade.Order.{Pair, Weigh}
use Rattle.list_facts.proofs.Members.{Contains-here, Contains-nil, Contains-cons_cases}
use Rattle.media_groups.specs.declared.media.Media.{Media}
use Rattle.order_laws.specs.Comparing.{WeighingIsDecided, weigh, comes_before}
use Rattle.order_laws.specs.Places.{PlacedPair, has_pair, last_pairs, ListedStandsLast}
use Rattle.order_laws.specs.Reversed.{is_reversed}
use Rattle.overlap.specs.declared.answer.Answer.{Answer}
use Rattle.overlap.specs.declared.answer.Answer.TheVariants as answers
use Rattle.overlap.specs.PairsParts.{Answered}
use Rattle.overlap.specs.Remembered.{IsAnswered}
use Rattle.same_text.specs.Telling.{HasPlaces}
use Rattle.sheet_order.specs.declared.places.PairPlace.{PairPlace}
use Rattle.sheet_order.specs.Places.{place_of}
use Rattle.sheet_same.proofs.ForCallers.{IsOf, members_of}
use Rattle.sheet_same.specs.declared.compared.Compared.{Compared}
use Rattle.sheet_same.specs.declared.compared.Compared.TheVariants.{Same, Missing, Extra, KeptItem, Reversed, Unsure}
use Rattle.sheet_same.specs.Compared.{first_of, found_in_parts, FoundBehind, IsFound}
use Rattle.sheet_same.specs.Judging.{found_by, JudgesMembers, IsFirst}
use Rattle.sheet_same.specs.Kept.{first_differing}
use Rattle.sheet_same.specs.Lacking.{lacking, first_found, first_lacking}
use Rattle.sheet_same.specs.Members.{Member, Paired, KeptAt, members}
use Rattle.sheet_same.specs.Turned.{Couple, couple, is_turned, turned_from, turned}
use Rattle.why_text.proofs.ForCallers.{last_is_place}
use Rattle.why_text.specs.PairTexts.{IsPlace}

all_in : {X : Type 0} (P : X → Type 0) (xs : List X) (x : X) → AllByRecursion P xs → Contains xs x → P x
all_in P [] x all h = absurd (Contains-nil x h)
all_in {X = X} P (y ∷ xs) x all h = which (Contains-cons_cases y xs x h) (λ g. all_in P xs x all.1 g)
  where
    which : (y ≡ x) ⊎ Contains xs x → (Contains xs x → P x) → P x
    which (inl e) rest = subst P e all.0
    which (inr g) rest = rest g

-- ---- Couples

-- both are members of the sheet, and in another order in the second one
record IsCouple (s t : List Item) (c : Couple) : Type 0 where
  earlier : IsOf s c.earlier
  later : IsOf s c.later
  is : is_turned s t c.earlier c.later ≡ true

all_joined : {X : Type 0} (P : X → Type 0) (xs ys : List X) → AllByRecursion P xs → AllByRecursion P ys → AllByRecursion P (xs ++ ys)
all_joined P [] ys h g = g
all_joined P (x ∷ xs) ys h g = (h.0, all_joined P xs ys h.1 g)

with_couples : (s t : List Item) (m : Member) (xs : List Member) → IsOf s m → AllByRecursion (IsOf s) xs → AllByRecursion (IsCouple s t) (map (couple m) (filter (is_turned s t m) xs))
with_couples s t m [] h all = tt
with_couples s t m (x ∷ xs) h all = which (is_turned s t m x) refl (with_couples s t m xs h all.1)
  where
    which : (b : Bool) → is_turned s t m x ≡ b → AllByRecursion (IsCouple s t) (map (couple m) (filter (is_turned s t m) xs)) →
        AllByRecursion (IsCouple s t) (map (couple m) (if b then x ∷ filter (is_turned s t m) xs else filter (is_turned s t m) xs))
    which true e rest = (record { earlier = h; later = all.0; is = e }, rest)
    which false e rest = rest

all_couples : (s t : List Item) (ms : List Member) → AllByRecursion (IsOf s) ms → AllByRecursion (IsCouple s t) (turned_from s t ms)
all_couples s t [] all = tt
all_couples s t (m ∷ ms) all = all_joined (IsCouple s t) (map (couple m) (filter (is_turned s t m) ms)) (turned_from s t ms) (with_couples s t m ms all.0 all.1) (all_couples s t ms all.1)

first_couple : (held : List Answered) (s t : List Item) (found : Compared) (f : IsFirst held s (turned s t) found) → IsCouple s t f.couple
first_couple held s t found f =
    all_in (IsCouple s t) (turned s t) f.couple (all_couples s t (members s) (members_of s))
    (subst (λ (cs : List Couple). Contains cs f.couple) (sym f.parts) (Contains-append_right f.before (f.couple ∷ f.behind) f.couple (Contains-here f.couple f.behind)))

-- ---- Places

module _ (listed : ListedStandsLast) where
  is_place : (s : List Item) (x : PlacedPair) → Contains (last_pairs s) x → IsPlace s (place_of x.place)
  is_place s x h = last_is_place (λ n. true) s x ((listed (λ n. true) s x).0 h)

  lacking_place : (s : List Item) (pairs : List PlacedPair) (ms : List Member) (place : PairPlace) → AllByRecursion (IsOf s) ms → first_lacking pairs ms ≡ Some place → IsPlace s place
  lacking_place s pairs [] place all h = absurd (let e : None ≡ Some place = h in cc)
  lacking_place s pairs (m ∷ ms) place all h = which (lacking pairs m) refl h (λ g. lacking_place s pairs ms place all.1 g)
    where
      own : (z : Member) (found : PairPlace) → IsOf s z → lacking pairs z ≡ Some found → IsPlace s found
      own (Paired x) found of e = test (has_pair pairs x.pair) e
        where
          test : (b : Bool) → (if b then None else Some (place_of x.place)) ≡ Some found → IsPlace s found
          test true g = absurd (let bad : None ≡ Some found = g in cc)
          test false g = subst (IsPlace s) (some-same g) (is_place s x of)
      own (KeptAt n item) found of e = absurd (let bad : None ≡ Some found = e in cc)

      which : (o : Option PairPlace) → lacking pairs m ≡ o → first_found o (first_lacking pairs ms) ≡ Some place → (first_lacking pairs ms ≡ Some place → IsPlace s place) → IsPlace s place
      which (Some found) e g rest = subst (IsPlace s) (some-same g) (own m found all.0 e)
      which None e g rest = rest g

  part_places : (s t : List Item) (a b : Option PairPlace) (k : Option ℕ) (c : Compared) → ((place : PairPlace) → a ≡ Some place → IsPlace s place) → ((place : PairPlace) → b ≡ Some place → IsPlace t place) →
      first_of a b k ≡ Some c → HasPlaces s t c
  part_places s t (Some place) b k c f g h = subst (HasPlaces s t) (some-same h) (f place refl)
  part_places s t None (Some place) k c f g h = subst (HasPlaces s t) (some-same h) (g place refl)
  part_places s t None None (Some number) c f g h = subst (HasPlaces s t) (some-same h) tt
  part_places s t None None None c f g h = absurd (let e : None ≡ Some c = h in cc)

  answer_places : (s t : List Item) (x y : PlacedPair) (answer : Answer) (c : Compared) → Contains (last_pairs s) x → Contains (last_pairs s) y → found_by (place_of x.place) (place_of y.place) answer ≡ Some c → HasPlaces s t c
  answer_places s t x y answers.Apart c hx hy h = absurd (let e : None ≡ Some c = h in cc)
  answer_places s t x y (answers.Meet example) c hx hy h = subst (HasPlaces s t) (some-same h) (is_place s x hx, is_place s y hy)
  answer_places s t x y (answers.Outside reason number) c hx hy h = subst (HasPlaces s t) (some-same h) tt
  answer_places s t x y (answers.Spent ledger) c hx hy h = subst (HasPlaces s t) (some-same h) tt

  member_places : (held : List Answered) (s t : List Item) (m x : Member) (c : Compared) → IsOf s m → IsOf s x → JudgesMembers held s m x (Some c) → HasPlaces s t c
  member_places held s t (Paired x) (Paired y) c hm hx h = answer_places s t x y h.answer c hm hx h.says
  member_places held s t (Paired x) (KeptAt n item) c hm hx h = subst (HasPlaces s t) (some-same (sym h)) tt
  member_places held s t (KeptAt n item) m c hm hx h = subst (HasPlaces s t) (some-same (sym h)) tt

  -- the pairs that are found stand there
  pub found_places : (held : List Answered) (source : List ℕ) (media : List Media) (s : List Item) (other : List ℕ) (media' : List Media) (t : List Item) (c : Compared) → IsFound held source media s other media' t (Some c) → HasPlaces s t c
  found_places held source media s other media' t c h = which (found_in_parts source media s other media' t) refl h
    where
      which : (o : Option Compared) → found_in_parts source media s other media' t ≡ o → FoundBehind held s t o (Some c) → HasPlaces s t c
      which (Some found) e g =
          part_places s t (first_lacking (last_pairs t) (members s)) (first_lacking (last_pairs s) (members t)) (first_differing source media s other media' t) c
          (λ place f. lacking_place s (last_pairs t) (members s) place (members_of s) f) (λ place f. lacking_place t (last_pairs s) (members t) place (members_of t) f) (e ∙ sym g)
      which None e g = let is : IsCouple s t g.couple = first_couple held s t c g in member_places held s t g.couple.earlier g.couple.later c is.earlier is.later g.judges

-- ---- Two pairs in another order

-- the pairs of these places are in another order in the second sheet, and meet by the answer that is held
pub record AreReversed (held : List Answered) (s : List Item) (p q : PairPlace) (example : Example) : Type 0 where
  pub first : PlacedPair
  pub second : PlacedPair
  pub first_in : Contains (last_pairs s) first
  pub second_in : Contains (last_pairs s) second
  pub first_at : place_of first.place ≡ p
  pub second_at : place_of second.place ≡ q
  pub weighs : Weigh first.pair second.pair
  pub answered : IsAnswered held first.pair.selector second.pair.selector (answers.Meet example)

module _ (weighing : WeighingIsDecided) where
  turned_weigh : (s t : List Item) (x y : PlacedPair) → is_turned s t (Paired x) (Paired y) ≡ true → Weigh x.pair y.pair
  turned_weigh s t x y h = which (or_cases (is_reversed s t x.pair y.pair) (is_reversed s t y.pair x.pair) h)
    where
      weighs : (p q : Pair) → is_reversed s t p q ≡ true → Weigh p q
      weighs p q g = (weighing.0 p q).0 (and_parts (weigh p q) (not (beq (comes_before s p q) (comes_before t p q))) g).0

      which : (is_reversed s t x.pair y.pair ≡ true) ⊎ (is_reversed s t y.pair x.pair ≡ true) → Weigh x.pair y.pair
      which (inl g) = weighs x.pair y.pair g
      which (inr g) = weigh_back y.pair x.pair (weighs y.pair x.pair g)

  by_answer : (held : List Answered) (s t : List Item) (x y : PlacedPair) (answer : Answer) (p q : PairPlace) (example : Example) → Contains (last_pairs s) x → Contains (last_pairs s) y → is_turned s t (Paired x) (Paired y) ≡ true →
      IsAnswered held x.pair.selector y.pair.selector answer → found_by (place_of x.place) (place_of y.place) answer ≡ Some (Reversed p q example) → AreReversed held s p q example
  by_answer held s t x y answers.Apart p q example hx hy is h says = absurd (let bad = says in cc)
  by_answer held s t x y (answers.Meet found) p q example hx hy is h says =
      let first : place_of x.place ≡ p = let same = says in cc in
      let second : place_of y.place ≡ q = let same = says in cc in
      let third : found ≡ example = let same = says in cc in
      record {
        first = x;
        second = y;
        first_in = hx;
        second_in = hy;
        first_at = first;
        second_at = second;
        weighs = turned_weigh s t x y is;
        answered = subst (λ (e : Example). IsAnswered held x.pair.selector y.pair.selector (answers.Meet e)) third h;
      }
  by_answer held s t x y (answers.Outside reason number) p q example hx hy is h says = absurd (let bad = says in cc)
  by_answer held s t x y (answers.Spent ledger) p q example hx hy is h says = absurd (let bad = says in cc)

  by_members : (held : List Answered) (s t : List Item) (m x : Member) (p q : PairPlace) (example : Example) → IsOf s m → IsOf s x → is_turned s t m x ≡ true → JudgesMembers held s m x (Some (Reversed p q example)) →
      AreReversed held s p q example
  by_members held s t (Paired x) (Paired y) p q example hm hx is h = by_answer held s t x y h.answer p q example hm hx is h.answered h.says
  by_members held s t (Paired x) (KeptAt n item) p q example hm hx is h = absurd (let bad = h in cc)
  by_members held s t (KeptAt n item) m p q example hm hx is h = absurd (let bad = h in cc)

  not_in_parts : (a b : Option PairPlace) (k : Option ℕ) (p q : PairPlace) (example : Example) → first_of a b k ≡ Some (Reversed p q example) → ⊥
  not_in_parts (Some place) b k p q example h = let bad = h in cc
  not_in_parts None (Some place) k p q example h = let bad = h in cc
  not_in_parts None None (Some number) p q example h = let bad = h in cc
  not_in_parts None None None p q example h = let bad = h in cc

  pub found_reversed : (held : List Answered) (source : List ℕ) (media : List Media) (s : List Item) (other : List ℕ) (media' : List Media) (t : List Item) (p q : PairPlace) (example : Example) →
      IsFound held source media s other media' t (Some (Reversed p q example)) → AreReversed held s p q example
  found_reversed held source media s other media' t p q example h = which (found_in_parts source media s other media' t) refl h
    where
      which : (o : Option Compared) → found_in_parts source media s other media' t ≡ o → FoundBehind held s t o (Some (Reversed p q example)) → AreReversed held s p q example
      which (Some found) e g =
          absurd (not_in_parts (first_lacking (last_pairs t) (members s)) (first_lacking (last_pairs s) (members t)) (first_differing source media s other media' t) p q example (e ∙ sym g))
      which None e g =
          let is : IsCouple s t g.couple = first_couple held s t (Reversed p q example) g in
          by_members held s t g.couple.earlier g.couple.later p q example is.earlier is.later is.is g.judges
