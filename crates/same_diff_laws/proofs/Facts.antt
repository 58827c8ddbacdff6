-- What is known of two sheets in which nothing is found, and of the bodies of their opened blocks.
use Rattle.std.proofs.Common.{◌≡◌, ◌⊎◌, inl, inr, ℕ, suc, ◌<◌, ◌≤◌, Bool, true, false, not, List, [], ◌∷◌, ◌++◌, map, Option, Some, None, refl, sym, ap, ap₂, ◌∙◌, subst, arith}
use Rattle.std.specs.Prelude.{◌&&◌}
use Rattle.std.specs.Bool.{beq}
use Rattle.std.specs.List.{Contains, filter}
use Rattle.std.proofs.lemmas.Bool.{and_from, false≢true, or_left, or_right, true≢false}
use Rattle.std.proofs.lemmas.Bool.Decides.{nat_tests}
use Rattle.css_model.specs.declared.sheet.Item.{Item}
use Rattle.css_model.specs.Cascade.Order.{IsBefore, IsPairAt, Pair, Weigh}
use Rattle.css_model.specs.Cascade.Winner.{IsLater, Place, exceeds}
use Rattle.css_model.specs.Documents.SelectorParts.{SelectorParts}
use Rattle.css_model.specs.Sheets.KeptItems.{kept_items}
use Rattle.css_model.specs.Sheets.StyleRule.{selectors_of}
use Rattle.css_model.specs.Text.Source.{text_at}
use Rattle.list_facts.proofs.Elements.{member}
use Rattle.list_facts.proofs.Members.{Contains-filter, Contains-nil}
use Rattle.media_groups.specs.declared.media.Media.{Media}
use Rattle.media_groups.specs.Opened.{opened_of}
use Rattle.opened_laws.specs.Texts.{SameTextsAreOpenedAlike}
use Rattle.order_laws.proofs.ForCallers.{map_from}
use Rattle.order_laws.specs.Comparing.{OrderIsDecided, WeighingIsDecided, comes_before, weigh}
use Rattle.order_laws.specs.Places.{ListedStandsLast, PlacedPair, StandsLast, last_pairs, place_of}
use Rattle.order_laws.specs.Reversed.{is_reversed}
use Rattle.overlap.specs.declared.answer.Answer.{Answer}
use Rattle.overlap.specs.declared.answer.Answer.TheVariants as answers
use Rattle.overlap.specs.Laws.{ApartSelectorsDoNotMeet}
use Rattle.overlap.specs.PairsParts.{Answered, PairsParts}
use Rattle.overlap.specs.Remembered.{IsAnswered, IsTrueList}
use Rattle.same_laws.proofs.ForCallers.{EitherWay, IsNothing, PairMember, couple_apart, listed_is_member, never_found, nothing_found, pair_member, places_opened, say_the_same, says_apart, turned_has}
use Rattle.same_laws.specs.Same.{AreSame}
use Rattle.sheet_order.specs.Places as spots
use Rattle.sheet_same.proofs.ForCallers.{AreSorted, at_has, order_sorted}
use Rattle.sheet_same.specs.declared.compared.Compared.{Compared}
use Rattle.sheet_same.specs.declared.compared.Compared.TheVariants.{Same}
use Rattle.sheet_same.specs.declared.compared.Difference.{Difference}
use Rattle.sheet_same.specs.Compared.{BodiesTell, FoundBehind, IsFound, Told, found_in_parts, nothing}
use Rattle.sheet_same.specs.Judging.{AreApart, JudgesPair}
use Rattle.sheet_same.specs.Members.{Member, Paired, is_behind, kept_member, members}
use Rattle.sheet_same.specs.Turned.{Couple, couple, is_turned, turned, turned_from}
use Rattle.order_laws.specs.Reversed.{kept_from}
use Rattle.same_diff_laws.proofs.Alike.{AllAgree, matched}
use Rattle.same_diff_laws.proofs.Found.{append_cases}
use Rattle.same_diff_laws.proofs.Levels.{LevelFacts, less_or_not}
use Rattle.same_diff_laws.proofs.Sides.{Matched}

-- the laws that are used
pub record Laws : Type 0 where
  pub listed : ListedStandsLast
  pub order : OrderIsDecided
  pub weighing : WeighingIsDecided
  pub apart : ApartSelectorsDoNotMeet
  pub alike : SameTextsAreOpenedAlike

-- it is held for two selectors that they are apart
abbrev pub IsApart : List Answered → SelectorParts → SelectorParts → Type 0
IsApart held x y = IsAnswered held x y answers.Apart

-- ---- A couple has its earlier member first

in_order : (s t : List Item) (ms : List Member) (c : Couple) → AreSorted ms → Contains (turned_from s t ms) c → is_behind c.earlier c.later ≡ false
in_order s t [] c sorted h = absurd (Contains-nil c h)
in_order s t (m ∷ ms) c sorted h =
    which (append_cases (map (couple m) (filter (is_turned s t m) ms)) (turned_from s t ms) c h) (λ g. in_order s t ms c sorted.1 g)
  where
    which : Contains (map (couple m) (filter (is_turned s t m) ms)) c ⊎ Contains (turned_from s t ms) c → (Contains (turned_from s t ms) c → is_behind c.earlier c.later ≡ false) → is_behind c.earlier c.later ≡ false
    which (inl g) rest =
        let w = map_from (couple m) (filter (is_turned s t m) ms) c g in
        subst (λ (d : Couple). is_behind d.earlier d.later ≡ false) w.2 (member (λ (x : Member). is_behind m x ≡ false) ms w.0 sorted.0 (Contains-filter (is_turned s t m) ms w.0 w.1).0)
    which (inr g) rest = rest g

-- what is at a later place exceeds
later_exceeds : (i j p q a b : ℕ) → (i < j) ⊎ ((i ≡ j) × (p < q)) → exceeds (j ∷ q ∷ b ∷ []) (i ∷ p ∷ a ∷ []) ≡ true
later_exceeds i j p q a b h = grind (arith, nat_tests)

abbrev NotLater : Place → Place → Type 0
NotLater q r = (q.item < r.item) ⊎ ((q.item ≡ r.item) × (q.position ≤ r.position))

not_later : (q r : Place) → (IsLater q r → ⊥) → NotLater q r
not_later q r none = which (less_or_not q.item r.item) (less_or_not r.item q.item) (less_or_not r.position q.position)
  where
    which : (q.item < r.item) ⊎ (r.item ≤ q.item) → (r.item < q.item) ⊎ (q.item ≤ r.item) → (r.position < q.position) ⊎ (q.position ≤ r.position) → NotLater q r
    which (inl g) k m = inl g
    which (inr g) (inl k) m = absurd (none (inl k))
    which (inr g) (inr k) (inl m) = absurd (none (inr (omega (arith, g, k), m)))
    which (inr g) (inr k) (inr m) = inr (omega (arith, g, k), m)

-- what is later than one is later than all that are not later than it
later_down : (x y z : Place) → NotLater x y → IsLater z y → IsLater z x
later_down x y z (inl a) (inl h) = inl (omega (arith, a, h))
later_down x y z (inl a) (inr (e, h)) = inl (omega (arith, a, e))
later_down x y z (inr (f, a)) (inl h) = inl (omega (arith, f, h))
later_down x y z (inr (f, a)) (inr (e, h)) = inr (omega (arith, f, e), omega (arith, a, h))

later_up : (q r p : Place) → NotLater q r → IsLater q p → IsLater r p
later_up q r p (inl a) (inl h) = inl (omega (arith, a, h))
later_up q r p (inl a) (inr (e, h)) = inl (omega (arith, a, e))
later_up q r p (inr (f, a)) (inl h) = inl (omega (arith, f, h))
later_up q r p (inr (f, a)) (inr (e, h)) = inr (omega (arith, f, e), omega (arith, a, h))

module _ (laws : Laws) (pairs : PairsParts) (true_list : ∥ IsTrueList pairs ∥₁) where
  -- ---- Two pairs in another order

  last_at : (s : List Item) (x : PlacedPair) → StandsLast (λ n. true) s x → IsPairAt s x.pair (place_of x.place)
  last_at s x h = record {
    rule = h.rule;
    decl = h.item;
    rule_at = h.rule_at;
    selector_in = at_has (selectors_of h.rule) x.place.selector x.pair.selector h.selector_at;
    decl_at = h.decl_at;
    decl_is = h.decl_is;
  }

  module _ (s t : List Item) (apart : AreApart pairs.answers s (turned s t)) where
    reversed_apart : (x y : PlacedPair) → Contains (last_pairs s) x → Contains (last_pairs s) y → Weigh x.pair y.pair → IsBefore s x.pair y.pair → (IsBefore t x.pair y.pair → ⊥) → IsApart pairs.answers x.pair.selector y.pair.selector
    reversed_apart x y hx hy w b none =
        which (turned_has s t (members s) (Paired x) (Paired y) (listed_is_member s x hx) (listed_is_member s y hy) differ
        (or_left (is_reversed s t x.pair y.pair) (is_reversed s t y.pair x.pair) reversed)
        (or_right (is_reversed s t y.pair x.pair) (is_reversed s t x.pair y.pair) reversed))
      where
        pair_or : PlacedPair → Member → PlacedPair
        pair_or other (Paired z) = z
        pair_or other m = other

        differ : Paired x ≡ Paired y → ⊥
        differ e = w.different (ap (λ (m : Member). (pair_or x m).pair.decl) e)

        other : (c : Bool) → comes_before t x.pair y.pair ≡ c → comes_before t x.pair y.pair ≡ false
        other true e = absurd (none ((laws.order.0 t x.pair y.pair).0 e))
        other false e = e

        reversed : is_reversed s t x.pair y.pair ≡ true
        reversed =
            and_from (weigh x.pair y.pair) (not (beq (comes_before s x.pair y.pair) (comes_before t x.pair y.pair))) ((laws.weighing.0 x.pair y.pair).1 w)
            (ap₂ (λ (c d : Bool). not (beq c d)) ((laws.order.0 s x.pair y.pair).1 b) (other (comes_before t x.pair y.pair) refl))

        sx : StandsLast (λ n. true) s x
        sx = (laws.listed (λ n. true) s x).0 hx

        sy : StandsLast (λ n. true) s y
        sy = (laws.listed (λ n. true) s y).0 hy

        -- the place of the second one is later
        later : IsLater (place_of y.place) (place_of x.place)
        later =
            later_down (place_of x.place) b.place (place_of y.place) (not_later (place_of x.place) b.place (b.first.last (place_of x.place) (last_at s x sx)))
            (later_up b.later (place_of y.place) b.place (not_later b.later (place_of y.place) (sy.last b.later b.second.stands refl)) b.before)

        which : EitherWay (turned s t) (Paired x) (Paired y) → IsApart pairs.answers x.pair.selector y.pair.selector
        which (inl h) =
            let j : JudgesPair pairs.answers x y None = couple_apart pairs.answers s (turned s t) (couple (Paired x) (Paired y)) apart h in
            let a = says_apart (spots.place_of x.place) (spots.place_of y.place) j.answer j.says in
            subst (λ (z : Answer). IsAnswered pairs.answers x.pair.selector y.pair.selector z) a j.answered
        which (inr h) =
            absurd (false≢true (sym (in_order s t (members s) (couple (Paired y) (Paired x)) (order_sorted (map Paired (last_pairs s) ++ map kept_member (kept_from 0 s))) h)
            ∙ later_exceeds x.place.item y.place.item x.place.decl y.place.decl x.place.selector y.place.selector (ordered later)))
          where
            ordered : IsLater (place_of y.place) (place_of x.place) → (x.place.item < y.place.item) ⊎ ((x.place.item ≡ y.place.item) × (x.place.decl < y.place.decl))
            ordered (inl g) = inl g
            ordered (inr (e, g)) = inr (sym e, g)

    pairs_apart : (p q : Pair) → Weigh p q → IsBefore s p q → (IsBefore t p q → ⊥) → IsApart pairs.answers p.selector q.selector
    pairs_apart p q w b none =
        let m : PairMember s p = pair_member laws.listed s p (b.place, b.first.stands) in
        let n : PairMember s q = pair_member laws.listed s q (b.later, b.second.stands) in
        moved m.x.pair n.x.pair m.is n.is (reversed_apart m.x n.x m.listed n.listed) w b none
      where
        moved : (p' q' : Pair) → p' ≡ p → q' ≡ q → (Weigh p' q' → IsBefore s p' q' → (IsBefore t p' q' → ⊥) → IsApart pairs.answers p'.selector q'.selector) →
            Weigh p q → IsBefore s p q → (IsBefore t p q → ⊥) → IsApart pairs.answers p.selector q.selector
        moved p' q' e f claim =
            subst (λ (x : Pair). Weigh x q → IsBefore s x q → (IsBefore t x q → ⊥) → IsApart pairs.answers x.selector q.selector) e
            (subst (λ (y : Pair). Weigh p' y → IsBefore s p' y → (IsBefore t p' y → ⊥) → IsApart pairs.answers p'.selector y.selector) f claim)

  pub level_facts : (source : List ℕ) (media : List Media) (s : List Item) (other : List ℕ) (media' : List Media) (t : List Item) → IsFound pairs.answers source media s other media' t None → LevelFacts (IsApart pairs.answers) s t
  level_facts source media s other media' t found = which (found_in_parts source media s other media' t) refl found
    where
      n : IsNothing source media s other media' t
      n = nothing_found laws.listed laws.order laws.weighing laws.apart pairs true_list source media s other media' t found

      which : (o : Option Compared) → found_in_parts source media s other media' t ≡ o → FoundBehind pairs.answers s t o None → LevelFacts (IsApart pairs.answers) s t
      which (Some c) e h = absurd (let f : None ≡ Some c = h in cc)
      which None e h = record { pairs = n.parts.pairs; order = pairs_apart s t h; kept_order = n.parts.kept_order }

  -- ---- Bodies

  bodies_agree : (n : ℕ) (source : List ℕ) (media : List Media) (other : List ℕ) (media' : List Media) → BodiesTell pairs.answers n source media other media' nothing → AllAgree (IsApart pairs.answers) source other media media'
  bodies_agree n source [] other media' h = tt
  bodies_agree n source (m ∷ media) other [] h = tt
  bodies_agree n source (m ∷ media) other (m' ∷ media') (found, is, told) = which found is told (λ g. bodies_agree (suc n) source media other media' g)
    where
      Rest : Difference → Type 0
      Rest = BodiesTell pairs.answers (suc n) source media other media'

      which : (o : Option Compared) → IsFound pairs.answers (text_at source m.body) [] m.sheet.items (text_at other m'.body) [] m'.sheet.items o → Told (Some n) o Rest nothing →
          (Rest nothing → AllAgree (IsApart pairs.answers) source other media media') → AllAgree (IsApart pairs.answers) source other (m ∷ media) (m' ∷ media')
      which (Some c) g same rest = absurd (let e : None ≡ Some n = ap (λ (d : Difference). d.body) same in cc)
      which None g more rest =
          let k : IsNothing (text_at source m.body) [] m.sheet.items (text_at other m'.body) [] m'.sheet.items =
          nothing_found laws.listed laws.order laws.weighing laws.apart pairs true_list (text_at source m.body) [] m.sheet.items (text_at other m'.body) [] m'.sheet.items g in (
            record {
              kept = say_the_same 0 (text_at source m.body) [] (kept_items m.sheet.items) (text_at other m'.body) [] (kept_items m'.sheet.items) k.kept;
              facts = level_facts (text_at source m.body) [] m.sheet.items (text_at other m'.body) [] m'.sheet.items g;
            },
            rest more,
          )

-- ---- Two sheets

-- what is known of two sheets that compare as the same
pub record AgreeFor (held : List Answered) (source : List ℕ) (s : List Item) (other : List ℕ) (t : List Item) : Type 0 where
  pub matches : Matched (IsApart held) source s other t
  pub facts : LevelFacts (IsApart held) s t

pub sheets_agree : Laws → (source : List ℕ) (s : List Item) (other : List ℕ) (t : List Item) (same : AreSame source s other t) → AgreeFor same.pairs.answers source s other t
sheets_agree laws source s other t same = which same.compared.0 same.compared.1 same.compared.2
  where
    held : List Answered
    held = same.pairs.answers

    media : List Media
    media = opened_of s source

    media' : List Media
    media' = opened_of t other

    Rest : Difference → Type 0
    Rest = BodiesTell held 0 source media other media'

    which : (o : Option Compared) → IsFound held source media s other media' t o → Told None o Rest nothing → AgreeFor held source s other t
    which (Some c) found told =
        let e : Same ≡ c = ap (λ (d : Difference). d.compared) told in
        absurd (never_found held source media s other media' t (subst (λ (x : Compared). IsFound held source media s other media' t (Some x)) (sym e) found))
    which None found more =
        let n : IsNothing source media s other media' t = nothing_found laws.listed laws.order laws.weighing laws.apart same.pairs same.true_list source media s other media' t found in
        record {
          matches = matched (IsApart held) source other media (kept_items s) media' (kept_items t) (bodies_agree laws same.pairs same.true_list 0 source media other media' more)
              (places_opened laws.alike source s other t same.first_read same.second_read (say_the_same 0 source media (kept_items s) other media' (kept_items t) n.kept));
          facts = level_facts laws same.pairs same.true_list source media s other media' t found;
        }
