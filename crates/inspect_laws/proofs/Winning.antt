-- What is told of an entry, and which one competes first.
use Rattle.std.proofs.Common.{◌≡◌, ◌⊎◌, inl, inr, ℕ, Bool, true, false, List, [], ◌∷◌, Option, Some, None, Ok, is_some, option_map, refl, sym, ap, subst, ◌∙◌}
use Rattle.std.specs.Prelude.{◌&&◌, ◌||◌, codes, find}
use Rattle.std.specs.List.{Contains, list_any}
use Rattle.std.specs.Cmp.Lexicographic.{bytes_decides}
use Rattle.std.proofs.lemmas.Bool.{and_from, and_parts, false≢true, false_from_ne_true, or_cases, or_left, or_right}
use Rattle.std.proofs.lemmas.List.Folds.{Any-from_list_any, list_any_at}
use Rattle.std.proofs.lemmas.List.Sorted.{Contains-permutation, IsPermutation-sym}
use Rattle.css_model.specs.Documents.Matching.{matches}
use Rattle.css_model.specs.Lists.{same_text}
use Rattle.inspect_laws.specs.Entries.{Entry, entries_by}
use Rattle.inspect_laws.specs.Groups.{is_all}
use Rattle.inspect_laws.specs.Laws.{FirstWins, LostNeverWins, WinsUnderItsHead, WinsWhereNoneHolds, competes, none_holds, outcome_of, stands}
use Rattle.inspect_laws.specs.Order.{AreOrdered, outranks}
use Rattle.inspect_laws.specs.Words.{Lost, When, Wins, Word, applies_with, has_lost, same_head, sets_of, word, word_of}
use Rattle.inspect_laws.proofs.Descending.{descends_from, first_among, first_is, none_above}

itself : (text : List ℕ) → same_text text text ≡ true
itself text = (bytes_decides text text).1 refl

-- the test for one entry that another one loses to
abbrev beats : Entry → Entry → Bool
beats e f = outranks f e && (sets_of f e && applies_with f e)

not_beaten : (all : List Entry) (e f : Entry) → has_lost all e ≡ false → Contains all f → outranks f e ≡ true → sets_of f e ≡ true → applies_with f e ≡ true → ⊥
not_beaten all e f safe among over sets applies =
    false≢true (sym safe ∙ list_any_at (beats e) all among.0 f (among.1)
    (subst (λ (g : Entry). beats e g ≡ true) (sym among.2) (and_from (outranks f e) (sets_of f e && applies_with f e) over (and_from (sets_of f e) (applies_with f e) sets applies))))

-- ---- One that has not lost is the first

-- it is told so
abbrev lost_of : Word → Bool
lost_of Wins = false
lost_of When = false
lost_of Lost = true

lost_word : (lost inside : Bool) → lost_of (word lost inside) ≡ lost
lost_word true inside = refl
lost_word false true = refl
lost_word false false = refl

safe_from : (all : List Entry) (e : Entry) (w : Word) → lost_of w ≡ false → word_of all e ≡ w → has_lost all e ≡ false
safe_from all e w not_lost is = sym (lost_word (has_lost all e) (is_some e.head)) ∙ ap lost_of is ∙ not_lost

wins_outside : (lost inside : Bool) → word lost inside ≡ Wins → inside ≡ false
wins_outside true inside is = absurd (let none : ⊥ = cc in none)
wins_outside false true is = absurd (let none : ⊥ = cc in none)
wins_outside false false is = refl

no_head : (head : Option (List ℕ)) → is_some head ≡ false → head ≡ None
no_head None h = refl
no_head (Some head) h = absurd (false≢true (sym h))

module _ (all sorted : List Entry) (order : AreOrdered all sorted) (e : Entry) (among : Contains sorted e) (holds : List ℕ → Bool) where
  -- where all that applies then applies with it
  first : has_lost all e ≡ false → stands holds e.head ≡ true → ((f : Entry) → stands holds f.head ≡ true → applies_with f e ≡ true) → find (competes holds e.decl.name) sorted ≡ Some e
  first safe here with =
      first_is (competes holds e.decl.name) sorted e (descends_from sorted order.descending) among
      (and_from (same_text e.decl.name e.decl.name || is_all e) (stands holds e.head) (or_left (same_text e.decl.name e.decl.name) (is_all e) (itself e.decl.name)) here)
      (λ f there over. false_from_ne_true (competes holds e.decl.name f) (λ yes.
      let parts = and_parts (same_text f.decl.name e.decl.name || is_all f) (stands holds f.head) yes in
      not_beaten all e f safe (Contains-permutation sorted all f (IsPermutation-sym all sorted order.same) there) over parts.0 (with f parts.1)))

outside_with : (e f : Entry) → stands none_holds f.head ≡ true → applies_with f e ≡ true
outside_with e f h = or_left (same_head f.head None) (same_head f.head e.head) (which f.head h)
  where
    which : (head : Option (List ℕ)) → stands none_holds head ≡ true → same_head head None ≡ true
    which None h = refl
    which (Some head) h = absurd (false≢true h)

under_with : (head : List ℕ) (e f : Entry) → e.head ≡ Some head → stands (same_text head) f.head ≡ true → applies_with f e ≡ true
under_with head e f is h = which f.head h
  where
    which : (other : Option (List ℕ)) → stands (same_text head) other ≡ true → (same_head other None || same_head other e.head) ≡ true
    which None h = refl
    which (Some other) h =
        subst (λ (o : Option (List ℕ)). same_head (Some other) o ≡ true) (sym is) ((bytes_decides other head).1 (sym ((bytes_decides head other).0 h)))

pub wins_where_none : FirstWins → WinsWhereNoneHolds
wins_where_none law doc target source items sorted e read order among is =
    let all = entries_by (matches doc target) source items in
    let none : e.head ≡ None = no_head e.head (wins_outside (has_lost all e) (is_some e.head) is) in
    law doc target source items sorted e.decl.name none_holds read order
    ∙ ap (option_map outcome_of)
    (first all sorted order e among none_holds (safe_from all e Wins refl is) (ap (stands none_holds) none) (outside_with e))

pub wins_under : FirstWins → WinsUnderItsHead
wins_under law doc target source items sorted e head read order among is under =
    let all = entries_by (matches doc target) source items in
    law doc target source items sorted e.decl.name (same_text head) read order
    ∙ ap (option_map outcome_of)
    (first all sorted order e among (same_text head) (safe_from all e When refl is) (ap (stands (same_text head)) under ∙ itself head) (λ f h. under_with head e f under h))

-- ---- One that has lost is not the first

beaten_by : (all : List Entry) (e : Entry) → has_lost all e ≡ true → (f : Entry) × Contains all f × (beats e f ≡ true)
beaten_by all e lost = let one = Any-from_list_any (beats e) all lost in (one.1, (one.0, one.2, one.3), one.4)

same_stands : (holds : List ℕ → Bool) (head other : Option (List ℕ)) → same_head head other ≡ true → stands holds other ≡ true → stands holds head ≡ true
same_stands holds None other same here = refl
same_stands holds (Some head) None same here = absurd (false≢true same)
same_stands holds (Some head) (Some other) same here = ap holds ((bytes_decides head other).0 same) ∙ here

with_stands : (holds : List ℕ → Bool) (f e : Entry) → applies_with f e ≡ true → stands holds e.head ≡ true → stands holds f.head ≡ true
with_stands holds f e with here = which (or_cases (same_head f.head None) (same_head f.head e.head) with)
  where
    which : (same_head f.head None ≡ true) ⊎ (same_head f.head e.head ≡ true) → stands holds f.head ≡ true
    which (inl none) = same_stands holds f.head None none refl
    which (inr same) = same_stands holds f.head e.head same here

sets_named : (name : List ℕ) (f e : Entry) → sets_of f e ≡ true → (same_text e.decl.name name || is_all e) ≡ true → (same_text f.decl.name name || is_all f) ≡ true
sets_named name f e sets named = which (or_cases (same_text f.decl.name e.decl.name) (is_all f) sets) (or_cases (same_text e.decl.name name) (is_all e) named)
  where
    which : (same_text f.decl.name e.decl.name ≡ true) ⊎ (is_all f ≡ true) → (same_text e.decl.name name ≡ true) ⊎ (is_all e ≡ true) → (same_text f.decl.name name || is_all f) ≡ true
    which (inr all) n = or_right (same_text f.decl.name name) (is_all f) all
    which (inl same) (inl n) = or_left (same_text f.decl.name name) (is_all f) (ap (λ (x : List ℕ). same_text x name) ((bytes_decides f.decl.name e.decl.name).0 same) ∙ n)
    which (inl same) (inr all) = or_right (same_text f.decl.name name) (is_all f) (ap (λ (x : List ℕ). same_text x (codes "all")) ((bytes_decides f.decl.name e.decl.name).0 same) ∙ all)

pub lost_never : LostNeverWins
lost_never all sorted e name holds order is told =
    let lost : has_lost all e ≡ true = sym (lost_word (has_lost all e) (is_some e.head)) ∙ ap lost_of told in
    let other = beaten_by all e lost in
    let f : Entry = other.0 in
    let there : Contains all f = other.1 in
    let over = and_parts (outranks f e) (sets_of f e && applies_with f e) other.2 in
    let parts = and_parts (sets_of f e) (applies_with f e) over.1 in
    let here = (first_among (competes holds name) sorted e is).1 in
    let named = and_parts (same_text e.decl.name name || is_all e) (stands holds e.head) here in
    none_above (competes holds name) sorted e (descends_from sorted order.descending) is f (Contains-permutation all sorted f order.same there)
    (and_from (same_text f.decl.name name || is_all f) (stands holds f.head) (sets_named name f e parts.0 named.0) (with_stands holds f e parts.1 named.1)) over.0
