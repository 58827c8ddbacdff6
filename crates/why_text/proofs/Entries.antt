-- What is told by entries, and what is asked for them.
use Rattle.std.proofs.Common.{◌≡◌, ◌⊎◌, ℕ, zero, suc, ◌+◌, ◌<◌, List, [], ◌∷◌, ◌++◌, length, get_or, take, drop, Some, None, refl, sym, ap, ◌∙◌, subst, inl, inr, append_assoc, arith}
use Rattle.std.specs.List.{AllByRecursion, Contains}
use Rattle.std.proofs.lemmas.List.{append-nil, drop_more, take-append-drop}
use Rattle.std.proofs.lemmas.List.Elements.{All-append, All-contains, All-nil, All-weaker, Contains-append_left, Contains-get_or}
use Rattle.std.proofs.Math.Seq.{take-suc}
use Rattle.list_facts.proofs.Members.{Contains-here, Contains-nil, Contains-cons_cases}
use Rattle.css_model.specs.declared.sheet.Item.{Item}
use Rattle.css_model.specs.declared.sheet.SelItem.{SelItem}
use Rattle.css_model.specs.Documents.SelectorParts.{SelectorParts}
use Rattle.overlap.specs.declared.answer.Answer.{Answer}
use Rattle.overlap.specs.declared.answer.Answer.TheVariants.{Apart, Meet, Outside, Spent}
use Rattle.overlap.specs.PairsParts.{Answered, PairsParts}
use Rattle.overlap.specs.Remembered.{IsAnswered, IsHeld, IsOfOther, IsUnknown}
use Rattle.overlap.specs.Remembered as remembered
use Rattle.sheet_order.specs.declared.places.Other.{Other}
use Rattle.sheet_order.specs.declared.places.Other.TheVariants.{Pair, Kept}
use Rattle.sheet_order.specs.declared.places.PairPlace.{PairPlace}
use Rattle.sheet_order.specs.declared.places.Reversed.{Reversed}
use Rattle.why_text.specs.declared.explaining.Explained.{Explained}
use Rattle.why_text.specs.declared.explaining.Explained.TheVariants as words
use Rattle.why_text.specs.Explaining.{told_by, TellsOther, Tells, TellNothing, FirstTells, EntriesTell, AreSelectors, IsOfEntry, AsksAmong}

-- ---- What is asked

-- what is held is not unknown
pub not_unknown : (answers : List Answered) (x y : SelectorParts) → IsHeld answers x y → IsUnknown answers x y → ⊥
not_unknown answers x y held none = All-contains (IsOfOther x y) answers (record { left = x; right = y; answer = held.0 }) none held.1 (refl, refl)

-- an answer is for one of these entries
abbrev IsAmong : List Item → List Reversed → Answered → Type 0
IsAmong items entries e = (r : Reversed) × Contains entries r × IsOfEntry items r e

pub asks_nothing : (items : List Item) (entries : List Reversed) (p : PairsParts) → AsksAmong items entries p p
asks_nothing items entries p = record { budget = refl; more = []; is = sym (append-nil p.answers); only = All-nil (IsAmong items entries) }

-- the selectors of an entry are asked for
pub asks_entry : (items : List Item) (p q : PairsParts) (r : Reversed) (other : PairPlace) (s t : SelItem) → r.other ≡ Pair other → AreSelectors items r.moved other s t →
    remembered.Asks p q s.selector t.selector → AsksAmong items (r ∷ []) p q
asks_entry items p q r other s t is there asks = record {
  budget = asks.budget;
  more = asks.more;
  is = asks.is;
  only = All-weaker (λ e. (e.left ≡ s.selector) × (e.right ≡ t.selector)) (IsAmong items (r ∷ []))
      (λ e h. (r, Contains-here r [], record { other = other; s = s; t = t; other_is = is; there = there; left = h.0; right = h.1 })) asks.more asks.only;
}

among_one : (items : List Item) (entries : List Reversed) (r : Reversed) (e : Answered) → Contains entries r → IsAmong items (r ∷ []) e → IsAmong items entries e
among_one items entries r e there w = (r, there, which (Contains-cons_cases r [] w.0 w.1))
  where
    which : (r ≡ w.0) ⊎ Contains [] w.0 → IsOfEntry items r e
    which (inl same) = subst (λ (z : Reversed). IsOfEntry items z e) (sym same) w.2
    which (inr none) = absurd (Contains-nil w.0 none)

-- and then those of one more
pub asks_on : (items : List Item) (entries : List Reversed) (p q s : PairsParts) (r : Reversed) → Contains entries r → AsksAmong items entries p q → AsksAmong items (r ∷ []) q s → AsksAmong items entries p s
asks_on items entries p q s r there f g = record {
  budget = g.budget ∙ f.budget;
  more = f.more ++ g.more;
  is = g.is ∙ ap (λ (answers : List Answered). answers ++ g.more) f.is ∙ append_assoc p.answers f.more g.more;
  only = All-append (IsAmong items entries) f.more g.more f.only (All-weaker (IsAmong items (r ∷ [])) (IsAmong items entries) (λ e w. among_one items entries r e there w) g.more g.only);
}

-- ---- An entry that is read by its number

abbrev nowhere : PairPlace
nowhere = record { item = 0; sel = 0; decl = 0 }

-- what stands for an entry behind the end
abbrev pub no_entry : Reversed
no_entry = record { moved = nowhere; other = Pair nowhere }

read_same : (entries : List Reversed) (i : ℕ) (d e : Reversed) → i < length entries → get_or entries i d ≡ get_or entries i e
read_same [] i d e below = absurd (omega arith)
read_same (r ∷ entries) zero d e below = refl
read_same (r ∷ entries) (suc i) d e below = read_same entries i d e (omega arith)

-- what holds of all holds of it
pub of_read : (P : Reversed → Type 0) (entries : List Reversed) (i : ℕ) (d : Reversed) → i < length entries → AllByRecursion P entries → P (get_or entries i d)
of_read P [] i d below all = absurd (omega arith)
of_read P (r ∷ entries) zero d below all = all.0
of_read P (r ∷ entries) (suc i) d below all = of_read P entries i d (omega arith) all.1

-- ---- What is told, and goes on to be told

module _ (items : List Item) (p q : PairsParts) (more : List Answered) (is : q.answers ≡ p.answers ++ more) where
  held_on : (x y : SelectorParts) (answer : Answer) → IsAnswered p.answers x y answer → IsAnswered q.answers x y answer
  held_on x y answer h = subst (λ (answers : List Answered). IsAnswered answers x y answer) (sym is) (Contains-append_left p.answers more (record { left = x; right = y; answer = answer }) h)

  nothing_other : (m : PairPlace) (o : Other) → TellsOther p.answers items m o None → TellsOther q.answers items m o None
  nothing_other m (Pair other) h = record { moved = h.moved; other = h.other; answer = h.answer; there = h.there; held = held_on h.moved.selector h.other.selector h.answer h.held; tells = h.tells }
  nothing_other m (Kept n) h = h

  nothing_on : (entries : List Reversed) → TellNothing p.answers items entries → TellNothing q.answers items entries
  nothing_on [] h = tt
  nothing_on (r ∷ entries) h = (nothing_other r.moved r.other h.0, nothing_on entries h.1)

nothing_append : (answers : List Answered) (items : List Item) (entries : List Reversed) (r : Reversed) → TellNothing answers items entries → Tells answers items r None → TellNothing answers items (entries ++ r ∷ [])
nothing_append answers items [] r h g = (g, tt)
nothing_append answers items (s ∷ entries) r h g = (h.0, nothing_append answers items entries r h.1 g)

-- nothing is told of one more entry
one_more_at : (items : List Item) (p q : PairsParts) (entries : List Reversed) (i : ℕ) (r : Reversed) → i < length entries → r ≡ get_or entries i r →
    TellNothing p.answers items (take i entries) → AsksAmong items (r ∷ []) p q → Tells q.answers items r None → TellNothing q.answers items (take (i + 1) entries)
one_more_at items p q entries i r below at h asks g =
    let next : suc i ≡ i + 1 = omega arith in
    let all : take i entries ++ r ∷ [] ≡ take (i + 1) entries = ap (λ (x : Reversed). take i entries ++ x ∷ []) at ∙ sym (take-suc entries i r below) ∙ ap (λ (n : ℕ). take n entries) next in
    subst (λ (rs : List Reversed). TellNothing q.answers items rs) all (nothing_append q.answers items (take i entries) r (nothing_on items p q asks.more asks.is (take i entries) h) g)

-- no entry tells that the move is free
never_free : (answers : List Answered) (items : List Item) (r : Reversed) → Tells answers items r (Some words.Free) → ⊥
never_free answers items r h = of_other r.other h
  where
    of_answer : (q : PairPlace) (answer : Answer) → told_by r.moved q answer ≡ Some words.Free → ⊥
    of_answer q Apart is = let bad = is in cc
    of_answer q (Meet e) is = let bad = is in cc
    of_answer q (Outside reason number) is = let bad = is in cc
    of_answer q (Spent ledger) is = let bad = is in cc

    of_other : (o : Other) → TellsOther answers items r.moved o (Some words.Free) → ⊥
    of_other (Pair q) h = of_answer q h.answer h.tells
    of_other (Kept n) h = let bad = h in cc

tell_if : (answers : List Answered) (items : List Item) (entries : List Reversed) (x : Explained) → ((x ≡ words.Free) → ⊥) → FirstTells answers items entries x → EntriesTell answers items entries x
tell_if answers items entries words.Free other h = absurd (other refl)
tell_if answers items entries (words.KeptItem n) other h = h
tell_if answers items entries (words.Blocked p q e) other h = h
tell_if answers items entries (words.Outside reason) other h = h
tell_if answers items entries words.Spent other h = h

-- the first entry that tells something
first_tells_at : (items : List Item) (p q : PairsParts) (entries : List Reversed) (i : ℕ) (r : Reversed) (x : Explained) → i < length entries → r ≡ get_or entries i r →
    TellNothing p.answers items (take i entries) → AsksAmong items (r ∷ []) p q → Tells q.answers items r (Some x) → EntriesTell q.answers items entries x
first_tells_at items p q entries i r x below at nothing asks tells =
    tell_if q.answers items entries x (λ e. never_free q.answers items r (subst (λ (z : Explained). Tells q.answers items r (Some z)) e tells)) (record {
      before = take i entries;
      entry = r;
      behind = drop (i + 1) entries;
      parts = sym (take-append-drop i entries) ∙ ap (λ rs. take i entries ++ rs) (drop_more entries i r below ∙ ap (λ (z : Reversed). z ∷ drop (i + 1) entries) (sym at));
      nothing = nothing_on items p q asks.more asks.is (take i entries) nothing;
      tells = tells;
    })

-- ---- One entry after the other

module _ (items : List Item) (start p q : PairsParts) (entries : List Reversed) (i : ℕ) (below : i < length entries) where
  abbrev one : Reversed
  one = get_or entries i no_entry

  pub asks_next : AsksAmong items entries start p → AsksAmong items (one ∷ []) p q → AsksAmong items entries start q
  asks_next f g = asks_on items entries start p q one (Contains-get_or entries i no_entry below) f g

  pub one_more : TellNothing p.answers items (take i entries) → AsksAmong items (one ∷ []) p q → Tells q.answers items one None → TellNothing q.answers items (take (i + 1) entries)
  one_more nothing asks tells = one_more_at items p q entries i one below (read_same entries i no_entry one below) nothing asks tells

  pub first_tells : (x : Explained) → TellNothing p.answers items (take i entries) → AsksAmong items (one ∷ []) p q → Tells q.answers items one (Some x) → EntriesTell q.answers items entries x
  first_tells x nothing asks tells = first_tells_at items p q entries i one x below (read_same entries i no_entry one below) nothing asks tells
