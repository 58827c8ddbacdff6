-- Tests of positions that must not hold, one after the other.
use Rattle.std.proofs.Common.{Bool, List, Option, [], ap, append-nil, false, get_or, length, negsuc, pos, refl, sym, take, true, ℕ, ℤ, ◌++◌, ◌+◌, ◌-◌, ◌<◌, ◌∙◌, ◌∷◌, ◌≡◌}
use Rattle.std.proofs.lemmas.Bool.{false≢true}
use Rattle.std.proofs.lemmas.List.{append_assoc, take_more}
use Rattle.std.proofs.lemmas.List.Elements.{filter_map-append}
use Rattle.std.specs.List.{AllByRecursion, cons_option, filter_map}
use Rattle.std.specs.Prelude.{None, Some, if◌then◌else◌, unsigned_abs}
use Rattle.css_model.specs.declared.position.AnB.{AnB}
use Rattle.css_model.specs.declared.selector.Simple.{Simple}
use Rattle.css_model.specs.declared.selector.Test.{Test}
use Rattle.css_model.specs.declared.selector.Test.TheVariants.{Any, Attr, Empty, Id, Kind, Nth, NthLast, OnlyChild, Root, State}
use Rattle.formula_laws.specs.Asked.{position_rest}
use Rattle.formula_laws.specs.Refused.{needing, needing_rest, refused_test, test_needs}
use Rattle.formula_laws.specs.declared.count.Count.{Count}
use Rattle.formula_laws.specs.declared.count.Count.TheVariants.{Before, Behind}
use Rattle.formula_laws.specs.declared.refused.Refused.{Refused}
use Rattle.hint_clauses.proofs.Briefly.{ShortIfThere, position_short}
use Rattle.hint_clauses.specs.Known.{AreBrief}
use Rattle.remainders.specs.Sizes.{IsShort}
use Rattle.remainders.specs.declared.remainder.Remainder.{Remainder}
use Rattle.selector_laws.specs.Limits.{KeepsTest}
use Rattle.sibling_clauses.specs.Signs.{is_negative}

-- what a position needs, by the signs of its step and offset
pub needing_none : (a b : ℤ) (r : Remainder) → is_negative a ≡ true → is_negative b ≡ true → None ≡ needing a b r
needing_none (pos s) b r e h = absurd (false≢true e)
needing_none (negsuc s) (pos k) r e h = absurd (false≢true h)
needing_none (negsuc s) (negsuc k) r e h = refl

pub needing_falls : (a b : ℤ) (r : Remainder) (offset : ℕ) → is_negative a ≡ true → is_negative b ≡ false → offset ≡ unsigned_abs b → Some (record { rest = r; rises = false; bound = offset }) ≡ needing a b r
needing_falls (pos s) b r offset e h n = absurd (false≢true e)
needing_falls (negsuc s) (pos k) r offset e h n = ap (λ (o : ℕ). let t : Refused = record { rest = r; rises = false; bound = o } in Some t) n
needing_falls (negsuc s) (negsuc k) r offset e h n = absurd (false≢true (sym h))

pub needing_back : (a b : ℤ) (r : Remainder) → is_negative a ≡ false → is_negative b ≡ true → Some (record { rest = r; rises = true; bound = 0 }) ≡ needing a b r
needing_back (pos s) (pos k) r e h = absurd (false≢true h)
needing_back (pos s) (negsuc k) r e h = refl
needing_back (negsuc s) b r e h = absurd (false≢true (sym e))

pub needing_rises : (a b : ℤ) (r : Remainder) (bound : ℕ) → is_negative a ≡ false → is_negative b ≡ false → bound ≡ unsigned_abs b - 1 → Some (record { rest = r; rises = true; bound = bound }) ≡ needing a b r
needing_rises (pos s) (pos k) r bound e h n = ap (λ (o : ℕ). let t : Refused = record { rest = r; rises = true; bound = o } in Some t) n
needing_rises (pos s) (negsuc k) r bound e h n = absurd (false≢true (sym h))
needing_rises (negsuc s) b r bound e h n = absurd (false≢true (sym e))

pub ruleset needing_reads = (needing_none, needing_falls, needing_back, needing_rises)

-- one whose step is 2 or more
pub rest_some : (x : AnB) (r : Remainder) (o : Option Remainder) (found : Option Refused) → o ≡ Some r → found ≡ needing x.a x.b r → found ≡ needing_rest x o
rest_some x r o found is e = e ∙ sym (ap (needing_rest x) is)

pub rest_none : (x : AnB) (o : Option Remainder) → o ≡ None → None ≡ needing_rest x o
rest_none x o is = sym (ap (needing_rest x) is)

pub ruleset rest_reads = (rest_some, rest_none)

-- among others
pub refused_more : (count : Count) (s : Simple) (t : Refused) (old new : List Refused) → refused_test count s ≡ Some t → new ≡ old ++ t ∷ [] → new ≡ old ++ cons_option (refused_test count s) []
refused_more count s t old new is e = e ∙ sym (ap (λ o. old ++ cons_option o []) is)

pub refused_nothing : (count : Count) (s : Simple) (old : List Refused) → refused_test count s ≡ None → old ≡ old ++ cons_option (refused_test count s) []
refused_nothing count s old is = sym (ap (λ o. old ++ cons_option o []) is ∙ append-nil old)

pub ruleset refused_added = (refused_more, refused_nothing)

-- one simple selector more
pub one_refused_more : (front : List Refused) (count : Count) (simples : List Simple) (i : ℕ) (s : Simple) → i < length simples → s ≡ get_or simples i s →
    front ++ filter_map (refused_test count) (take (i + 1) simples) ≡ (front ++ filter_map (refused_test count) (take i simples)) ++ cons_option (refused_test count s) []
one_refused_more front count simples i s below is =
    ap (λ (xs : List Simple). front ++ filter_map (refused_test count) xs) (take_more simples i s below)
    ∙ ap (λ (xs : List Refused). front ++ xs) (filter_map-append (refused_test count) (take i simples) (get_or simples i s ∷ []))
    ∙ sym (append_assoc front (filter_map (refused_test count) (take i simples)) (filter_map (refused_test count) (get_or simples i s ∷ [])))
    ∙ ap (λ (t : Simple). (front ++ filter_map (refused_test count) (take i simples)) ++ cons_option (refused_test count t) []) (sym is)

-- their remainders are short
abbrev BriefIfThere : Option Refused → Type 0
BriefIfThere None = Unit {0}
BriefIfThere (Some t) = IsShort t.rest

needing_brief : (a b : ℤ) (r : Remainder) → IsShort r → BriefIfThere (needing a b r)
needing_brief (pos s) (pos k) r h = h
needing_brief (pos s) (negsuc k) r h = h
needing_brief (negsuc s) (pos k) r h = h
needing_brief (negsuc s) (negsuc k) r h = tt

rest_brief : (x : AnB) (o : Option Remainder) → ShortIfThere o → BriefIfThere (needing_rest x o)
rest_brief x None h = tt
rest_brief x (Some r) h = needing_brief x.a x.b r h

needs_brief : (count : Count) (t : Test) → KeepsTest t → BriefIfThere (test_needs count t)
needs_brief Before (Nth x) h = rest_brief x (position_rest x) (position_short x h)
needs_brief Before (NthLast x) h = tt
needs_brief Before OnlyChild h = tt
needs_brief Before Root h = tt
needs_brief Before Any h = tt
needs_brief Before (Kind v) h = tt
needs_brief Before (Id v) h = tt
needs_brief Before (Attr v) h = tt
needs_brief Before Empty h = tt
needs_brief Before (State v) h = tt
needs_brief Behind (Nth x) h = tt
needs_brief Behind (NthLast x) h = rest_brief x (position_rest x) (position_short x h)
needs_brief Behind OnlyChild h = tt
needs_brief Behind Root h = tt
needs_brief Behind Any h = tt
needs_brief Behind (Kind v) h = tt
needs_brief Behind (Id v) h = tt
needs_brief Behind (Attr v) h = tt
needs_brief Behind Empty h = tt
needs_brief Behind (State v) h = tt

refused_brief : (count : Count) (s : Simple) → KeepsTest s.test → BriefIfThere (refused_test count s)
refused_brief count s h = by s.negated
  where
    by : (b : Bool) → BriefIfThere (if b then test_needs count s.test else None)
    by true = needs_brief count s.test h
    by false = tt

pub tests_brief : (count : Count) (ss : List Simple) → AllByRecursion (λ s. KeepsTest s.test) ss → AreBrief (filter_map (refused_test count) ss)
tests_brief count [] h = tt
tests_brief count (s ∷ ss) h = both (refused_test count s) (filter_map (refused_test count) ss) (refused_brief count s h.0) (tests_brief count ss h.1)
  where
    both : (o : Option Refused) (ts : List Refused) → BriefIfThere o → AreBrief ts → AreBrief (cons_option o ts)
    both None ts brief more = more
    both (Some t) ts brief more = (brief, more)
