-- What is asked, as it is gathered.
use Rattle.std.proofs.Common.{List, Option, [], ap, append-nil, arith, false, get_or, length, mod-lt, negsuc, pos, refl, suc, sym, take, true, ℕ, ℤ, ◌%◌, ◌*◌, ◌++◌, ◌+◌, ◌-◌, ◌<◌, ◌∙◌, ◌∷◌, ◌≡◌, ◌≤◌}
use Rattle.std.proofs.lemmas.Bool.{false≢true, le-leb, lt-leb}
use Rattle.std.proofs.lemmas.List.{append_assoc, take_more}
use Rattle.std.proofs.lemmas.List.Elements.{filter_map-append}
use Rattle.std.specs.List.{cons_option, filter_map}
use Rattle.std.specs.Option.{option_map}
use Rattle.std.specs.Prelude.{None, Some, if◌then◌else◌, unsigned_abs}
use Rattle.css_model.specs.declared.position.AnB.{AnB}
use Rattle.css_model.specs.declared.selector.Combinator.{Combinator}
use Rattle.css_model.specs.declared.selector.Simple.{Simple}
use Rattle.formula_laws.specs.Asked.{are_joined, aside, asked_rest, compound_rests, least_rest, position_rest, test_rest}
use Rattle.formula_laws.specs.Path.{only_if}
use Rattle.formula_laws.specs.declared.count.Count.{Count}
use Rattle.grid_laws.specs.Solved.{nth_compound}
use Rattle.remainders.specs.declared.remainder.Remainder.{Remainder}
use Rattle.sibling_clauses.specs.Signs.{is_negative}

-- the offset by its sign and its size
pub least_up : (step : ℕ) (b : ℤ) → is_negative b ≡ false → least_rest step b ≡ (unsigned_abs b + (step - 1)) % step
least_up step (pos k) e = refl
least_up step (negsuc k) e = absurd (false≢true (sym e))

pub least_down : (step : ℕ) (b : ℤ) → is_negative b ≡ true → least_rest step b ≡ ((unsigned_abs b + 1) * (step - 1)) % step
least_down step (pos k) e = absurd (false≢true e)
least_down step (negsuc k) e = ap (λ (t : ℕ). (t * (step - 1)) % step) (let q : k + 2 ≡ suc k + 1 = omega arith in q)

pub rest_less : (n step : ℕ) → 0 < step → n % step < step
rest_less n step some = mod-lt n some

pub ruleset least_reads = (least_up, least_down, rest_less)

-- a position by its step
pub position_some : (x : AnB) (step rest : ℕ) → step ≡ unsigned_abs x.a → 2 ≤ step → rest ≡ least_rest step x.b → Some (record { step = step; rest = rest }) ≡ position_rest x
position_some x step rest es some er =
    let made : ℕ → ℕ → Option Remainder = λ s r. Some (record { step = s; rest = r }) in
    ap (made step) er ∙ ap (λ (s : ℕ). made s (least_rest s x.b)) es
    ∙ sym (ap (λ b. if b then made (unsigned_abs x.a) (least_rest (unsigned_abs x.a) x.b) else None) (le-leb 2 (unsigned_abs x.a) (omega arith)))

pub position_none : (x : AnB) (step : ℕ) → step ≡ unsigned_abs x.a → step < 2 → None ≡ position_rest x
position_none x step es less =
    let made : ℕ → ℕ → Option Remainder = λ s r. Some (record { step = s; rest = r }) in
    sym (ap (λ b. if b then made (unsigned_abs x.a) (least_rest (unsigned_abs x.a) x.b) else None) (lt-leb 2 (unsigned_abs x.a) (omega arith)))

pub ruleset position_reads = (position_some, position_none)

-- a simple selector by its test
pub asked_negated : (count : Count) (right : ℕ) (s : Simple) → s.negated ≡ true → None ≡ asked_rest count right s
asked_negated count right s e = sym (ap (λ b. option_map (aside count right 0) (if b then None else test_rest count s.test)) e)

pub asked_some : (count : Count) (right : ℕ) (s : Simple) (r moved : Remainder) → s.negated ≡ false → test_rest count s.test ≡ Some r → moved ≡ aside count right 0 r → Some moved ≡ asked_rest count right s
asked_some count right s r moved e is em =
    ap Some em ∙ sym (ap (λ b. option_map (aside count right 0) (if b then None else test_rest count s.test)) e ∙ ap (option_map (aside count right 0)) is)

pub asked_none : (count : Count) (right : ℕ) (s : Simple) → s.negated ≡ false → test_rest count s.test ≡ None → None ≡ asked_rest count right s
asked_none count right s e is =
    sym (ap (λ b. option_map (aside count right 0) (if b then None else test_rest count s.test)) e ∙ ap (option_map (aside count right 0)) is)

pub ruleset asked_reads = (asked_negated, asked_some, asked_none)

-- what it asks, among others
pub asked_more : (count : Count) (right : ℕ) (s : Simple) (r : Remainder) (old new : List Remainder) → asked_rest count right s ≡ Some r → new ≡ old ++ r ∷ [] → new ≡ old ++ cons_option (asked_rest count right s) []
asked_more count right s r old new is e = e ∙ sym (ap (λ o. old ++ cons_option o []) is)

pub asked_nothing : (count : Count) (right : ℕ) (s : Simple) (old : List Remainder) → asked_rest count right s ≡ None → old ≡ old ++ cons_option (asked_rest count right s) []
asked_nothing count right s old is = sym (ap (λ o. old ++ cons_option o []) is ∙ append-nil old)

pub ruleset asked_added = (asked_more, asked_nothing)

abbrev gathered : Count → ℕ → List Simple → List Remainder
gathered count right simples = filter_map (asked_rest count right) simples

-- one simple selector more
pub one_more : (front : List Remainder) (count : Count) (right : ℕ) (simples : List Simple) (i : ℕ) (s : Simple) → i < length simples → s ≡ get_or simples i s →
    front ++ filter_map (asked_rest count right) (take (i + 1) simples) ≡ (front ++ filter_map (asked_rest count right) (take i simples)) ++ cons_option (asked_rest count right s) []
one_more front count right simples i s below is =
    ap (λ (xs : List Simple). front ++ gathered count right xs) (take_more simples i s below)
    ∙ ap (λ (xs : List Remainder). front ++ xs) (filter_map-append (asked_rest count right) (take i simples) (get_or simples i s ∷ []))
    ∙ sym (append_assoc front (gathered count right (take i simples)) (gathered count right (get_or simples i s ∷ [])))
    ∙ ap (λ (t : Simple). (front ++ gathered count right (take i simples)) ++ cons_option (asked_rest count right t) []) (sym is)

-- one compound more
pub compound_here : (count : Count) (links : List Combinator) (chain : List (List Simple)) (p q right : ℕ) (simples : List Simple) (old new : List Remainder) → are_joined links p q ≡ true → right ≡ q - p → simples ≡ nth_compound chain q →
    new ≡ old ++ filter_map (asked_rest count right) simples → new ≡ old ++ compound_rests count links chain p q
compound_here count links chain p q right simples old new joined at is e =
    e ∙ ap (λ (r : ℕ). old ++ filter_map (asked_rest count r) simples) at ∙ ap (λ (ss : List Simple). old ++ filter_map (asked_rest count (q - p)) ss) is
    ∙ sym (ap (λ b. old ++ only_if b (filter_map (asked_rest count (q - p)) (nth_compound chain q))) joined)

pub compound_out : (count : Count) (links : List Combinator) (chain : List (List Simple)) (p q : ℕ) (old : List Remainder) → are_joined links p q ≡ false → old ≡ old ++ compound_rests count links chain p q
compound_out count links chain p q old none = sym (ap (λ b. old ++ only_if b (filter_map (asked_rest count (q - p)) (nth_compound chain q))) none ∙ append-nil old)
