-- Beyond a recurrence's threshold, what a selector asks of a run repeats after its period.
use Rattle.std.proofs.Common.{◌≡◌, ℕ, zero, suc, ◌+◌, ◌-◌, ◌*◌, ◌/◌, ◌%◌, ◌<◌, ◌≤◌, ◌^◌, Bool, true, false, not, ◌&&◌, List, [], ◌∷◌, ℤ, pos, negsuc, ◌-ℤ◌, refl, sym, ap, ◌∙◌, arith, inl, inr}
use Rattle.std.specs.Prelude.{◌==◌, nat_lt, unsigned_abs, if◌then◌else◌}
use Rattle.std.proofs.lemmas.Bool.{cases_lt, ltb-true, ltb-false, eqb-true, eq-eqb, ne_eqb, false≢true}
use Rattle.std.proofs.lemmas.Int.{ints}
use Rattle.std.proofs.Math.Nat.{div-add-mod, mul-mod_left, mul-mod_right, mul-add-mod_self_left}
use Rattle.css_model.specs.declared.position.AnB.{AnB}
use Rattle.css_model.specs.declared.selector.Simple.{Simple}
use Rattle.css_model.specs.declared.selector.Test.{Test}
use Rattle.css_model.specs.declared.selector.Test.TheVariants.{Any, Kind, Id, Attr, Nth, NthLast, OnlyChild, Root, Empty, State}
use Rattle.css_model.specs.Documents.Document.{Element}
use Rattle.css_model.specs.Documents.FeatureParts.{FeatureParts}
use Rattle.css_model.specs.Documents.Features.{element_of}
use Rattle.css_model.specs.Documents.Matching.{is_multiple, is_nth}
use Rattle.cascade_laws.specs.Eval.Climbing.{child_among}
use Rattle.cascade_laws.specs.Eval.Repeating.{Repeats}
use Rattle.cascade_laws.specs.Eval.Surrounded.{chain_among, compound_among, simple_among, test_among}
use Rattle.line_match.specs.declared.recurrence.Recurrence.{Recurrence}
use Rattle.line_match.specs.Recurring.{recurrence_of, with_chain, with_compound, with_positions, with_step, with_test}
use Rattle.line_match.specs.Runs.{run_tests}

-- ---- Recurrences that grow

-- a period that what divides the other one divides too
abbrev Follows : (period longer : ℕ) → Type 0
Follows period longer = (longer < 4294967296 → (period < 4294967296) × ((a : ℕ) → 0 < a → period % a ≡ 0 → longer % a ≡ 0)) × (0 < period → 0 < longer)

abbrev Grows : Recurrence → Recurrence → Type 0
Grows r r' = (r.threshold ≤ r'.threshold) × Follows r.period r'.period

abbrev Covers : Recurrence → AnB → Type 0
Covers r x = (unsigned_abs x.b ≤ r.threshold) × (r.period < 4294967296 → 0 < unsigned_abs x.a → r.period % unsigned_abs x.a ≡ 0)

grows_not : (r : Recurrence) → Grows r r
grows_not r = (omega arith, ((λ h. (h, λ a some e. e)), λ h. h))

grows_on : (r r' r'' : Recurrence) → Grows r r' → Grows r' r'' → Grows r r''
grows_on r r' r'' (low, (divides, some)) (low', (divides', some')) =
    (omega arith, ((λ h. let (near, on) = divides' h in let (near', on') = divides near in (near', λ a positive e. on a positive (on' a positive e))), λ h. some' (some h)))

covers_on : (r r' : Recurrence) (x : AnB) → Grows r r' → Covers r x → Covers r' x
covers_on r r' x (low, (divides, some)) (near, whole) =
    (omega arith, λ h positive. let (before, on) = divides h in on (unsigned_abs x.a) positive (whole before positive))

-- ---- One step more

times_divides : (period size a : ℕ) → 0 < a → period % a ≡ 0 → (period * size) % a ≡ 0
times_divides period size a positive e =
    ap (λ (m : ℕ). (m * size) % a) (sym (div-add-mod period a) ∙ ap (λ (m : ℕ). a * (period / a) + m) e)
    ∙ ap (λ (m : ℕ). m % a) (by (period / a))
    ∙ mul-mod_right a (period / a * size)
  where
    by : (q : ℕ) → (a * q + 0) * size ≡ a * (q * size)
    by q = omega arith

product_some : (period size : ℕ) → 0 < period → 0 < size → 0 < period * size
product_some (suc period) (suc size) h k = omega arith
product_some zero size h k = absurd (omega arith)
product_some (suc period) zero h k = absurd (omega arith)

size_some : (size : ℕ) → (size == 0) ≡ false → 0 < size
size_some size e = elim (cases_lt 0 size) [ inl h ↦ h | inr h ↦ absurd (false≢true (sym e ∙ eq-eqb size 0 (omega arith))) ]

step_law : (period size : ℕ) → Follows period (with_step period size) × (with_step period size < 4294967296 → 0 < size → with_step period size % size ≡ 0)
step_law period size = by (size == 0) refl (period % size == 0) refl (nat_lt period (2 ^ 32)) refl
  where
    by : (b : Bool) → (size == 0) ≡ b → (c : Bool) → (period % size == 0) ≡ c → (d : Bool) → nat_lt period (2 ^ 32) ≡ d →
        Follows period (if b then period else (if c then period else (if d then period * size else period)))
        × ((if b then period else (if c then period else (if d then period * size else period))) < 4294967296 → 0 < size → (if b then period else (if c then period else (if d then period * size else period))) % size ≡ 0)
    by true e c f d g = (((λ h. (h, λ a some e. e)), λ h. h), λ h some. absurd (let z : size ≡ 0 = eqb-true size 0 e in omega arith))
    by false e true f d g = (((λ h. (h, λ a some e. e)), λ h. h), λ h some. eqb-true (period % size) 0 f)
    by false e false f true g =
        let near : period < 4294967296 = ltb-true period 4294967296 g in
        (((λ h. (near, λ a some e. times_divides period size a some e)), λ h. product_some period size h (size_some size e)), λ h some. mul-mod_left period size)
    by false e false f false g =
        let far : 4294967296 ≤ period = ltb-false period 4294967296 g in
        (((λ h. (h, λ a some e. e)), λ h. h), λ h some. absurd (omega arith))

-- ---- What a recurrence covers

abbrev CoversTest : Recurrence → Test → Type 0
CoversTest r (Nth x) = Covers r x
CoversTest r (NthLast x) = Covers r x
CoversTest r _ = Unit {0}

abbrev CoversCompound : Recurrence → List Simple → Type 0
CoversCompound r [] = Unit {0}
CoversCompound r (s ∷ simples) = CoversTest r s.test × CoversCompound r simples

abbrev CoversChain : Recurrence → List (List Simple) → Type 0
CoversChain r [] = Unit {0}
CoversChain r (c ∷ chain) = CoversCompound r c × CoversChain r chain

test_on : (r r' : Recurrence) (t : Test) → Grows r r' → CoversTest r t → CoversTest r' t
test_on r r' Any g h = tt
test_on r r' (Kind name) g h = tt
test_on r r' (Id name) g h = tt
test_on r r' (Attr test) g h = tt
test_on r r' (Nth x) g h = covers_on r r' x g h
test_on r r' (NthLast x) g h = covers_on r r' x g h
test_on r r' OnlyChild g h = tt
test_on r r' Root g h = tt
test_on r r' Empty g h = tt
test_on r r' (State flag) g h = tt

compound_on : (r r' : Recurrence) (simples : List Simple) → Grows r r' → CoversCompound r simples → CoversCompound r' simples
compound_on r r' [] g h = tt
compound_on r r' (s ∷ simples) g (h, hs) = (test_on r r' s.test g h, compound_on r r' simples g hs)

positions_law : (r : Recurrence) (x : AnB) → Grows r (with_positions r x) × Covers (with_positions r x) x
positions_law r x =
    let (follows, whole) = step_law r.period (unsigned_abs x.a) in
    ((omega arith, follows), (omega arith, whole))

test_law : (r : Recurrence) (t : Test) → Grows r (with_test r t) × CoversTest (with_test r t) t
test_law r Any = (grows_not r, tt)
test_law r (Kind name) = (grows_not r, tt)
test_law r (Id name) = (grows_not r, tt)
test_law r (Attr test) = (grows_not r, tt)
test_law r (Nth x) = positions_law r x
test_law r (NthLast x) = positions_law r x
test_law r OnlyChild = (grows_not r, tt)
test_law r Root = (grows_not r, tt)
test_law r Empty = (grows_not r, tt)
test_law r (State flag) = (grows_not r, tt)

compound_law : (r : Recurrence) (simples : List Simple) → Grows r (with_compound r simples) × CoversCompound (with_compound r simples) simples
compound_law r [] = (grows_not r, tt)
compound_law r (s ∷ simples) =
    let (grows, covers) = test_law r s.test in
    let (grows', covers') = compound_law (with_test r s.test) simples in (
      grows_on r (with_test r s.test) (with_compound (with_test r s.test) simples) grows grows',
      (test_on (with_test r s.test) (with_compound (with_test r s.test) simples) s.test grows' covers, covers'),
    )

chain_law : (r : Recurrence) (chain : List (List Simple)) → Grows r (with_chain r chain) × CoversChain (with_chain r chain) chain
chain_law r [] = (grows_not r, tt)
chain_law r (c ∷ chain) =
    let (grows, covers) = compound_law r c in
    let (grows', covers') = chain_law (with_compound r c) chain in (
      grows_on r (with_compound r c) (with_chain (with_compound r c) chain) grows grows',
      (compound_on (with_compound r c) (with_chain (with_compound r c) chain) c grows' covers, covers'),
    )

-- ---- Positions that repeat

multiple_repeats : (a : ℤ) (p d : ℕ) → (0 < unsigned_abs a → p % unsigned_abs a ≡ 0) → is_multiple a (pos (suc (p + d))) ≡ is_multiple a (pos (suc d))
multiple_repeats (pos zero) p d whole = refl
multiple_repeats (pos (suc s)) p d whole = ap (λ (m : ℕ). m == 0) (further s p d (whole (omega arith)))
  where
    further : (s p d : ℕ) → p % suc s ≡ 0 → suc (p + d) % suc s ≡ suc d % suc s
    further s p d e =
        ap (λ (m : ℕ). m % suc s) (let w : p ≡ suc s * (p / suc s) = sym (div-add-mod p (suc s)) ∙ ap (λ (m : ℕ). suc s * (p / suc s) + m) e ∙ omega arith in ap (λ (m : ℕ). suc (m + d)) w ∙ by (suc s * (p / suc s)))
        ∙ mul-add-mod_self_left (suc s) (p / suc s) (suc d)
      where
        by : (m : ℕ) → suc (m + d) ≡ m + suc d
        by m = omega arith
multiple_repeats (negsuc s) p d whole = refl

distance : (b : ℤ) (k : ℕ) → unsigned_abs b ≤ k → (d : ℕ) × ((p : ℕ) → pos (suc (p + k)) -ℤ b ≡ pos (suc (p + d)))
distance (pos m) k h = (k - m, λ p. omega (arith, ints))
distance (negsuc m) k h = (k + suc m, λ p. omega (arith, ints))

nth_repeats : (x : AnB) (p k : ℕ) → unsigned_abs x.b ≤ k → (0 < unsigned_abs x.a → p % unsigned_abs x.a ≡ 0) → is_nth x (suc (p + k)) ≡ is_nth x (suc k)
nth_repeats x p k near whole =
    let (d, is) = distance x.b k near in
    ap (is_multiple x.a) (is p) ∙ multiple_repeats x.a p d whole ∙ sym (ap (is_multiple x.a) (ap (λ (m : ℕ). pos (suc m) -ℤ x.b) (let z : k ≡ 0 + k = omega arith in z) ∙ is 0 ∙ ap (λ (m : ℕ). pos (suc m)) (let z : 0 + d ≡ d = omega arith in z)))

no_only : (p before behind : ℕ) → 0 < before → 0 < behind → (before == 0 && (p + behind) == 0) ≡ ((p + before) == 0 && behind == 0)
no_only p before behind h k =
    ap (λ b. b && (p + behind) == 0) (ne_eqb before 0 (omega arith))
    ∙ sym (ap (λ b. b && behind == 0) (ne_eqb (p + before) 0 (omega arith)))

test_repeats : (r : Recurrence) (e : Element) (has : Bool) (before behind : ℕ) → 0 < r.threshold → r.period < 4294967296 → r.threshold ≤ before → r.threshold ≤ behind → (t : Test) → CoversTest r t →
    test_among e (child_among has before (r.period + behind)) t ≡ test_among e (child_among has (r.period + before) behind) t
test_repeats r e has before behind some short low high Any h = refl
test_repeats r e has before behind some short low high (Kind name) h = refl
test_repeats r e has before behind some short low high (Id name) h = refl
test_repeats r e has before behind some short low high (Attr test) h = refl
test_repeats r e has before behind some short low high (Nth x) (near, whole) = sym (nth_repeats x r.period before (omega arith) (whole short))
test_repeats r e has before behind some short low high (NthLast x) (near, whole) = nth_repeats x r.period behind (omega arith) (whole short)
test_repeats r e has before behind some short low high OnlyChild h = no_only r.period before behind (omega arith) (omega arith)
test_repeats r e has before behind some short low high Root h = refl
test_repeats r e has before behind some short low high Empty h = refl
test_repeats r e has before behind some short low high (State flag) h = refl

compound_repeats : (r : Recurrence) (e : Element) (has : Bool) (before behind : ℕ) → 0 < r.threshold → r.period < 4294967296 → r.threshold ≤ before → r.threshold ≤ behind → (simples : List Simple) → CoversCompound r simples →
    compound_among e (child_among has before (r.period + behind)) simples ≡ compound_among e (child_among has (r.period + before) behind) simples
compound_repeats r e has before behind some short low high [] h = refl
compound_repeats r e has before behind some short low high (s ∷ simples) (h, hs) =
    ap (λ b. (if s.negated then not b else b) && compound_among e (child_among has before (r.period + behind)) simples) (test_repeats r e has before behind some short low high s.test h)
    ∙ ap (λ b. simple_among e (child_among has (r.period + before) behind) s && b) (compound_repeats r e has before behind some short low high simples hs)

chain_repeats : (r : Recurrence) (e : Element) (has : Bool) (before behind : ℕ) → 0 < r.threshold → r.period < 4294967296 → r.threshold ≤ before → r.threshold ≤ behind → (chain : List (List Simple)) → CoversChain r chain →
    chain_among chain e (child_among has before (r.period + behind)) ≡ chain_among chain e (child_among has (r.period + before) behind)
chain_repeats r e has before behind some short low high [] h = refl
chain_repeats r e has before behind some short low high (c ∷ chain) (h, hs) =
    ap (λ b. b ∷ chain_among chain e (child_among has before (r.period + behind))) (compound_repeats r e has before behind some short low high c h)
    ∙ ap (λ bs. compound_among e (child_among has (r.period + before) behind) c ∷ bs) (chain_repeats r e has before behind some short low high chain hs)

-- ---- The recurrence of a chain

pub recurrence_moves : (chain : List (List Simple)) → 0 < (recurrence_of chain).period
recurrence_moves chain = let ((low, (divides, some)), covers) = chain_law (record { threshold = 1; period = 1 }) chain in some (omega arith)

pub recurrence_repeats : (chain : List (List Simple)) → (recurrence_of chain).period < 4294967296 → (element : FeatureParts) (has : Bool) →
    Repeats (run_tests chain element has) (recurrence_of chain).threshold (recurrence_of chain).period
recurrence_repeats chain short element has before behind low high =
    let ((least, follows), covers) = chain_law (record { threshold = 1; period = 1 }) chain in
    chain_repeats (recurrence_of chain) (element_of element) has before behind (omega arith) short low high chain covers
