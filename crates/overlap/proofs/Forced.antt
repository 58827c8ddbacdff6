-- Compounds that have to hold of one element. The combinators let them share a slot; if no element passes both, the
-- selectors do not meet.
use Rattle.std.proofs.Common.{◌≡◌, ℕ, zero, suc, ◌+◌, ◌≤◌, ◌<◌, Bool, true, false, List, [], ◌∷◌, length, Some, None, refl, sym, ap, subst, ◌∙◌, arith}
use Rattle.std.proofs.lemmas.Bool.{false≢true}
use Rattle.std.proofs.lemmas.Option.{slice_get_within}
use Rattle.std.specs.Prelude.{IsTrue, not, slice_get}
use Rattle.clause_encode.specs.Fits.{is_fit}
use Rattle.clause_encode.specs.Laws.{TablesAreReady}
use Rattle.compound_fit.specs.Table.{IsTable}
use Rattle.compound_fit.specs.TableParts.{TableParts}
use Rattle.css_model.specs.Cascade.Order.{Meet}
use Rattle.css_model.specs.declared.selector.Combinator.{Combinator}
use Rattle.css_model.specs.declared.selector.Combinator.TheVariants.{Child, Next}
use Rattle.css_model.specs.Documents.SelectorParts.{SelectorParts}
use Rattle.formula_laws.specs.Path.{both_fit, same_bool}
use Rattle.grid_laws.specs.Grid.{goes_up, goes_up_at, together}
use Rattle.selector_laws.specs.Limits.{KeepsLimits}
use Rattle.shape_laws.specs.Forced.{AreOfOne, ForcedCompoundsSuit, GoTogether, ReachesParent, parents, siblings}

-- ---- They are in the chains

reach_inside : (links : List Combinator) (i n : ℕ) → ReachesParent links i n → i + n < length links
reach_inside links i zero at = let w = slice_get_within links i Child at in omega (arith, w)
reach_inside links i (suc n) (_, rest) = let w = reach_inside links (suc i) n rest in omega (arith, w)

next_inside : (left right : List Combinator) (i j k l : ℕ) → GoTogether left right i j k l → (k ≤ length left) × (l ≤ length right)
next_inside left right i j k l (siblings at at' e f) =
    let w = slice_get_within left i Next at in
    let v = slice_get_within right j Next at' in
    (omega (arith, w, e), omega (arith, v, f))
next_inside left right i j k l (parents m n up up' e f) =
    let w = reach_inside left i m up in
    let v = reach_inside right j n up' in
    (omega (arith, w, e), omega (arith, v, f))

pub of_one_inside : (left right : List Combinator) (moves i j : ℕ) → AreOfOne left right moves i j → (i ≤ length left) × (j ≤ length right)
of_one_inside left right zero i j (e, f) = (omega (arith, e), omega (arith, f))
of_one_inside left right (suc moves) k l (i, j, o, go) = next_inside left right i j k l go

-- ---- The combinators allow them to share a slot

some_same : {X : Type 0} {a b : X} → Some a ≡ Some b → a ≡ b
some_same e = cc

up_after : (links : List Combinator) (i : ℕ) (link : Combinator) → slice_get links i ≡ Some link → goes_up_at links (suc i) ≡ goes_up link
up_after [] i link at = absurd (let n : None ≡ Some link = at in cc)
up_after (l ∷ links) zero link at = ap goes_up (some_same at)
up_after (l ∷ links) (suc i) link at = up_after links i link at

up_above : (links : List Combinator) (i n : ℕ) → ReachesParent links i n → goes_up_at links (i + suc n) ≡ true
up_above links i zero at = ap (goes_up_at links) (let e : i + suc zero ≡ suc i = omega arith in e) ∙ up_after links i Child at
up_above links i (suc n) (_, rest) = ap (goes_up_at links) (let e : i + suc (suc n) ≡ suc i + suc n = omega arith in e) ∙ up_above links (suc i) n rest

same_self : (b : Bool) → same_bool b b ≡ true
same_self true = refl
same_self false = refl

fit_if : (left right : List Combinator) (k l i j : ℕ) (up : Bool) → k ≡ suc i → l ≡ suc j → goes_up_at left k ≡ up → goes_up_at right l ≡ up → both_fit left right k l ≡ true
fit_if left right zero l i j up e f a b = absurd (omega (arith, e))
fit_if left right (suc k) zero i j up e f a b = absurd (omega (arith, f))
fit_if left right (suc k) (suc l) i j up e f a b = ap (λ (q : Bool). same_bool q (goes_up_at right (suc l))) a ∙ ap (same_bool up) b ∙ same_self up

next_fit : (left right : List Combinator) (i j k l : ℕ) → GoTogether left right i j k l → both_fit left right k l ≡ true
next_fit left right i j k l (siblings at at' e f) =
    fit_if left right k l i j false e f (ap (goes_up_at left) e ∙ up_after left i Next at) (ap (goes_up_at right) f ∙ up_after right j Next at')
next_fit left right i j k l (parents m n up up' e f) =
    fit_if left right k l (i + m) (j + n) true (omega (arith, e)) (omega (arith, f)) (ap (goes_up_at left) e ∙ up_above left i m up) (ap (goes_up_at right) f ∙ up_above right j n up')

of_one_fit : (left right : List Combinator) (moves i j : ℕ) → AreOfOne left right moves i j → both_fit left right i j ≡ true
of_one_fit left right zero i j (e, f) = ap (λ (k : ℕ). both_fit left right k j) e ∙ ap (both_fit left right zero) f
of_one_fit left right (suc moves) k l (i, j, o, go) = next_fit left right i j k l go

-- ---- What follows

not_true : (b : Bool) → IsTrue (not b) → b ≡ true → ⊥
not_true b refused fits = false≢true (sym (ap not fits) ∙ refused)

-- where no element passes both, the selectors do not meet
pub clash_apart : ForcedCompoundsSuit → TablesAreReady → (x y : SelectorParts) (table : TableParts) (moves i j : ℕ) (fit : Bool) → KeepsLimits x → KeepsLimits y → IsTable table x y → AreOfOne x.links y.links moves i j →
    fit ≡ is_fit (length x.links) (length y.links) table.fits together i j → IsTrue (not fit) → Meet x y → ⊥
clash_apart forced ready x y table moves i j fit kx ky t of_one is refused meet =
    let inside = of_one_inside x.links y.links moves i j of_one in
    not_true fit refused (is ∙ ((ready table x y t kx ky).decided together i j inside.0 inside.1 (of_one_fit x.links y.links moves i j of_one)).1 (forced x y kx.links ky.links meet moves i j of_one))

-- one move more
pub one_more : (left right : List Combinator) (i : ℕ) → AreOfOne left right i i i → GoTogether left right i i (i + 1) (i + 1) → AreOfOne left right (i + 1) (i + 1) (i + 1)
one_more left right i o go = subst (λ (moves : ℕ). AreOfOne left right moves (i + 1) (i + 1)) (let e : suc i ≡ i + 1 = omega arith in e) (i, i, o, go)

pub both_child : (left right : List Combinator) (i : ℕ) → slice_get left i ≡ Some Child → slice_get right i ≡ Some Child → GoTogether left right i i (i + 1) (i + 1)
both_child left right i at at' = parents 0 0 at at' (omega arith) (omega arith)
