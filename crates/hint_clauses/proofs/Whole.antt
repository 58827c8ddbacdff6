-- The hints of whole selectors.
use Rattle.std.proofs.Common.{List, ap, arith, false, length, refl, suc, true, ℕ, ◌*◌, ◌+◌, ◌∙◌, ◌≡◌, ◌≤◌}
use Rattle.std.proofs.Math.Path.{fun_ext}
use Rattle.cnf.specs.Cnf.{Cnf}
use Rattle.cnf.specs.declared.lit.Lit.{Lit}
use Rattle.css_model.specs.Documents.SelectorParts.{SelectorParts}
use Rattle.css_model.specs.declared.selector.Combinator.{Combinator}
use Rattle.formula_laws.specs.Counts.{Names, steps_below}
use Rattle.formula_laws.specs.Formula.{names_of}
use Rattle.formula_laws.specs.Hints.{Owns, owns_of, with_asked_hints, with_remainders, with_rises, with_run_rests, with_shared}
use Rattle.formula_laws.specs.declared.count.Count.{Count}
use Rattle.formula_laws.specs.declared.count.Count.TheVariants.{Before, Behind}
use Rattle.hint_clauses.proofs.Divided.{run_rests_grow}
use Rattle.hint_clauses.proofs.Rising.{rises_grow}
use Rattle.hint_clauses.proofs.Sharing.{pair_rows_grow}
use Rattle.hint_clauses.specs.Chains.{owns_at, row_at, row_of}
use Rattle.sibling_clauses.proofs.ForCallers.{Grows, steps_grow}
use Rattle.sibling_clauses.specs.Bounds.{IsWhole}
use Rattle.sibling_clauses.specs.Rows.{number_at}
use Rattle.sibling_clauses.specs.declared.numbering.Numbering.{Numbering}

-- the numbers behind the compounds, as rows
pub left_behind : (g : Numbering) (links : List Combinator) (f : Cnf) → with_rises links (row_at g 1) f ≡ with_rises links (names_of g.left g.right g.digits).ax f
left_behind g links f = ap (λ a. with_rises links a f) (fun_ext (λ i. ap (number_at g) (let e : 1 + 2 * i ≡ 2 * i + 1 = omega arith in e)))

pub right_behind : (g : Numbering) (row : ℕ) (links : List Combinator) (f : Cnf) → row ≡ 2 * (g.left + 1) + 1 → with_rises links (row_at g row) f ≡ with_rises links (names_of g.left g.right g.digits).ay f
right_behind g row links f e = ap (λ a. with_rises links a f) (fun_ext (λ i. ap (number_at g) (let q : row + 2 * i ≡ 2 * suc g.left + 2 * i + 1 = omega arith in q)))

-- the numbers of one kind, as rows
abbrev made : Count → (ℕ → List Lit) → (ℕ → List Lit) → Owns
made count left right = record { count = count; left = left; right = right }

pub owns_rows : (g : Numbering) (count : Count) → owns_at g count ≡ owns_of (names_of g.left g.right g.digits) count
owns_rows g Before =
    ap (λ left. made Before left (row_at g (row_of g Before true))) (let e : row_at g (row_of g Before false) ≡ (names_of g.left g.right g.digits).bx = fun_ext (λ i. ap (number_at g) (let q : 0 + 2 * i ≡ 2 * i = omega arith in q)) in e)
    ∙ ap (made Before (names_of g.left g.right g.digits).bx) (let e : row_at g (row_of g Before true) ≡ (names_of g.left g.right g.digits).by = fun_ext (λ j. ap (number_at g) (let q : 2 * (g.left + 1) + 2 * j ≡ 2 * suc g.left + 2 * j = omega arith in q)) in e)
owns_rows g Behind =
    ap (λ left. made Behind left (row_at g (row_of g Behind true))) (let e : row_at g (row_of g Behind false) ≡ (names_of g.left g.right g.digits).ax = fun_ext (λ i. ap (number_at g) (let q : 0 + 1 + 2 * i ≡ 2 * i + 1 = omega arith in q)) in e)
    ∙ ap (made Behind (names_of g.left g.right g.digits).ax) (let e : row_at g (row_of g Behind true) ≡ (names_of g.left g.right g.digits).ay = fun_ext (λ j. ap (number_at g) (let q : 2 * (g.left + 1) + 1 + 2 * j ≡ 2 * suc g.left + 2 * j + 1 = omega arith in q)) in e)

-- the hints on one kind of numbers, by the last compounds of whole selectors
abbrev pub all_runs : Numbering → Count → SelectorParts → ℕ → ℕ → Cnf → Cnf
all_runs g count x row last = steps_below (last + 1) (with_run_rests count x.links x.chain (row_at g row))

abbrev pub all_pairs : Numbering → Count → SelectorParts → SelectorParts → Cnf → Cnf
all_pairs g count x y = steps_below (g.left + 1) (λ p. steps_below (g.right + 1) (with_shared x y (owns_at g count) p))

abbrev pub all_remainders : Numbering → Count → SelectorParts → SelectorParts → Cnf → Cnf
all_remainders g count x y f = all_pairs g count x y (all_runs g count y (row_of g count true) g.right (all_runs g count x (row_of g count false) g.left f))

pub remainders_whole : (x y : SelectorParts) (g : Numbering) (count : Count) (f : Cnf) → IsWhole x g.left → IsWhole y g.right → all_remainders g count x y f ≡ with_remainders x y (owns_at g count) f
remainders_whole x y g count f hx hy =
    let lx = hx.links in
    let ly = hy.links in
    let em : g.left + 1 ≡ suc (length x.links) = omega arith in
    let en : g.right + 1 ≡ suc (length y.links) = omega arith in
    let left : ℕ → Cnf = λ m. steps_below m (with_run_rests count x.links x.chain (row_at g (row_of g count false))) f in
    let right : ℕ → Cnf = λ n. steps_below n (with_run_rests count y.links y.chain (row_at g (row_of g count true))) (left (suc (length x.links))) in
    let both : ℕ → ℕ → Cnf = λ m n. steps_below m (λ p. steps_below n (with_shared x y (owns_at g count) p)) (right (suc (length y.links))) in
    ap (λ (m : ℕ). all_pairs g count x y (all_runs g count y (row_of g count true) g.right (left m))) em
    ∙ ap (λ (n : ℕ). all_pairs g count x y (right n)) en
    ∙ ap (λ (m : ℕ). both m (g.right + 1)) em ∙ ap (λ (n : ℕ). both (suc (length x.links)) n) en

runs_grow : (g : Numbering) (count : Count) (x : SelectorParts) (row last : ℕ) → Grows (all_runs g count x row last)
runs_grow g count x row last = steps_grow (last + 1) (with_run_rests count x.links x.chain (row_at g row)) (run_rests_grow count x.links x.chain (row_at g row))

pairs_grow : (g : Numbering) (count : Count) (x y : SelectorParts) → Grows (all_pairs g count x y)
pairs_grow g count x y = steps_grow (g.left + 1) (λ p. steps_below (g.right + 1) (with_shared x y (owns_at g count) p)) (pair_rows_grow x y (owns_at g count) (g.right + 1))

-- there is room for each part
pub record RemainderRooms (x y : SelectorParts) (g : Numbering) (count : Count) (f : Cnf) (most : ℕ) : Type 0 where
  pub left : (all_runs g count x (row_of g count false) g.left f).vars ≤ most
  pub right : (all_runs g count y (row_of g count true) g.right (all_runs g count x (row_of g count false) g.left f)).vars ≤ most
  pub pairs : (all_remainders g count x y f).vars ≤ most
  pub left_more : f.vars ≤ (all_runs g count x (row_of g count false) g.left f).vars
  pub right_more : f.vars ≤ (all_runs g count y (row_of g count true) g.right (all_runs g count x (row_of g count false) g.left f)).vars

pub remainder_rooms : (x y : SelectorParts) (g : Numbering) (count : Count) (f : Cnf) (most : ℕ) → IsWhole x g.left → IsWhole y g.right → (with_remainders x y (owns_at g count) f).vars ≤ most → RemainderRooms x y g count f most
remainder_rooms x y g count f most hx hy room =
    let a = runs_grow g count x (row_of g count false) g.left f in
    let b = runs_grow g count y (row_of g count true) g.right (all_runs g count x (row_of g count false) g.left f) in
    let c = pairs_grow g count x y (all_runs g count y (row_of g count true) g.right (all_runs g count x (row_of g count false) g.left f)) in
    let whole = ap (λ h. h.vars) (remainders_whole x y g count f hx hy) in
    record { left = omega arith; right = omega arith; pairs = omega arith; left_more = a; right_more = omega arith }

remainders_grow : (x y : SelectorParts) (owns : Owns) → Grows (with_remainders x y owns)
remainders_grow x y owns f =
    let left = steps_below (suc (length x.links)) (with_run_rests owns.count x.links x.chain owns.left) f in
    let right = steps_below (suc (length y.links)) (with_run_rests owns.count y.links y.chain owns.right) left in
    let a = steps_grow (suc (length x.links)) (with_run_rests owns.count x.links x.chain owns.left) (run_rests_grow owns.count x.links x.chain owns.left) f in
    let b = steps_grow (suc (length y.links)) (with_run_rests owns.count y.links y.chain owns.right) (run_rests_grow owns.count y.links y.chain owns.right) left in
    let c = steps_grow (suc (length x.links)) (λ p. steps_below (suc (length y.links)) (with_shared x y owns p)) (pair_rows_grow x y owns (suc (length y.links))) right in
    omega arith

pub asked_hints_grow : (x y : SelectorParts) (names : Names) (f : Cnf) → f.vars ≤ (with_asked_hints x y names f).vars
asked_hints_grow x y names f =
    let left = with_rises x.links names.ax f in
    let right = with_rises y.links names.ay left in
    let befores = with_remainders x y (owns_of names Before) right in
    let a = rises_grow x.links names.ax f in
    let b = rises_grow y.links names.ay left in
    let c = remainders_grow x y (owns_of names Before) right in
    let d = remainders_grow x y (owns_of names Behind) befores in
    omega arith

-- all of them, as rows
abbrev pub left_rises : Numbering → SelectorParts → Cnf → Cnf
left_rises g x = with_rises x.links (row_at g 1)

abbrev pub both_rises : Numbering → SelectorParts → SelectorParts → Cnf → Cnf
both_rises g x y f = with_rises y.links (row_at g (2 * (g.left + 1) + 1)) (left_rises g x f)

abbrev pub rises_and_befores : Numbering → SelectorParts → SelectorParts → Cnf → Cnf
rises_and_befores g x y f = with_remainders x y (owns_at g Before) (both_rises g x y f)

pub asked_whole : (x y : SelectorParts) (g : Numbering) (f : Cnf) → with_remainders x y (owns_at g Behind) (rises_and_befores g x y f) ≡ with_asked_hints x y (names_of g.left g.right g.digits) f
asked_whole x y g f =
    let names = names_of g.left g.right g.digits in
    let all : Owns → Owns → Cnf → Cnf = λ before behind h. with_remainders x y behind (with_remainders x y before h) in
    ap (all (owns_at g Before) (owns_at g Behind)) (right_behind g (2 * (g.left + 1) + 1) y.links (left_rises g x f) refl ∙ ap (with_rises y.links names.ay) (left_behind g x.links f))
    ∙ ap (λ before. all before (owns_at g Behind) (with_rises y.links names.ay (with_rises x.links names.ax f))) (owns_rows g Before)
    ∙ ap (λ behind. all (owns_of names Before) behind (with_rises y.links names.ay (with_rises x.links names.ax f))) (owns_rows g Behind)

-- there is room for each part
pub record HintRooms (x y : SelectorParts) (g : Numbering) (f : Cnf) (most : ℕ) : Type 0 where
  pub left : (left_rises g x f).vars ≤ most
  pub right : (both_rises g x y f).vars ≤ most
  pub befores : (rises_and_befores g x y f).vars ≤ most
  pub behinds : (with_remainders x y (owns_at g Behind) (rises_and_befores g x y f)).vars ≤ most
  pub left_more : f.vars ≤ (left_rises g x f).vars
  pub right_more : f.vars ≤ (both_rises g x y f).vars
  pub befores_more : f.vars ≤ (rises_and_befores g x y f).vars

pub hint_rooms : (x y : SelectorParts) (g : Numbering) (f : Cnf) (most : ℕ) → (with_asked_hints x y (names_of g.left g.right g.digits) f).vars ≤ most → HintRooms x y g f most
hint_rooms x y g f most room =
    let a = rises_grow x.links (row_at g 1) f in
    let b = rises_grow y.links (row_at g (2 * (g.left + 1) + 1)) (left_rises g x f) in
    let c = remainders_grow x y (owns_at g Before) (both_rises g x y f) in
    let d = remainders_grow x y (owns_at g Behind) (rises_and_befores g x y f) in
    let whole = ap (λ h. h.vars) (asked_whole x y g f) in
    record { left = omega arith; right = omega arith; befores = omega arith; behinds = omega arith; left_more = a; right_more = omega arith; befores_more = omega arith }
