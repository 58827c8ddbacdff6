-- All conditions, one after the other.
use Rattle.std.proofs.Common.{List, Option, ap, arith, length, suc, sym, ℕ, [], ◌+◌, ◌∙◌, ◌≡◌, ◌≤◌}
use Rattle.clause_encode.proofs.Ready.{few_simples}
use Rattle.sibling_clauses.specs.Bounds.{IsWhole}
use Rattle.clause_encode.specs.Fits.{IsSmallFormula, is_fit, numbering_of, pair_formula}
use Rattle.sibling_clauses.proofs.ForCallers.{numbers_grow, tests_grow}
use Rattle.sibling_clauses.specs.declared.numbering.Numbering.{Numbering}
use Rattle.cnf.specs.Cnf.{Cnf}
use Rattle.cnf.specs.Gates.{with_clauses}
use Rattle.css_model.specs.Documents.FeatureParts.{FeatureParts}
use Rattle.css_model.specs.Documents.SelectorParts.{SelectorParts}
use Rattle.formula_laws.specs.Allowed.{Allowed, allowed_by, cell_clauses, node_fits, whole_clauses}
use Rattle.formula_laws.specs.Counts.{Names}
use Rattle.formula_laws.specs.Deciding.{FormulaIsSmall}
use Rattle.formula_laws.specs.Formula.{first_vars, names_of, with_all, with_conditions, with_numbers, with_path, with_refusals, with_root, with_tests}
use Rattle.hint_clauses.proofs.ForCallers.{hints_grow}
use Rattle.formula_laws.specs.Path.{each_below, last_clauses, path_clauses}
use Rattle.nth_positions.specs.Gaps.{bounds_of}
use Rattle.selector_laws.specs.Limits.{KeepsLimits}
use Rattle.slot_plan.specs.Parts.{pair_parts}

-- the path of whole selectors
pub path_whole : (x y : SelectorParts) (m n : ℕ) (f : Cnf) → IsWhole x m → IsWhole y n → with_clauses (with_clauses f (path_clauses m n)) (last_clauses m n) ≡ with_path x y f
path_whole x y m n f hx hy =
    ap (λ (k : ℕ). with_clauses (with_clauses f (path_clauses k n)) (last_clauses k n)) (sym hx.links)
    ∙ ap (λ (k : ℕ). with_clauses (with_clauses f (path_clauses (length x.links) k)) (last_clauses (length x.links) k)) (sym hy.links)

-- their nodes
pub refusals_whole : (x y : SelectorParts) (m n : ℕ) (allowed : Allowed) (f : Cnf) → IsWhole x m → IsWhole y n →
    with_clauses (with_clauses f (each_below (m + 1) (λ i. each_below (n + 1) (λ j. cell_clauses n (node_fits x y allowed) i j)))) (whole_clauses allowed.whole) ≡ with_refusals x y allowed f
refusals_whole x y m n allowed f hx hy =
    let lx = hx.links in
    let ly = hy.links in
    let em : m + 1 ≡ suc (length x.links) = omega arith in
    let en : n + 1 ≡ suc (length y.links) = omega arith in
    let make : (a b c : ℕ) → Cnf = λ a b c. with_clauses (with_clauses f (each_below a (λ i. each_below b (λ j. cell_clauses c (node_fits x y allowed) i j)))) (whole_clauses allowed.whole) in
    ap (λ (a : ℕ). make a (n + 1) n) em ∙ ap (λ (b : ℕ). make (suc (length x.links)) b n) en ∙ ap (λ (c : ℕ). make (suc (length x.links)) (suc (length y.links)) c) (sym ly)

-- there is room for each part
pub record Rooms (x y : SelectorParts) (names : Names) (f : Cnf) (most : ℕ) : Type 0 where
  pub numbers : (with_numbers x y names (with_path x y f)).vars ≤ most
  pub tests : (with_tests x y names (with_root x y names (with_numbers x y names (with_path x y f)))).vars ≤ most
  pub numbers_more : f.vars ≤ (with_numbers x y names (with_path x y f)).vars
  pub root_more : f.vars ≤ (with_root x y names (with_numbers x y names (with_path x y f))).vars
  pub tests_more : f.vars ≤ (with_tests x y names (with_root x y names (with_numbers x y names (with_path x y f)))).vars

pub rooms : (x y : SelectorParts) (allowed : Allowed) (names : Names) (f : Cnf) (most : ℕ) → (with_conditions x y allowed names f).vars ≤ most → Rooms x y names f most
rooms x y allowed names f most room =
    let n = numbers_grow x y names (with_path x y f) in
    let t = tests_grow x y names (with_root x y names (with_numbers x y names (with_path x y f))) in
    record { numbers = omega arith; tests = room; numbers_more = n; root_more = n; tests_more = omega arith }

-- there is room for the conditions, and the hints find the first variables
pub all_rooms : (x y : SelectorParts) (allowed : Allowed) (names : Names) (f : Cnf) (most : ℕ) → (with_all x y allowed names f).vars ≤ most → (with_conditions x y allowed names f).vars ≤ most
all_rooms x y allowed names f most room = let h = hints_grow x y names (with_conditions x y allowed names f) in omega arith

pub conditions_grow : (x y : SelectorParts) (allowed : Allowed) (names : Names) (f : Cnf) → f.vars ≤ (with_conditions x y allowed names f).vars
conditions_grow x y allowed names f = (rooms x y allowed names f (with_conditions x y allowed names f).vars (omega arith)).tests_more

-- the formula of two selectors is small
pub pair_small : FormulaIsSmall → (x y : SelectorParts) (fits : List (Option FeatureParts)) → KeepsLimits x → KeepsLimits y → (bounds_of (pair_parts x y)).width ≤ 25 → IsSmallFormula (pair_formula x y fits)
pair_small small x y fits kx ky wide =
    let s = small (bounds_of (pair_parts x y)).width x y (allowed_by (is_fit (length x.links) (length y.links) fits) x y) wide
    (let l = kx.links in let f = kx.few in omega arith) (let l = ky.links in let f = ky.few in omega arith) (few_simples x.chain kx.compounds) (few_simples y.chain ky.compounds) in
    record { vars = s.0; clauses = s.1 }

-- what is made is the formula of the pair
pub pair_made : (x y left right : SelectorParts) (fits found : List (Option FeatureParts)) (g : Numbering) (n : ℕ) (f : Cnf) → left ≡ x → right ≡ y → found ≡ fits → g ≡ numbering_of x y →
    n ≡ first_vars g.left g.right g.digits → f ≡ record { vars = n; clauses = [] } →
    with_all left right (allowed_by (is_fit (length left.links) (length right.links) found) left right) (names_of g.left g.right g.digits) f ≡ pair_formula x y fits
pair_made x y left right fits found g n f el er es eg en ef =
    let made : (l r : SelectorParts) (s : List (Option FeatureParts)) (g : Numbering) (f : Cnf) → Cnf =
    λ l r s g f. with_all l r (allowed_by (is_fit (length l.links) (length r.links) s) l r) (names_of g.left g.right g.digits) f
    in
    let start : ℕ → Cnf = λ n. record { vars = n; clauses = [] } in
    ap (λ f. made left right found g f) (ef ∙ ap start en)
    ∙ ap (λ g. made left right found g (start (first_vars g.left g.right g.digits))) eg
    ∙ ap (λ l. made l right found (numbering_of x y) (start (first_vars (length x.links) (length y.links) (numbering_of x y).digits))) el
    ∙ ap (λ r. made x r found (numbering_of x y) (start (first_vars (length x.links) (length y.links) (numbering_of x y).digits))) er
    ∙ ap (λ s. made x y s (numbering_of x y) (start (first_vars (length x.links) (length y.links) (numbering_of x y).digits))) es
