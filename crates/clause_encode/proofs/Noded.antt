-- What is asked of a node, part by part.
use Rattle.std.proofs.Common.{Bool, List, Option, [], ap, arith, false, length, refl, suc, sym, true, zero, ℕ, ◌&&◌, ◌*◌, ◌++◌, ◌+◌, ◌-◌, ◌||◌, ◌∙◌, ◌≡◌, ◌≢◌}
use Rattle.std.proofs.lemmas.List.Folds.{list_any-append}
use Rattle.sibling_clauses.proofs.ForCallers.{added_twice}
use Rattle.sibling_clauses.specs.Bounds.{IsWhole}
use Rattle.clause_encode.specs.Fits.{is_fit, is_fit_at}
use Rattle.cnf.specs.Cnf.{Cnf}
use Rattle.cnf.specs.Gates.{with_clauses}
use Rattle.cnf.specs.declared.lit.Lit.{Lit}
use Rattle.css_model.specs.Documents.FeatureParts.{FeatureParts}
use Rattle.css_model.specs.Documents.SelectorParts.{SelectorParts}
use Rattle.css_model.specs.declared.selector.Simple.{Simple}
use Rattle.formula_laws.specs.Allowed.{allowed_by, apart_in, asks_empty, cell_clauses, empty_fits, node_fits}
use Rattle.formula_laws.specs.Path.{both_fit, left_fits, node_lit, right_fits, same_bool, unless}
use Rattle.grid_laws.specs.Grid.{Lays, left_alone, right_alone, together}
use Rattle.grid_laws.specs.Solved.{is_above, nth_compound}
use Rattle.slot_plan.specs.ValidShape.{is_empty_test}

-- three parts of a cell
pub cell_added : (f g h i : Cnf) (n : ℕ) (fits : Lays → ℕ → ℕ → Bool) (a b : ℕ) (x y z : Bool) (k l m : Lit) → x ≡ fits left_alone a b → y ≡ fits right_alone a b → z ≡ fits together a b →
    k ≡ node_lit (suc n) left_alone a b → l ≡ node_lit (suc n) right_alone a b → m ≡ node_lit (suc n) together a b →
    g ≡ with_clauses f (unless x k) → h ≡ with_clauses g (unless y l) → i ≡ with_clauses h (unless z m) → i ≡ with_clauses f (cell_clauses n fits a b)
cell_added f g h i n fits a b x y z k l m ex ey ez ek el em eg eh ei =
    let all : i ≡ with_clauses f (unless x k ++ (unless y l ++ unless z m)) =
    ei ∙ ap (λ c. with_clauses c (unless z m)) eh ∙ added_twice g (unless y l) (unless z m) ∙ ap (λ c. with_clauses c (unless y l ++ unless z m)) eg ∙ added_twice f (unless x k) (unless y l ++ unless z m) in
    all ∙ rw (ex, ey, ez, ek, el, em)

true_right : (b : Bool) → (b && true) ≡ b
true_right true = refl
true_right false = refl

-- what a compound asks, by its selector's number of compounds
whole_count : (x : SelectorParts) (c : List Simple) (beside : Bool) (k : ℕ) → IsWhole x (length x.links) → apart_in c x.chain (suc (length x.links)) beside k ≡ apart_in c x.chain (length x.chain) beside k
whole_count x c beside k whole = ap (λ (n : ℕ). apart_in c x.chain n beside k) (sym whole.chain)

pub left_alone_reads : (x y : SelectorParts) (fits : List (Option FeatureParts)) (i j : ℕ) → IsWhole y (length y.links) →
    node_fits x y (allowed_by (is_fit (length x.links) (length y.links) fits) x y) left_alone i j
    ≡ (left_fits x.links y.links i j && (empty_fits (is_above x.links i) (nth_compound x.chain i ++ []) && (apart_in (nth_compound x.chain i) y.chain (length y.chain) false j && is_fit_at fits i)))
left_alone_reads x y fits i j whole =
    ap (λ b. left_fits x.links y.links i j && (empty_fits (is_above x.links i) (nth_compound x.chain i ++ []) && (b && is_fit_at fits i)))
    (true_right (apart_in (nth_compound x.chain i) y.chain (suc (length y.links)) false j) ∙ whole_count y (nth_compound x.chain i) false j whole)

pub right_alone_reads : (x y : SelectorParts) (fits : List (Option FeatureParts)) (i j : ℕ) → IsWhole x (length x.links) →
    node_fits x y (allowed_by (is_fit (length x.links) (length y.links) fits) x y) right_alone i j
    ≡ (right_fits x.links y.links i j && (empty_fits (is_above y.links j) ([] ++ nth_compound y.chain j) && (apart_in (nth_compound y.chain j) x.chain (length x.chain) false i && is_fit_at fits (length x.links + j))))
right_alone_reads x y fits i j whole =
    ap (λ b. right_fits x.links y.links i j && (empty_fits (is_above y.links j) ([] ++ nth_compound y.chain j) && (b && is_fit_at fits (length x.links + j))))
    (whole_count x (nth_compound y.chain j) false i whole)

pub together_reads : (x y : SelectorParts) (fits : List (Option FeatureParts)) (i j : ℕ) → IsWhole x (length x.links) → IsWhole y (length y.links) →
    node_fits x y (allowed_by (is_fit (length x.links) (length y.links) fits) x y) together i j
    ≡ (both_fit x.links y.links i j && (empty_fits (is_above x.links i) (nth_compound x.chain i ++ nth_compound y.chain j) && ((apart_in (nth_compound x.chain i) y.chain (length y.chain) true j && apart_in (nth_compound y.chain j) x.chain (length x.chain) true i) && is_fit (length x.links) (length y.links) fits together i j)))
together_reads x y fits i j whole whole' =
    ap (λ b. both_fit x.links y.links i j && (empty_fits (is_above x.links i) (nth_compound x.chain i ++ nth_compound y.chain j) && ((b && apart_in (nth_compound y.chain j) x.chain (suc (length x.links)) true i) && is_fit (length x.links) (length y.links) fits together i j)))
    (whole_count y (nth_compound x.chain i) true j whole')
    ∙ ap (λ b. both_fit x.links y.links i j && (empty_fits (is_above x.links i) (nth_compound x.chain i ++ nth_compound y.chain j) && ((apart_in (nth_compound x.chain i) y.chain (length y.chain) true j && b) && is_fit (length x.links) (length y.links) fits together i j)))
    (whole_count x (nth_compound y.chain j) true i whole)

-- the fit of two compounds together
pub pair_first : (m n : ℕ) (fits : List (Option FeatureParts)) (i j : ℕ) → i ≡ 0 → is_fit m n fits together i j ≡ is_fit_at fits 0
pair_first m n fits i j e = ap (λ (k : ℕ). is_fit m n fits together k j) e

pub pair_none : (m n : ℕ) (fits : List (Option FeatureParts)) (i j : ℕ) → i ≢ 0 → j ≡ 0 → is_fit m n fits together i j ≡ false
pair_none m n fits zero j h e = absurd (h refl)
pair_none m n fits (suc i) j h e = ap (λ (k : ℕ). is_fit m n fits together (suc i) k) e

pub pair_later : (m n : ℕ) (fits : List (Option FeatureParts)) (i j : ℕ) → i ≢ 0 → j ≢ 0 → is_fit m n fits together i j ≡ is_fit_at fits (1 + m + n + ((i - 1) * n + (j - 1)))
pair_later m n fits zero j h h' = absurd (h refl)
pair_later m n fits (suc i) zero h h' = absurd (h' refl)
pair_later m n fits (suc i) (suc j) h h' =
    ap (λ (k : ℕ). is_fit_at fits (1 + m + n + (k * n + j))) (let e : i ≡ suc i - 1 = omega arith in e) ∙ ap (λ (k : ℕ). is_fit_at fits (1 + m + n + ((suc i - 1) * n + k))) (let e : j ≡ suc j - 1 = omega arith in e)

pub ruleset pair_fit_reads = (pair_first, pair_none, pair_later)

-- `:empty` in two compounds
pub asks_both : (negated : Bool) (c d : List Simple) → asks_empty negated (c ++ d) ≡ (asks_empty negated c || asks_empty negated d)
asks_both negated c d = list_any-append (λ s. is_empty_test s.test && same_bool s.negated negated) c d
