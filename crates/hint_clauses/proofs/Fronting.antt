-- The first compounds of runs.
use Rattle.std.proofs.Common.{Bool, List, Option, ap, arith, false, length, refl, suc, sym, true, zero, ℕ, ◌-◌, ◌<◌, ◌∙◌, ◌≡◌, ◌≢◌, ◌≤◌}
use Rattle.std.proofs.lemmas.Bool.{le-leb, lt-leb}
use Rattle.std.specs.List.{AllByRecursion}
use Rattle.std.specs.Prelude.{None, if◌then◌else◌}
use Rattle.cnf.specs.declared.lit.Lit.{Lit}
use Rattle.css_model.specs.declared.selector.Combinator.{Combinator}
use Rattle.formula_laws.proofs.ForCallers.{length_literals}
use Rattle.formula_laws.specs.Asked.{run_rests}
use Rattle.formula_laws.specs.Distances.{First, rest_within, row_start}
use Rattle.formula_laws.specs.declared.count.Count.{Count}
use Rattle.grid_laws.specs.Grid.{goes_up_at}
use Rattle.hint_clauses.specs.Chains.{row_at, row_of}
use Rattle.hint_clauses.specs.Counted.{IsCounted, last_of, opposite, side_of}
use Rattle.hint_clauses.specs.Fronts.{first_in}
use Rattle.hint_clauses.specs.declared.counted.Counted.{Counted}
use Rattle.remainders.specs.Remainders.{joint_rest, joint_step, most_joint}
use Rattle.remainders.specs.declared.remainder.Remainder.{Remainder}
use Rattle.selector_laws.specs.Limits.{KeepsCompound}
use Rattle.sibling_clauses.specs.Bounds.{IsWhole}
use Rattle.sibling_clauses.specs.declared.numbering.Numbering.{Numbering}

-- one of the selectors is whole and keeps the limits
pub side_whole : (pair : Counted) (right : Bool) → IsCounted pair → IsWhole (side_of pair right) (last_of pair right)
side_whole pair true h = h.right
side_whole pair false h = h.left

pub side_keeps : (pair : Counted) (right : Bool) → IsCounted pair → AllByRecursion KeepsCompound (side_of pair right).chain
side_keeps pair true h = h.right_tests
side_keeps pair false h = h.left_tests

pub side_few : (pair : Counted) (right : Bool) → IsCounted pair → last_of pair right < 12
side_few pair true h = h.small.right
side_few pair false h = h.small.left

-- what a number leaves, if it is looked for
pub within_here : (rs : List Remainder) (step : ℕ) (rest : Option ℕ) → step ≡ joint_step rs → step ≤ most_joint → rest ≡ joint_rest rs → rest ≡ rest_within rs
within_here rs step rest es few er = er ∙ sym (ap (λ b. if b then joint_rest rs else None) (le-leb (joint_step rs) most_joint (omega arith)))

pub within_far : (rs : List Remainder) (step : ℕ) → step ≡ joint_step rs → most_joint < step → None ≡ rest_within rs
within_far rs step es far = sym (ap (λ b. if b then joint_rest rs else None) (lt-leb (joint_step rs) most_joint (omega arith)))

pub ruleset within_reads = (within_here, within_far)

-- where a row begins
pub start_first : (links : List Combinator) (k : ℕ) → k ≡ 0 → row_start links k ≡ 0
start_first links zero e = refl
start_first links (suc k) e = absurd (omega arith)

pub start_here : (links : List Combinator) (k : ℕ) → k ≢ 0 → goes_up_at links k ≡ true → row_start links k ≡ k
start_here links zero h e = absurd (h refl)
start_here links (suc k) h e = ap (λ b. if b then suc k else row_start links k) e

pub start_before : (links : List Combinator) (k : ℕ) → k ≢ 0 → goes_up_at links k ≡ false → row_start links k ≡ row_start links (k - 1)
start_before links zero h e = absurd (h refl)
start_before links (suc k) h e = ap (λ b. if b then suc k else row_start links k) e ∙ ap (row_start links) (let q : k ≡ suc k - 1 = omega arith in q)

pub ruleset start_reads = (start_first, start_here, start_before)

-- a number of a row has few digits
pub row_digits : (g : Numbering) (row k : ℕ) (ls : List Lit) → ls ≡ row_at g row k → g.digits ≤ 25 → length ls ≤ 25
row_digits g row k ls e few = let n = ap length e ∙ length_literals _ g.digits in omega arith

-- a first compound, by what is at hand
abbrev first_by_parts : List Lit → List Lit → ℕ → Option ℕ → First
first_by_parts own other step rest = record { own = own; other = other; step = step; rest = rest }

pub front_made : (pair : Counted) (right : Bool) (p own_row other_row step : ℕ) (kind : Count) (own other : List Lit) (rests : List Remainder) (rest : Option ℕ) → own_row ≡ row_of pair.numbering pair.count right →
    kind ≡ opposite pair.count → other_row ≡ row_of pair.numbering kind right → own ≡ row_at pair.numbering own_row p → other ≡ row_at pair.numbering other_row p →
    rests ≡ run_rests pair.count (side_of pair right).links (side_of pair right).chain p → step ≡ joint_step rests → rest ≡ rest_within rests → first_by_parts own other step rest ≡ first_in pair right p
front_made pair right p own_row other_row step kind own other rests rest eo ek ea en eb er es et =
    let g = pair.numbering in
    let asked : List Remainder = run_rests pair.count (side_of pair right).links (side_of pair right).chain p in
    ap (λ (ls : List Lit). first_by_parts ls other step rest) (en ∙ ap (λ (r : ℕ). row_at g r p) eo)
    ∙ ap (λ (ls : List Lit). first_by_parts (row_at g (row_of g pair.count right) p) ls step rest) (eb ∙ ap (λ (r : ℕ). row_at g r p) (ea ∙ ap (λ (c : Count). row_of g c right) ek))
    ∙ ap (λ (s : ℕ). first_by_parts (row_at g (row_of g pair.count right) p) (row_at g (row_of g (opposite pair.count) right) p) s rest) (es ∙ ap joint_step er)
    ∙ ap (λ (o : Option ℕ). first_by_parts (row_at g (row_of g pair.count right) p) (row_at g (row_of g (opposite pair.count) right) p) (joint_step asked) o) (et ∙ ap rest_within er)
