-- What the formula of a pair decides, and its size.
use Rattle.std.specs.Prelude.{◌≡◌, ◌↔◌, ℕ, suc, ◌^◌, ◌<◌, ◌≤◌, Bool, IsTrue, List, length}
use Rattle.std.specs.List.{All}
use Rattle.css_model.specs.Documents.SelectorParts.{SelectorParts}
use Rattle.css_model.specs.Sheets.Limits.{max_compounds}
use Rattle.nth_positions.specs.Gaps.{bounds_of}
use Rattle.cnf.specs.Cnf.{Satisfies}
use Rattle.cnf.specs.Sums.{number}
use Rattle.cnf.specs.Values.{all_hold, value}
use Rattle.slot_plan.specs.Parts.{pair_parts}
use Rattle.slot_plan.specs.ShapeParts.{ShapeParts}
use Rattle.slot_plan.specs.ValidShape.{ValidShape}
use Rattle.grid_laws.specs.Grid.{Lays}
use Rattle.grid_laws.specs.Slots.{shape_by}
use Rattle.grid_laws.specs.Solved.{nth_compound}
use Rattle.formula_laws.specs.Allowed.{Allowed, allowed_by, SuitingIsDecided}
use Rattle.formula_laws.specs.Formula.{SmallSteps, digits_for, formula_of, names_of}
use Rattle.formula_laws.specs.Path.{true_nodes}

-- Two selectors with a combinator between each two compounds, whose steps fit 32 bits; `suits` decides of
-- nodes whether an element can pass what they ask of it alone.
pub record IsReady (suits : Lays → ℕ → ℕ → Bool) (x y : SelectorParts) : Type 0 where
  pub left_length : length x.chain ≡ suc (length x.links)
  pub right_length : length y.chain ≡ suc (length y.links)
  pub steps : SmallSteps x y
  pub decided : SuitingIsDecided suits x y

-- the numbers of siblings of a shape are below 2^width
abbrev pub HasWidth : ℕ → ShapeParts → Type 0
HasWidth width shape = All (λ n. n < 2 ^ width) shape.before × All (λ n. n < 2 ^ width) shape.after

-- the shape that values of the variables give, where the numbers of siblings have so many digits
abbrev pub shape_from : ℕ → SelectorParts → SelectorParts → List Bool → ShapeParts
shape_from width x y values =
    let names = names_of (length x.links) (length y.links) (digits_for width x y) in
    shape_by x y (true_nodes (suc (length y.links)) values)
    (λ i. number values (names.bx i)) (λ i. number values (names.ax i)) (λ j. number values (names.by j)) (λ j. number values (names.ay j))
    (value values names.root) (value values names.child)

-- where values satisfy all clauses, the shape that they give fits
abbrev pub SatisfyingShapesFit : Type 0
SatisfyingShapesFit =
    (width : ℕ) (suits : Lays → ℕ → ℕ → Bool) (x y : SelectorParts) → IsReady suits x y →
    (values : List Bool) → IsTrue (all_hold values (formula_of width (allowed_by suits x y) x y).clauses) →
    ValidShape x y (shape_from width x y values)

-- values that satisfy all clauses come from a shape
abbrev pub FormulaIsSound : Type 0
FormulaIsSound =
    (width : ℕ) (suits : Lays → ℕ → ℕ → Bool) (x y : SelectorParts) → IsReady suits x y →
    (values : List Bool) → IsTrue (all_hold values (formula_of width (allowed_by suits x y) x y).clauses) →
    (shape : ShapeParts) × ValidShape x y shape

-- a shape gives values that satisfy the formula
abbrev pub FormulaIsComplete : Type 0
FormulaIsComplete =
    (width : ℕ) (suits : Lays → ℕ → ℕ → Bool) (x y : SelectorParts) → IsReady suits x y →
    (shape : ShapeParts) → ValidShape x y shape → HasWidth width shape →
    (values : List Bool) × Satisfies values (formula_of width (allowed_by suits x y) x y)

-- with the width of the bounds of the pair the formula can be satisfied exactly where a shape fits
abbrev pub FormulaDecidesShapes : Type 0
FormulaDecidesShapes =
    (suits : Lays → ℕ → ℕ → Bool) (x y : SelectorParts) → IsReady suits x y →
    length x.chain ≤ max_compounds → length y.chain ≤ max_compounds →
    ((values : List Bool) × Satisfies values (formula_of (bounds_of (pair_parts x y)).width (allowed_by suits x y) x y))
    ↔ ((shape : ShapeParts) × ValidShape x y shape × HasWidth (bounds_of (pair_parts x y)).width shape)

-- the formula has fewer than 2^24 variables and fewer than 2^32 clauses
abbrev pub FormulaIsSmall : Type 0
FormulaIsSmall =
    (width : ℕ) (x y : SelectorParts) (allowed : Allowed) → width ≤ 25 → length x.links < max_compounds → length y.links < max_compounds →
    ((i : ℕ) → length (nth_compound x.chain i) ≤ 64) → ((j : ℕ) → length (nth_compound y.chain j) ≤ 64) →
    ((formula_of width allowed x y).vars < 2 ^ 24) × (length (formula_of width allowed x y).clauses < 2 ^ 32)
