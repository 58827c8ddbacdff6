-- All hints of a pair.
use Rattle.std.proofs.Common.{arith, ◌≤◌}
use Rattle.std.specs.Prelude.{ℕ}
use Rattle.cnf.specs.Cnf.{Cnf}
use Rattle.css_model.specs.Documents.SelectorParts.{SelectorParts}
use Rattle.formula_laws.specs.Counts.{Names}
use Rattle.formula_laws.specs.Hinted.{with_hints}
use Rattle.formula_laws.specs.Hints.{with_asked_hints}
use Rattle.formula_laws.specs.Refused.{with_refused_hints}
use Rattle.grid_laws.specs.Solved.{numbers_asked}
use Rattle.hint_clauses.proofs.Distanced.{distance_hints_grow}
use Rattle.hint_clauses.proofs.Unmet.{refused_hints_grow}
use Rattle.hint_clauses.proofs.Whole.{asked_hints_grow}
use Rattle.hint_clauses.specs.Hints.{all_hints}
use Rattle.sibling_clauses.proofs.ForCallers.{when_grows}

all_grow : (x y : SelectorParts) (names : Names) (f : Cnf) → f.vars ≤ (all_hints x y names f).vars
all_grow x y names f =
    let asked = with_asked_hints x y names f in
    let a = asked_hints_grow x y names f in
    let b = refused_hints_grow x y names asked in
    let c = distance_hints_grow x y names (with_refused_hints x y names asked) in
    omega arith

-- they take no variable away
pub hints_grow : (x y : SelectorParts) (names : Names) (f : Cnf) → f.vars ≤ (with_hints x y names f).vars
hints_grow x y names f = when_grows (numbers_asked x y) (all_hints x y names) (all_grow x y names) f

-- there is room for each part
pub record AllRooms (x y : SelectorParts) (names : Names) (f : Cnf) (most : ℕ) : Type 0 where
  pub asked : (with_asked_hints x y names f).vars ≤ most
  pub refused : (with_refused_hints x y names (with_asked_hints x y names f)).vars ≤ most
  pub asked_more : f.vars ≤ (with_asked_hints x y names f).vars
  pub refused_more : f.vars ≤ (with_refused_hints x y names (with_asked_hints x y names f)).vars

pub all_rooms : (x y : SelectorParts) (names : Names) (f : Cnf) (most : ℕ) → (all_hints x y names f).vars ≤ most → AllRooms x y names f most
all_rooms x y names f most room =
    let asked = with_asked_hints x y names f in
    let a = asked_hints_grow x y names f in
    let b = refused_hints_grow x y names asked in
    let c = distance_hints_grow x y names (with_refused_hints x y names asked) in
    record { asked = omega arith; refused = omega arith; asked_more = a; refused_more = omega arith }
