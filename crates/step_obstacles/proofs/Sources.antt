-- What is told of the rules whose pairs a step moves.
use Rattle.std.proofs.Common.{◌≡◌, ℕ, List, [], ◌∷◌, Some, None, refl, sym, ◌∙◌, subst}
use Rattle.std.specs.Prelude.{Option, Result, Ok, Err, IfOk, IfSome, slice_get}
use Rattle.std.specs.Borrow.{Bor}
use Rattle.cascade_laws.proofs.ForCallers.{some-same}
use Rattle.css_model.specs.declared.sheet.Item.{Item}
use Rattle.css_model.specs.declared.sheet.Item.TheVariants.{Rule}
use Rattle.css_model.specs.Sheets.RuleParts.{RuleParts}
use Rattle.obstacles.specs.declared.obstacle.Obstacle.{Obstacle}
use Rattle.overlap.specs.PairsParts.{Answered}
use Rattle.sheet_order.specs.declared.places.Moved.TheVariants as moved
use Rattle.step_obstacles.specs.Blocked.{IsToldOf}
use Rattle.step_obstacles.specs.declared.facing.Source.{Source}
use Rattle.step_obstacles.specs.StepWindow.{IsToldBy}
use Rattle.step_obstacles.specs.Turns.{OfNumber, OfSources, OfWindow}
use Rattle.window_order.specs.declared.window.Window.{Window}

-- what is told of an item of a window is told of its number
pub told_number : {E : Type 0} (answers : List Answered) (w : Window) (sources : List Source) (n : ℕ) (item : Item) → slice_get w.items.now n ≡ Some item →
    (res : Result (Option Obstacle) E) → IfOk res (λ found. IsToldOf answers w (OfSources w.items.now n item sources) found) → IfOk res (λ found. IsToldOf answers w (OfNumber w.items.now sources n) found)
told_number answers w sources n item at (Ok None) h = λ by (other, other_at, of). h by (subst (λ (i : Item). OfSources w.items.now n i sources by) (some-same (sym other_at ∙ at)) of)
told_number answers w sources n item at (Ok (Some o)) h = record { by = h.by; of = (item, at, h.of); names = h.names; told = h.told }
told_number answers w sources n item at (Err e) h = tt

pub told_whole : {E : Type 0} (answers : List Answered) (items : List Item) (w : Window) (n : ℕ) (s : Source) → s.with ≡ None → slice_get items n ≡ Some (Rule s.rule.now) →
    (res : Result (Option Obstacle) E) → IfOk res (λ found. IsToldOf answers w (OfWindow w (s ∷ [])) found) → IfOk res (λ found. IsToldBy answers items (moved.Rule n) w found)
told_whole answers items w n s with at (Ok found) h = (s ∷ [], record { source = s; are = refl; with = with; rule_at = at }, h)
told_whole answers items w n s with at (Err e) h = tt

-- the other rule of a source whose common declarations count
pub other_rule : (items : List Item) (n : ℕ) (with : Option (Bor RuleParts)) → IfSome with (λ r. slice_get items n ≡ Some (Rule r.now)) → (with ≡ None → ⊥) → (r : Bor RuleParts) × (with ≡ Some r) × (slice_get items n ≡ Some (Rule r.now))
other_rule items n None at some = absurd (some refl)
other_rule items n (Some r) at some = (r, refl, at)

pub told_common : {E : Type 0} (answers : List Answered) (items : List Item) (w : Window) (x y : ℕ) (above below : Source) →
    ((r : Bor RuleParts) × (above.with ≡ Some r) × (slice_get items y ≡ Some (Rule r.now))) → ((r : Bor RuleParts) × (below.with ≡ Some r) × (slice_get items x ≡ Some (Rule r.now))) →
    slice_get items x ≡ Some (Rule above.rule.now) → slice_get items y ≡ Some (Rule below.rule.now) →
    (res : Result (Option Obstacle) E) → IfOk res (λ found. IsToldOf answers w (OfWindow w (above ∷ below ∷ [])) found) → IfOk res (λ found. IsToldBy answers items (moved.Common x y) w found)
told_common answers items w x y above below a b above_at below_at (Ok found) h = (above ∷ below ∷ [], record { upper = above; lower = below; are = refl; upper_with = a; lower_with = b; upper_at = above_at; lower_at = below_at }, h)
told_common answers items w x y above below a b above_at below_at (Err e) h = tt
