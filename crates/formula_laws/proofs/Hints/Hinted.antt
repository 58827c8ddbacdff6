-- All conditions with their hints.
use Rattle.std.proofs.Common.{length, true, ℕ, ◌≡◌}
use Rattle.formula_laws.proofs.Hints.Distancing.{distance_hints_hint}
use Rattle.formula_laws.proofs.Hints.Hint.{Hint, IsStable, both_hints, when_hint, with_hint}
use Rattle.formula_laws.proofs.Hints.RefusedChains.{refused_hints_hint}
use Rattle.formula_laws.proofs.Hints.Remaining.{befores_say, behinds_say, remainders_hint}
use Rattle.formula_laws.proofs.Hints.Rises.{rises_hint}
use Rattle.formula_laws.proofs.Items.Items.{Item}
use Rattle.formula_laws.proofs.Numbers.Counted.{NamesBelow}
use Rattle.formula_laws.proofs.Whole.Conditions.{Says, conditions_item}
use Rattle.formula_laws.specs.Allowed.{Allowed}
use Rattle.formula_laws.specs.Counts.{Names}
use Rattle.formula_laws.specs.Distances.{with_distance_hints}
use Rattle.formula_laws.specs.Formula.{SmallSteps, with_all, with_conditions}
use Rattle.formula_laws.specs.Hinted.{with_hints}
use Rattle.formula_laws.specs.Hints.{Owns, with_asked_hints, with_remainders, with_rises}
use Rattle.formula_laws.specs.Refused.{with_refused_hints}
use Rattle.formula_laws.specs.declared.count.Count.TheVariants.{Before, Behind}
use Rattle.css_model.specs.Documents.SelectorParts.{SelectorParts}
use Rattle.grid_laws.specs.Solved.{numbers_asked}

-- those on numbers that rise, and on what they leave, follow from what the conditions say of numbers
asked_hint : (base w : ℕ) (x y : SelectorParts) (allowed : Allowed) (names : Names) → NamesBelow base (length x.links) (length y.links) w names → IsStable base (Says x y allowed names) → numbers_asked x y ≡ true →
    Hint base (λ f. with_asked_hints x y names f) (Says x y allowed names)
asked_hint base w x y allowed names h stable asked =
    both_hints base (λ f. with_remainders x y befores (with_rises y.links names.ay (with_rises x.links names.ax f))) (λ f. with_remainders x y behinds f) (Says x y allowed names) stable
    (both_hints base (λ f. with_rises y.links names.ay (with_rises x.links names.ax f)) (λ f. with_remainders x y befores f) (Says x y allowed names) stable
    (both_hints base (λ f. with_rises x.links names.ax f) (λ f. with_rises y.links names.ay f) (Says x y allowed names) stable
    (rises_hint base w x.links names.bx names.ax names.one (Says x y allowed names) h.ax stable (λ vs s. (s.numbers asked).1.run_left))
    (rises_hint base w y.links names.by names.ay names.one (Says x y allowed names) h.ay stable (λ vs s. (s.numbers asked).1.run_right)))
    (remainders_hint base x y befores (Says x y allowed names) stable h.nodes (λ p hp. (h.bx p hp).0) (λ q hq. (h.by q hq).0) (λ vs s. befores_say x y allowed names vs asked s)))
    (remainders_hint base x y behinds (Says x y allowed names) stable h.nodes (λ p hp. (h.ax p hp).0) (λ q hq. (h.ay q hq).0) (λ vs s. behinds_say x y allowed names vs asked s))
  where
    befores : Owns
    befores = record { count = Before; left = names.bx; right = names.by }

    behinds : Owns
    behinds = record { count = Behind; left = names.ax; right = names.ay }

-- all of them
hints_follow : (base w : ℕ) (x y : SelectorParts) (allowed : Allowed) (names : Names) → NamesBelow base (length x.links) (length y.links) w names → IsStable base (Says x y allowed names) →
    Hint base (with_hints x y names) (Says x y allowed names)
hints_follow base w x y allowed names h stable =
    when_hint base (numbers_asked x y) (λ f. with_distance_hints x y names (with_refused_hints x y names (with_asked_hints x y names f))) (Says x y allowed names) (λ asked.
    both_hints base (λ f. with_refused_hints x y names (with_asked_hints x y names f)) (λ f. with_distance_hints x y names f) (Says x y allowed names) stable
    (both_hints base (λ f. with_asked_hints x y names f) (λ f. with_refused_hints x y names f) (Says x y allowed names) stable
    (asked_hint base w x y allowed names h stable asked) (refused_hints_hint base w x y allowed names h stable asked))
    (distance_hints_hint base w x y allowed names h stable asked))

pub all_item : (base w : ℕ) (x y : SelectorParts) (allowed : Allowed) (names : Names) → NamesBelow base (length x.links) (length y.links) w names → SmallSteps x y → Item base (with_all x y allowed names) (Says x y allowed names)
all_item base w x y allowed names h small =
    let item = conditions_item base w x y allowed names h small in
    with_hint base (with_conditions x y allowed names) (with_hints x y names) (Says x y allowed names) item (hints_follow base w x y allowed names h item.stable)
