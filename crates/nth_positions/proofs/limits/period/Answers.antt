-- One part more makes the period the least common multiple of both.
use Rattle.std.proofs.Common.{◌≡◌, ℕ, ◌+◌, ◌≤◌, ◌<◌, ◌*◌, ◌^◌, pos, ◌∙◌, sym, ap, subst, arith, rules, get_or, take, List, [], ◌∷◌, ◌++◌, w32, refl, cond}
use Rattle.std.specs.Prelude.{unsigned_abs, FitsSigned, count_by}
use Rattle.std.proofs.lemmas.Int.{to_z-of_z}
use Rattle.std.proofs.lemmas.List.{take_more, take_all}
use Rattle.std.proofs.lemmas.List.Sums.{sum_by_more, sum_by-take-le}
use Rattle.css_model.specs.declared.position.AnB.{AnB}
use Rattle.css_model.specs.Positions.Range.{is_stepped}
use Rattle.nth_positions.specs.Gaps.{IsLeastCommonMultiple}
use Rattle.nth_positions.proofs.CommonMultiples.{IsPeriod, period_none, period_more, period_past_zero, period_is, room, grown, period_small, kept, size_from_bits, no_size_from_bits}
use Rattle.nth_positions.proofs.limits.period.Goals as goal
use Rattle.nth_positions.proofs.limits.period.Goals.{then-x-ne0, else-x-ne0}

abbrev none : AnB
none = record { a = pos 0; b = pos 0 }

pub loop-x-init : goal.loop-x-init
loop-x-init c = record { exact = period_none; small = omega arith }

pub least_common_multiple-period-requires-clause-fits : goal.least_common_multiple-period-requires-clause-fits
least_common_multiple-period-requires-clause-fits c =
    let x : AnB = get_or c.args.parts.now c.loop-x.x-index none in
    let f : FitsSigned w32 x.a = search rules in
    let size : c.unsigned_abs.result ≡ unsigned_abs x.a = c.unsigned_abs.ensures.value ∙ ap unsigned_abs (to_z-of_z w32 x.a f) in
    let range : unsigned_abs x.a ≤ 32 = (c.requires.in_range c.loop-x.x-index none c.loop-x-test.true).0 in
    let few : count_by is_stepped (take c.loop-x.x-index c.args.parts.now) ≤ count_by is_stepped c.args.parts.now = sum_by-take-le (λ y. cond (is_stepped y) 1 0) c.args.parts.now c.loop-x.x-index in
    room c.loop-x.period c.unsigned_abs.result (count_by is_stepped (take c.loop-x.x-index c.args.parts.now)) c.loop-x.invariant.small (omega arith) (omega arith)

pub loop-x-preserved : goal.loop-x-preserved
loop-x-preserved c =
    let parts : List AnB = c.args.parts.now in
    let i : ℕ = c.loop-x.x-index in
    let x : AnB = get_or parts i none in
    let before : List AnB = take i parts in
    let more : take (i + 1) parts ≡ before ++ (x ∷ []) = take_more parts i none c.loop-x-test.true in
    let range : unsigned_abs x.a ≤ 32 = (c.requires.in_range i none c.loop-x-test.true).0 in
    let counted : count_by is_stepped (take (i + 1) parts) ≡ count_by is_stepped before + cond (is_stepped x) 1 0 = sum_by_more (λ y. cond (is_stepped y) 1 0) parts i none c.loop-x-test.true in
    elim c.if-x-ne0.branch [
      | then-x-ne0 w ↦ (
          let f : FitsSigned w32 x.a = search rules in
          let size : w.unsigned_abs.result ≡ unsigned_abs x.a = w.unsigned_abs.ensures.value ∙ ap unsigned_abs (to_z-of_z w32 x.a f) in
          let l : IsLeastCommonMultiple c.loop-x.period (unsigned_abs x.a) w.least_common_multiple-period.result = subst (λ (s : ℕ). IsLeastCommonMultiple c.loop-x.period s w.least_common_multiple-period.result) size w.least_common_multiple-period.ensures.least in
          let positive : 0 < unsigned_abs x.a = size_from_bits x.a w.if-x-ne0.true in
          let bound : w.least_common_multiple-period.result ≤ c.loop-x.period * unsigned_abs x.a = subst (λ (s : ℕ). w.least_common_multiple-period.result ≤ c.loop-x.period * s) size w.least_common_multiple-period.ensures.small in
          record {
            exact = subst (λ (n : ℕ). IsPeriod (take (i + 1) parts) n) (sym w.period-is) (subst (λ (xs : List AnB). IsPeriod xs w.least_common_multiple-period.result) (sym more) (period_more before x c.loop-x.period w.least_common_multiple-period.result positive c.loop-x.invariant.exact l));
            small = subst (λ (n : ℕ). c.if-x-ne0.period ≤ 32 ^ n) (sym counted) (subst (λ (p : ℕ). p ≤ 32 ^ (count_by is_stepped before + cond (is_stepped x) 1 0)) (sym w.period-is) (grown c.loop-x.period (unsigned_abs x.a) (count_by is_stepped before) w.least_common_multiple-period.result (is_stepped x) c.loop-x.invariant.small bound range refl));
          })
      | else-x-ne0 w ↦ record {
        exact = subst (λ (n : ℕ). IsPeriod (take (i + 1) parts) n) (sym w.period-is) (subst (λ (xs : List AnB). IsPeriod xs c.loop-x.period) (sym more) (period_past_zero before x c.loop-x.period (no_size_from_bits x.a (search rules) w.if-x-ne0.false) c.loop-x.invariant.exact));
        small = subst (λ (n : ℕ). c.if-x-ne0.period ≤ 32 ^ n) (sym counted) (subst (λ (p : ℕ). p ≤ 32 ^ (count_by is_stepped before + cond (is_stepped x) 1 0)) (sym w.period-is) (kept c.loop-x.period (count_by is_stepped before) (is_stepped x) c.loop-x.invariant.small));
      }
    ]

pub returns-clause-exact : goal.returns-clause-exact
returns-clause-exact c = let e : take c.loop-x.x-index c.args.parts.now ≡ c.args.parts.now = take_all c.loop-x.x-index c.args.parts.now (omega arith) in sym (period_is c.args.parts.now c.loop-x.period (subst (λ (xs : List AnB). IsPeriod xs c.loop-x.period) e c.loop-x.invariant.exact))

pub returns-clause-small : goal.returns-clause-small
returns-clause-small c =
    let few : count_by is_stepped (take c.loop-x.x-index c.args.parts.now) ≤ count_by is_stepped c.args.parts.now = sum_by-take-le (λ y. cond (is_stepped y) 1 0) c.args.parts.now c.loop-x.x-index in
    period_small c.loop-x.period (count_by is_stepped (take c.loop-x.x-index c.args.parts.now)) c.loop-x.invariant.small (omega arith)
