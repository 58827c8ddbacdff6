use Rattle.std.proofs.Common.{◌≡◌, ℕ, pos, ◌-ℤ◌, ap, arith}
use Rattle.std.proofs.lemmas.Int.{ints}
use Rattle.order_laws.specs.Edits.{edited}
use Rattle.step_laws.specs.Sizes.{size}
use Rattle.step_savings.proofs.ApartWeights.{found_apart}
use Rattle.step_savings.proofs.Saved.{saves, weighable}
use Rattle.step_savings.proofs.savings.saving_if_apart.Goals as goal

pub taken_weight-taken-requires-clause-upper : goal.taken_weight-taken-requires-clause-upper
taken_weight-taken-requires-clause-upper g c =
    weighable (g.L.Lengths.source c.args.lengths.now) c.args.items.now c.items_of-first.result.0 c.rule_at.result.now _ c.requires.sound c.requires.short c.rule_at.ensures c.parts_of-upper.ensures

pub taken_weight-taken-requires-clause-lower : goal.taken_weight-taken-requires-clause-lower
taken_weight-taken-requires-clause-lower g c =
    weighable (g.L.Lengths.source c.args.lengths.now) c.args.items.now c.items_of-first.result.1 c.rule_at-2.result.now _ c.requires.sound c.requires.short c.rule_at-2.ensures c.parts_of-lower.ensures

pub brought_weight-brought-requires-clause-upper : goal.brought_weight-brought-requires-clause-upper
brought_weight-brought-requires-clause-upper g c =
    weighable (g.L.Lengths.source c.args.lengths.now) c.args.items.now c.items_of-first.result.0 c.rule_at.result.now _ c.requires.sound c.requires.short c.rule_at.ensures c.parts_of-upper.ensures

pub brought_weight-brought-requires-clause-lower : goal.brought_weight-brought-requires-clause-lower
brought_weight-brought-requires-clause-lower g c =
    weighable (g.L.Lengths.source c.args.lengths.now) c.args.items.now c.items_of-first.result.1 c.rule_at-2.result.now _ c.requires.sound c.requires.short c.rule_at-2.ensures c.parts_of-lower.ensures

pub taken_weight-taken-requires-clause-apart : goal.taken_weight-taken-requires-clause-apart
taken_weight-taken-requires-clause-apart g c = λ known.
    found_apart c.args.items.now c.args.step.now c.items_of-first.result.0 c.items_of-first.result.1 c.rule_at.result.now c.rule_at-2.result.now _ _
    (ap (λ (p : ℕ × ℕ). p.0) c.items_of-first.ensures) (ap (λ (p : ℕ × ℕ). p.1) c.items_of-first.ensures) c.rule_at.ensures c.rule_at-2.ensures c.parts_of-upper.ensures c.parts_of-lower.ensures (c.requires.apart known)

pub brought_weight-brought-requires-clause-apart : goal.brought_weight-brought-requires-clause-apart
brought_weight-brought-requires-clause-apart g c = λ known.
    found_apart c.args.items.now c.args.step.now c.items_of-first.result.0 c.items_of-first.result.1 c.rule_at.result.now c.rule_at-2.result.now _ _
    (ap (λ (p : ℕ × ℕ). p.0) c.items_of-first.ensures) (ap (λ (p : ℕ × ℕ). p.1) c.items_of-first.ensures) c.rule_at.ensures c.rule_at-2.ensures c.parts_of-upper.ensures c.parts_of-lower.ensures (c.requires.apart known)

pub returns : goal.returns
returns g c = λ e is.
    let saved : pos c.taken_weight-taken.result -ℤ pos c.brought_weight-brought.result ≡ pos (size (g.L.Lengths.source c.args.lengths.now) c.args.items.now) -ℤ pos (size (g.L.Lengths.source c.args.lengths.now) (edited e c.args.items.now)) =
    saves (g.L.Lengths.source c.args.lengths.now) c.args.items.now c.args.step.now c.rule_at.result.now c.rule_at-2.result.now _ _ c.items_of-first.result.0 c.items_of-first.result.1 c.taken_weight-taken.result c.brought_weight-brought.result
    (ap (λ (p : ℕ × ℕ). p.0) c.items_of-first.ensures) (ap (λ (p : ℕ × ℕ). p.1) c.items_of-first.ensures) c.requires.sound c.rule_at.ensures c.rule_at-2.ensures c.parts_of-upper.ensures c.parts_of-lower.ensures
    c.taken_weight-taken.ensures.exact c.brought_weight-brought.ensures.exact e is in
    omega (arith, ints, c.difference.ensures, saved, c.taken_weight-taken.ensures.small, c.brought_weight-brought.ensures.small)
