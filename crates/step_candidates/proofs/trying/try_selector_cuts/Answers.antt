use Rattle.std.proofs.Common.{◌≡◌, ℕ, subst, arith}
use Rattle.step_candidates.specs.Walking.{Adds, IsSelectorCut}
use Rattle.step_candidates.proofs.AddedSteps.{selector_cut_more, no_selector_cuts}
use Rattle.step_candidates.proofs.trying.try_selector_cuts.Goals as goal

pub loop-sel-init : goal.loop-sel-init
loop-sel-init c = no_selector_cuts c.args.on.now.lengths.now c.args.on.now.sheet.now.items c.args.number c.args.found.now

pub loop-sel-preserved : goal.loop-sel-preserved
loop-sel-preserved c = selector_cut_more c.args.on.now.lengths.now c.args.on.now.sheet.now.items c.args.number c.loop-sel.sel c.args.found.now c.loop-sel.found c.try_step.new.found c.loop-sel.invariant c.in_ok-try_step.ensures

pub returns : goal.returns
returns c =
    let e : c.loop-sel.sel ≡ c.args.count = omega (arith, c.loop-sel-test.false, c.loop-sel.auto.sel-end) in
    subst (λ (n : ℕ). Adds c.args.on.now.lengths.now c.args.on.now.sheet.now.items (IsSelectorCut c.args.number n) c.args.found.now c.loop-sel.found) e c.loop-sel.invariant
