use Rattle.std.proofs.Common.{◌≡◌, ℕ, subst, arith}
use Rattle.step_candidates.specs.Walking.{Adds, IsDeclCut}
use Rattle.step_candidates.proofs.AddedSteps.{decl_cut_more, no_decl_cuts}
use Rattle.step_candidates.proofs.trying.try_decl_cuts.Goals as goal

pub loop-decl-init : goal.loop-decl-init
loop-decl-init c = no_decl_cuts c.args.on.now.lengths.now c.args.on.now.sheet.now.items c.args.number c.args.found.now

pub loop-decl-preserved : goal.loop-decl-preserved
loop-decl-preserved c = decl_cut_more c.args.on.now.lengths.now c.args.on.now.sheet.now.items c.args.number c.loop-decl.decl c.args.found.now c.loop-decl.found c.try_step.new.found c.loop-decl.invariant c.in_ok-try_step.ensures

pub returns : goal.returns
returns c =
    let e : c.loop-decl.decl ≡ c.args.count = omega (arith, c.loop-decl-test.false, c.loop-decl.auto.decl-end) in
    subst (λ (n : ℕ). Adds c.args.on.now.lengths.now c.args.on.now.sheet.now.items (IsDeclCut c.args.number n) c.args.found.now c.loop-decl.found) e c.loop-decl.invariant
