use Rattle.std.proofs.Common.{ap, append-nil, arith, length, suc, sym, ℕ, ◌++◌, ◌∙◌, ◌≡◌}
use Rattle.formula_laws.specs.Asked.{run_rests}
use Rattle.formula_laws.specs.Path.{each_below}
use Rattle.formula_laws.specs.Refused.{right_cells, right_joints, own_joint}
use Rattle.hint_clauses.proofs.Known.{gathered_each, right_near}
use Rattle.hint_clauses.proofs.joints.right_joints.Goals as goal

pub loop-p-init : goal.loop-p-init
loop-p-init c = c.in_ok-joints.ensures ∙ ap own_joint (c.deref.ensures.value ∙ c.in_ok-rests.ensures.value) ∙ sym (append-nil (own_joint (run_rests c.args.count c.args.right.now.links c.args.right.now.chain c.args.q)))

pub loop-p-preserved : goal.loop-p-preserved
loop-p-preserved c =
    gathered_each (own_joint (run_rests c.args.count c.args.right.now.links c.args.right.now.chain c.args.q)) c.loop-p.joints.items _ c.loop-p.p (right_cells c.args.count c.args.left.now c.args.right.now c.args.q) c.loop-p.invariant
    c.in_ok-push_right_cells.ensures

pub returns : goal.returns
returns c =
    let links = c.requires.left.links in
    let end : c.loop-p.p ≡ suc (length c.args.left.now.links) = omega arith in
    let made : c.loop-p.joints.items ≡ right_joints c.args.count c.args.left.now c.args.right.now c.args.q =
    c.loop-p.invariant ∙ ap (λ (n : ℕ). own_joint (run_rests c.args.count c.args.right.now.links c.args.right.now.chain c.args.q) ++ each_below n (right_cells c.args.count c.args.left.now c.args.right.now c.args.q)) end
    in
    record {
      value = made;
      near = right_near c.args.count c.args.left.now c.args.right.now c.args.q c.args.g.left c.args.g.right c.loop-p.joints.items c.requires.left.links c.requires.right.links (omega (arith, c.requires.small.left)) (omega (arith, c.requires.small.right)) made;
    }
