use Rattle.std.proofs.Common.{ap, append-nil, arith, length, suc, sym, ℕ, ◌++◌, ◌∙◌, ◌≡◌}
use Rattle.formula_laws.specs.Asked.{run_rests}
use Rattle.formula_laws.specs.Path.{each_below}
use Rattle.formula_laws.specs.Refused.{left_cells, left_joints, own_joint}
use Rattle.hint_clauses.proofs.Known.{gathered_each, left_near}
use Rattle.hint_clauses.proofs.joints.left_joints.Goals as goal

pub loop-q-init : goal.loop-q-init
loop-q-init c = c.in_ok-joints.ensures ∙ ap own_joint (c.deref.ensures.value ∙ c.in_ok-rests.ensures.value) ∙ sym (append-nil (own_joint (run_rests c.args.count c.args.left.now.links c.args.left.now.chain c.args.p)))

pub loop-q-preserved : goal.loop-q-preserved
loop-q-preserved c =
    gathered_each (own_joint (run_rests c.args.count c.args.left.now.links c.args.left.now.chain c.args.p)) c.loop-q.joints.items _ c.loop-q.q (left_cells c.args.count c.args.left.now c.args.right.now c.args.p) c.loop-q.invariant
    c.in_ok-push_left_cells.ensures

pub returns : goal.returns
returns c =
    let links = c.requires.right.links in
    let end : c.loop-q.q ≡ suc (length c.args.right.now.links) = omega arith in
    let made : c.loop-q.joints.items ≡ left_joints c.args.count c.args.left.now c.args.right.now c.args.p =
    c.loop-q.invariant ∙ ap (λ (n : ℕ). own_joint (run_rests c.args.count c.args.left.now.links c.args.left.now.chain c.args.p) ++ each_below n (left_cells c.args.count c.args.left.now c.args.right.now c.args.p)) end
    in
    record {
      value = made;
      near = left_near c.args.count c.args.left.now c.args.right.now c.args.p c.args.g.left c.args.g.right c.loop-q.joints.items c.requires.left.links c.requires.right.links (omega (arith, c.requires.small.left)) (omega (arith, c.requires.small.right)) made;
    }
