use Rattle.std.proofs.Common.{arith, subst, sym, ◌^◌, ◌∙◌, ◌≤◌}
use Rattle.cnf.specs.Cnf.{Cnf}
use Rattle.hint_clauses.proofs.Distanced.{shared_is}
use Rattle.hint_clauses.proofs.distances.add_shared_distance.Goals as goal

pub add_related-requires-clause-gap : goal.add_related-requires-clause-gap
add_related-requires-clause-gap c =
    c.row_gap-gap.ensures.gap _ (c.together-node.ensures.in_range _ (omega (arith, c.requires.in_range))) (c.in_ok-left.ensures.front _ c.requires.in_range) (c.in_ok-right.ensures.front _ c.requires.in_range)

pub add_related-requires-clause-room : goal.add_related-requires-clause-room
add_related-requires-clause-room c =
    subst (λ (h : Cnf). h.vars ≤ 2 ^ 30)
    (sym (c.row_gap-gap.ensures.value c.args.f.now
    ∙ shared_is c.args.pair.now c.row_start-s.result c.row_start-t.result c.args.p c.args.q _ _ _ c.args.f.now c.requires.pair (sym c.begin_runs.ensures ∙ c.if-not-begin_runs.false) c.row_start-s.ensures.value c.row_start-t.ensures.value
    (sym c.may_be_apart.ensures ∙ c.if-not-may_be_apart.false) c.together-node.ensures.value c.in_ok-left.ensures.value c.in_ok-right.ensures.value))
    c.requires.room

pub returns : goal.returns
returns c =
    c.in_ok-add_related.ensures ∙ c.row_gap-gap.ensures.value c.args.f.now
    ∙ shared_is c.args.pair.now c.row_start-s.result c.row_start-t.result c.args.p c.args.q _ _ _ c.args.f.now c.requires.pair (sym c.begin_runs.ensures ∙ c.if-not-begin_runs.false) c.row_start-s.ensures.value c.row_start-t.ensures.value
    (sym c.may_be_apart.ensures ∙ c.if-not-may_be_apart.false) c.together-node.ensures.value c.in_ok-left.ensures.value c.in_ok-right.ensures.value
