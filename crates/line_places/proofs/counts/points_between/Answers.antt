use Rattle.std.proofs.Common.{◌≡◌, ◌≤◌, ◌-◌, ◌∙◌, ap, arith, length, slice_range}
use Rattle.line_places.specs.Lines as spec
use Rattle.line_places.proofs.Points.{points_split, range_clipped}
use Rattle.line_places.proofs.counts.points_between.Goals as goal

pub overflow_sub-result : goal.overflow_sub-result
overflow_sub-result c =
    let split = points_split c.args.from c.min-end.result c.args.text.now (omega (arith, c.if-from-end.true)) in
    omega (arith, split, c.points_before.ensures, c.points_before-then-from-end.ensures)

pub returns-then-from-end-clause-count : goal.returns-then-from-end-clause-count
returns-then-from-end-clause-count c =
    let text = c.args.text.now in
    let split = points_split c.args.from c.min-end.result text (omega (arith, c.if-from-end.true)) in
    let between : c.points_before.result - c.points_before-then-from-end.result ≡ spec.code_points (slice_range text c.args.from c.min-end.result) =
    omega (arith, split, c.points_before.ensures, c.points_before-then-from-end.ensures) in
    between ∙ ap (λ n. spec.code_points (slice_range text c.args.from n)) c.min-end.ensures ∙ ap spec.code_points (range_clipped c.args.from c.args.to text)
