use Rattle.std.proofs.Common.{◌≡◌, ◌≤◌, ◌<◌, ◌+◌, ℕ, List, true, false, length, min, get_or, slice_range, sym, ap, ◌∙◌, subst, arith}
use Rattle.std.proofs.lemmas.List.{get_or_default, length_push, take_rest}
use Rattle.line_places.specs.Lines as spec
use Rattle.line_places.proofs.Beginnings.{last_push, min_low, place_is, starts_clipped, starts_none, starts_one}
use Rattle.line_places.proofs.lines.place_in.Goals as goal
use Rattle.line_places.proofs.lines.place_in.Goals.{then-ends_line, else-ends_line}

pub loop-i-preserved : goal.loop-i-preserved
loop-i-preserved c =
    let text = c.args.text.now in
    let i = c.loop-i.i in
    let byte = get_or text i 0 in
    let below : i < length text = (let low = min_low c.args.at (length text) c.min-i-end.result c.min-i-end.ensures in omega (arith, low.1, c.loop-i-test.true)) in
    let read : byte ≡ get_or text i byte = get_or_default text i 0 byte below in
    let rest = take_rest text (i + 1) in
    let first = spec.first_start text in
    let old = spec.starts_within i 0 text in
    elim c.if-ends_line.branch [
      | then-ends_line w ↦
          let ends = subst (λ (others : List ℕ). spec.ends_line byte others ≡ true) rest (sym c.ends_line.ensures ∙ w.if-ends_line.true) in
          let one = starts_one i byte text below read ends in
          record {
            lines = w.lines-is ∙ ap (λ (n : ℕ). n + 1) c.loop-i.invariant.lines ∙ sym (length_push old (i + 1)) ∙ sym (ap length one);
            start = w.start-is ∙ sym (last_push first (i + 1) old) ∙ sym (ap (spec.last_of first) one);
            few = omega (arith, w.lines-is, c.loop-i.invariant.few);
          }
      | else-ends_line w ↦
          let ends = subst (λ (others : List ℕ). spec.ends_line byte others ≡ false) rest (sym c.ends_line.ensures ∙ w.if-ends_line.false) in
          let none = starts_none i byte text below read ends in
          record {
            lines = w.lines-is ∙ c.loop-i.invariant.lines ∙ sym (ap length none);
            start = w.start-is ∙ c.loop-i.invariant.start ∙ sym (ap (spec.last_of first) none);
            few = omega (arith, w.lines-is, c.loop-i.invariant.few);
          }
    ]

pub returns : goal.returns
returns c =
    let text = c.args.text.now in
    let i = c.loop-i.i in
    let first = spec.first_start text in
    let ended : i ≡ min c.args.at (length text) = (let done : i ≡ c.min-i-end.result = omega (arith, c.loop-i-test.false, c.loop-i.auto.i-end) in done ∙ c.min-i-end.ensures) in
    let starts = ap (λ (n : ℕ). spec.starts_within n 0 text) ended ∙ starts_clipped c.args.at 0 text in
    let start = c.loop-i.invariant.start ∙ ap (spec.last_of first) starts in
    place_is _ _ _ _ (c.loop-i.invariant.lines ∙ ap length starts)
    (c.code_points.ensures.count ∙ ap spec.code_points (c.range.ensures ∙ ap (λ (s : ℕ). slice_range text s c.args.at) start))
