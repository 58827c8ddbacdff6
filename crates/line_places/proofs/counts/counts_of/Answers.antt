use Rattle.std.proofs.Common.{◌≡◌, ◌≤◌, ◌<◌, ◌+◌, ◌-◌, ◌*◌, ◌/◌, ℕ, List, suc, length, get_or, take, slice_range, ap, ap₂, ◌∙◌, arith}
use Rattle.std.proofs.lemmas.List.{length_push}
use Rattle.line_places.specs.Lines as spec
use Rattle.line_places.proofs.Points.{counts_more, points_split, range_short}
use Rattle.line_places.proofs.counts.counts_of.Goals as goal

pub loop-k-preserved : goal.loop-k-preserved
loop-k-preserved c =
    let text = c.args.text.now in
    let k = c.loop-k.k in
    let counts = c.loop-k.counts.items in
    let more = c.loop-k.total + c.code_points-total.result in
    let items = c.in_ok-push-2.ensures.items in
    let next : k * 64 + 64 ≡ suc k * 64 = omega arith in
    let total : more ≡ spec.code_points (take (suc k * 64) text) =
    ap₂ (λ (a b : ℕ). a + b) c.loop-k.invariant.total c.code_points-total.ensures.count ∙ points_split (k * 64) (k * 64 + 64) text (omega arith) ∙ ap (λ (n : ℕ). spec.code_points (take n text)) next in
    let same : suc k * 64 ≡ (k + 1) * 64 = omega arith in
    let short = range_short (k * 64) (k * 64 + 64) text in
    record {
      many = (let size = length_push counts more in ap length items ∙ omega (arith, size, c.loop-k.invariant.many));
      each = λ j below. ap (λ (xs : List ℕ). get_or xs j 0) items ∙ counts_more text counts (suc k) more c.loop-k.invariant.many total c.loop-k.invariant.each j (omega (arith, below));
      total = total ∙ ap (λ (n : ℕ). spec.code_points (take n text)) same;
      few = omega (arith, c.loop-k.invariant.few, c.code_points-total.ensures.few, short);
    }
