use Rattle.std.proofs.Common.{◌≡◌, ◌≤◌, ◌<◌, ◌+◌, ◌*◌, ◌/◌, ℕ, length, ap₂, ◌∙◌, arith}
use Rattle.line_places.proofs.Points.{block_below, block_start, points_split}
use Rattle.line_places.proofs.counts.points_before.Goals as goal

pub returns : goal.returns
returns c =
    let text = c.args.text.now in
    let block = c.args.at / 64 in
    let low = block_below c.args.at (length text) c.requires.inside in
    let below : block < length c.args.counts.now = omega (arith, low, c.requires.counts.many) in
    ap₂ (λ (a b : ℕ). a + b) (c.requires.counts.each block below) c.code_points.ensures.count ∙ points_split (block * 64) c.args.at text (block_start c.args.at)
