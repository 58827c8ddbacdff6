use Rattle.std.proofs.Common.{◌≡◌, ◌++◌, ◌∷◌, [], ◌+◌, ℕ, suc, take, sym, ap, ap₂, ◌∙◌, arith}
use Rattle.std.specs.Prelude.{bit_or}
use Rattle.std.proofs.Math.Seq.{take-suc}
use Rattle.order_index.proofs.MovedMasks.{masks_next}
use Rattle.order_index.proofs.moving.mask_of_all.Goals as goal
use Rattle.order_index.specs.Walked.{with_masks}
use Rattle.order_laws.specs.Places.{PlacedPair}

pub loop-p-preserved : goal.loop-p-preserved
loop-p-preserved c =
    let ps = c.args.pairs.now in
    let i = c.loop-p.p-index in
    let p = c.p-item.result in
    let next : suc i ≡ i + 1 = omega arith in
    let more : take i ps ++ p ∷ [] ≡ take (i + 1) ps = ap (λ (x : PlacedPair). take i ps ++ x ∷ []) c.p-item.is ∙ sym (take-suc ps i p (omega arith)) ∙ ap (λ (n : ℕ). take n ps) next in
    ap₂ bit_or c.loop-p.invariant c.families_of-mask.ensures ∙ sym (masks_next 0 (take i ps) p) ∙ ap (with_masks 0) more
