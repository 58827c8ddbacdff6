use Rattle.std.proofs.Common.{rules, ◌≡◌, ◌<◌, pos, w64, of_z, to_z, subst, ℤ}
use Rattle.std.specs.Prelude.{◌≤ℤ◌}
use Rattle.std.proofs.lemmas.Int.{to_z-of_z}
use mir.Val.{SFits}
use Rattle.css_model.specs.Sheets.Limits.{max_bytes}
use Rattle.saved_bytes.proofs.savings.saved_if_apart.Goals as goal
use Rattle.saved_bytes.proofs.Gains.{not_above, saved}

pub gain-requires : goal.gain-requires
gain-requires c =
    let fits : SFits w64 c.saving_if_apart.result = search rules in
    let same : to_z w64 (of_z w64 c.saving_if_apart.result) ≡ c.saving_if_apart.result = to_z-of_z w64 c.saving_if_apart.result fits in
    let small : to_z w64 (of_z w64 c.saving_if_apart.result) ≤ℤ pos max_bytes =
    rw same (not_above c.args.source.now c.args.items.now c.args.step.now c.saving_if_apart.result c.requires.plannable c.requires.is_step c.saving_if_apart.ensures) in
    small

pub returns : goal.returns
returns c =
    let fits : SFits w64 c.saving_if_apart.result = search rules in
    let same : to_z w64 (of_z w64 c.saving_if_apart.result) ≡ c.saving_if_apart.result = to_z-of_z w64 c.saving_if_apart.result fits in
    saved c.args.source.now c.args.items.now c.args.step.now c.saving_if_apart.result c.gain.result c.saving_if_apart.ensures
    (subst (λ (z : ℤ). z ≤ℤ pos c.gain.result) same c.gain.ensures.most)
    (subst (λ (z : ℤ). 0 < c.gain.result → z ≡ pos c.gain.result) same c.gain.ensures.exact)
