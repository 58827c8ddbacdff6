use Rattle.std.proofs.Common.{◌≡◌, ℤ, pos, w64, of_z, to_z, ◌<◌, ◌∙◌, sym, subst, rules}
use Rattle.std.specs.Prelude.{◌≤ℤ◌}
use Rattle.std.proofs.lemmas.Int.{to_z-of_z}
use mir.Val.{SFits}
use Rattle.blockers_text.proofs.Planning.{not_above, saved_is, saves_by}
use Rattle.blockers_text.proofs.stopped.saved_by.Goals as goal
use Rattle.css_model.specs.Sheets.Limits.{max_bytes}
use Rattle.order_laws.specs.Edits.{edited}
use Rattle.step_laws.specs.Sizes.{size}

pub saving-requires-clause-length : goal.saving-requires-clause-length
saving-requires-clause-length c = (c.read_keeps_the_limits.ensures c.args.source.now c.requires.plannable.read.0 c.requires.plannable.read.1).0

pub saving-requires-clause-is_step : goal.saving-requires-clause-is_step
saving-requires-clause-is_step c = (c.requires.saves.edit, c.requires.saves.step)

pub bytes_of-requires : goal.bytes_of-requires
bytes_of-requires c =
    let fits : SFits w64 c.saving.result = search rules in
    let same : to_z w64 (of_z w64 c.saving.result) ≡ c.saving.result = to_z-of_z w64 c.saving.result fits in
    let small : to_z w64 (of_z w64 c.saving.result) ≤ℤ pos max_bytes =
    rw same (not_above (size c.args.source.now c.args.sheet.now.items) _ max_bytes c.saving.result (c.saving.ensures c.requires.saves.edit c.requires.saves.step) c.requires.plannable.short) in
    small

pub returns : goal.returns
returns c =
    let fits : SFits w64 c.saving.result = search rules in
    let same : to_z w64 (of_z w64 c.saving.result) ≡ c.saving.result = to_z-of_z w64 c.saving.result fits in
    let source = c.args.source.now in
    let items = c.args.sheet.now.items in
    let saves = c.requires.saves in
    saves_by (size source items) (size source (edited saves.edit items)) c.bytes_of.result c.saving.result (c.saving.ensures saves.edit saves.step) saves.shorter
    (subst (λ (z : ℤ). z ≤ℤ pos c.bytes_of.result) same c.bytes_of.ensures.most)
    (subst (λ (z : ℤ). 0 < c.bytes_of.result → z ≡ pos c.bytes_of.result) same c.bytes_of.ensures.exact)
    ∙ sym (saved_is source items c.args.step.now saves)
