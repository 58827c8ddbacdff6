use Rattle.std.proofs.Common.{Bool, ◌++◌, [], ◌∷◌, refl}
use Rattle.css_model.specs.declared.selector.Flag.{Flag}
use Rattle.css_model.specs.declared.selector.Flag.TheVariants.{Link, Visited, Hover, Active, Focus, Target, Enabled, Disabled, Checked}
use Rattle.compound_fit.specs.Flags.{is_flag_asked}
use Rattle.compound_fit.proofs.Bits.{flags_are, one_bit}
use Rattle.compound_fit.proofs.flags.all_flags.Goals as goal

pub returns-clause-flags : goal.returns-clause-flags
returns-clause-flags c =
    let simples = c.args.x.now ++ c.args.y.now in
    let asked : Flag → Bool = λ flag. is_flag_asked flag simples in
    flags_are simples c.with.result
    (one_bit c.with-visited.result c.with.result (asked Link) (asked Visited ∷ asked Hover ∷ asked Active ∷ asked Focus ∷ asked Target ∷ asked Enabled ∷ asked Disabled ∷ asked Checked ∷ [])
    (one_bit c.with-hover.result c.with-visited.result (asked Visited) (asked Hover ∷ asked Active ∷ asked Focus ∷ asked Target ∷ asked Enabled ∷ asked Disabled ∷ asked Checked ∷ [])
    (one_bit c.with-active.result c.with-hover.result (asked Hover) (asked Active ∷ asked Focus ∷ asked Target ∷ asked Enabled ∷ asked Disabled ∷ asked Checked ∷ [])
    (one_bit c.with-focus.result c.with-active.result (asked Active) (asked Focus ∷ asked Target ∷ asked Enabled ∷ asked Disabled ∷ asked Checked ∷ [])
    (one_bit c.with-target.result c.with-focus.result (asked Focus) (asked Target ∷ asked Enabled ∷ asked Disabled ∷ asked Checked ∷ [])
    (one_bit c.with-enabled.result c.with-target.result (asked Target) (asked Enabled ∷ asked Disabled ∷ asked Checked ∷ [])
    (one_bit c.with-disabled.result c.with-enabled.result (asked Enabled) (asked Disabled ∷ asked Checked ∷ [])
    (one_bit c.with-checked.result c.with-disabled.result (asked Disabled) (asked Checked ∷ [])
    (one_bit 0 c.with-checked.result (asked Checked) [] refl c.with-checked.ensures.value)
    c.with-disabled.ensures.value) c.with-enabled.ensures.value) c.with-target.ensures.value) c.with-focus.ensures.value) c.with-active.ensures.value) c.with-hover.ensures.value)
    c.with-visited.ensures.value) c.with.ensures.value)
