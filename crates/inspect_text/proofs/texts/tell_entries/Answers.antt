use Rattle.std.proofs.Common.{ℕ, List, ◌++◌, ◌∷◌, ap, ap₂, ◌∙◌}
use Rattle.std.specs.List.{flat_map}
use Rattle.inspect_text.specs.InspectTexts.{kept_line}
use Rattle.inspect_text.proofs.Lines.{tells}
use Rattle.inspect_text.proofs.texts.tell_entries.Goals as goal

pub returns : goal.returns
returns c =
    tells c.args.x.now c.args.source.now c.args.sheet.now.items c.in_ok-texts.texts.items c.push_groups.new.out.items c.in_ok-texts.ensures
    (c.in_ok-push_groups.ensures
    ∙ ap₂ (λ (text : List ℕ) (texts : List (List ℕ)). text ++ flat_map (λ xs. 10 ∷ xs) texts) (c.in_ok-text.ensures ∙ ap kept_line c.kept_in_all.ensures) c.deref-3.ensures.value)
