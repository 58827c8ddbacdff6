use Rattle.std.proofs.Common.{◌≡◌, ◌∷◌, [], List, ℕ, Ok, Some, sym, ap, subst, ◌∙◌}
use Rattle.blockers_text.proofs.lines.tell_body.Goals as goal
use Rattle.blockers_text.specs.Levels.{Tells}
use Rattle.css_model.specs.Sheets.Sheet.{sheet_of}
use Rattle.css_model.specs.Text.Source.{IsWithin, text_at}

pub text-source-requires : goal.text-source-requires
text-source-requires c = subst (λ (text : List ℕ). IsWithin text c.args.block.now.body) (sym c.text_of.ensures) c.requires.within

pub tell_level-requires : goal.tell_level-requires
tell_level-requires c =
    let block = c.args.block.now in
    subst (λ (source : List ℕ). sheet_of source ≡ Ok block.sheet.items) (sym (c.text-source.ensures ∙ ap (λ (text : List ℕ). text_at text block.body) c.text_of.ensures)) c.requires.reads

pub returns-clause-tells : goal.returns-clause-tells
returns-clause-tells c = λ later is.
    let block = c.args.block.now in
    subst (λ (source : List ℕ). Tells later c.args.lines.now.text.now (record { block = Some block.item; start = block.body.start; source = source; items = block.sheet.items } ∷ []) c.args.told.now c.tell_level.new.told)
    (c.text-source.ensures ∙ ap (λ (text : List ℕ). text_at text block.body) c.text_of.ensures) (c.in_ok-tell_level.ensures.tells later is)
