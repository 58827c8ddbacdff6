use Rattle.std.proofs.Common.{◌≤◌, ℕ, List, [], ◌∷◌, ◌++◌, length, sym, ap, ap₂, ◌∙◌, subst, arith}
use Rattle.css_model.specs.Sheets.Limits.{max_bytes}
use Rattle.css_model.specs.Sheets.Printed.{printed}
use Rattle.css_model.specs.Sheets.Sound.{IsSound}
use Rattle.css_model.specs.Sheets.Spelling.{kept_text}
use Rattle.css_model.specs.Text.Source.{text_at}
use Rattle.media_groups.proofs.Texts.{block_joined, text_short}
use Rattle.media_groups.proofs.printing.put_block.Goals as goal

pub print_sheet-requires-clause-length : goal.print_sheet-requires-clause-length
print_sheet-requires-clause-length c =
    let short = text_short c.args.reading.now.source.now c.args.block.now.body in
    let limit = c.args.reading.now.short in
    subst (λ (text : List ℕ). length text ≤ max_bytes) (sym c.text.ensures) (omega (arith, short, limit))

pub print_sheet-requires-clause-sound : goal.print_sheet-requires-clause-sound
print_sheet-requires-clause-sound c = subst (λ (text : List ℕ). IsSound text c.args.body.now.items) (sym c.text.ensures) c.requires.sound

pub returns : goal.returns
returns c =
    let source = c.args.reading.now.source.now in
    let head = kept_text source c.args.block.now.head in
    let body = printed (text_at source c.args.block.now.body) c.args.body.now.items in
    c.in_ok-push-2.ensures.items
    ∙ ap (λ (t : List ℕ). t ++ 125 ∷ [])
    (c.in_ok-extend_from_slice.ensures.items
    ∙ ap₂ (λ (t u : List ℕ). t ++ u) (c.in_ok-push.ensures.items ∙ ap (λ (t : List ℕ). t ++ 123 ∷ []) c.in_ok-put_piece.ensures)
    (c.as_slice.ensures.value ∙ c.in_ok-text.ensures ∙ ap (λ (t : List ℕ). printed t c.args.body.now.items) c.text.ensures))
    ∙ block_joined c.args.out.now.items head body
