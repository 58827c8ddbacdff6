use Rattle.std.proofs.Common.{sym, subst}
use Rattle.css_model.specs.declared.sheet.Item.{Item}
use Rattle.css_model.specs.Sheets.KeptRuleParts.{KeptRuleParts}
use Rattle.css_model.specs.Sheets.Sound.{IsSoundItem, IsSoundKeptRule, IsSoundBlock}
use Rattle.css_print.specs.Places.{BeginsAt}
use Rattle.css_print.proofs.PieceLemmas.{kept_begins, block_begins}
use Rattle.css_print.proofs.print.put_item.Goals as goal

pub put_kept-requires-clause-begins : goal.put_kept-requires-clause-begins
put_kept-requires-clause-begins g c =
    let source = c.args.source.now in
    let sound : IsSoundKeptRule source c.in-KeptRule.rule = subst (λ (item : Item). IsSoundItem source item) c.in-KeptRule.is c.requires.sound in
    subst (λ (k : KeptRuleParts). BeginsAt source k.piece.start) (sym c.rule.view_is) (kept_begins source c.in-KeptRule.rule sound)

pub put_kept-requires-in-KeptBlock-clause-begins : goal.put_kept-requires-in-KeptBlock-clause-begins
put_kept-requires-in-KeptBlock-clause-begins g c =
    let source = c.args.source.now in
    let sound : IsSoundBlock source c.in-KeptBlock.piece = subst (λ (item : Item). IsSoundItem source item) c.in-KeptBlock.is c.requires.sound in
    block_begins source c.in-KeptBlock.piece sound
