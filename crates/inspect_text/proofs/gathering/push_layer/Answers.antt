use Rattle.std.proofs.Common.{List, ap, subst, sym}
use Rattle.std.specs.List.{AllByRecursion}
use Rattle.cascade_eval.specs.Entries.{HasSmallSelectors}
use Rattle.css_model.specs.declared.sheet.Item.{Item}
use Rattle.css_model.specs.Sheets.Sound.{IsSound}
use Rattle.inspect_laws.specs.Entries.{Layer}
use Rattle.style_text.proofs.ForCallers.{read_is_small}
use Rattle.inspect_text.proofs.Limits.{read_is_short}
use Rattle.inspect_text.proofs.gathering.push_layer.Goals as goal

pub push_items-requires-clause-small : goal.push_items-requires-clause-small
push_items-requires-clause-small c =
    subst (λ (items : List Item). AllByRecursion HasSmallSelectors items) (sym (ap (λ (l : Layer). l.items) c.layer.view_is))
    (read_is_small c.read_is_sound.ensures c.read_selectors_keep_the_limits.ensures c.args.layer.now.source c.args.layer.now.items c.requires.read)

pub push_items-requires-clause-short : goal.push_items-requires-clause-short
push_items-requires-clause-short c = read_is_short c.args.layer.now.source c.args.layer.now.items c.requires.read

pub push_items-requires-clause-sound : goal.push_items-requires-clause-sound
push_items-requires-clause-sound c =
    subst (IsSound c.args.layer.now.source) (sym (ap (λ (l : Layer). l.items) c.layer.view_is)) (c.read_is_sound.ensures c.args.layer.now.source c.args.layer.now.items c.requires.read)
