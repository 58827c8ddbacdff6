use Rattle.std.proofs.Common.{List, ◌++◌, ap, ap₂, ◌∙◌}
use Rattle.std.specs.List.{flat_map}
use Rattle.css_model.specs.declared.sheet.Item.{Item}
use Rattle.css_model.specs.Documents.Matching.{matches}
use Rattle.css_model.specs.Documents.RunDocuments.{expand, target_of}
use Rattle.css_model.specs.Sheets.SheetParts.{SheetParts}
use Rattle.media_groups.specs.declared.media.Media.{Media}
use Rattle.inspect_laws.specs.Entries.{Entry, body_layer, by_layer, outer_layer}
use Rattle.inspect_text.proofs.gathering.entries_of.Goals as goal

pub returns : goal.returns
returns c =
    c.in_ok-push_bodies.ensures
    ∙ ap₂ (λ (es : List Entry) (media : List Media). es ++ flat_map (λ m. by_layer (matches (expand c.args.x.now) (target_of c.args.x.now)) (body_layer c.args.source.now m)) media)
    (c.in_ok-push_layer.ensures
    ∙ ap₂ (λ (es : List Entry) (items : List Item). es ++ by_layer (matches (expand c.args.x.now) (target_of c.args.x.now)) (outer_layer c.args.source.now items))
    c.new-found.ensures.items (c.deref.ensures.value ∙ ap (λ (t : SheetParts). t.items) c.sheet.view_is))
    c.requires.blocks
