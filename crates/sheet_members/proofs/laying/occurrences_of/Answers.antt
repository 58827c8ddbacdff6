use Rattle.std.proofs.Common.{ℕ, List, ap, subst}
use Rattle.css_model.specs.Sheets.Sound.{IsSound}
use Rattle.sheet_members.specs.Layers.{Layer}
use Rattle.sheet_members.proofs.laying.occurrences_of.Goals as goal

pub push_outer_items-requires : goal.push_outer_items-requires
push_outer_items-requires c =
    subst (λ (source : List ℕ). IsSound source c.layer.inside.items.now) (ap (λ (l : Layer). l.source) c.layer.view_is)
    (c.read_is_sound.ensures c.layer.inside.reading.source.now c.layer.inside.items.now c.layer.inside.read)
