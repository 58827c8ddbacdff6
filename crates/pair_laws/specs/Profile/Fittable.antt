-- Features may be asked for of the compounds of selectors of the profile.
use Rattle.std.specs.Prelude.{List, ◌++◌}
use Rattle.std.specs.List.{All, Contains}
use Rattle.css_model.specs.declared.selector.Simple.{Simple}
use Rattle.css_model.specs.Documents.SelectorParts.{SelectorParts}
use Rattle.css_model.specs.Selectors.Profile.{IsInProfile}
use Rattle.compound_fit.specs.Conditions.{IsFittable}
use Rattle.compound_fit.specs.Table.{groups}

-- of one compound
abbrev pub CompoundsAreFittable : Type 0
CompoundsAreFittable = (x : SelectorParts) → IsInProfile x → All IsFittable x.chain

-- of two compounds of two selectors, of which one element has to pass both
abbrev pub PairsAreFittable : Type 0
PairsAreFittable = (x y : SelectorParts) (c d : List Simple) → IsInProfile x → IsInProfile y → Contains x.chain c → Contains y.chain d → IsFittable (c ++ d)

-- of each group that the table of two selectors has
abbrev pub TablesAreFittable : Type 0
TablesAreFittable = (x y : SelectorParts) → IsInProfile x → IsInProfile y → All IsFittable (groups x.chain y.chain)
