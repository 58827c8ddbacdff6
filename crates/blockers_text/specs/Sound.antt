-- Parts that can be printed (own).
use Rattle.std.specs.Prelude.{ℕ, List, Option, Some, None}
use Rattle.css_model.specs.declared.sheet.DeclItem.{DeclItem}
use Rattle.css_model.specs.declared.sheet.SelItem.{SelItem}
use Rattle.css_model.specs.Sheets.Sound.{IsSoundDeclaration, IsSoundSelector}

-- a selector and a declaration are sound for a source, if there are both
abbrev pub AreSound : List ℕ → Option SelItem → Option DeclItem → Type 0
AreSound source None d = Unit {0}
AreSound source (Some s) None = Unit {0}
AreSound source (Some s) (Some d) = IsSoundSelector source s × IsSoundDeclaration source d
