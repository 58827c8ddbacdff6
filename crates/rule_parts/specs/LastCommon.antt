-- The declarations of a list that are among others.
use Rattle.std.specs.Prelude.{◌&&◌, not, if◌then◌else◌, List, [], ◌∷◌}
use Rattle.css_model.specs.declared.sheet.DeclItem.{DeclItem}
use Rattle.order_laws.specs.Members.{has_decl}

-- the declarations of a list that are among others, each once, where it stands last
abbrev pub last_common : List DeclItem → List DeclItem → List DeclItem
last_common others [] = []
last_common others (d ∷ ds) = if has_decl others d.decl && not (has_decl ds d.decl) then d ∷ last_common others ds else last_common others ds
