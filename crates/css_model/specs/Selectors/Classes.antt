-- Class selectors (Selectors 3, section 6.4).
use Rattle.std.specs.Prelude.{not, ◌&&◌, Bool, if◌then◌else◌, List, [], ◌∷◌, Ok, Err, codes}
use Rattle.css_model.specs.declared.reason.Reason.TheVariants.{NotAllowed}
use Rattle.css_model.specs.declared.selector.Op.TheVariants.{Word}
use Rattle.css_model.specs.declared.selector.Test.{Test}
use Rattle.css_model.specs.declared.selector.Test.TheVariants.{Attr}
use Rattle.css_model.specs.Text.Lexemes.{is_ident}
use Rattle.css_model.specs.Text.Names.{code_points}
use Rattle.css_model.specs.Selectors.Refusals.{Read, against}
use Rattle.css_model.specs.Selectors.Terms.{Term}

-- the name of a class or an attribute, which is not spelled `--` (own)
abbrev pub is_name : Term → Bool
is_name x = is_ident x.kind && not x.only_dashes

-- right behind a dot: `.name` tests the attribute `class` for the word `name`, as in HTML
abbrev pub class_at : List Term → Read Test
class_at [] = Err NotAllowed
class_at (x ∷ xs) =
    if is_name x then Ok (Attr (record { name = codes "class"; op = Word; value = code_points x.name }), 2) else Err (against x)
