-- Type selectors and the universal selector (Selectors 3, sections 6.1 and 6.2).
use Rattle.std.specs.Prelude.{◌||◌, Bool, if◌then◌else◌, Result, Ok, Err}
use Rattle.css_model.specs.declared.reason.Reason.{Reason}
use Rattle.css_model.specs.declared.reason.Reason.TheVariants.{NotAllowed}
use Rattle.css_model.specs.declared.selector.Test.{Test}
use Rattle.css_model.specs.declared.selector.Test.TheVariants.{Any, Kind}
use Rattle.css_model.specs.Text.Characters.{star}
use Rattle.css_model.specs.Text.Lexemes.{is_delim_of, is_ident}
use Rattle.css_model.specs.Text.Names.{lower}
use Rattle.css_model.specs.Text.Names.{code_points}
use Rattle.css_model.specs.Selectors.Terms.{Term}

abbrev pub begins_type : Term → Bool
begins_type x = is_ident x.kind || is_delim_of star x.kind

-- where one begins: a type's name is compared without ASCII case, and is not spelled with `--` at its start (own)
abbrev pub type_at : Term → Result Test Reason
type_at x =
    if is_delim_of star x.kind then Ok Any
    else if x.dashed then Err NotAllowed
    else Ok (Kind (lower (code_points x.name)))
