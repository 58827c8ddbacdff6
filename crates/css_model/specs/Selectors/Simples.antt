-- Simple selectors (Selectors 3, section 6) other than those of a type and the negation.
use Rattle.std.specs.Prelude.{ℕ, ◌&&◌, ◌||◌, Bool, if◌then◌else◌, List, [], ◌∷◌, Ok, Err}
use Rattle.css_model.specs.declared.reason.Reason.TheVariants.{NotAllowed}
use Rattle.css_model.specs.declared.selector.Test.{Test}
use Rattle.css_model.specs.declared.selector.Test.TheVariants.{Id}
use Rattle.css_model.specs.Text.Characters.{colon, dot, open_square}
use Rattle.css_model.specs.Text.Lexemes.{is_delim_of}
use Rattle.css_model.specs.Text.Lexemes.{is_sign_of}
use Rattle.css_model.specs.Text.Names.{code_points}
use Rattle.css_model.specs.Selectors.Attributes.{attribute_at}
use Rattle.css_model.specs.Selectors.Classes.{class_at}
use Rattle.css_model.specs.Selectors.PseudoClasses.{pseudo_class_at, pseudo_class_follows}
use Rattle.css_model.specs.Selectors.Refusals.{Read}
use Rattle.css_model.specs.Selectors.Terms.{Term, right_behind}
use Rattle.css_model.specs.Selectors.Tokens.{is_id_hash}

-- an id, a class, an attribute test or a pseudo-class begins with this term
abbrev pub begins_simple : Term → List Term → Bool
begins_simple x xs =
    is_id_hash x.kind || is_delim_of dot x.kind || is_sign_of open_square x.kind || (is_sign_of colon x.kind && pseudo_class_follows (right_behind x.gap xs))

abbrev pub behind_colon : ℕ → List Term → Read Test
behind_colon stepped [] = Err NotAllowed
behind_colon stepped (x ∷ xs) = pseudo_class_at stepped x

-- where one begins, with so many positions of a step of 2 or more before it
abbrev pub test_at : ℕ → Term → List Term → Read Test
test_at stepped x xs =
    if is_id_hash x.kind then Ok (Id (code_points x.name), 1)
    else if is_delim_of dot x.kind then class_at (right_behind x.gap xs)
    else if is_sign_of open_square x.kind then attribute_at xs
    else behind_colon stepped xs
