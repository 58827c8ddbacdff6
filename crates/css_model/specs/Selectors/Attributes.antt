-- Attribute selectors (Selectors 3, section 6.3).
use Rattle.std.specs.Prelude.{ℕ, ◌+◌, ◌&&◌, ◌||◌, if◌then◌else◌, List, [], ◌∷◌, Option, Some, None, Ok, Err, codes}
use Rattle.css_model.specs.declared.reason.Reason.TheVariants.{CaseFlag, IdTest, Namespace, NotAllowed}
use Rattle.css_model.specs.declared.selector.Op.{Op}
use Rattle.css_model.specs.declared.selector.Op.TheVariants.{Present, Equal}
use Rattle.css_model.specs.declared.selector.Test.{Test}
use Rattle.css_model.specs.declared.selector.Test.TheVariants.{Attr}
use Rattle.css_model.specs.Text.Characters.{close_square}
use Rattle.css_model.specs.Text.Lexemes.{is_delim_of, is_ident}
use Rattle.css_model.specs.Text.Names.{lower}
use Rattle.css_model.specs.Lists.{same_text}
use Rattle.css_model.specs.Text.Lexemes.{is_sign_of}
use Rattle.css_model.specs.Text.Names.{code_points}
use Rattle.css_model.specs.Selectors.Classes.{is_name}
use Rattle.css_model.specs.Selectors.Refusals.{Read, against, against_first}
use Rattle.css_model.specs.Selectors.Terms.{Term, op_of, right_behind}
use Rattle.css_model.specs.Selectors.Tokens.{bar, equals_sign, is_gapless, is_string}

abbrev pub attribute_test : List ℕ → Op → List ℕ → Test
attribute_test name op value = Attr (record { name = name; op = op; value = value })

-- behind the value of a test, of which so many terms are read: `]`, and no flag of Selectors 4
abbrev pub closed_at : Test → ℕ → List Term → Read Test
closed_at test n [] = Err NotAllowed
closed_at test n (x ∷ xs) =
    if is_sign_of close_square x.kind then Ok (test, n + 1)
    else if is_ident x.kind then Err CaseFlag
    else Err (against x)

-- behind the operator, with so many terms read: an ident or a string
abbrev pub value_at : List ℕ → Op → ℕ → List Term → Read Test
value_at name op n [] = Err NotAllowed
value_at name op n (x ∷ xs) =
    if is_ident x.kind || is_string x.kind then closed_at (attribute_test name op (code_points x.name)) (n + 1) xs
    else Err (against x)

-- behind the first sign of an operator: `=` right behind it. The attribute `id` has no such test (own).
abbrev pub operator_at : List ℕ → Op → Term → List Term → Read Test
operator_at name op sign [] = Err (against sign)
operator_at name op sign (x ∷ xs) =
    if is_delim_of equals_sign x.kind && is_gapless sign.gap then (if same_text name (codes "id") then Err IdTest else value_at name op 4 xs)
    else if is_delim_of bar sign.kind then Err Namespace
    else Err (against_first (right_behind sign.gap (x ∷ xs)))

abbrev pub operator_or_none : List ℕ → Option Op → Term → List Term → Read Test
operator_or_none name None x xs = Err (against x)
operator_or_none name (Some op) x xs = operator_at name op x xs

-- behind the name: `]`, or an operator and a value
abbrev pub match_at : List ℕ → List Term → Read Test
match_at name [] = Err NotAllowed
match_at name (x ∷ xs) =
    if is_sign_of close_square x.kind then Ok (attribute_test name Present [], 3)
    else if is_delim_of equals_sign x.kind then value_at name Equal 3 xs
    else operator_or_none name (op_of x.kind) x xs

-- behind `[`: the name, which is compared without ASCII case, as in HTML
abbrev pub attribute_at : List Term → Read Test
attribute_at [] = Err NotAllowed
attribute_at (x ∷ xs) = if is_name x then match_at (lower (code_points x.name)) xs else Err (against x)
