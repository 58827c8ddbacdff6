-- Pseudo-classes (Selectors 3, section 6.6) but for the negation.
use Rattle.std.specs.Prelude.{ℕ, not, ◌&&◌, ◌||◌, Bool, false, if◌then◌else◌, nat_le, pos, List, [], ◌∷◌, Option, Some, None, Result, Ok, Err, codes}
use Rattle.css_model.specs.declared.position.AnB.{AnB}
use Rattle.css_model.specs.declared.reason.Reason.{Reason}
use Rattle.css_model.specs.declared.reason.Reason.TheVariants.{PseudoClass, TooManyStepped}
use Rattle.css_model.specs.declared.selector.Flag.TheVariants as flag
use Rattle.css_model.specs.Sheets.Limits.{max_stepped}
use Rattle.css_model.specs.declared.selector.Test.{Test}
use Rattle.css_model.specs.declared.selector.Test.TheVariants.{Nth, NthLast, OnlyChild, Root, Empty, State}
use Rattle.css_model.specs.Text.Lexemes.{is_ident}
use Rattle.css_model.specs.Selectors.PseudoElements.{is_pseudo_element}
use Rattle.css_model.specs.Selectors.Refusals.{Read}
use Rattle.css_model.specs.Selectors.Terms.{Term}
use Rattle.css_model.specs.Selectors.Tokens.{is_function, row_of}
use Rattle.css_model.specs.Positions.Range.{is_stepped}

-- a step of 0 and an offset of 1: the first position
abbrev pub first_position : AnB
first_position = record { a = pos 0; b = pos 1 }

-- those without an argument
abbrev pub plain_pseudo_classes : List (List ℕ × Test)
plain_pseudo_classes =
    (codes "first-child", Nth first_position) ∷ (codes "last-child", NthLast first_position) ∷ (codes "only-child", OnlyChild)
    ∷ (codes "root", Root) ∷ (codes "empty", Empty)
    ∷ (codes "link", State flag.Link) ∷ (codes "visited", State flag.Visited) ∷ (codes "hover", State flag.Hover)
    ∷ (codes "active", State flag.Active) ∷ (codes "focus", State flag.Focus) ∷ (codes "target", State flag.Target)
    ∷ (codes "enabled", State flag.Enabled) ∷ (codes "disabled", State flag.Disabled) ∷ (codes "checked", State flag.Checked)
    ∷ []

-- those of a position
abbrev pub position_functions : List (List ℕ × (AnB → Test))
position_functions = (codes "nth-child", Nth) ∷ (codes "nth-last-child", NthLast) ∷ []

abbrev pub plain_or_none : Option Test → Read Test
plain_or_none None = Err PseudoClass
plain_or_none (Some test) = Ok (test, 2)

-- the argument of one of these, behind so many positions whose step has a size of 2 or more: one more than a
-- selector may have is refused (own)
abbrev pub counted_argument : ℕ → Result AnB Reason → Result AnB Reason
counted_argument stepped (Err reason) = Err reason
counted_argument stepped (Ok x) = if is_stepped x && nat_le max_stepped stepped then Err TooManyStepped else Ok x

abbrev pub position_at : (AnB → Test) → Result AnB Reason → Read Test
position_at test (Err reason) = Err reason
position_at test (Ok x) = Ok (test x, 2)

abbrev pub function_or_none : Option (AnB → Test) → ℕ → Term → Read Test
function_or_none None stepped x = Err PseudoClass
function_or_none (Some test) stepped x = position_at test (counted_argument stepped x.argument)

-- an ident or a function behind one colon
abbrev pub pseudo_class_at : ℕ → Term → Read Test
pseudo_class_at stepped x =
    if is_ident x.kind then plain_or_none (row_of x.name plain_pseudo_classes)
    else function_or_none (row_of x.name position_functions) stepped x

abbrev pub is_pseudo_class : Term → Bool
is_pseudo_class x = (is_ident x.kind || is_function x.kind) && not (is_pseudo_element x)

-- whether a pseudo-class stands right behind a colon
abbrev pub pseudo_class_follows : List Term → Bool
pseudo_class_follows [] = false
pseudo_class_follows (x ∷ xs) = is_pseudo_class x
