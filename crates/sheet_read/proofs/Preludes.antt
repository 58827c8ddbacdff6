-- The selectors of a prelude, one part after the other.
use Rattle.std.proofs.Common.{◌≡◌, ℕ, List, [], ◌∷◌, ◌++◌, Option, Result, Ok, Err, refl, ap, append_assoc, append-nil, arith}
use Rattle.std.specs.List.{slice_split, position_or_len, before_first, AllByRecursion}
use Rattle.std.specs.Option.{option_map_or}
use Rattle.css_model.specs.declared.reason.Reason.{Reason}
use Rattle.css_model.specs.declared.sheet.SelItem.{SelItem}
use Rattle.css_model.specs.declared.token.Lexeme.{Lexeme}
use Rattle.css_model.specs.Text.Characters.{comma}
use Rattle.css_model.specs.Sheets.Items.{selector_parts, opens_block}
use Rattle.css_model.specs.Text.Lexemes.{is_sign_at}
use Rattle.css_model.specs.Lists.{all_of, before_all}
use Rattle.css_model.specs.Sheets.Selectors.{selector_item}
use Rattle.css_model.specs.Text.Source.{IsWithin}
use Rattle.list_facts.proofs.Elements.{all_take, all_split}
use Rattle.sel_parse.specs.Answers.{IsError}
use Rattle.sel_parse.specs.declared.error.SelError.{SelError}
use Rattle.sel_parse.specs.declared.error.SelError.TheVariants.{Outside, NoMemory}
use Rattle.sheet_read.specs.Placed.{ArePlaced}
use denote.Ref.{Bor}

-- the parts of what is left of a prelude
abbrev pub parts_left : Option (Bor (List Lexeme)) → List (List Lexeme)
parts_left rest = option_map_or (λ xs. slice_split (is_sign_at comma 0) xs.now) rest []

pub all_selector_parts : (P : Lexeme → Type 0) (item : List Lexeme) → AllByRecursion P item → AllByRecursion (AllByRecursion P) (selector_parts item)
all_selector_parts P item each = all_split P (is_sign_at comma 0) (before_first opens_block item) (all_take P (position_or_len opens_block item) item each)

-- the selectors that were read before, and those of these parts
abbrev pub onto : List SelItem → Result (List SelItem) Reason → Result (List SelItem) Reason
onto front (Ok more) = Ok (front ++ more)
onto front (Err reason) = Err reason

abbrev pub read : List ℕ → List SelItem → List (List Lexeme) → Result (List SelItem) Reason
read source front parts = onto front (all_of (selector_item source) parts)

pub read_start : (source : List ℕ) (parts : List (List Lexeme)) → read source [] parts ≡ all_of (selector_item source) parts
read_start source parts = unchanged (all_of (selector_item source) parts)
  where
    unchanged : (r : Result (List SelItem) Reason) → onto [] r ≡ r
    unchanged (Ok more) = refl
    unchanged (Err reason) = refl

step : (front : List SelItem) (s : SelItem) (rest : Result (List SelItem) Reason) → onto (front ++ s ∷ []) rest ≡ onto front (before_all (Ok s) rest)
step front s (Ok more) = ap Ok (append_assoc front (s ∷ []) more)
step front s (Err reason) = refl

pub read_step : (source : List ℕ) (front : List SelItem) (part : List Lexeme) (rest : List (List Lexeme)) (s : SelItem) → selector_item source part ≡ Ok s
    → read source (front ++ s ∷ []) rest ≡ read source front (part ∷ rest)
read_step source front part rest s is = rw is (step front s (all_of (selector_item source) rest))

pub read_end : (source : List ℕ) (front : List SelItem) → read source front [] ≡ Ok front
read_end source front = ap Ok (append-nil front)

-- the reason against a part is that against the rule, where all parts before it were read
pub read_error : (source : List ℕ) (front : List SelItem) (part : List Lexeme) (rest : List (List Lexeme)) (e : SelError) → IsError e (selector_item source part)
    → IsError e (read source front (part ∷ rest))
read_error source front part rest (Outside number) is = (is.0, ap (λ r. onto front (before_all r (all_of (selector_item source) rest))) is.1, is.2)
read_error source front part rest NoMemory is = tt

-- tokens that stand in a source lie within it
pub placed_within : (source : List ℕ) (xs : List Lexeme) → ArePlaced source xs → AllByRecursion (λ x. IsWithin source x.span) xs
placed_within source [] each = tt
placed_within source (x ∷ xs) each = (record { ordered = omega (arith, each.0.some); inside = each.0.inside }, placed_within source xs each.1)
