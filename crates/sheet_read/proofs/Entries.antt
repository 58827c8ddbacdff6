-- The declarations of a block, one entry after the other.
use Rattle.std.proofs.Common.{ℕ, ◌+◌, if◌then◌else◌, List, [], ◌++◌, Option, Some, None}
use Rattle.std.specs.List.{list_any, filter_map, slice_split, position_or_len, after_first, AllByRecursion}
use Rattle.std.specs.Option.{option_map_or}
use Rattle.css_model.specs.declared.sheet.DeclItem.{DeclItem}
use Rattle.css_model.specs.declared.token.Lexeme.{Lexeme}
use Rattle.css_model.specs.Text.Characters.{semicolon}
use Rattle.css_model.specs.Sheets.Declarations.{is_nested, declaration}
use Rattle.css_model.specs.Sheets.Items.{block, entries, opens_block, closes_block}
use Rattle.css_model.specs.Text.Lexemes.{is_sign_at}
use Rattle.list_facts.proofs.Elements.{all_take, all_drop, all_split}
use denote.Ref.{Bor}

-- the entries of what is left of a block
abbrev pub entries_left : Option (Bor (List Lexeme)) → List (List Lexeme)
entries_left rest = option_map_or (λ xs. slice_split (is_sign_at semicolon 1) xs.now) rest []

pub all_block : (P : Lexeme → Type 0) (item : List Lexeme) → AllByRecursion P item → AllByRecursion P (block item)
all_block P item each =
    all_take P (position_or_len closes_block (after_first opens_block item)) (after_first opens_block item) (all_drop P (position_or_len opens_block item + 1) item each)

pub all_entries : (P : Lexeme → Type 0) (item : List Lexeme) → AllByRecursion P item → AllByRecursion (AllByRecursion P) (entries item)
all_entries P item each = all_split P (is_sign_at semicolon 1) (block item) (all_block P item each)

-- the declarations that were read before, and those of these entries
abbrev pub listed : List ℕ → List DeclItem → List (List Lexeme) → Option (List DeclItem)
listed source front entries = if list_any (is_nested source) entries then None else Some (front ++ filter_map (declaration source) entries)
