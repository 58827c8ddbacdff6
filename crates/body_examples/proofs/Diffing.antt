-- Normal texts, and the words of `diff`.
use Rattle.std.proofs.Common.{◌≡◌, ℕ, false, List, [], ◌∷◌, ◌++◌, None, refl}
use Rattle.std.specs.Char.{encode_utf8}
use Rattle.std.specs.Prelude.{codes, Result, Ok, Err}
use Rattle.std.specs.Str.{chars, is_utf8}
use Rattle.std.specs.Str.Lossy.{utf8_valid_len, utf8_lossy}
use Rattle.body_examples.proofs.Values.{features}
use Rattle.css_model.specs.declared.example.Example.{Example}
use Rattle.css_model.specs.declared.fault.SheetFault.{SheetFault}
use Rattle.css_model.specs.declared.sheet.Item.{Item}
use Rattle.css_model.specs.Sheets.Sheet.{sheet_of}
use Rattle.diff_text.specs.Lines.{front_of}
use Rattle.diff_text.specs.Words.{word_by}
use Rattle.normal_text.specs.Normal.{normal, token_end}
use Rattle.sheet_members.specs.Compared.{Common}
use Rattle.sheet_members.specs.Members.{member_of}
use Rattle.sheet_members.specs.Occurrences.{Occurrence, occurrences}
use Rattle.turned_members.specs.declared.verdict.Verdict.TheVariants.{Meet}
use Rattle.turned_members.specs.Turned.{couple}

-- ---- Normal texts

-- the normal text of these tokens
abbrev tokens : List (List ℕ) → List ℕ
tokens [] = []
tokens (t ∷ ts) = t ++ token_end ∷ tokens ts

white_beside_a_plus_counts : normal (codes "1 + 2") ≡ tokens (codes "1" ∷ codes " " ∷ codes "+" ∷ codes " " ∷ codes "2" ∷ [])
unfolding utf8_valid_len is_utf8 chars encode_utf8 utf8_lossy
white_beside_a_plus_counts = refl

white_beside_a_slash_says_nothing : normal (codes "1 / 2") ≡ tokens (codes "1" ∷ codes "/" ∷ codes "2" ∷ [])
unfolding utf8_valid_len is_utf8 chars encode_utf8 utf8_lossy
white_beside_a_slash_says_nothing = refl

-- ---- Words

-- what a sheet lays flat
abbrev laid_of : List ℕ → Result (List Item) SheetFault → List Occurrence
laid_of source (Ok items) = occurrences source items
laid_of source (Err fault) = []

abbrev laid : List ℕ → List Occurrence
laid source = laid_of source (sheet_of source)

abbrev common : Occurrence → Common
common o = record { mine = member_of o; yours = member_of o; there = 0 }

-- a page of one `li` in a `ul`
abbrev page : Example
page = record { doc = record { root_is_child = false; lines = record { depth = 0; count = 1; element = features (codes "ul") } ∷ record { depth = 1; count = 1; element = features (codes "li") } ∷ [] }; marked = 1; pseudo = None }

-- what `diff` says of the first two pairs of a sheet, if both match at this page and the pairs of the other sheet are these
front_between : (pairs others : List Occurrence) → List ℕ
front_between (first ∷ second ∷ pairs) others = front_of (word_by (first ∷ second ∷ pairs) others (couple (common first) (common second)) (Meet page))
front_between _ others = []

abbrev front : (source other : List ℕ) → List ℕ
front source other = front_between (laid source) (laid other)

-- the more specific one wins in both sheets
same_winner_is_masked : front (codes "li{top:0}*{top:1px}") (codes "*{top:1px}li{top:0}") ≡ codes "masked "
unfolding utf8_valid_len is_utf8 chars encode_utf8 utf8_lossy front_between
same_winner_is_masked = refl

-- the later one of two wins, so each sheet has its own winner
other_winner_is_reversed : front (codes "li{top:0}li{top:1px}") (codes "li{top:1px}li{top:0}") ≡ codes "reversed "
unfolding utf8_valid_len is_utf8 chars encode_utf8 utf8_lossy front_between
other_winner_is_reversed = refl
