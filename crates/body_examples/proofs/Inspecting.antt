-- What applies to an element, which of it wins, and the lines of `inspect`.
use Rattle.std.proofs.Common.{◌≡◌, List, ℕ, [], ◌∷◌, Bool, true, false, Option, Some, None, refl}
use Rattle.std.specs.Char.{encode_utf8}
use Rattle.std.specs.Fmt.{digits}
use Rattle.std.specs.List.{flat_map}
use Rattle.std.specs.Prelude.{codes, find}
use Rattle.std.specs.Str.{chars, is_utf8}
use Rattle.std.specs.Str.Lossy.{utf8_valid_len, utf8_lossy}
use Rattle.body_examples.proofs.Texts.{of_sheet}
use Rattle.body_examples.proofs.Values.{decl, red, top}
use Rattle.css_model.specs.declared.fault.FaultKind.TheVariants.{EndInside}
use Rattle.css_model.specs.declared.sheet.Decl.{Decl}
use Rattle.css_model.specs.Documents.SelectorParts.{SelectorParts}
use Rattle.css_model.specs.Sheets.Sheet.{sheet_of}
use Rattle.inspect_laws.specs.Entries.{Entry, entries_by}
use Rattle.inspect_laws.specs.Groups.{is_in_group, leading}
use Rattle.inspect_laws.specs.Laws.{competes, none_holds}
use Rattle.inspect_text.specs.InspectTexts.{kept_count, kept_line, line_among}
use Rattle.style_text.specs.Inputs.{sheet_part}
use Rattle.cssmin_run.specs.Placed.{in_sheet_part}
use Rattle.cssmin_run.specs.declared.status.Status.TheVariants.{SheetRefused}

-- ---- The words, the places and the texts

abbrev all_match : SelectorParts → Bool
all_match s = true

abbrev none_matches : SelectorParts → Bool
none_matches s = false

-- the lines of all entries, in the order of their places, those of bodies last
abbrev told_by : (SelectorParts → Bool) → List ℕ → List ℕ
told_by matched source = of_sheet (λ items. flat_map (line_among source (entries_by matched source items)) (entries_by matched source items)) (sheet_of source)

abbrev told : List ℕ → List ℕ
told = told_by all_match

later_one_wins : told (codes "p{top:0}p{top:1px}") ≡ codes "lost 1:3 0,0,1 p{top:0}\nwins 1:11 0,0,1 p{top:1px}\n"
unfolding utf8_valid_len is_utf8 chars encode_utf8 utf8_lossy digits
later_one_wins = refl

-- importance comes before specificity
important_one_wins : told (codes "p{top:0!important}#b{top:1px}") ≡ codes "wins 1:3 0,0,1 p{top:0!important}\nlost 1:22 1,0,0 #b{top:1px}\n"
unfolding utf8_valid_len is_utf8 chars encode_utf8 utf8_lossy digits
important_one_wins = refl

-- and specificity before the place
specific_one_wins : told (codes ".b{top:0}p{top:1px}") ≡ codes "wins 1:4 0,1,0 .b{top:0}\nlost 1:12 0,0,1 p{top:1px}\n"
unfolding utf8_valid_len is_utf8 chars encode_utf8 utf8_lossy digits
specific_one_wins = refl

-- each selector that matches has its line
each_selector_has_a_line : told (codes "p,q{top:0}") ≡ codes "lost 1:5 0,0,1 p{top:0}\nwins 1:5 0,0,1 q{top:0}\n"
unfolding utf8_valid_len is_utf8 chars encode_utf8 utf8_lossy digits
each_selector_has_a_line = refl

what_matches_nothing_has_no_line : told_by none_matches (codes "p{top:0}") ≡ []
unfolding utf8_valid_len is_utf8 chars encode_utf8 utf8_lossy digits
what_matches_nothing_has_no_line = refl

-- `all` takes the place of each name, and no other name does
all_beats_each_name : told (codes "p{top:0;all:unset}") ≡ codes "lost 1:3 0,0,1 p{top:0}\nwins 1:9 0,0,1 p{all:unset}\n"
unfolding utf8_valid_len is_utf8 chars encode_utf8 utf8_lossy digits
all_beats_each_name = refl

related_name_does_not_lose : told (codes "p{margin-top:0;margin:1px}") ≡ codes "wins 1:3 0,0,1 p{margin-top:0}\nwins 1:16 0,0,1 p{margin:1px}\n"
unfolding utf8_valid_len is_utf8 chars encode_utf8 utf8_lossy digits
related_name_does_not_lose = refl

-- ---- Blocks

nothing_loses_to_another_head : told (codes "@media x{p{top:0}}@media y{p{top:1px}}") ≡ codes "when 1:12 0,0,1 p{top:0} @media x\nwhen 1:30 0,0,1 p{top:1px} @media y\n"
unfolding utf8_valid_len is_utf8 chars encode_utf8 utf8_lossy digits
nothing_loses_to_another_head = refl

blocks_with_one_head_hold_together : told (codes "@media x{p{top:0}}@media x{p{top:1px}}") ≡ codes "lost 1:12 0,0,1 p{top:0} @media x\nwhen 1:30 0,0,1 p{top:1px} @media x\n"
unfolding utf8_valid_len is_utf8 chars encode_utf8 utf8_lossy digits
blocks_with_one_head_hold_together = refl

nothing_outside_loses_to_a_block : told (codes "p{top:0}@media x{p{top:1px}}") ≡ codes "wins 1:3 0,0,1 p{top:0}\nwhen 1:20 0,0,1 p{top:1px} @media x\n"
unfolding utf8_valid_len is_utf8 chars encode_utf8 utf8_lossy digits
nothing_outside_loses_to_a_block = refl

what_is_outside_applies_everywhere : told (codes "@media x{p{top:1px}}p{top:0}") ≡ codes "wins 1:23 0,0,1 p{top:0}\nlost 1:12 0,0,1 p{top:1px} @media x\n"
unfolding utf8_valid_len is_utf8 chars encode_utf8 utf8_lossy digits
what_is_outside_applies_everywhere = refl

-- ---- What is kept

kept_items_have_no_line : told (codes "@font-face{top:0}p::marker{top:0}") ≡ []
unfolding utf8_valid_len is_utf8 chars encode_utf8 utf8_lossy digits
kept_items_have_no_line = refl

abbrev kept : List ℕ → List ℕ
kept source = of_sheet (λ items. kept_line (kept_count source items)) (sheet_of source)

-- an opened block does not count, and what its body keeps does
kept_items_of_bodies_count : kept (codes "@media x{p::marker{top:0}}@font-face{top:0}p{top:0}") ≡ codes "kept 2\n"
unfolding utf8_valid_len is_utf8 chars encode_utf8 utf8_lossy digits
kept_items_of_bodies_count = refl

-- ---- Groups

abbrev entry : Decl → (head : Option (List ℕ)) → Entry
entry d head = record {
  decl = d;
  specificity = record { a = 0; b = 0; c = 1 };
  spot = record { item = 0; inner = 0; declaration = 0; selector = 0 };
  head = head;
  at = 0;
  text = [];
}

abbrev unset : Decl
unset = decl (codes "all") (codes "unset")

related_names_are_in_one_group : is_in_group (codes "margin") (entry (decl (codes "margin-left") (codes "0")) None) ≡ true
related_names_are_in_one_group = refl

other_names_are_not : is_in_group (codes "margin") (entry red None) ≡ false
other_names_are_not = refl

all_is_in_each_group : is_in_group (codes "margin") (entry unset None) ≡ true
all_is_in_each_group = refl

-- `all` has a group of its own only where nothing else applies
all_leads_no_group : leading (entry unset None ∷ entry red None ∷ []) ≡ entry red None ∷ []
all_leads_no_group = refl

all_alone_is_a_group : leading (entry unset None ∷ []) ≡ entry unset None ∷ []
all_alone_is_a_group = refl

-- ---- Winners

-- where no head holds, what is in a block does not apply
blocks_that_do_not_hold_apply_nothing : find (competes none_holds (codes "top")) (entry top (Some (codes "@media x")) ∷ entry top None ∷ []) ≡ Some (entry top None)
blocks_that_do_not_hold_apply_nothing = refl

other_names_do_not_compete : find (competes none_holds (codes "top")) (entry red None ∷ []) ≡ None
other_names_do_not_compete = refl

-- ---- Where a sheet is refused

-- in the sheet, and not in all that was read
place_is_one_in_the_sheet : in_sheet_part (SheetRefused (record { kind = EndInside; at = 5 })) (codes "x\n\na{}\nb{") ≡ Some (record { line = 2; column = 2 })
unfolding sheet_part
place_is_one_in_the_sheet = refl
