-- What may go from a sheet, and the lines of `lint`.
use Rattle.std.proofs.Common.{◌≡◌, List, ℕ, [], ◌∷◌, Bool, true, false, Option, Some, None, map, refl, sym}
use Rattle.std.specs.Char.{encode_utf8}
use Rattle.std.specs.Fmt.{digits}
use Rattle.std.specs.Prelude.{codes}
use Rattle.std.specs.Str.{chars, is_utf8}
use Rattle.std.specs.Str.Lossy.{utf8_valid_len, utf8_lossy}
use Rattle.body_examples.proofs.Texts.{of_sheet}
use Rattle.body_examples.proofs.Values.{a_class, at_rule, b_class, decl, kept_rule, left, one, rule, selects, top}
use Rattle.cascade_laws.proofs.ForCallers.{some-same}
use Rattle.cnf.specs.declared.ledger.Ledger.{Ledger}
use Rattle.css_model.specs.declared.example.Example.{Example}
use Rattle.css_model.specs.declared.sheet.Item.{Item}
use Rattle.css_model.specs.Documents.SelectorParts.{SelectorParts}
use Rattle.css_model.specs.Sheets.Sheet.{sheet_of}
use Rattle.dead_sel.specs.Held.{is_apart, is_dead}
use Rattle.dead_sel.specs.Living.{every}
use Rattle.doc_text.specs.DocText.{ended}
use Rattle.lint_laws.specs.Cleaned.{cleaned}
use Rattle.lint_laws.specs.Repeats.{is_repeated, without_decl}
use Rattle.lint_text.specs.Findings.{findings}
use Rattle.order_laws.specs.Places.{last_pairs}
use Rattle.overlap.specs.declared.answer.Answer.TheVariants.{Apart, Meet, Outside, Spent}
use Rattle.overlap.specs.PairsParts.{PairsParts}
use Rattle.cssmin_run.specs.Change.{Change}
use Rattle.cssmin_run.specs.Commands.Lint.{LintDoes}
use Rattle.cssmin_run.specs.declared.status.Status.TheVariants.{Done, Found}

-- ---- Which declarations are repeated

abbrev no_dead : SelectorParts → Bool
no_dead s = false

abbrev all_dead : SelectorParts → Bool
all_dead s = true

abbrev twice : List Item
twice = one a_class top ∷ one a_class top ∷ []

-- it is the last place that counts
first_of_two_is_repeated : is_repeated (last_pairs twice) 0 (selects a_class ∷ []) 0 top ≡ true
first_of_two_is_repeated = refl

last_of_two_is_not : is_repeated (last_pairs twice) 1 (selects a_class ∷ []) 0 top ≡ false
last_of_two_is_not = refl

-- the pair of one selector has no later place
each_selector_has_to_come_again : is_repeated (last_pairs (rule (a_class ∷ b_class ∷ []) (top ∷ []) ∷ one a_class top ∷ [])) 0 (selects a_class ∷ selects b_class ∷ []) 0 top ≡ false
each_selector_has_to_come_again = refl

-- another value is another declaration
other_value_repeats_nothing : is_repeated (last_pairs (one a_class top ∷ one a_class (decl (codes "top") (codes "1px")) ∷ [])) 0 (selects a_class ∷ []) 0 top ≡ false
other_value_repeats_nothing = refl

-- ---- Which selectors are dead

apart_is_dead : is_dead (record { left = a_class; right = every None; answer = Apart } ∷ []) a_class ≡ true
apart_is_dead = refl

-- apart of another selector says nothing
other_selector_is_not_dead : is_dead (record { left = b_class; right = every None; answer = Apart } ∷ []) a_class ≡ false
other_selector_is_not_dead = refl

-- and apart of another one than `*` neither
apart_of_two_is_not_dead : is_dead (record { left = a_class; right = b_class; answer = Apart } ∷ []) a_class ≡ false
apart_of_two_is_not_dead = refl

spent_is_not_dead : (ledger : Ledger) → is_apart (Spent ledger) ≡ false
spent_is_not_dead ledger = refl

undecided_is_not_dead : is_apart (Outside 12 0) ≡ false
undecided_is_not_dead = refl

alive_is_not_dead : (e : Example) → is_apart (Meet e) ≡ false
alive_is_not_dead e = refl

-- ---- The sheet that is left

-- the last place stays, and a rule without declarations goes
earlier_rule_goes : cleaned no_dead (one a_class top ∷ one b_class left ∷ one a_class top ∷ []) ≡ one b_class left ∷ one a_class top ∷ []
earlier_rule_goes = refl

other_declarations_stay : cleaned no_dead (rule (a_class ∷ []) (top ∷ left ∷ top ∷ []) ∷ []) ≡ rule (a_class ∷ []) (left ∷ top ∷ []) ∷ []
other_declarations_stay = refl

-- what is kept stays
kept_items_stay : cleaned all_dead (kept_rule top ∷ one a_class top ∷ at_rule ∷ []) ≡ kept_rule top ∷ at_rule ∷ []
kept_items_stay = refl

-- it is the declaration of this number in the item of this number
one_declaration_goes : without_decl (one b_class left ∷ rule (a_class ∷ []) (top ∷ left ∷ []) ∷ []) 1 0 ≡ one b_class left ∷ rule (a_class ∷ []) (left ∷ []) ∷ []
one_declaration_goes = refl

-- ---- The lines

abbrev found : (SelectorParts → Bool) → List ℕ → List ℕ
found dead source = of_sheet (λ items. ended (map (λ f. f.line) (findings dead source items))) (sheet_of source)

repeated_has_both_places : found no_dead (codes ".a{top:0}.a{top:0}") ≡ codes "1:4 repeated top:0 1:13\n"
unfolding utf8_valid_len is_utf8 chars encode_utf8 utf8_lossy digits
repeated_has_both_places = refl

-- the second place is that of the first selector
last_place_is_that_of_the_first_selector : found no_dead (codes ".a,.b{top:0}.b{top:0}.a{top:0}") ≡ codes "1:7 repeated top:0 1:25\n"
unfolding utf8_valid_len is_utf8 chars encode_utf8 utf8_lossy digits
last_place_is_that_of_the_first_selector = refl

-- a body is a sheet of its own
bodies_repeat_nothing_of_each_other : found no_dead (codes ".a{top:0}@media x{.a{top:0}}") ≡ []
unfolding utf8_valid_len is_utf8 chars encode_utf8 utf8_lossy digits
bodies_repeat_nothing_of_each_other = refl

-- and its places are those of the whole sheet
places_in_a_body_are_those_of_the_sheet : found no_dead (codes "@media x{.a{top:0}.a{top:0}}") ≡ codes "1:13 repeated top:0 1:22\n"
unfolding utf8_valid_len is_utf8 chars encode_utf8 utf8_lossy digits
places_in_a_body_are_those_of_the_sheet = refl

dead_has_its_place : found all_dead (codes "p{top:0}\n@media x{.a{top:0}}") ≡ codes "1:1 dead p\n2:10 dead .a\n"
unfolding utf8_valid_len is_utf8 chars encode_utf8 utf8_lossy digits
dead_has_its_place = refl

-- what is kept has no line
kept_rule_has_no_line : found all_dead (codes "p::marker{top:0;top:0}") ≡ []
unfolding utf8_valid_len is_utf8 chars encode_utf8 utf8_lossy digits
kept_rule_has_no_line = refl

-- ---- The status

-- an output in memory, on which these bytes were written
abbrev output_of : List ℕ → Change
output_of bytes = record { old = Some []; new = Some bytes; old_faults = 0; new_faults = 0 }

-- nothing was written, so nothing was found
unwritten_is_not_found : (input err : Change) (held : Option PairsParts) → LintDoes None Found input (output_of []) err held → ⊥
unwritten_is_not_found input err held does = does.made.1 (sym (some-same does.added))

-- and what was written was found
written_is_found : (input err : Change) (held : Option PairsParts) → LintDoes None Done input (output_of (49 ∷ [])) err held → ⊥
written_is_found input err held does =
    let same : 49 ∷ [] ≡ does.text = some-same does.added in
    let none : does.text ≡ [] = does.made.1 in
    let bad : ⊥ = cc in bad
