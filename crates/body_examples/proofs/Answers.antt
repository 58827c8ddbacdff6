-- What the commands write.
use Rattle.std.proofs.Common.{◌≡◌, ◌++◌, [], ◌∷◌, Some, None, Ok, Err, true, false, map, refl}
use Rattle.std.specs.Char.{encode_utf8}
use Rattle.std.specs.Prelude.{codes}
use Rattle.std.specs.Fmt.{digits}
use Rattle.body_examples.proofs.Values.{a_class, b_class, kept_rule, left, one, rule, top}
use Rattle.cnf.specs.declared.ledger.Ledger.{Ledger}
use Rattle.compare_text.specs.ComparedTexts.{IsCompared, answer_text}
use Rattle.css_model.specs.declared.example.Example.{Example}
use Rattle.dead_sel.specs.declared.living.Life.TheVariants as lives
use Rattle.dead_sel.specs.Living.{life_by}
use Rattle.dead_text.specs.DeadTexts.{life_word, told_lines}
use Rattle.dead_text.specs.Listing.{numbered_selectors}
use Rattle.doc_text.specs.DocText.{doc_lines, doc_text}
use Rattle.mixing.specs.Mixer.{mixed}
use Rattle.overlap.specs.declared.answer.Answer.TheVariants.{Apart, Meet, Outside, Spent}
use Rattle.overlap.specs.PairsParts.{PairsParts}
use Rattle.report_text.specs.declared.explaining.Word.TheVariants as words
use Rattle.report_text.specs.Explanation.{lines_of}
use Rattle.report_text.specs.Report.{report_of}
use Rattle.same_text.specs.Telling.{unsure_line}
use Rattle.step_laws.specs.declared.cause.BlockCause.TheVariants as causes
use Rattle.step_laws.specs.declared.step.Step.TheVariants.{JoinSelUp, Share}
use Rattle.style_text.specs.Inputs.{document_part, sheet_part}
use Rattle.style_text.specs.Lines.{style_text}
use Rattle.trial_gen.specs.Draws.{draw}
use Rattle.trial_gen.specs.Made.{made_sheet}

-- ---- `cmp`

apart_is_disjoint : answer_text Apart ≡ codes "disjoint\n"
apart_is_disjoint = refl

meeting_is_overlap : (e : Example) → answer_text (Meet e) ≡ codes "overlap\n" ++ doc_text e
meeting_is_overlap e = refl

spent_is_spent : (ledger : Ledger) → answer_text (Spent ledger) ≡ codes "spent\n"
spent_is_spent ledger = refl

reason_is_written : answer_text (Outside 11 5) ≡ codes "outside 11\n"
unfolding digits
reason_is_written = refl

-- where neither text is a selector the reason is that of the left one
left_reason_comes_first : (pairs : PairsParts) → IsCompared (Err 1) (Err 3) pairs (codes "outside 1\n")
unfolding digits
left_reason_comes_first pairs = refl

right_reason_comes_alone : (pairs : PairsParts) → IsCompared (Ok a_class) (Err 3) pairs (codes "outside 3\n")
unfolding digits
right_reason_comes_alone pairs = refl

-- ---- `dead`

spent_is_not_dead : (ledger : Ledger) → life_by (Spent ledger) ≡ lives.Spent ledger
spent_is_not_dead ledger = refl

meeting_is_alive : (e : Example) → life_by (Meet e) ≡ lives.Alive e
meeting_is_alive e = refl

apart_is_dead : life_by Apart ≡ lives.Dead
apart_is_dead = refl

undecided_is_outside : life_word lives.SpacesTaken ≡ codes "outside 12"
undecided_is_outside = refl

-- a kept rule counts as an item and has no line, and the last selector has one
each_selector_has_a_line : map (λ s. s.item ∷ s.number ∷ []) (numbered_selectors (one a_class top ∷ kept_rule top ∷ rule (a_class ∷ b_class ∷ []) (top ∷ []) ∷ []))
    ≡ (1 ∷ 1 ∷ []) ∷ (3 ∷ 1 ∷ []) ∷ (3 ∷ 2 ∷ []) ∷ []
each_selector_has_a_line = refl

dead_is_one_line : told_lines (record { of = record { item = 3; number = 2; selector = b_class }; life = lives.Dead }) ≡ codes "3.2 dead" ∷ []
unfolding digits
dead_is_one_line = refl

document_follows_alive : (e : Example) → told_lines (record { of = record { item = 1; number = 1; selector = a_class }; life = lives.Alive e }) ≡ codes "1.1 alive" ∷ doc_lines e
unfolding digits
document_follows_alive e = refl

-- ---- `style`

-- the kept rule is counted, and both winners have their lines
both_winners_have_a_line : style_text (one a_class top ∷ kept_rule top ∷ [])
    (record { name = codes "color"; value = codes "red"; important = true; specificity = record { a = 0; b = 0; c = 2 } }
    ∷ record { name = codes "top"; value = codes "0"; important = false; specificity = record { a = 0; b = 1; c = 0 } } ∷ [])
    ≡ codes "kept 1\ncolor:red!important 0,0,2\ntop:0 0,1,0\n"
unfolding encode_utf8 digits
both_winners_have_a_line = refl

document_ends_at_the_empty_line : document_part (codes "a\nb\n\nc\n\nd") ≡ codes "a\nb\n"
unfolding document_part
document_ends_at_the_empty_line = refl

sheet_is_all_that_follows : sheet_part (codes "a\nb\n\nc\n\nd") ≡ codes "c\n\nd"
unfolding sheet_part
sheet_is_all_that_follows = refl

-- ---- `why`

free_is_one_word : lines_of words.Free [] [] [] ≡ codes "free\n"
free_is_one_word = refl

-- items are counted from 1
kept_item_is_counted_from_1 : lines_of (words.Kept 2) [] [] [] ≡ codes "kept 3\n"
unfolding digits
kept_item_is_counted_from_1 = refl

outside_has_its_reason : lines_of (words.Outside 12) [] [] [] ≡ codes "outside 12\n"
unfolding digits
outside_has_its_reason = refl

-- the moved pair comes first, and the document last
document_comes_last : lines_of words.Blocked (codes ".a{top:0}") (codes ".b{top:0}") (codes "child 0 pseudo none\n") ≡ codes "blocked\n.a{top:0}\n.b{top:0}\nchild 0 pseudo none\n"
document_comes_last = refl

-- ---- `same`

spent_is_unsure : unsure_line 0 ≡ codes "unsure spent\n"
spent_is_unsure = refl

reason_is_unsure : unsure_line 1 ≡ codes "unsure 1\n"
unfolding digits
reason_is_unsure = refl

-- ---- The report of `min`

-- the numbers of what was read come first, and the last blocked step has a line, with the number of its block
report_has_all_lines : report_of (3, 2) (31, 20) 1 ((None, JoinSelUp 0 2, causes.Spent 1) ∷ (Some 4, Share 0 1, causes.Outside 0 12) ∷ [])
    ≡ codes "items 3 2\nbytes 31 20\nsteps 1\nblocked JoinSelUp 1 3 spent 2\nblocked Share 5.1 5.2 outside 12 5.1\n"
unfolding digits
report_has_all_lines = refl

-- ---- `trial`

-- the first draw of the C standard's `rand`
first_draw : draw 1 ≡ 16838
first_draw = refl

-- the second one, 5758, gives its declaration
first_rule : made_sheet 1 ≡ codes ".c38{margin:4px}"
unfolding digits
first_rule = refl

-- ---- The hasher

-- 1 is turned by five places, and multiplied
turned_by_five_places : mixed (record { state = 1 }) 0 ≡ record { state = 0xC6EF372FE94F82A0 }
unfolding mixed
turned_by_five_places = refl
