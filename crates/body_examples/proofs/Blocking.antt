-- What stops the steps that would still save bytes, and the lines of `blockers`.
use Rattle.std.proofs.Common.{◌≡◌, ℕ, true, false, List, [], ◌∷◌, ◌++◌, refl}
use Rattle.std.specs.Char.{encode_utf8}
use Rattle.std.specs.Fmt.{digits}
use Rattle.std.specs.List.{flat_map}
use Rattle.std.specs.Prelude.{codes}
use Rattle.std.specs.Str.{chars, is_utf8}
use Rattle.std.specs.Str.Lossy.{utf8_valid_len, utf8_lossy}
use Rattle.blockers_text.specs.Lines.{totals_text}
use Rattle.blockers_text.specs.Planned.{Planned, all_ranked, all_weighed}
use Rattle.body_examples.proofs.Texts.{of_sheet}
use Rattle.body_examples.proofs.Values.{a_class, b_class}
use Rattle.css_model.specs.declared.sheet.Item.{Item}
use Rattle.css_model.specs.Documents.SelectorParts.{SelectorParts}
use Rattle.css_model.specs.Sheets.Sheet.{sheet_of}
use Rattle.media_groups.specs.Levels.{outer_level}
use Rattle.step_laws.specs.declared.step.Step.{Step}
use Rattle.step_laws.specs.declared.step.Step.TheVariants.{JoinSelDown, JoinSelUp, Share}
use Rattle.step_laws.specs.Free.{Answered}

-- ---- Sheets in which nothing is left to do

abbrev planned : List ℕ → List Step → List Item → List Planned
planned source steps items = record { level = outer_level source items; items = items; steps = steps } ∷ []

abbrev told : List Answered → List ℕ → List Planned → List ℕ
told answers source levels = totals_text (all_weighed answers levels) ++ flat_map (λ r. r.lines) (all_ranked answers source levels)

-- the lines of a sheet of which these steps are left, without the order of its items
abbrev lines_of : List Answered → List ℕ → List Step → List ℕ
lines_of answers source steps = of_sheet (λ items. told answers source (planned source steps items)) (sheet_of source)

abbrev meet : SelectorParts → SelectorParts → Answered
meet x y = record { first = x; second = y; is_apart = false }

abbrev apart : SelectorParts → SelectorParts → Answered
apart x y = record { first = x; second = y; is_apart = true }

-- ---- One item

rule_stops_alone : lines_of (meet a_class b_class ∷ []) (codes ".a{top:0}.b{top:1px}.a{top:2px}") (JoinSelUp 0 2 ∷ JoinSelDown 0 2 ∷ [])
    ≡ codes "blocked 2 6\nkept 0 0\nrules 2 6\nboth 0 0\nstops 2 6 2 6 1:10 .b\nbest 3 JoinSelUp 1:1 1:21 .a{top:2px} .b{top:1px}\n"
unfolding utf8_valid_len is_utf8 chars encode_utf8 utf8_lossy digits
rule_stops_alone = refl

-- what is apart stops nothing
apart_stops_nothing : lines_of (apart a_class b_class ∷ []) (codes ".a{top:0}.b{top:1px}.a{top:2px}") [] ≡ codes "blocked 0 0\nkept 0 0\nrules 0 0\nboth 0 0\n"
unfolding utf8_valid_len is_utf8 chars encode_utf8 utf8_lossy digits
apart_stops_nothing = refl

-- a share is stopped by the rule that it would take apart
rule_stops_its_own_share : lines_of (meet a_class a_class ∷ []) (codes ".a{margin:0;margin-left:1px}.b{margin:0}") (Share 0 1 ∷ [])
    ≡ codes "blocked 1 6\nkept 0 0\nrules 1 6\nboth 0 0\nstops 1 6 1 6 1:1 .a\nbest 6 Share 1:1 1:29 .a{margin:0} .a{margin-left:1px}\n"
unfolding utf8_valid_len is_utf8 chars encode_utf8 utf8_lossy digits
rule_stops_its_own_share = refl

-- ---- Two items

-- neither stops a step alone, and both are told
both_stop : lines_of (meet a_class b_class ∷ []) (codes ".a{top:0}\n.b{top:1px}\n@x;\n.a{top:2px}") (JoinSelUp 0 3 ∷ JoinSelDown 0 3 ∷ [])
    ≡ codes "blocked 2 6\nkept 0 0\nrules 0 0\nboth 2 6\nstops 2 6 0 0 2:1 .b\nstops 2 6 0 0 3:1 @x;\n"
unfolding utf8_valid_len is_utf8 chars encode_utf8 utf8_lossy digits
both_stop = refl

-- where the first one is apart, the other one stops alone
other_stops_alone : lines_of (apart a_class b_class ∷ []) (codes ".a{top:0}\n.b{top:1px}\n@x;\n.a{top:2px}") (JoinSelUp 0 3 ∷ [])
    ≡ codes "blocked 1 3\nkept 1 3\nrules 0 0\nboth 0 0\nstops 1 3 1 3 3:1 @x;\nbest 3 JoinSelUp 1:1 4:1 .a{top:2px}\n"
unfolding utf8_valid_len is_utf8 chars encode_utf8 utf8_lossy digits
other_stops_alone = refl
