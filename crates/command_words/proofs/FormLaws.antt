-- Which words ask for what.
use Rattle.std.proofs.Common.{◌≡◌, ◌↔◌, ℕ, List, [], ◌∷◌, Bool, true, false, cond, not, ◌&&◌, ◌||◌, ◌==◌, Option, Some, None, refl, sym, ◌∙◌, ap, subst}
use Rattle.std.specs.Cmp.Lexicographic.{bytes_decides}
use Rattle.std.specs.Prelude.{codes, drop, take}
use Rattle.command_words.specs.Forms.{Arguments, Min, Cmp, Help, Version, alone, arguments, moved, compared, most_limit, most_number, differing, count_up_to, arguments_of, asked, asks_help, command_named, form_of, is_help, is_operand, is_word, most_budget, named, number_up_to, tried, most_rules, takes_number, with_budget, with_limit, with_log, with_number, with_work, with_report, with_operand, with_other_word, with_word, with_words}
use Rattle.command_words.specs.declared.command.Topic.{Topic}
use Rattle.command_words.specs.declared.command.Topic.TheVariants as topic

-- ---- The word `min`

-- nothing stands behind the name of a command
abbrev bare : Option Arguments
bare = Some (arguments [] None None None false false)

operand_is_not_bare : (word : List ℕ) (before : Option Arguments) → with_operand word before ≡ bare → ⊥
operand_is_not_bare word None is = absurd (let bad : ⊥ = cc in bad)
operand_is_not_bare word (Some (arguments [] budget limit work log report)) is = absurd (let bad : ⊥ = cc in bad)
operand_is_not_bare word (Some (arguments (first ∷ []) budget limit work log report)) is = absurd (let bad : ⊥ = cc in bad)
operand_is_not_bare word (Some (arguments (first ∷ second ∷ more) budget limit work log report)) is = absurd (let bad : ⊥ = cc in bad)

budget_is_not_bare : (number : Option ℕ) (before : Option Arguments) → with_budget number before ≡ bare → ⊥
budget_is_not_bare None before is = absurd (let bad : ⊥ = cc in bad)
budget_is_not_bare (Some number) None is = absurd (let bad : ⊥ = cc in bad)
budget_is_not_bare (Some number) (Some (arguments operands None limit work log report)) is = absurd (let bad : ⊥ = cc in bad)
budget_is_not_bare (Some number) (Some (arguments operands (Some other) limit work log report)) is = absurd (let bad : ⊥ = cc in bad)

limit_is_not_bare : (number : Option ℕ) (before : Option Arguments) → with_limit number before ≡ bare → ⊥
limit_is_not_bare None before is = absurd (let bad : ⊥ = cc in bad)
limit_is_not_bare (Some number) None is = absurd (let bad : ⊥ = cc in bad)
limit_is_not_bare (Some number) (Some (arguments operands budget None work log report)) is = absurd (let bad : ⊥ = cc in bad)
limit_is_not_bare (Some number) (Some (arguments operands budget (Some other) work log report)) is = absurd (let bad : ⊥ = cc in bad)

work_is_not_bare : (number : Option ℕ) (before : Option Arguments) → with_work number before ≡ bare → ⊥
work_is_not_bare None before is = absurd (let bad : ⊥ = cc in bad)
work_is_not_bare (Some number) None is = absurd (let bad : ⊥ = cc in bad)
work_is_not_bare (Some number) (Some (arguments operands budget limit None log report)) is = absurd (let bad : ⊥ = cc in bad)
work_is_not_bare (Some number) (Some (arguments operands budget limit (Some other) log report)) is = absurd (let bad : ⊥ = cc in bad)

number_is_not_bare : (option number : List ℕ) (before : Option Arguments) → with_number option number before ≡ bare → ⊥
number_is_not_bare option number before is = by (is_word option (codes "--budget")) (is_word option (codes "--limit")) is
  where
    by : (b c : Bool) → cond b (with_budget (number_up_to most_budget number) before) (cond c (with_limit (count_up_to most_limit number) before) (with_work (number_up_to most_number number) before)) ≡ bare → ⊥
    by true c is = budget_is_not_bare (number_up_to most_budget number) before is
    by false true is = limit_is_not_bare (count_up_to most_limit number) before is
    by false false is = work_is_not_bare (number_up_to most_number number) before is

log_is_not_bare : (before : Option Arguments) → with_log before ≡ bare → ⊥
log_is_not_bare None is = absurd (let bad : ⊥ = cc in bad)
log_is_not_bare (Some (arguments operands budget limit work false report)) is = absurd (let bad : ⊥ = cc in bad)
log_is_not_bare (Some (arguments operands budget limit work true report)) is = absurd (let bad : ⊥ = cc in bad)

report_is_not_bare : (before : Option Arguments) → with_report before ≡ bare → ⊥
report_is_not_bare None is = absurd (let bad : ⊥ = cc in bad)
report_is_not_bare (Some (arguments operands budget limit work log false)) is = absurd (let bad : ⊥ = cc in bad)
report_is_not_bare (Some (arguments operands budget limit work log true)) is = absurd (let bad : ⊥ = cc in bad)

other_word_is_not_bare : (word : List ℕ) (before : Option Arguments) → with_other_word word before ≡ bare → ⊥
other_word_is_not_bare word before is = by (is_word (take 9 word) (codes "--budget=")) (is_word (take 8 word) (codes "--limit=")) (is_word (take 7 word) (codes "--work=")) (is_operand word) is
  where
    by : (b c d e : Bool)
        → cond b (with_budget (number_up_to most_budget (drop 9 word)) before) (cond c (with_limit (count_up_to most_limit (drop 8 word)) before) (cond d (with_work (number_up_to most_number (drop 7 word)) before) (cond e (with_operand word before) None))) ≡ bare → ⊥
    by true c d e is = budget_is_not_bare (number_up_to most_budget (drop 9 word)) before is
    by false true d e is = limit_is_not_bare (count_up_to most_limit (drop 8 word)) before is
    by false false true e is = work_is_not_bare (number_up_to most_number (drop 7 word)) before is
    by false false false true is = operand_is_not_bare word before is
    by false false false false is = absurd (let bad : ⊥ = cc in bad)

word_is_not_bare : (word : List ℕ) (before : Option Arguments) → with_word word before ≡ bare → ⊥
word_is_not_bare word before is = by (is_word word (codes "--log")) (is_word word (codes "--report")) is
  where
    by : (b c : Bool) → cond b (with_log before) (cond c (with_report before) (with_other_word word before)) ≡ bare → ⊥
    by true c is = log_is_not_bare before is
    by false true is = report_is_not_bare before is
    by false false is = other_word_is_not_bare word before is

-- only no words stand for nothing
words_are_bare : (before : Option Arguments) (words : List (List ℕ)) → with_words before words ≡ bare → (before ≡ bare) × (words ≡ [])
words_are_bare before [] is = (is, refl)
words_are_bare before (word ∷ []) is = absurd (word_is_not_bare word before is)
words_are_bare before (word ∷ next ∷ words) is =
    by (takes_number word) (words_are_bare (with_number word next before) words) (words_are_bare (with_word word before) (next ∷ words)) is
  where
    by : (b : Bool)
        → (with_words (with_number word next before) words ≡ bare → (with_number word next before ≡ bare) × (words ≡ []))
        → (with_words (with_word word before) (next ∷ words) ≡ bare → (with_word word before ≡ bare) × (next ∷ words ≡ []))
        → cond b (with_words (with_number word next before) words) (with_words (with_word word before) (next ∷ words)) ≡ bare → (before ≡ bare) × (word ∷ next ∷ words ≡ [])
    by true numbered other is = absurd (number_is_not_bare word next before (numbered is).0)
    by false numbered other is = absurd (word_is_not_bare word before (other is).0)

moved_is_not_min : (from to budget : Option ℕ) → moved from to budget ≡ Some (Min None None false) → ⊥
moved_is_not_min None to budget is = absurd (let bad : ⊥ = cc in bad)
moved_is_not_min (Some from) None budget is = absurd (let bad : ⊥ = cc in bad)
moved_is_not_min (Some from) (Some to) budget is = absurd (let bad : ⊥ = cc in bad)

compared_is_not_min : (split budget : Option ℕ) → compared split budget ≡ Some (Min None None false) → ⊥
compared_is_not_min None budget is = absurd (let bad : ⊥ = cc in bad)
compared_is_not_min (Some split) budget is = absurd (let bad : ⊥ = cc in bad)

differing_is_not_min : (split budget limit : Option ℕ) → differing split budget limit ≡ Some (Min None None false) → ⊥
differing_is_not_min None budget limit is = absurd (let bad : ⊥ = cc in bad)
differing_is_not_min (Some split) budget limit is = absurd (let bad : ⊥ = cc in bad)

tried_is_not_min : (rules : Option ℕ) → tried rules ≡ Some (Min None None false) → ⊥
tried_is_not_min None is = absurd (let bad : ⊥ = cc in bad)
tried_is_not_min (Some rules) is = absurd (let bad : ⊥ = cc in bad)

-- only `min` minifies with no budget and no report, and only with nothing behind it
asked_min : (about : Topic) (words : Option Arguments) → asked about words ≡ Some (Min None None false) → (about ≡ topic.Min) × (words ≡ bare)
asked_min topic.Program words is = absurd (let bad : ⊥ = cc in bad)
asked_min topic.Min None is = absurd (let bad : ⊥ = cc in bad)
asked_min topic.Min (Some (arguments [] budget (Some limit) work log report)) is = absurd (let bad : ⊥ = cc in bad)
asked_min topic.Min (Some (arguments [] budget None work true report)) is = absurd (let bad : ⊥ = cc in bad)
asked_min topic.Min (Some (arguments [] None None None false true)) is = absurd (let bad : ⊥ = cc in bad)
asked_min topic.Min (Some (arguments [] None None None false false)) is = (refl, refl)
asked_min topic.Min (Some (arguments [] None None (Some work) false report)) is = absurd (let bad : ⊥ = cc in bad)
asked_min topic.Min (Some (arguments [] (Some budget) None work false report)) is = absurd (let bad : ⊥ = cc in bad)
asked_min topic.Min (Some (arguments (x ∷ more) budget limit work log report)) is = absurd (let bad : ⊥ = cc in bad)
asked_min topic.Dead None is = absurd (let bad : ⊥ = cc in bad)
asked_min topic.Dead (Some (arguments [] budget (Some limit) work log report)) is = absurd (let bad : ⊥ = cc in bad)
asked_min topic.Dead (Some (arguments [] budget None (Some work) log report)) is = absurd (let bad : ⊥ = cc in bad)
asked_min topic.Dead (Some (arguments [] budget None None true report)) is = absurd (let bad : ⊥ = cc in bad)
asked_min topic.Dead (Some (arguments [] budget None None false true)) is = absurd (let bad : ⊥ = cc in bad)
asked_min topic.Dead (Some (arguments [] budget None None false false)) is = absurd (let bad : ⊥ = cc in bad)
asked_min topic.Dead (Some (arguments (x ∷ more) budget limit work log report)) is = absurd (let bad : ⊥ = cc in bad)
asked_min topic.Style None is = absurd (let bad : ⊥ = cc in bad)
asked_min topic.Style (Some (arguments [] (Some budget) limit work log report)) is = absurd (let bad : ⊥ = cc in bad)
asked_min topic.Style (Some (arguments [] None (Some limit) work log report)) is = absurd (let bad : ⊥ = cc in bad)
asked_min topic.Style (Some (arguments [] None None (Some work) log report)) is = absurd (let bad : ⊥ = cc in bad)
asked_min topic.Style (Some (arguments [] None None None true report)) is = absurd (let bad : ⊥ = cc in bad)
asked_min topic.Style (Some (arguments [] None None None false true)) is = absurd (let bad : ⊥ = cc in bad)
asked_min topic.Style (Some (arguments [] None None None false false)) is = absurd (let bad : ⊥ = cc in bad)
asked_min topic.Style (Some (arguments (x ∷ more) budget limit work log report)) is = absurd (let bad : ⊥ = cc in bad)
asked_min topic.Why None is = absurd (let bad : ⊥ = cc in bad)
asked_min topic.Why (Some (arguments [] budget limit work log report)) is = absurd (let bad : ⊥ = cc in bad)
asked_min topic.Why (Some (arguments (x ∷ []) budget limit work log report)) is = absurd (let bad : ⊥ = cc in bad)
asked_min topic.Why (Some (arguments (x ∷ y ∷ []) budget (Some limit) work log report)) is = absurd (let bad : ⊥ = cc in bad)
asked_min topic.Why (Some (arguments (x ∷ y ∷ []) budget None (Some work) log report)) is = absurd (let bad : ⊥ = cc in bad)
asked_min topic.Why (Some (arguments (x ∷ y ∷ []) budget None None true report)) is = absurd (let bad : ⊥ = cc in bad)
asked_min topic.Why (Some (arguments (x ∷ y ∷ []) budget None None false true)) is = absurd (let bad : ⊥ = cc in bad)
asked_min topic.Why (Some (arguments (x ∷ y ∷ []) budget None None false false)) is = absurd (moved_is_not_min (number_up_to most_number x) (number_up_to most_number y) budget is)
asked_min topic.Why (Some (arguments (x ∷ y ∷ z ∷ more) budget limit work log report)) is = absurd (let bad : ⊥ = cc in bad)
asked_min topic.Cmp None is = absurd (let bad : ⊥ = cc in bad)
asked_min topic.Cmp (Some (arguments [] budget limit work log report)) is = absurd (let bad : ⊥ = cc in bad)
asked_min topic.Cmp (Some (arguments (x ∷ []) budget limit work log report)) is = absurd (let bad : ⊥ = cc in bad)
asked_min topic.Cmp (Some (arguments (x ∷ y ∷ []) budget (Some limit) work log report)) is = absurd (let bad : ⊥ = cc in bad)
asked_min topic.Cmp (Some (arguments (x ∷ y ∷ []) budget None (Some work) log report)) is = absurd (let bad : ⊥ = cc in bad)
asked_min topic.Cmp (Some (arguments (x ∷ y ∷ []) budget None None log true)) is = absurd (let bad : ⊥ = cc in bad)
asked_min topic.Cmp (Some (arguments (x ∷ y ∷ []) budget None None log false)) is = absurd (let bad : ⊥ = cc in bad)
asked_min topic.Cmp (Some (arguments (x ∷ y ∷ z ∷ more) budget limit work log report)) is = absurd (let bad : ⊥ = cc in bad)
asked_min topic.Check None is = absurd (let bad : ⊥ = cc in bad)
asked_min topic.Check (Some (arguments [] (Some budget) limit work log report)) is = absurd (let bad : ⊥ = cc in bad)
asked_min topic.Check (Some (arguments [] None (Some limit) work log report)) is = absurd (let bad : ⊥ = cc in bad)
asked_min topic.Check (Some (arguments [] None None (Some work) log report)) is = absurd (let bad : ⊥ = cc in bad)
asked_min topic.Check (Some (arguments [] None None None true report)) is = absurd (let bad : ⊥ = cc in bad)
asked_min topic.Check (Some (arguments [] None None None false true)) is = absurd (let bad : ⊥ = cc in bad)
asked_min topic.Check (Some (arguments [] None None None false false)) is = absurd (let bad : ⊥ = cc in bad)
asked_min topic.Check (Some (arguments (x ∷ more) budget limit work log report)) is = absurd (let bad : ⊥ = cc in bad)
asked_min topic.Same None is = absurd (let bad : ⊥ = cc in bad)
asked_min topic.Same (Some (arguments [] budget limit work log report)) is = absurd (let bad : ⊥ = cc in bad)
asked_min topic.Same (Some (arguments (x ∷ []) budget (Some limit) work log report)) is = absurd (let bad : ⊥ = cc in bad)
asked_min topic.Same (Some (arguments (x ∷ []) budget None (Some work) log report)) is = absurd (let bad : ⊥ = cc in bad)
asked_min topic.Same (Some (arguments (x ∷ []) budget None None true report)) is = absurd (let bad : ⊥ = cc in bad)
asked_min topic.Same (Some (arguments (x ∷ []) budget None None false true)) is = absurd (let bad : ⊥ = cc in bad)
asked_min topic.Same (Some (arguments (x ∷ []) budget None None false false)) is = absurd (compared_is_not_min (number_up_to most_number x) budget is)
asked_min topic.Same (Some (arguments (x ∷ y ∷ more) budget limit work log report)) is = absurd (let bad : ⊥ = cc in bad)
asked_min topic.Diff None is = absurd (let bad : ⊥ = cc in bad)
asked_min topic.Diff (Some (arguments [] budget limit work log report)) is = absurd (let bad : ⊥ = cc in bad)
asked_min topic.Diff (Some (arguments (x ∷ []) budget limit (Some work) log report)) is = absurd (let bad : ⊥ = cc in bad)
asked_min topic.Diff (Some (arguments (x ∷ []) budget limit None true report)) is = absurd (let bad : ⊥ = cc in bad)
asked_min topic.Diff (Some (arguments (x ∷ []) budget limit None false true)) is = absurd (let bad : ⊥ = cc in bad)
asked_min topic.Diff (Some (arguments (x ∷ []) budget limit None false false)) is = absurd (differing_is_not_min (number_up_to most_number x) budget limit is)
asked_min topic.Diff (Some (arguments (x ∷ y ∷ more) budget limit work log report)) is = absurd (let bad : ⊥ = cc in bad)
asked_min topic.Blockers None is = absurd (let bad : ⊥ = cc in bad)
asked_min topic.Blockers (Some (arguments [] budget (Some limit) work log report)) is = absurd (let bad : ⊥ = cc in bad)
asked_min topic.Blockers (Some (arguments [] budget None (Some work) log report)) is = absurd (let bad : ⊥ = cc in bad)
asked_min topic.Blockers (Some (arguments [] budget None None true report)) is = absurd (let bad : ⊥ = cc in bad)
asked_min topic.Blockers (Some (arguments [] budget None None false true)) is = absurd (let bad : ⊥ = cc in bad)
asked_min topic.Blockers (Some (arguments [] budget None None false false)) is = absurd (let bad : ⊥ = cc in bad)
asked_min topic.Blockers (Some (arguments (x ∷ more) budget limit work log report)) is = absurd (let bad : ⊥ = cc in bad)
asked_min topic.Listing None is = absurd (let bad : ⊥ = cc in bad)
asked_min topic.Listing (Some (arguments [] (Some budget) limit work log report)) is = absurd (let bad : ⊥ = cc in bad)
asked_min topic.Listing (Some (arguments [] None (Some limit) work log report)) is = absurd (let bad : ⊥ = cc in bad)
asked_min topic.Listing (Some (arguments [] None None (Some work) log report)) is = absurd (let bad : ⊥ = cc in bad)
asked_min topic.Listing (Some (arguments [] None None None true report)) is = absurd (let bad : ⊥ = cc in bad)
asked_min topic.Listing (Some (arguments [] None None None false true)) is = absurd (let bad : ⊥ = cc in bad)
asked_min topic.Listing (Some (arguments [] None None None false false)) is = absurd (let bad : ⊥ = cc in bad)
asked_min topic.Listing (Some (arguments (x ∷ more) budget limit work log report)) is = absurd (let bad : ⊥ = cc in bad)
asked_min topic.Lint None is = absurd (let bad : ⊥ = cc in bad)
asked_min topic.Lint (Some (arguments [] budget (Some limit) work log report)) is = absurd (let bad : ⊥ = cc in bad)
asked_min topic.Lint (Some (arguments [] budget None (Some work) log report)) is = absurd (let bad : ⊥ = cc in bad)
asked_min topic.Lint (Some (arguments [] budget None None true report)) is = absurd (let bad : ⊥ = cc in bad)
asked_min topic.Lint (Some (arguments [] budget None None false true)) is = absurd (let bad : ⊥ = cc in bad)
asked_min topic.Lint (Some (arguments [] budget None None false false)) is = absurd (let bad : ⊥ = cc in bad)
asked_min topic.Lint (Some (arguments (x ∷ more) budget limit work log report)) is = absurd (let bad : ⊥ = cc in bad)
asked_min topic.Inspect None is = absurd (let bad : ⊥ = cc in bad)
asked_min topic.Inspect (Some (arguments [] (Some budget) limit work log report)) is = absurd (let bad : ⊥ = cc in bad)
asked_min topic.Inspect (Some (arguments [] None (Some limit) work log report)) is = absurd (let bad : ⊥ = cc in bad)
asked_min topic.Inspect (Some (arguments [] None None (Some work) log report)) is = absurd (let bad : ⊥ = cc in bad)
asked_min topic.Inspect (Some (arguments [] None None None true report)) is = absurd (let bad : ⊥ = cc in bad)
asked_min topic.Inspect (Some (arguments [] None None None false true)) is = absurd (let bad : ⊥ = cc in bad)
asked_min topic.Inspect (Some (arguments [] None None None false false)) is = absurd (let bad : ⊥ = cc in bad)
asked_min topic.Inspect (Some (arguments (x ∷ more) budget limit work log report)) is = absurd (let bad : ⊥ = cc in bad)
asked_min topic.Trial None is = absurd (let bad : ⊥ = cc in bad)
asked_min topic.Trial (Some (arguments [] budget limit work log report)) is = absurd (let bad : ⊥ = cc in bad)
asked_min topic.Trial (Some (arguments (x ∷ []) (Some budget) limit work log report)) is = absurd (let bad : ⊥ = cc in bad)
asked_min topic.Trial (Some (arguments (x ∷ []) None (Some limit) work log report)) is = absurd (let bad : ⊥ = cc in bad)
asked_min topic.Trial (Some (arguments (x ∷ []) None None (Some work) log report)) is = absurd (let bad : ⊥ = cc in bad)
asked_min topic.Trial (Some (arguments (x ∷ []) None None None true report)) is = absurd (let bad : ⊥ = cc in bad)
asked_min topic.Trial (Some (arguments (x ∷ []) None None None false true)) is = absurd (let bad : ⊥ = cc in bad)
asked_min topic.Trial (Some (arguments (x ∷ []) None None None false false)) is = absurd (tried_is_not_min (number_up_to most_rules x) is)
asked_min topic.Trial (Some (arguments (x ∷ y ∷ more) budget limit work log report)) is = absurd (let bad : ⊥ = cc in bad)

alone_is_not_min : (word : List ℕ) (words : List (List ℕ)) → alone word words ≡ Some (Min None None false) → ⊥
alone_is_not_min word [] is = by (is_help word || is_word word (codes "help")) (is_word word (codes "--version") || is_word word (codes "-V")) is
  where
    by : (b c : Bool) → cond b (Some (Help topic.Program)) (cond c (Some Version) None) ≡ Some (Min None None false) → ⊥
    by true c is = absurd (let bad : ⊥ = cc in bad)
    by false true is = absurd (let bad : ⊥ = cc in bad)
    by false false is = absurd (let bad : ⊥ = cc in bad)
alone_is_not_min word (next ∷ words) is = absurd (let bad : ⊥ = cc in bad)

named_min : (command : Option Topic) (name : List ℕ) (words : List (List ℕ)) → named command name words ≡ Some (Min None None false) → (command ≡ Some topic.Min) × (words ≡ [])
named_min None name words is = absurd (alone_is_not_min name words is)
named_min (Some about) name words is = by (asks_help words) is
  where
    by : (b : Bool) → cond b (Some (Help about)) (asked about (arguments_of words)) ≡ Some (Min None None false) → (Some about ≡ Some topic.Min) × (words ≡ [])
    by true is = absurd (let bad : ⊥ = cc in bad)
    by false is = let parts = asked_min about (arguments_of words) is in (ap Some parts.0, (words_are_bare bare words parts.1).1)

command_min : (name : List ℕ) → command_named name ≡ Some topic.Min → name ≡ codes "min"
unfolding command_named
command_min name is =
    by (is_word name (codes "min")) (is_word name (codes "dead")) (is_word name (codes "style")) (is_word name (codes "cmp")) (is_word name (codes "check")) (is_word name (codes "why")) (is_word name (codes "same")) (is_word name (codes "diff")) (is_word name (codes "blockers")) (is_word name (codes "list")) (is_word name (codes "lint")) (is_word name (codes "inspect")) (is_word name (codes "trial")) refl is
  where
    by : (b c d e f g h i j k l m n : Bool) → is_word name (codes "min") ≡ b
        → cond b (Some topic.Min) (cond c (Some topic.Dead) (cond d (Some topic.Style) (cond e (Some topic.Cmp) (cond f (Some topic.Check) (cond g (Some topic.Why) (cond h (Some topic.Same) (cond i (Some topic.Diff) (cond j (Some topic.Blockers) (cond k (Some topic.Listing) (cond l (Some topic.Lint) (cond m (Some topic.Inspect) (cond n (Some topic.Trial) None)))))))))))) ≡ Some topic.Min
        → name ≡ codes "min"
    by true c d e f g h i j k l m n test is = (bytes_decides name (codes "min")).0 test
    by false true d e f g h i j k l m n test is = absurd (let bad : ⊥ = cc in bad)
    by false false true e f g h i j k l m n test is = absurd (let bad : ⊥ = cc in bad)
    by false false false true f g h i j k l m n test is = absurd (let bad : ⊥ = cc in bad)
    by false false false false true g h i j k l m n test is = absurd (let bad : ⊥ = cc in bad)
    by false false false false false true h i j k l m n test is = absurd (let bad : ⊥ = cc in bad)
    by false false false false false false true i j k l m n test is = absurd (let bad : ⊥ = cc in bad)
    by false false false false false false false true j k l m n test is = absurd (let bad : ⊥ = cc in bad)
    by false false false false false false false false true k l m n test is = absurd (let bad : ⊥ = cc in bad)
    by false false false false false false false false false true l m n test is = absurd (let bad : ⊥ = cc in bad)
    by false false false false false false false false false false true m n test is = absurd (let bad : ⊥ = cc in bad)
    by false false false false false false false false false false false true n test is = absurd (let bad : ⊥ = cc in bad)
    by false false false false false false false false false false false false true test is = absurd (let bad : ⊥ = cc in bad)
    by false false false false false false false false false false false false false test is = absurd (let bad : ⊥ = cc in bad)

min_only : (words : List (List ℕ)) → form_of words ≡ Some (Min None None false) → words ≡ codes "min" ∷ []
min_only [] is = absurd (let bad : ⊥ = cc in bad)
min_only (name ∷ words) is =
    let parts = named_min (command_named name) name words is in
    let first : name ≡ codes "min" = command_min name parts.0 in let behind : words ≡ [] = parts.1 in cc

min_alone : form_of (codes "min" ∷ []) ≡ Some (Min None None false)
unfolding command_named
min_alone = refl

pub min_is_one_word : (words : List (List ℕ)) → (form_of words ≡ Some (Min None None false)) ↔ (words ≡ codes "min" ∷ [])
min_is_one_word words = (min_only words, λ is. subst (λ (ws : List (List ℕ)). form_of ws ≡ Some (Min None None false)) (sym is) min_alone)

-- ---- Operands and options

-- a word that may be an operand is no option
operand_is_no_option : (word : List ℕ) → is_operand word ≡ true
    → (takes_number word ≡ false) × (is_word (take 9 word) (codes "--budget=") ≡ false) × (is_word (take 8 word) (codes "--limit=") ≡ false) × (is_word (take 7 word) (codes "--work=") ≡ false) × (is_word word (codes "--log") ≡ false) × (is_word word (codes "--report") ≡ false)
operand_is_no_option [] may = (refl, refl, refl, refl, refl, refl)
operand_is_no_option (c ∷ cs) may = by (c == 45) may
  where
    by : (b : Bool) → not b ≡ true
        → (((b && is_word cs (codes "-budget")) || (b && is_word cs (codes "-limit")) || (b && is_word cs (codes "-work"))) ≡ false) × ((b && is_word (take 8 cs) (codes "-budget=")) ≡ false) × ((b && is_word (take 7 cs) (codes "-limit=")) ≡ false) × ((b && is_word (take 6 cs) (codes "-work=")) ≡ false) × ((b && is_word cs (codes "-log")) ≡ false) × ((b && is_word cs (codes "-report")) ≡ false)
    by true may = absurd (let bad : ⊥ = cc in bad)
    by false may = (refl, refl, refl, refl, refl, refl)

operand_word : (word : List ℕ) (before : Option Arguments) → is_operand word ≡ true → with_word word before ≡ with_operand word before
operand_word word before may = let no = operand_is_no_option word may in by _ _ _ _ _ _ _ _ _ _ _ _ no.4 no.5 no.1 no.2 no.3 may
  where
    by : (a b c d e f : Bool) (t u v w x y : Option Arguments) → a ≡ false → b ≡ false → c ≡ false → d ≡ false → e ≡ false → f ≡ true → cond a t (cond b u (cond c v (cond d w (cond e x (cond f y None))))) ≡ y
    by false false false false false true t u v w x y p q r s o k = refl
    by true b c d e f t u v w x y p q r s o k = absurd (let bad : ⊥ = cc in bad)
    by false true c d e f t u v w x y p q r s o k = absurd (let bad : ⊥ = cc in bad)
    by false false true d e f t u v w x y p q r s o k = absurd (let bad : ⊥ = cc in bad)
    by false false false true e f t u v w x y p q r s o k = absurd (let bad : ⊥ = cc in bad)
    by false false false false true f t u v w x y p q r s o k = absurd (let bad : ⊥ = cc in bad)
    by false false false false false false t u v w x y p q r s o k = absurd (let bad : ⊥ = cc in bad)

operand_first : (word next : List ℕ) (words : List (List ℕ)) (before : Option Arguments) → is_operand word ≡ true → with_words before (word ∷ next ∷ words) ≡ with_words (with_operand word before) (next ∷ words)
operand_first word next words before may = by _ _ _ (operand_is_no_option word may).0 ∙ ap (λ (read : Option Arguments). with_words read (next ∷ words)) (operand_word word before may)
  where
    by : (b : Bool) (x y : Option Arguments) → b ≡ false → cond b x y ≡ y
    by false x y p = refl
    by true x y p = absurd (let bad : ⊥ = cc in bad)

-- two words behind `cmp` are compared
pub cmp_compares : (left right : List ℕ) → is_operand left ≡ true → is_operand right ≡ true → form_of (codes "cmp" ∷ left ∷ right ∷ []) ≡ Some (Cmp left right None false)
unfolding command_named
cmp_compares left right p q = ap (asked topic.Cmp) (operand_first left right [] bare p ∙ operand_word right (with_operand left bare) q)
