-- The limit that words name, or the usual one, is at least 1.
use Rattle.std.proofs.Common.{◌≡◌, ◌<◌, ◌&&◌, ◌||◌, ℕ, zero, suc, Bool, true, false, not, cond, List, [], ◌∷◌, Option, Some, None, nat_lt, arith, refl, sym, ◌∙◌, ap, subst}
use Rattle.std.proofs.lemmas.Bool.{false≢true}
use Rattle.std.specs.Cmp.Lexicographic.{bytes_decides}
use Rattle.std.specs.Fmt.{digits}
use Rattle.std.specs.Prelude.{codes, decimal, drop, take}
use Rattle.std.specs.Str.Parse.{digits_value}
use Rattle.command_words.specs.Forms.{Arguments, Form, Diff, Help, Version, alone, arguments, arguments_of, asked, asks_help, command_named, compared, count_up_to, differing, form_of, is_help, is_operand, is_word, most_budget, most_limit, most_number, most_rules, moved, named, number_up_to, takes_number, tried, with_budget, with_limit, with_log, with_number, with_operand, with_other_word, with_plain_word, with_report, with_word, with_words, with_work}
use Rattle.command_words.specs.declared.command.Topic.{Topic}
use Rattle.command_words.specs.declared.command.Topic.TheVariants as topic

-- ---- Numbers

-- a number, if there is one, is at least 1
abbrev Counts : Option ℕ → Type 0
Counts None = Unit {0}
Counts (Some n) = 0 < n

digit_of_none : decimal 0 ≡ codes "0"
unfolding digits
digit_of_none = refl

some_if_not_none : (n : ℕ) → (n ≡ 0 → ⊥) → 0 < n
some_if_not_none zero filled = absurd (filled refl)
some_if_not_none (suc n) filled = omega arith

number_counts : (most : ℕ) (word : List ℕ) → is_word word (codes "0") ≡ false → Counts (number_up_to most word)
unfolding number_up_to
number_counts most word other = by (is_word word (decimal (digits_value 10 word))) (not (nat_lt most (digits_value 10 word))) refl
  where
    none_is_zero : is_word word (decimal (digits_value 10 word)) ≡ true → digits_value 10 word ≡ 0 → ⊥
    none_is_zero same none =
        let is : word ≡ decimal (digits_value 10 word) = (bytes_decides word (decimal (digits_value 10 word))).0 same in
        false≢true (sym other ∙ (bytes_decides word (codes "0")).1 (is ∙ ap decimal none ∙ digit_of_none))

    by : (b c : Bool) → is_word word (decimal (digits_value 10 word)) ≡ b → Counts (cond (b && c) (Some (digits_value 10 word)) None)
    by true true same = some_if_not_none (digits_value 10 word) (none_is_zero same)
    by true false same = tt
    by false c same = tt

count_counts : (most : ℕ) (word : List ℕ) → Counts (count_up_to most word)
count_counts most word = by (is_word word (codes "0")) refl
  where
    by : (b : Bool) → is_word word (codes "0") ≡ b → Counts (cond b None (number_up_to most word))
    by true is = tt
    by false is = number_counts most word is

-- ---- Words

-- the limit of arguments, if it is named
abbrev LimitCounts : Option Arguments → Type 0
LimitCounts None = Unit {0}
LimitCounts (Some (arguments operands budget limit work log report)) = Counts limit

operand_counts : (word : List ℕ) (before : Option Arguments) → LimitCounts before → LimitCounts (with_operand word before)
operand_counts word None h = tt
operand_counts word (Some (arguments [] budget limit work log report)) h = h
operand_counts word (Some (arguments (first ∷ []) budget limit work log report)) h = h
operand_counts word (Some (arguments (first ∷ second ∷ more) budget limit work log report)) h = tt

budget_counts : (number : Option ℕ) (before : Option Arguments) → LimitCounts before → LimitCounts (with_budget number before)
budget_counts None before h = tt
budget_counts (Some number) None h = tt
budget_counts (Some number) (Some (arguments operands None limit work log report)) h = h
budget_counts (Some number) (Some (arguments operands (Some other) limit work log report)) h = tt

limit_counts : (number : Option ℕ) (before : Option Arguments) → Counts number → LimitCounts before → LimitCounts (with_limit number before)
limit_counts None before some h = tt
limit_counts (Some number) None some h = tt
limit_counts (Some number) (Some (arguments operands budget None work log report)) some h = some
limit_counts (Some number) (Some (arguments operands budget (Some other) work log report)) some h = tt

work_counts : (number : Option ℕ) (before : Option Arguments) → LimitCounts before → LimitCounts (with_work number before)
work_counts None before h = tt
work_counts (Some number) None h = tt
work_counts (Some number) (Some (arguments operands budget limit None log report)) h = h
work_counts (Some number) (Some (arguments operands budget limit (Some other) log report)) h = tt

next_counts : (option number : List ℕ) (before : Option Arguments) → LimitCounts before → LimitCounts (with_number option number before)
next_counts option number before h = by (is_word option (codes "--budget")) (is_word option (codes "--limit"))
  where
    by : (b c : Bool) → LimitCounts (cond b (with_budget (number_up_to most_budget number) before) (cond c (with_limit (count_up_to most_limit number) before) (with_work (number_up_to most_number number) before)))
    by true c = budget_counts (number_up_to most_budget number) before h
    by false true = limit_counts (count_up_to most_limit number) before (count_counts most_limit number) h
    by false false = work_counts (number_up_to most_number number) before h

log_counts : (before : Option Arguments) → LimitCounts before → LimitCounts (with_log before)
log_counts None h = tt
log_counts (Some (arguments operands budget limit work false report)) h = h
log_counts (Some (arguments operands budget limit work true report)) h = tt

report_counts : (before : Option Arguments) → LimitCounts before → LimitCounts (with_report before)
report_counts None h = tt
report_counts (Some (arguments operands budget limit work log false)) h = h
report_counts (Some (arguments operands budget limit work log true)) h = tt

plain_counts : (word : List ℕ) (before : Option Arguments) → LimitCounts before → LimitCounts (with_plain_word word before)
plain_counts word before h = by (is_operand word)
  where
    by : (b : Bool) → LimitCounts (cond b (with_operand word before) None)
    by true = operand_counts word before h
    by false = tt

other_word_counts : (word : List ℕ) (before : Option Arguments) → LimitCounts before → LimitCounts (with_other_word word before)
other_word_counts word before h = by (is_word (take 9 word) (codes "--budget=")) (is_word (take 8 word) (codes "--limit=")) (is_word (take 7 word) (codes "--work="))
  where
    by : (b c d : Bool) → LimitCounts (cond b (with_budget (number_up_to most_budget (drop 9 word)) before) (cond c (with_limit (count_up_to most_limit (drop 8 word)) before)
        (cond d (with_work (number_up_to most_number (drop 7 word)) before) (with_plain_word word before))))
    by true c d = budget_counts (number_up_to most_budget (drop 9 word)) before h
    by false true d = limit_counts (count_up_to most_limit (drop 8 word)) before (count_counts most_limit (drop 8 word)) h
    by false false true = work_counts (number_up_to most_number (drop 7 word)) before h
    by false false false = plain_counts word before h

word_counts : (word : List ℕ) (before : Option Arguments) → LimitCounts before → LimitCounts (with_word word before)
word_counts word before h = by (is_word word (codes "--log")) (is_word word (codes "--report"))
  where
    by : (b c : Bool) → LimitCounts (cond b (with_log before) (cond c (with_report before) (with_other_word word before)))
    by true c = log_counts before h
    by false true = report_counts before h
    by false false = other_word_counts word before h

words_count : (before : Option Arguments) (words : List (List ℕ)) → LimitCounts before → LimitCounts (with_words before words)
words_count before [] h = h
words_count before (word ∷ []) h = word_counts word before h
words_count before (word ∷ next ∷ words) h =
    by (takes_number word) (words_count (with_number word next before) words (next_counts word next before h)) (words_count (with_word word before) (next ∷ words) (word_counts word before h))
  where
    by : (b : Bool) → LimitCounts (with_words (with_number word next before) words) → LimitCounts (with_words (with_word word before) (next ∷ words))
        → LimitCounts (cond b (with_words (with_number word next before) words) (with_words (with_word word before) (next ∷ words)))
    by true p q = p
    by false p q = q

-- ---- Forms

-- the limit of a form, if it has one
abbrev FormCounts : Option Form → Type 0
FormCounts (Some (Diff split budget limit)) = 0 < limit
FormCounts form = Unit {0}

moved_counts : (from to budget : Option ℕ) → FormCounts (moved from to budget)
moved_counts None to budget = tt
moved_counts (Some from) None budget = tt
moved_counts (Some from) (Some to) budget = tt

compared_counts : (split budget : Option ℕ) → FormCounts (compared split budget)
compared_counts None budget = tt
compared_counts (Some split) budget = tt

differing_counts : (split budget limit : Option ℕ) → Counts limit → FormCounts (differing split budget limit)
differing_counts None budget limit h = tt
differing_counts (Some split) budget None h = omega arith
differing_counts (Some split) budget (Some limit) h = h

tried_counts : (rules : Option ℕ) → FormCounts (tried rules)
tried_counts None = tt
tried_counts (Some rules) = tt

asked_counts : (about : Topic) (words : Option Arguments) → LimitCounts words → FormCounts (asked about words)
asked_counts topic.Program words h = tt
asked_counts topic.Min None h = tt
asked_counts topic.Min (Some (arguments [] budget (Some limit) work log report)) h = tt
asked_counts topic.Min (Some (arguments [] budget None work true report)) h = tt
asked_counts topic.Min (Some (arguments [] None None None false true)) h = tt
asked_counts topic.Min (Some (arguments [] None None None false false)) h = tt
asked_counts topic.Min (Some (arguments [] None None (Some work) false report)) h = tt
asked_counts topic.Min (Some (arguments [] (Some budget) None work false report)) h = tt
asked_counts topic.Min (Some (arguments (x ∷ more) budget limit work log report)) h = tt
asked_counts topic.Dead None h = tt
asked_counts topic.Dead (Some (arguments [] budget (Some limit) work log report)) h = tt
asked_counts topic.Dead (Some (arguments [] budget None (Some work) log report)) h = tt
asked_counts topic.Dead (Some (arguments [] budget None None true report)) h = tt
asked_counts topic.Dead (Some (arguments [] budget None None false true)) h = tt
asked_counts topic.Dead (Some (arguments [] budget None None false false)) h = tt
asked_counts topic.Dead (Some (arguments (x ∷ more) budget limit work log report)) h = tt
asked_counts topic.Style None h = tt
asked_counts topic.Style (Some (arguments [] (Some budget) limit work log report)) h = tt
asked_counts topic.Style (Some (arguments [] None (Some limit) work log report)) h = tt
asked_counts topic.Style (Some (arguments [] None None (Some work) log report)) h = tt
asked_counts topic.Style (Some (arguments [] None None None true report)) h = tt
asked_counts topic.Style (Some (arguments [] None None None false true)) h = tt
asked_counts topic.Style (Some (arguments [] None None None false false)) h = tt
asked_counts topic.Style (Some (arguments (x ∷ more) budget limit work log report)) h = tt
asked_counts topic.Why None h = tt
asked_counts topic.Why (Some (arguments [] budget limit work log report)) h = tt
asked_counts topic.Why (Some (arguments (x ∷ []) budget limit work log report)) h = tt
asked_counts topic.Why (Some (arguments (x ∷ y ∷ []) budget (Some limit) work log report)) h = tt
asked_counts topic.Why (Some (arguments (x ∷ y ∷ []) budget None (Some work) log report)) h = tt
asked_counts topic.Why (Some (arguments (x ∷ y ∷ []) budget None None true report)) h = tt
asked_counts topic.Why (Some (arguments (x ∷ y ∷ []) budget None None false true)) h = tt
asked_counts topic.Why (Some (arguments (x ∷ y ∷ []) budget None None false false)) h = moved_counts (number_up_to most_number x) (number_up_to most_number y) budget
asked_counts topic.Why (Some (arguments (x ∷ y ∷ z ∷ more) budget limit work log report)) h = tt
asked_counts topic.Cmp None h = tt
asked_counts topic.Cmp (Some (arguments [] budget limit work log report)) h = tt
asked_counts topic.Cmp (Some (arguments (x ∷ []) budget limit work log report)) h = tt
asked_counts topic.Cmp (Some (arguments (x ∷ y ∷ []) budget (Some limit) work log report)) h = tt
asked_counts topic.Cmp (Some (arguments (x ∷ y ∷ []) budget None (Some work) log report)) h = tt
asked_counts topic.Cmp (Some (arguments (x ∷ y ∷ []) budget None None log true)) h = tt
asked_counts topic.Cmp (Some (arguments (x ∷ y ∷ []) budget None None log false)) h = tt
asked_counts topic.Cmp (Some (arguments (x ∷ y ∷ z ∷ more) budget limit work log report)) h = tt
asked_counts topic.Check None h = tt
asked_counts topic.Check (Some (arguments [] (Some budget) limit work log report)) h = tt
asked_counts topic.Check (Some (arguments [] None (Some limit) work log report)) h = tt
asked_counts topic.Check (Some (arguments [] None None (Some work) log report)) h = tt
asked_counts topic.Check (Some (arguments [] None None None true report)) h = tt
asked_counts topic.Check (Some (arguments [] None None None false true)) h = tt
asked_counts topic.Check (Some (arguments [] None None None false false)) h = tt
asked_counts topic.Check (Some (arguments (x ∷ more) budget limit work log report)) h = tt
asked_counts topic.Same None h = tt
asked_counts topic.Same (Some (arguments [] budget limit work log report)) h = tt
asked_counts topic.Same (Some (arguments (x ∷ []) budget (Some limit) work log report)) h = tt
asked_counts topic.Same (Some (arguments (x ∷ []) budget None (Some work) log report)) h = tt
asked_counts topic.Same (Some (arguments (x ∷ []) budget None None true report)) h = tt
asked_counts topic.Same (Some (arguments (x ∷ []) budget None None false true)) h = tt
asked_counts topic.Same (Some (arguments (x ∷ []) budget None None false false)) h = compared_counts (number_up_to most_number x) budget
asked_counts topic.Same (Some (arguments (x ∷ y ∷ more) budget limit work log report)) h = tt
asked_counts topic.Diff None h = tt
asked_counts topic.Diff (Some (arguments [] budget limit work log report)) h = tt
asked_counts topic.Diff (Some (arguments (x ∷ []) budget limit (Some work) log report)) h = tt
asked_counts topic.Diff (Some (arguments (x ∷ []) budget limit None true report)) h = tt
asked_counts topic.Diff (Some (arguments (x ∷ []) budget limit None false true)) h = tt
asked_counts topic.Diff (Some (arguments (x ∷ []) budget limit None false false)) h = differing_counts (number_up_to most_number x) budget limit h
asked_counts topic.Diff (Some (arguments (x ∷ y ∷ more) budget limit work log report)) h = tt
asked_counts topic.Blockers None h = tt
asked_counts topic.Blockers (Some (arguments [] budget (Some limit) work log report)) h = tt
asked_counts topic.Blockers (Some (arguments [] budget None (Some work) log report)) h = tt
asked_counts topic.Blockers (Some (arguments [] budget None None true report)) h = tt
asked_counts topic.Blockers (Some (arguments [] budget None None false true)) h = tt
asked_counts topic.Blockers (Some (arguments [] budget None None false false)) h = tt
asked_counts topic.Blockers (Some (arguments (x ∷ more) budget limit work log report)) h = tt
asked_counts topic.Listing None h = tt
asked_counts topic.Listing (Some (arguments [] (Some budget) limit work log report)) h = tt
asked_counts topic.Listing (Some (arguments [] None (Some limit) work log report)) h = tt
asked_counts topic.Listing (Some (arguments [] None None (Some work) log report)) h = tt
asked_counts topic.Listing (Some (arguments [] None None None true report)) h = tt
asked_counts topic.Listing (Some (arguments [] None None None false true)) h = tt
asked_counts topic.Listing (Some (arguments [] None None None false false)) h = tt
asked_counts topic.Listing (Some (arguments (x ∷ more) budget limit work log report)) h = tt
asked_counts topic.Lint None h = tt
asked_counts topic.Lint (Some (arguments [] budget (Some limit) work log report)) h = tt
asked_counts topic.Lint (Some (arguments [] budget None (Some work) log report)) h = tt
asked_counts topic.Lint (Some (arguments [] budget None None true report)) h = tt
asked_counts topic.Lint (Some (arguments [] budget None None false true)) h = tt
asked_counts topic.Lint (Some (arguments [] budget None None false false)) h = tt
asked_counts topic.Lint (Some (arguments (x ∷ more) budget limit work log report)) h = tt
asked_counts topic.Inspect None h = tt
asked_counts topic.Inspect (Some (arguments [] (Some budget) limit work log report)) h = tt
asked_counts topic.Inspect (Some (arguments [] None (Some limit) work log report)) h = tt
asked_counts topic.Inspect (Some (arguments [] None None (Some work) log report)) h = tt
asked_counts topic.Inspect (Some (arguments [] None None None true report)) h = tt
asked_counts topic.Inspect (Some (arguments [] None None None false true)) h = tt
asked_counts topic.Inspect (Some (arguments [] None None None false false)) h = tt
asked_counts topic.Inspect (Some (arguments (x ∷ more) budget limit work log report)) h = tt
asked_counts topic.Trial None h = tt
asked_counts topic.Trial (Some (arguments [] budget limit work log report)) h = tt
asked_counts topic.Trial (Some (arguments (x ∷ []) (Some budget) limit work log report)) h = tt
asked_counts topic.Trial (Some (arguments (x ∷ []) None (Some limit) work log report)) h = tt
asked_counts topic.Trial (Some (arguments (x ∷ []) None None (Some work) log report)) h = tt
asked_counts topic.Trial (Some (arguments (x ∷ []) None None None true report)) h = tt
asked_counts topic.Trial (Some (arguments (x ∷ []) None None None false true)) h = tt
asked_counts topic.Trial (Some (arguments (x ∷ []) None None None false false)) h = tried_counts (number_up_to most_rules x)
asked_counts topic.Trial (Some (arguments (x ∷ y ∷ more) budget limit work log report)) h = tt

alone_counts : (word : List ℕ) (words : List (List ℕ)) → FormCounts (alone word words)
alone_counts word [] = by (is_help word || is_word word (codes "help")) (is_word word (codes "--version") || is_word word (codes "-V"))
  where
    by : (b c : Bool) → FormCounts (cond b (Some (Help topic.Program)) (cond c (Some Version) None))
    by true c = tt
    by false true = tt
    by false false = tt
alone_counts word (next ∷ words) = tt

named_counts : (command : Option Topic) (name : List ℕ) (words : List (List ℕ)) → FormCounts (named command name words)
named_counts None name words = alone_counts name words
named_counts (Some about) name words = by (asks_help words)
  where
    by : (b : Bool) → FormCounts (cond b (Some (Help about)) (asked about (arguments_of words)))
    by true = tt
    by false = asked_counts about (arguments_of words) (words_count (Some (arguments [] None None None false false)) words tt)

form_counts : (words : List (List ℕ)) → FormCounts (form_of words)
form_counts [] = tt
form_counts (name ∷ words) = named_counts (command_named name) name words

pub some_may_be_told : (words : List (List ℕ)) (split : ℕ) (budget : Option ℕ) (limit : ℕ) → form_of words ≡ Some (Diff split budget limit) → 0 < limit
some_may_be_told words split budget limit is = subst (λ (form : Option Form). FormCounts form) is (form_counts words)
