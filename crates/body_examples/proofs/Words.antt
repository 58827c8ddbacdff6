-- What words of a command line ask for, and the numbers of statuses.
use Rattle.std.proofs.Common.{◌≡◌, ℕ, [], ◌∷◌, Some, None, true, false, refl}
use Rattle.std.specs.Fmt.{digits}
use Rattle.std.specs.Prelude.{codes}
use Rattle.command_words.specs.declared.command.Topic.TheVariants as topic
use Rattle.command_words.specs.Forms.{Blockers, Check, Cmp, Diff, Help, Lint, Listing, Min, Same, Trial, Why, command_named, form_of, number_up_to}
use Rattle.cssmin_run.specs.Commands.Diff.{same_line}
use Rattle.cssmin_run.specs.declared.status.Status.TheVariants.{Done, Found, NoItem, NoMemory, ReadFault, Usage, WriteFault}
use Rattle.cssmin_run.specs.Status.{number_of}
use Rattle.cssmin_run.specs.Tasks.{says_more, with_found}

-- ---- Words

min_alone_minifies : form_of (codes "min" ∷ []) ≡ Some (Min None None false)
unfolding command_named number_up_to
min_alone_minifies = refl

-- but not with one word more
more_words_have_no_form : form_of (codes "min" ∷ codes "a.css" ∷ []) ≡ None
unfolding command_named number_up_to
more_words_have_no_form = refl

report_is_asked_for : form_of (codes "min" ∷ codes "--report" ∷ codes "--budget" ∷ codes "7" ∷ []) ≡ Some (Min (Some 7) None true)
unfolding command_named digits number_up_to
report_is_asked_for = refl

work_is_bounded : form_of (codes "min" ∷ codes "--work=4294967295" ∷ []) ≡ Some (Min None (Some 4294967295) false)
unfolding command_named digits number_up_to
work_is_bounded = refl

-- one more is no number of it
more_work_has_no_form : form_of (codes "min" ∷ codes "--work=4294967296" ∷ []) ≡ None
unfolding command_named digits number_up_to
more_work_has_no_form = refl

-- both selectors, the left one first
both_selectors_are_taken : form_of (codes "cmp" ∷ codes "a" ∷ codes "b" ∷ []) ≡ Some (Cmp (codes "a") (codes "b") None false)
unfolding command_named number_up_to
both_selectors_are_taken = refl

both_numbers_are_taken : form_of (codes "why" ∷ codes "3" ∷ codes "1" ∷ []) ≡ Some (Why 3 1 None)
unfolding command_named digits number_up_to
both_numbers_are_taken = refl

greatest_budget_is_one : form_of (codes "same" ∷ codes "12" ∷ codes "--budget=20000" ∷ []) ≡ Some (Same 12 (Some 20000))
unfolding command_named digits number_up_to
greatest_budget_is_one = refl

above_it_is_none : form_of (codes "same" ∷ codes "12" ∷ codes "--budget=20001" ∷ []) ≡ None
unfolding command_named digits number_up_to
above_it_is_none = refl

check_has_no_budget : form_of (codes "check" ∷ codes "--budget" ∷ codes "1" ∷ []) ≡ None
unfolding command_named digits number_up_to
check_has_no_budget = refl

check_alone_checks : form_of (codes "check" ∷ []) ≡ Some Check
unfolding command_named number_up_to
check_alone_checks = refl

list_alone_lists : form_of (codes "list" ∷ []) ≡ Some Listing
unfolding command_named number_up_to
list_alone_lists = refl

lint_has_its_budget : form_of (codes "lint" ∷ codes "--budget" ∷ codes "7" ∷ []) ≡ Some (Lint (Some 7))
unfolding command_named digits number_up_to
lint_has_its_budget = refl

-- a comparison that names no limit tells the usual number of couples
limit_is_the_usual_one : form_of (codes "diff" ∷ codes "12" ∷ []) ≡ Some (Diff 12 None 20)
unfolding command_named digits number_up_to
limit_is_the_usual_one = refl

limit_is_the_named_one : form_of (codes "diff" ∷ codes "--limit=10000" ∷ codes "12" ∷ codes "--budget" ∷ codes "7" ∷ []) ≡ Some (Diff 12 (Some 7) 10000)
unfolding command_named digits number_up_to
limit_is_the_named_one = refl

limit_of_none_is_none : form_of (codes "diff" ∷ codes "12" ∷ codes "--limit" ∷ codes "0" ∷ []) ≡ None
unfolding command_named digits number_up_to
limit_of_none_is_none = refl

min_has_no_limit : form_of (codes "min" ∷ codes "--limit" ∷ codes "7" ∷ []) ≡ None
unfolding command_named digits number_up_to
min_has_no_limit = refl

blockers_have_their_budget : form_of (codes "blockers" ∷ codes "--budget=7" ∷ []) ≡ Some (Blockers (Some 7))
unfolding command_named digits number_up_to
blockers_have_their_budget = refl

help_is_of_the_command : form_of (codes "trial" ∷ codes "-h" ∷ []) ≡ Some (Help topic.Trial)
unfolding command_named number_up_to
help_is_of_the_command = refl

trial_has_its_rules : form_of (codes "trial" ∷ codes "10" ∷ []) ≡ Some (Trial 10)
unfolding command_named digits number_up_to
trial_has_its_rules = refl

-- ---- Numbers of statuses

done_ends_with_0 : number_of Done ≡ 0
done_ends_with_0 = refl

found_ends_with_1 : number_of Found ≡ 1
found_ends_with_1 = refl

usage_ends_with_2 : number_of Usage ≡ 2
usage_ends_with_2 = refl

read_fault_ends_with_4 : number_of ReadFault ≡ 4
read_fault_ends_with_4 = refl

write_fault_ends_with_5 : number_of WriteFault ≡ 5
write_fault_ends_with_5 = refl

no_memory_ends_with_6 : number_of NoMemory ≡ 6
no_memory_ends_with_6 = refl

no_item_ends_with_7 : (number : ℕ) → number_of (NoItem number) ≡ 7
no_item_ends_with_7 number = refl

-- ---- Where something was found

no_text_finds_nothing : with_found (says_more [] []) Done ≡ Done
no_text_finds_nothing = refl

text_is_found : with_found (says_more [] (codes "a\n")) Done ≡ Found
text_is_found = refl

same_finds_nothing : with_found (says_more same_line (codes "same\n")) Done ≡ Done
same_finds_nothing = refl

other_text_is_found : with_found (says_more same_line (codes "same")) Done ≡ Found
other_text_is_found = refl

failed_write_stays_one : with_found true WriteFault ≡ WriteFault
failed_write_stays_one = refl
