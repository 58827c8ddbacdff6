-- The answers that are held are true for the budget of the words, and without a budget none is `Spent`.
use Rattle.std.proofs.Common.{◌≡◌, inl, inr, ℕ, List, [], Bool, true, false, Option, Some, None, Result, Ok, Err, refl, sym, ◌∙◌, ap, subst, arith}
use Rattle.std.proofs.Math.Logic.{∥∥₁_elim}
use Rattle.std.specs.Bool.{MatchBool}
use Rattle.std.specs.Prelude.{nat_lt}
use Rattle.std.proofs.lemmas.Grind.{merely}
use Rattle.std.proofs.lemmas.List.Elements.{All-contains}
use Rattle.cnf.specs.Budgets.{no_limit}
use Rattle.cnf.specs.declared.lit.Lit.{Lit}
use Rattle.command_words.specs.Forms.{Form, Min, Style, Dead, Cmp, Check, Why, Same, Diff, Blockers, Listing, Lint, Inspect, Trial, Help, Version, form_of}
use Rattle.compare_text.specs.ComparedTexts.{AsksFor, selector_or_reason}
use Rattle.css_model.specs.declared.fault.SheetFault.{SheetFault}
use Rattle.css_model.specs.declared.sheet.Item.{Item}
use Rattle.css_model.specs.Documents.Matching.{same_pseudo}
use Rattle.css_model.specs.Documents.SelectorParts.{SelectorParts}
use Rattle.css_model.specs.Sheets.Limits.{max_bytes, max_stepped}
use Rattle.css_model.specs.Sheets.Sheet.{sheet_of}
use Rattle.dead_text.specs.DeadTexts.{AsksOf}
use Rattle.line_places.specs.declared.place.Place.{Place}
use Rattle.lint_text.specs.Asking as lint
use Rattle.log_text.specs.CheckedTexts.{max_log_bytes}
use Rattle.overlap.specs.Answers.{IsFewAnswer, IsTrueAnswer, pair_stepped, too_many_stepped}
use Rattle.overlap.specs.Combined.{IsSpentOn}
use Rattle.overlap.specs.declared.answer.Answer.TheVariants.{Apart, Outside, Spent}
use Rattle.overlap.specs.PairsParts.{Answered, PairsParts}
use Rattle.overlap.specs.Remembered.{IsAnswered, IsTrueList}
use Rattle.same_text.specs.SameTexts.{max_both}
use Rattle.why_text.specs.WhyTexts.{Asks}
use Rattle.cssmin_run.specs.Change.{Change}
use Rattle.cssmin_run.specs.Commands.Blockers.{TellsBlockers}
use Rattle.cssmin_run.specs.Commands.Check.{CheckRefuses, Checks}
use Rattle.cssmin_run.specs.Commands.Cmp.{CmpDoes, IsAnswer, IsTextOf, unasked}
use Rattle.cssmin_run.specs.Commands.Dead.{TellsLives}
use Rattle.cssmin_run.specs.Commands.Diff.{TellsDifferences, same_line}
use Rattle.cssmin_run.specs.Commands.Inspect.{TellsGroups}
use Rattle.cssmin_run.specs.Commands.Lint.{TellsFound}
use Rattle.cssmin_run.specs.Commands.Listing.{ListsItems}
use Rattle.cssmin_run.specs.Commands.Min.{MergesBy, MinRefuses}
use Rattle.cssmin_run.specs.Commands.Same.{ComparesSheets, SameRefuses}
use Rattle.cssmin_run.specs.Commands.Style.{StyleRefuses, TellsWinners}
use Rattle.cssmin_run.specs.Commands.Trial.{TrialDoes}
use Rattle.cssmin_run.specs.Commands.Why.{ExplainsMove, WhyRefuses}
use Rattle.cssmin_run.specs.Placed.{in_sheet, in_sheet_part, in_two_sheets, nowhere}
use Rattle.cssmin_run.specs.Run.{Answers, Ran, named_budget}
use Rattle.cssmin_run.specs.Tasks.{Does, Finds, Silent}
use Rattle.cssmin_run.specs.declared.status.Status.{Status}
use Rattle.cssmin_run.specs.declared.status.Status.TheVariants.{Done, Found, Usage, SheetRefused, NoItem, DocRefused, LogRefused, NoSplit, SecondRefused, ReadFault, WriteFault, NoMemory}

-- ---- True answers

-- answers are true, with the budget that was named
record AreTrueFor (budget : Option ℕ) (pairs : PairsParts) : Type 0 where
  same_budget : pairs.budget ≡ (unasked budget).budget
  all_true : ∥ IsTrueList pairs ∥₁

no_answers : (budget : ℕ) → IsTrueList (record { budget = budget; answers = [] })
no_answers budget = record { true_answers = λ k d l. absurd (omega (arith, l)); once = λ i j d l m. absurd (omega (arith, m)) }

unasked_true : (budget : Option ℕ) → AreTrueFor budget (unasked budget)
unasked_true None = record { same_budget = refl; all_true = merely (no_answers no_limit) }
unasked_true (Some budget) = record { same_budget = refl; all_true = merely (no_answers budget) }

-- where a true answer is that the budget was spent, there was one
spent_on : (x y : SelectorParts) (budget : ℕ) (ledger : List (List Lit)) → IsTrueAnswer x y budget (Spent ledger) → IsSpentOn x y budget ledger
spent_on x y budget ledger h = by (same_pseudo x.pseudo y.pseudo) (nat_lt max_stepped (pair_stepped x y)) h
  where
    by : (p q : Bool) → MatchBool p (MatchBool q (Spent ledger ≡ Outside too_many_stepped (pair_stepped x y)) (IsFewAnswer x y budget (Spent ledger))) (Spent ledger ≡ Apart) → IsSpentOn x y budget ledger
    by true true is = absurd (let bad : ⊥ = cc in bad)
    by true false (inl lacking) = absurd (let bad : ⊥ = let is = lacking.1 in cc in bad)
    by true false (inr (have, decided)) = decided.1
    by false q is = absurd (let bad : ⊥ = cc in bad)

unspent : (pairs : PairsParts) (x y : SelectorParts) (ledger : List (List Lit)) → pairs.budget ≡ no_limit → ∥ IsTrueList pairs ∥₁ → IsAnswered pairs.answers x y (Spent ledger) → ⊥
unspent pairs x y ledger none all_true held =
    ∥∥₁_elim all_true (λ a b. absurd a) (λ t.
    (spent_on x y pairs.budget ledger
    (All-contains (λ (a : Answered). IsTrueAnswer a.left a.right pairs.budget a.answer) pairs.answers (record { left = x; right = y; answer = Spent ledger }) t.true_answers held)).limited none)

-- ---- What each command holds

-- these are the answers that are held
same_held : (budget : Option ℕ) (held : Option PairsParts) (p q : PairsParts) → held ≡ Some p → AreTrueFor budget p → held ≡ Some q → AreTrueFor budget q
same_held budget held p q first h second = subst (λ (pairs : PairsParts). AreTrueFor budget pairs) (let same : p ≡ q = cc in same) h

unheld : {X : Type 0} (held : Option PairsParts) (pairs : PairsParts) → held ≡ None → held ≡ Some pairs → X
unheld held pairs none is = absurd (let bad : ⊥ = cc in bad)

of_merges : (work budget : Option ℕ) (asked : Bool) (read text report : List ℕ) (held : Option PairsParts) (pairs : PairsParts) → MergesBy work budget asked read text report held → held ≡ Some pairs → AreTrueFor budget pairs
of_merges None budget asked read text report held pairs m is = same_held budget held m.pairs pairs m.held_is (record { same_budget = m.same_budget; all_true = m.all_true }) is
of_merges (Some work) budget asked read text report held pairs m is = same_held budget held m.pairs pairs m.held_is (record { same_budget = m.same_budget; all_true = m.all_true }) is

of_compared : (log : Bool) (budget : Option ℕ) (left right : Result SelectorParts ℕ) (pairs : PairsParts) (text : List ℕ) → AsksFor left right (unasked budget) pairs → IsTextOf log left right pairs text → AreTrueFor budget pairs
of_compared false budget (Ok x) (Ok y) pairs text asked told = record { same_budget = asked.budget; all_true = told.all_true }
of_compared true budget (Ok x) (Ok y) pairs text asked told = record { same_budget = asked.budget; all_true = told.all_true }
of_compared false budget (Ok x) (Err reason) pairs text asked told = subst (λ (p : PairsParts). AreTrueFor budget p) (sym asked) (unasked_true budget)
of_compared true budget (Ok x) (Err reason) pairs text asked told = subst (λ (p : PairsParts). AreTrueFor budget p) (sym asked) (unasked_true budget)
of_compared false budget (Err reason) right pairs text asked told = subst (λ (p : PairsParts). AreTrueFor budget p) (sym asked) (unasked_true budget)
of_compared true budget (Err reason) right pairs text asked told = subst (λ (p : PairsParts). AreTrueFor budget p) (sym asked) (unasked_true budget)

of_answer : (left right : List ℕ) (budget : Option ℕ) (log : Bool) (held : Option PairsParts) (text : List ℕ) (pairs : PairsParts) → IsAnswer left right budget log held text → held ≡ Some pairs → AreTrueFor budget pairs
of_answer left right budget log held text pairs a is =
    same_held budget held a.pairs pairs a.held_is (of_compared log budget (selector_or_reason left) (selector_or_reason right) a.pairs text a.asked a.compared) is

lives_budget : (read : Result (List Item) SheetFault) (old new : PairsParts) → AsksOf read old new → new.budget ≡ old.budget
lives_budget (Ok items) old new asked = asked.budget
lives_budget (Err fault) old new asked = ap (λ (p : PairsParts). p.budget) asked

of_lives : (budget : Option ℕ) (read text : List ℕ) (held : Option PairsParts) (pairs : PairsParts) → TellsLives budget read text held → held ≡ Some pairs → AreTrueFor budget pairs
of_lives budget read text held pairs h is = same_held budget held h.0 pairs h.1 (record { same_budget = lives_budget (sheet_of read) (unasked budget) h.0 h.2; all_true = h.3 }) is

move_budget : (read : Result (List Item) SheetFault) (from to : ℕ) (old new : PairsParts) → Asks read from to old new → new.budget ≡ old.budget
move_budget (Ok items) from to old new asked = asked.budget
move_budget (Err fault) from to old new asked = asked.budget

found_budget : (read : List ℕ) (sheet : Result (List Item) SheetFault) (old new : PairsParts) → lint.AsksOf read sheet old new → new.budget ≡ old.budget
found_budget read (Ok items) old new asked = asked.budget
found_budget read (Err fault) old new asked = ap (λ (p : PairsParts). p.budget) asked

of_found : (budget : Option ℕ) (read text : List ℕ) (held : Option PairsParts) (pairs : PairsParts) → TellsFound budget read text held → held ≡ Some pairs → AreTrueFor budget pairs
of_found budget read text held pairs h is = same_held budget held h.0 pairs h.1 (record { same_budget = found_budget read (sheet_of read) (unasked budget) h.0 h.2; all_true = h.3.true_list }) is

of_move : (from to : ℕ) (budget : Option ℕ) (read text : List ℕ) (held : Option PairsParts) (pairs : PairsParts) → ExplainsMove from to budget read text held → held ≡ Some pairs → AreTrueFor budget pairs
of_move from to budget read text held pairs h is =
    same_held budget held h.0 pairs h.1 (record { same_budget = move_budget (sheet_of read) from to (unasked budget) h.0 h.2; all_true = h.3.move.all_true }) is

of_sheets : (split : ℕ) (budget : Option ℕ) (read text : List ℕ) (held : Option PairsParts) (pairs : PairsParts) → ComparesSheets split budget read text held → held ≡ Some pairs → AreTrueFor budget pairs
of_sheets split budget read text held pairs h is = same_held budget held h.0 pairs h.1 (record { same_budget = h.2.budget; all_true = h.3.compared.all_true }) is

of_differences : (split : ℕ) (budget : Option ℕ) (limit : ℕ) (read text : List ℕ) (held : Option PairsParts) (pairs : PairsParts) → TellsDifferences split budget limit read text held → held ≡ Some pairs → AreTrueFor budget pairs
of_differences split budget limit read text held pairs h is = same_held budget held h.0 pairs h.1 (record { same_budget = h.2.budget; all_true = h.3.compared.tells.all_true }) is

of_blockers : (budget : Option ℕ) (read text : List ℕ) (held : Option PairsParts) (pairs : PairsParts) → TellsBlockers budget read text held → held ≡ Some pairs → AreTrueFor budget pairs
of_blockers budget read text held pairs h is = same_held budget held h.0 pairs h.1 (record { same_budget = h.2; all_true = h.3.true_list }) is

-- ---- What is held after each status

-- where answers are held, a text was made by them
made : (most : ℕ) (Where : Status → List ℕ → Option Place) (Makes : (read text report : List ℕ) (held : Option PairsParts) → Type 0) (Refuses : Status → List ℕ → Type 0) (status : Status) (input output err : Change) (held : Option PairsParts) (pairs : PairsParts)
    → Does most Where Makes Refuses status input output err held → held ≡ Some pairs → (read : List ℕ) × (text : List ℕ) × (report : List ℕ) × Makes read text report held
made most Where Makes Refuses Done input output err held pairs does is = (does.read, does.text, does.report, does.made)
made most Where Makes Refuses Found input output err held pairs does is = absurd does.0
made most Where Makes Refuses Usage input output err held pairs does is = absurd does.0
made most Where Makes Refuses (SheetRefused fault) input output err held pairs does is = unheld held pairs does.2 is
made most Where Makes Refuses (NoItem fault) input output err held pairs does is = unheld held pairs does.2 is
made most Where Makes Refuses (DocRefused fault) input output err held pairs does is = unheld held pairs does.2 is
made most Where Makes Refuses (LogRefused fault) input output err held pairs does is = unheld held pairs does.2 is
made most Where Makes Refuses (NoSplit fault) input output err held pairs does is = unheld held pairs does.2 is
made most Where Makes Refuses (SecondRefused fault) input output err held pairs does is = unheld held pairs does.2 is
made most Where Makes Refuses ReadFault input output err held pairs does is = unheld held pairs does.1 is
made most Where Makes Refuses WriteFault input output err held pairs does is = (does.read, does.text, does.report, does.made)
made most Where Makes Refuses NoMemory input output err held pairs does is = unheld held pairs does.0 is

-- so it is of a command whose status says whether it found something
finding_made : (nothing : List ℕ) (most : ℕ) (Where : Status → List ℕ → Option Place) (Makes : (read text report : List ℕ) (held : Option PairsParts) → Type 0) (Refuses : Status → List ℕ → Type 0) (status : Status) (input output err : Change) (held : Option PairsParts) (pairs : PairsParts)
    → Finds nothing most Where Makes Refuses status input output err held → held ≡ Some pairs → (read : List ℕ) × (text : List ℕ) × (report : List ℕ) × Makes read text report held
finding_made nothing most Where Makes Refuses Done input output err held pairs finds is = (finds.read, finds.text, finds.report, finds.made.0)
finding_made nothing most Where Makes Refuses Found input output err held pairs finds is = (finds.read, finds.text, finds.report, finds.made.0)
finding_made nothing most Where Makes Refuses Usage input output err held pairs finds is = made most Where Makes Refuses Usage input output err held pairs finds is
finding_made nothing most Where Makes Refuses (SheetRefused fault) input output err held pairs finds is = made most Where Makes Refuses (SheetRefused fault) input output err held pairs finds is
finding_made nothing most Where Makes Refuses (NoItem fault) input output err held pairs finds is = made most Where Makes Refuses (NoItem fault) input output err held pairs finds is
finding_made nothing most Where Makes Refuses (DocRefused fault) input output err held pairs finds is = made most Where Makes Refuses (DocRefused fault) input output err held pairs finds is
finding_made nothing most Where Makes Refuses (LogRefused fault) input output err held pairs finds is = made most Where Makes Refuses (LogRefused fault) input output err held pairs finds is
finding_made nothing most Where Makes Refuses (NoSplit fault) input output err held pairs finds is = made most Where Makes Refuses (NoSplit fault) input output err held pairs finds is
finding_made nothing most Where Makes Refuses (SecondRefused fault) input output err held pairs finds is = made most Where Makes Refuses (SecondRefused fault) input output err held pairs finds is
finding_made nothing most Where Makes Refuses ReadFault input output err held pairs finds is = made most Where Makes Refuses ReadFault input output err held pairs finds is
finding_made nothing most Where Makes Refuses WriteFault input output err held pairs finds is = made most Where Makes Refuses WriteFault input output err held pairs finds is
finding_made nothing most Where Makes Refuses NoMemory input output err held pairs finds is = made most Where Makes Refuses NoMemory input output err held pairs finds is

cmp_held : (left right : List ℕ) (budget : Option ℕ) (log : Bool) (status : Status) (output err : Change) (held : Option PairsParts) (pairs : PairsParts) → CmpDoes left right budget log status output err held → held ≡ Some pairs → AreTrueFor budget pairs
cmp_held left right budget log Done output err held pairs does is = of_answer left right budget log held does.0 pairs does.1 is
cmp_held left right budget log Found output err held pairs does is = absurd does
cmp_held left right budget log Usage output err held pairs does is = absurd does
cmp_held left right budget log (SheetRefused fault) output err held pairs does is = absurd does
cmp_held left right budget log (NoItem fault) output err held pairs does is = absurd does
cmp_held left right budget log (DocRefused fault) output err held pairs does is = absurd does
cmp_held left right budget log (LogRefused fault) output err held pairs does is = absurd does
cmp_held left right budget log (NoSplit fault) output err held pairs does is = absurd does
cmp_held left right budget log (SecondRefused fault) output err held pairs does is = absurd does
cmp_held left right budget log ReadFault output err held pairs does is = absurd does
cmp_held left right budget log WriteFault output err held pairs does is = of_answer left right budget log held does.0 pairs does.1 is
cmp_held left right budget log NoMemory output err held pairs does is = unheld held pairs does.0 is

trial_held : (rules : ℕ) (status : Status) (output err : Change) (held : Option PairsParts) (pairs : PairsParts) → TrialDoes rules status output err held → held ≡ Some pairs → AreTrueFor None pairs
trial_held rules Done output err held pairs does is = let m = does.1.merges in same_held None held m.pairs pairs m.held_is (record { same_budget = m.same_budget; all_true = m.all_true }) is
trial_held rules Found output err held pairs does is = absurd does
trial_held rules Usage output err held pairs does is = absurd does
trial_held rules (SheetRefused fault) output err held pairs does is = absurd does
trial_held rules (NoItem fault) output err held pairs does is = absurd does
trial_held rules (DocRefused fault) output err held pairs does is = absurd does
trial_held rules (LogRefused fault) output err held pairs does is = absurd does
trial_held rules (NoSplit fault) output err held pairs does is = absurd does
trial_held rules (SecondRefused fault) output err held pairs does is = absurd does
trial_held rules ReadFault output err held pairs does is = absurd does
trial_held rules WriteFault output err held pairs does is = let m = does.1.merges in same_held None held m.pairs pairs m.held_is (record { same_budget = m.same_budget; all_true = m.all_true }) is
trial_held rules NoMemory output err held pairs does is = unheld held pairs does.0 is

held_by : (form : Option Form) (status : Status) (input output err : Change) (held : Option PairsParts) (pairs : PairsParts) → Answers form status input output err held → held ≡ Some pairs → AreTrueFor (named_budget form) pairs
held_by None status input output err held pairs h is = unheld held pairs h.1 is
held_by (Some (Min budget work asked)) status input output err held pairs h is =
    let m = made max_bytes nowhere (MergesBy work budget asked) MinRefuses status input output err held pairs h is in of_merges work budget asked m.0 m.1 m.2 held pairs m.3 is
held_by (Some (Dead budget)) status input output err held pairs h is =
    let m = made max_bytes nowhere (Silent (TellsLives budget)) MinRefuses status input output err held pairs h is in of_lives budget m.0 m.1 held pairs m.3.0 is
held_by (Some Style) status input output err held pairs h is = let m = made max_bytes nowhere (Silent TellsWinners) StyleRefuses status input output err held pairs h is in unheld held pairs m.3.0.1 is
held_by (Some (Cmp left right budget log)) status input output err held pairs h is = cmp_held left right budget log status output err held pairs h is
held_by (Some Check) status input output err held pairs h is = let m = made max_log_bytes nowhere (Silent Checks) CheckRefuses status input output err held pairs h is in unheld held pairs m.3.0.1 is
held_by (Some (Why from to budget)) status input output err held pairs h is =
    let m = made max_bytes nowhere (Silent (ExplainsMove from to budget)) (WhyRefuses from to) status input output err held pairs h is in of_move from to budget m.0 m.1 held pairs m.3.0 is
held_by (Some (Same split budget)) status input output err held pairs h is =
    let m = made max_both nowhere (Silent (ComparesSheets split budget)) (SameRefuses split) status input output err held pairs h is in of_sheets split budget m.0 m.1 held pairs m.3.0 is
held_by (Some (Diff split budget limit)) status input output err held pairs h is =
    let m = finding_made same_line max_both (in_two_sheets split) (Silent (TellsDifferences split budget limit)) (SameRefuses split) status input output err held pairs h is in of_differences split budget limit m.0 m.1 held pairs m.3.0 is
held_by (Some (Blockers budget)) status input output err held pairs h is =
    let m = made max_bytes in_sheet (Silent (TellsBlockers budget)) MinRefuses status input output err held pairs h is in of_blockers budget m.0 m.1 held pairs m.3.0 is
held_by (Some Listing) status input output err held pairs h is = let m = made max_bytes in_sheet (Silent ListsItems) MinRefuses status input output err held pairs h is in unheld held pairs m.3.0.1 is
held_by (Some (Lint budget)) status input output err held pairs h is =
    let m = finding_made [] max_bytes in_sheet (Silent (TellsFound budget)) MinRefuses status input output err held pairs h is in of_found budget m.0 m.1 held pairs m.3.0 is
held_by (Some Inspect) status input output err held pairs h is = let m = made max_bytes in_sheet_part (Silent TellsGroups) StyleRefuses status input output err held pairs h is in unheld held pairs m.3.0.1 is
held_by (Some (Trial rules)) status input output err held pairs h is = trial_held rules status output err held pairs h is
held_by (Some (Help about)) status input output err held pairs h is = unheld held pairs h.1 is
held_by (Some Version) status input output err held pairs h is = unheld held pairs h.1 is

-- ---- The laws

pub held_true : (words : List (List ℕ)) (status : Status) (input output err : Change) (held : Option PairsParts) (pairs : PairsParts) → Ran words status input output err held
    → held ≡ Some pairs → (pairs.budget ≡ (unasked (named_budget (form_of words))).budget) × ∥ IsTrueList pairs ∥₁
held_true words status input output err held pairs ran is = let h = held_by (form_of words) status input output err held pairs ran.answers is in (h.same_budget, h.all_true)

pub none_spent : (words : List (List ℕ)) (status : Status) (input output err : Change) (held : Option PairsParts) (pairs : PairsParts) (x y : SelectorParts) (ledger : List (List Lit)) → Ran words status input output err held
    → named_budget (form_of words) ≡ None → held ≡ Some pairs → IsAnswered pairs.answers x y (Spent ledger) → ⊥
none_spent words status input output err held pairs x y ledger ran none is spent =
    let h = held_by (form_of words) status input output err held pairs ran.answers is in
    unspent pairs x y ledger (h.same_budget ∙ ap (λ (budget : Option ℕ). (unasked budget).budget) none) h.all_true spent
