-- What the line of an answer says.
use Rattle.std.proofs.Common.{◌≡◌, ◌∙◌, ◌≤◌, ℕ, List, ◌∷◌, length, refl, sym, ap, subst, arith}
use Rattle.cnf.specs.Cnf.{Cnf, Satisfies}
use Rattle.cnf.specs.declared.lit.Lit.{Lit}
use Rattle.rup_check.specs.Checks.{IsChecked, IsRefutation, RefutationsRefute}
use Rattle.rup_check.specs.Laws.{LogsHaveNoFault, RefutationsPass, TextsAreOfOneLog}
use Rattle.rup_check.specs.Reading.{IsLogText}
use Rattle.rup_check.specs.declared.log.Checked.{Checked}
use Rattle.rup_check.specs.declared.log.Checked.TheVariants.{Yes, No}
use Rattle.log_text.specs.declared.error.CheckError.{CheckError}
use Rattle.log_text.specs.declared.error.CheckError.TheVariants.{TooLong, BadLine, NoMemory}
use Rattle.log_text.specs.CheckedTexts.{IsCheckedText, Refuses, checked_text, max_log_bytes, yes_text}
use Rattle.log_text.specs.Laws.{RefutingLogsPass, YesRefutes}

first : {a b : ℕ} {xs ys : List ℕ} → a ∷ xs ≡ b ∷ ys → a ≡ b
first e = cc

-- the line of yes is that of no other answer
yes_of : (checked : Checked) → yes_text ≡ checked_text checked → checked ≡ Yes
yes_of Yes e = refl
yes_of (No number) e = absurd (let h = first e in omega (arith, h))

pub yes_refutes : RefutationsRefute → TextsAreOfOneLog → YesRefutes
yes_refutes refute one text f steps is_log is values satisfied =
    let log = one text is.formula f is.steps steps is.is_log is_log in
    let C : Checked → Type 0 = λ checked. IsChecked is.formula.clauses is.steps checked in
    let refutation : IsRefutation is.formula.clauses is.steps = subst C (yes_of is.checked is.answer_is) is.is_checked in
    let S : Cnf → Type 0 = λ g. Satisfies values g in
    refute is.formula is.steps refutation values (subst S (sym log.0) satisfied)

passes : RefutationsPass → TextsAreOfOneLog → (text : List ℕ) (f : Cnf) (steps : List (List Lit)) → IsLogText text f steps → IsRefutation f.clauses steps → (answer : List ℕ) → IsCheckedText text answer →
    answer ≡ yes_text
passes pass one text f steps is_log refutation answer is =
    let log = one text f is.formula steps is.steps is_log is.is_log in
    let F : Cnf → Type 0 = λ g. IsRefutation g.clauses steps in
    let S : List (List Lit) → Type 0 = λ cs. IsRefutation is.formula.clauses cs in
    is.answer_is ∙ ap checked_text (pass is.formula.clauses is.steps is.checked (subst S log.1 (subst F log.0 refutation)) is.is_checked)

not_refused : LogsHaveNoFault → (text : List ℕ) (f : Cnf) (steps : List (List Lit)) → IsLogText text f steps → length text ≤ max_log_bytes → (error : CheckError) → Refuses text error → error ≡ NoMemory
not_refused sound text f steps is_log short TooLong long = absurd (omega arith)
not_refused sound text f steps is_log short (BadLine number) bad = absurd (sound text f steps number is_log bad.1)
not_refused sound text f steps is_log short NoMemory h = refl

pub refuting_logs_pass : RefutationsPass → TextsAreOfOneLog → LogsHaveNoFault → RefutingLogsPass
refuting_logs_pass pass one sound text f steps is_log refutation short = record {
  only_yes = passes pass one text f steps is_log refutation;
  not_refused = not_refused sound text f steps is_log short;
}
