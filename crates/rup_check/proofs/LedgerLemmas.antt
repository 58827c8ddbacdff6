-- A ledger is the steps of a log, and what an answer excludes.
use Rattle.std.proofs.Common.{◌≡◌, ◌⊎◌, ℕ, IsTrue, List, [], ◌∷◌, ◌++◌, append_assoc, refl, sym, subst, inl, inr}
use Rattle.std.proofs.lemmas.Bool.{and_from}
use Rattle.std.proofs.lemmas.List.{append-nil}
use Rattle.cnf.specs.declared.lit.Lit.{Lit}
use Rattle.cnf.specs.Cnf.{Cnf}
use Rattle.cnf.specs.Lits.{are_below}
use Rattle.cnf.specs.Propagation.{EachLogged, IsForced, is_consistent, is_distinct}
use Rattle.rup_check.specs.declared.log.Checked.{Checked}
use Rattle.rup_check.specs.declared.log.Checked.TheVariants.{Yes, No}
use Rattle.rup_check.specs.Checks.{EachForced, IsChecked, IsFault, IsRefutation, IsUnfinished, is_step}
use Rattle.rup_check.specs.Laws.{LedgersAreLogs, LedgersRefute, RefutationsPass}
use Rattle.rup_check.specs.Reading.{are_plain, is_plain}

-- ---- ledgers

logged-plain : (vars : ℕ) (formula ledger : List (List Lit)) → EachLogged vars formula ledger → IsTrue (are_plain vars ledger)
logged-plain vars formula [] h = refl
logged-plain vars formula (c ∷ cs) h =
    let one = h.0 in
    and_from (is_plain vars c) (are_plain vars cs)
    (and_from (is_step vars c) (is_distinct c) (and_from (are_below vars c) (is_consistent c) one.in_range one.consistent) one.distinct)
    (logged-plain vars (formula ++ c ∷ []) cs h.1)

logged-forced : (vars : ℕ) (formula ledger : List (List Lit)) → EachLogged vars formula ledger → EachForced formula ledger
logged-forced vars formula [] h = tt
logged-forced vars formula (c ∷ cs) h = (h.0.forced, logged-forced vars (formula ++ c ∷ []) cs h.1)

pub ledgers_are_logs : LedgersAreLogs
ledgers_are_logs f ledger vars count in_range logged = record { vars_bound = vars; count_bound = count; in_range = in_range; plain = logged-plain f.vars f.clauses ledger logged }

pub ledgers_refute : LedgersRefute
ledgers_refute f ledger logged empty = record { forced = logged-forced f.vars f.clauses ledger logged; empty = empty }

-- ---- answers

-- a step among those that are forced is
forced-at : (formula before after : List (List Lit)) (step : List Lit) → EachForced formula (before ++ step ∷ after) → IsForced (formula ++ before) step
forced-at formula [] after step h = let P : List (List Lit) → Type 0 = λ cs. IsForced cs step in subst P (sym (append-nil formula)) h.0
forced-at formula (b ∷ before) after step h =
    let P : List (List Lit) → Type 0 = λ cs. IsForced cs step in
    subst P (append_assoc formula (b ∷ []) before) (forced-at (formula ++ b ∷ []) before after step h.1)

no_fault : (formula steps : List (List Lit)) (number : ℕ) → IsRefutation formula steps → IsFault formula steps number ⊎ IsUnfinished formula steps number → ⊥
no_fault formula steps number h (inl fault) =
    let P : List (List Lit) → Type 0 = λ cs. EachForced formula cs in
    fault.not_forced (forced-at formula fault.before fault.after fault.step (subst P fault.parts h.forced))
no_fault formula steps number h (inr rest) = rest.not_empty h.empty

pub refutations_pass : RefutationsPass
refutations_pass formula steps Yes h answered = refl
refutations_pass formula steps (No number) h answered = absurd (no_fault formula steps number h answered)
