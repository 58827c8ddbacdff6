-- What is said of a plan that ended.
use Rattle.std.proofs.Common.{◌≡◌, ◌+◌, ◌≤◌, ℕ, Bool, true, false, List, Option, Some, None, inl, inr, refl, sym, subst, arith}
use Rattle.css_model.specs.declared.sheet.Item.{Item}
use Rattle.planner.specs.declared.merging.Merged.{Merged}
use Rattle.planner.specs.Working.{HasEnded, IsWithin, MayEnd, MayGoOn, spent_of}
use Rattle.plan_laws.proofs.ForCallers.{leads_more}
use Rattle.step_laws.specs.Free.{Answered, AreAmong}
use Rattle.step_laws.specs.Leading.{IsDone, Leads}

-- it ended where nothing is left to do
pub ended_done : (work : Option ℕ) (answers : List Answered) (source : List ℕ) (taken : ℕ) (items : List Item) → IsDone answers source items → HasEnded (spent_of work false) answers source taken items
ended_done None answers source taken items done = done
ended_done (Some work) answers source taken items done = done

-- or by its bound
pub ended_spent : (work : Option ℕ) (answers : List Answered) (source : List ℕ) (taken : ℕ) (items : List Item) → MayEnd work answers taken items → HasEnded (spent_of work true) answers source taken items
ended_spent None answers source taken items spent = absurd spent
ended_spent (Some work) answers source taken items spent = spent

-- no more steps than the bound says are within it
pub within_run : (work : Option ℕ) (answers : List Answered) (source : List ℕ) (taken : ℕ) (start : List Item) → ((n : ℕ) → work ≡ Some n → taken ≤ n) → IsWithin work answers source taken start
within_run None answers source taken start few = tt
within_run (Some work) answers source taken start few = inl (few work refl)

-- one step more is, if the plan may go on
pub within_on : (work : Option ℕ) (answers : List Answered) (source : List ℕ) (taken : ℕ) (start items : List Item) → MayGoOn work taken items → Leads answers source taken start items → IsWithin work answers source (taken + 1) start
within_on None answers source taken start items on leads = tt
within_on (Some work) answers source taken start items (inl less) leads = inl (omega (arith, less))
within_on (Some work) answers source taken start items (inr many) leads = inr (taken, omega arith, items, leads, many)

-- so it stays by more answers
pub within_more : (work : Option ℕ) (a a' : List Answered) → AreAmong a a' → (source : List ℕ) (taken : ℕ) (start : List Item) → IsWithin work a source taken start → IsWithin work a' source taken start
within_more None a a' among source taken start within = tt
within_more (Some work) a a' among source taken start (inl few) = inl few
within_more (Some work) a a' among source taken start (inr past) = inr (past.0, past.1, past.2, leads_more a a' among source past.0 start past.2 past.3, past.4)

module _ (m : Merged) (taken : ℕ) (spent : Bool) (items : List Item) (items_are : m.sheet.items ≡ items) (taken_is : m.taken ≡ taken) (spent_is : m.spent ≡ spent) where
  -- the steps lead to what is handed out
  pub leads_there : (a a' : List Answered) → AreAmong a a' → (source : List ℕ) (start : List Item) → Leads a source taken start items → Leads a' source m.taken start m.sheet.items
  leads_there a a' among source start leads =
      subst (λ (n : ℕ). Leads a' source n start m.sheet.items) (sym taken_is)
      (subst (Leads a' source taken start) (sym items_are) (leads_more a a' among source taken start items leads))

  -- and it ended there
  pub ended_there : (work : Option ℕ) (answers : List Answered) (source : List ℕ) → HasEnded (spent_of work spent) answers source taken items → HasEnded (spent_of work m.spent) answers source m.taken m.sheet.items
  ended_there work answers source ended =
      subst (λ (b : Bool). HasEnded (spent_of work b) answers source m.taken m.sheet.items) (sym spent_is)
      (subst (λ (n : ℕ). HasEnded (spent_of work spent) answers source n m.sheet.items) (sym taken_is)
      (subst (HasEnded (spent_of work spent) answers source taken) (sym items_are) ended))

  -- and they are within the bound
  pub within_there : (work : Option ℕ) (a a' : List Answered) → AreAmong a a' → (source : List ℕ) (start : List Item) → IsWithin work a source taken start → IsWithin work a' source m.taken start
  within_there work a a' among source start within = subst (λ (n : ℕ). IsWithin work a' source n start) (sym taken_is) (within_more work a a' among source taken start within)
