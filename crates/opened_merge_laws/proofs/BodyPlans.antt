-- Plans of the bodies of opened blocks.
use Rattle.std.proofs.Common.{◌⊎◌, ℕ, ◌+◌, ◌≤◌, length, List, [], ◌∷◌, ◌++◌, Option, Some, None, inl, inr, arith}
use Rattle.std.specs.List.{AllByRecursion, AllZip}
use Rattle.css_model.specs.declared.sheet.Item.{Item}
use Rattle.css_model.specs.Sheets.ComesFrom.{ComesFrom, pair_count}
use Rattle.css_model.specs.Sheets.Limits.{max_items, max_pairs}
use Rattle.css_model.specs.Sheets.SheetParts.{SheetParts}
use Rattle.css_model.specs.Sheets.Sound.{IsSound}
use Rattle.css_model.specs.Text.Source.{text_at}
use Rattle.media_groups.specs.declared.media.Media.{Media}
use Rattle.media_groups.specs.Laws.{IsBlockOf, OpenedBlocksAreSheets}
use Rattle.media_groups.specs.Opened.{opened_of}
use Rattle.media_groups.specs.Printed.{IsSoundBody}
use Rattle.merge_laws.specs.Merged.{LeadingMakesOf}
use Rattle.merge_laws.specs.Reading.{ReadKeepsTheLimits}
use Rattle.plan_laws.specs.Limit.PairLimit.{PlannedComesFrom}
use Rattle.opened_laws.specs.Again.{IsBodyFrom}
use Rattle.opened_merge_laws.specs.Merged.{PlannedBodiesAreSound}
use Rattle.opened_merge_laws.specs.Plans.{AreBodyPlansWithin, EndsBy, IsBodyPlanWithin, IsPlanWithin}
use Rattle.plan_laws.proofs.ForCallers.{blocked_more, leads_more}
use Rattle.sheet_laws.specs.Reading.{ReadIsSound}
use Rattle.step_laws.specs.Free.{Answered, AreAmong}
use Rattle.step_laws.specs.Leading.{IsDone}

-- ---- while more is answered

pub done_more : (a a' : List Answered) → AreAmong a a' → (source : List ℕ) (items : List Item) → IsDone a source items → IsDone a' source items
done_more a a' more source items done k e n step saves some = blocked_more a a' more items e (done k e n step saves some)

ends_more : (spent : Option ℕ) (a a' : List Answered) → AreAmong a a' → (source : List ℕ) (items : List Item) → EndsBy spent a source items → EndsBy spent a' source items
ends_more None a a' more source items ends = done_more a a' more source items ends
ends_more (Some work) a a' more source items (inl done) = inl (done_more a a' more source items done)
ends_more (Some work) a a' more source items (inr few) = inr few

pub plan_more : (spent : Option ℕ) (a a' : List Answered) → AreAmong a a' → (source : List ℕ) (steps : ℕ) (old new : List Item) → IsPlanWithin spent a source steps old new →
    IsPlanWithin spent a' source steps old new
plan_more spent a a' more source steps old new plan = record {
  leads = leads_more a a' more source steps old new plan.leads;
  ends = ends_more spent a a' more source new plan.ends;
}

pub plans_more : (spent : Option ℕ) (a a' : List Answered) → AreAmong a a' → (source : List ℕ) (media : List Media) (steps : ℕ) (bodies : List SheetParts) →
    AreBodyPlansWithin spent a source media steps bodies → AreBodyPlansWithin spent a' source media steps bodies
plans_more spent a a' more source [] steps [] plans = plans
plans_more spent a a' more source [] steps (body ∷ bodies) plans = absurd plans
plans_more spent a a' more source (m ∷ media) steps [] plans = absurd plans
plans_more spent a a' more source (m ∷ media) steps (body ∷ bodies) (some, others, plan, rest, is) =
    (some, others, plan_more spent a a' more (text_at source m.body) some m.sheet.items body.items plan, plans_more spent a a' more source media others bodies rest, is)

-- ---- where work was spent

-- a plan may end at less where work was spent
ends_spent : (spent : Option ℕ) (answers : List Answered) (source : List ℕ) (items : List Item) → IsDone answers source items → EndsBy spent answers source items
ends_spent None answers source items done = done
ends_spent (Some work) answers source items done = inl done

pub plan_spent : (spent : Option ℕ) (answers : List Answered) (source : List ℕ) (steps : ℕ) (old new : List Item) → IsPlanWithin None answers source steps old new → IsPlanWithin spent answers source steps old new
plan_spent spent answers source steps old new plan = record { leads = plan.leads; ends = ends_spent spent answers source new plan.ends }

pub plans_spent : (spent : Option ℕ) (answers : List Answered) (source : List ℕ) (media : List Media) (steps : ℕ) (bodies : List SheetParts) →
    AreBodyPlansWithin None answers source media steps bodies → AreBodyPlansWithin spent answers source media steps bodies
plans_spent spent answers source [] steps [] plans = plans
plans_spent spent answers source [] steps (body ∷ bodies) plans = absurd plans
plans_spent spent answers source (m ∷ media) steps [] plans = absurd plans
plans_spent spent answers source (m ∷ media) steps (body ∷ bodies) (some, others, plan, rest, is) =
    (some, others, plan_spent spent answers (text_at source m.body) some m.sheet.items body.items plan, plans_spent spent answers source media others bodies rest, is)

-- ---- one after the other

pub plans_on : (spent : Option ℕ) (a : List Answered) (source : List ℕ) (media : List Media) (steps : ℕ) (bodies : List SheetParts) (m : Media) (more : ℕ) (body : SheetParts) →
    AreBodyPlansWithin spent a source media steps bodies → IsBodyPlanWithin spent a source m more body → AreBodyPlansWithin spent a source (media ++ m ∷ []) (steps + more) (bodies ++ body ∷ [])
plans_on spent a source [] steps [] m more body none plan = (more, 0, plan, omega arith, omega arith)
plans_on spent a source [] steps (b ∷ bodies) m more body plans plan = absurd plans
plans_on spent a source (x ∷ media) steps [] m more body plans plan = absurd plans
plans_on spent a source (x ∷ media) steps (b ∷ bodies) m more body (some, others, first, rest, is) plan =
    (some, others + more, first, plans_on spent a source media others bodies m more body rest plan, omega (arith, is))

-- ---- each by itself

-- a plan of this body is at hand
abbrev pub HasPlan : (spent : Option ℕ) → List Answered → List ℕ → Media → SheetParts → Type 0
HasPlan spent answers source m body = (steps : ℕ) × IsBodyPlanWithin spent answers source m steps body

pub plans_each : (spent : Option ℕ) (answers : List Answered) (source : List ℕ) (media : List Media) (steps : ℕ) (bodies : List SheetParts) → AreBodyPlansWithin spent answers source media steps bodies → AllZip (HasPlan spent answers source) media bodies
plans_each spent answers source [] steps [] plans = tt
plans_each spent answers source [] steps (body ∷ bodies) plans = absurd plans
plans_each spent answers source (m ∷ media) steps [] plans = absurd plans
plans_each spent answers source (m ∷ media) steps (body ∷ bodies) (some, others, plan, rest, is) = ((some, plan), plans_each spent answers source media others bodies rest)

pub each_also : (P : Media → Type 0) (R S : Media → SheetParts → Type 0) → ((m : Media) (body : SheetParts) → P m → R m body → S m body) → (media : List Media) (bodies : List SheetParts) →
    AllByRecursion P media → AllZip R media bodies → AllZip S media bodies
each_also P R S each [] [] all zip = tt
each_also P R S each [] (body ∷ bodies) all zip = absurd zip
each_also P R S each (m ∷ media) [] all zip = absurd zip
each_also P R S each (m ∷ media) (body ∷ bodies) all zip = (each m body all.0 zip.0, each_also P R S each media bodies all.1 zip.1)

-- ---- what they lead to

-- what a plan leads to can be read again, also where it ends because work was spent
pub plan_comes_from : LeadingMakesOf → PlannedComesFrom → (spent : Option ℕ) (answers : List Answered) (source : List ℕ) (steps : ℕ) (old new : List Item) →
    IsSound source old → length old ≤ max_items → pair_count old ≤ max_pairs → IsPlanWithin spent answers source steps old new → ComesFrom source old new
plan_comes_from make comes None answers source steps old new sound few few' plan = comes answers source steps old new sound few few' plan.leads plan.ends
plan_comes_from make comes (Some work) answers source steps old new sound few few' plan = which plan.ends
  where
    which : IsDone answers source new ⊎ (pair_count new ≤ max_pairs) → ComesFrom source old new
    which (inl done) = comes answers source steps old new sound few few' plan.leads done
    which (inr room) = let made = make answers source steps old new sound few plan.leads in record { sound = made.sound; follows = made.follows; few_items = made.few_items; few_pairs = room }

module _ (sheets : OpenedBlocksAreSheets) (sound : ReadIsSound) (limits : ReadKeepsTheLimits) where
  -- may be printed
  pub bodies_sound : LeadingMakesOf → PlannedBodiesAreSound
  bodies_sound make spent answers source items steps bodies plans =
      each_also (IsBlockOf source) (HasPlan spent answers source) (IsSoundBody source) one (opened_of items source) bodies (sheets source items) (plans_each spent answers source (opened_of items source) steps bodies plans)
    where
      one : (m : Media) (body : SheetParts) → IsBlockOf source m → HasPlan spent answers source m body → IsSoundBody source m body
      one m body block (some, plan) =
          let text = text_at source m.body in
          record {
            within = block.within;
            sound = (make answers text some m.sheet.items body.items (sound text m.sheet.items block.reads) (limits text m.sheet.items block.reads).1 plan.leads).sound;
          }

  -- and is made of the parts of the bodies
  pub bodies_come_from : LeadingMakesOf → PlannedComesFrom → (spent : Option ℕ) (answers : List Answered) (source : List ℕ) (items : List Item) (steps : ℕ) (bodies : List SheetParts) → AreBodyPlansWithin spent answers source (opened_of items source) steps bodies →
      AllZip (IsBodyFrom source) (opened_of items source) bodies
  bodies_come_from make comes spent answers source items steps bodies plans =
      each_also (IsBlockOf source) (HasPlan spent answers source) (IsBodyFrom source) one (opened_of items source) bodies (sheets source items) (plans_each spent answers source (opened_of items source) steps bodies plans)
    where
      one : (m : Media) (body : SheetParts) → IsBlockOf source m → HasPlan spent answers source m body → IsBodyFrom source m body
      one m body block (some, plan) =
          let text = text_at source m.body in
          let few = limits text m.sheet.items block.reads in
          plan_comes_from make comes spent answers text some m.sheet.items body.items (sound text m.sheet.items block.reads) few.1 few.2 plan
