-- The levels of a sheet, each planned (own).
use Rattle.std.specs.Prelude.{ℕ, List, map}
use Rattle.std.specs.List.{AllByRecursion, flat_map}
use Rattle.blockers_text.specs.declared.totals.Weighed.{Weighed}
use Rattle.blockers_text.specs.Lines.{Ranked, Seen, ranked_in}
use Rattle.blockers_text.specs.Stopping.{AreSettled, entries_of}
use Rattle.blockers_text.specs.Tallies.{Stopped, stopped_of, weighed}
use Rattle.css_model.specs.declared.sheet.Item.{Item}
use Rattle.media_groups.specs.Levels.{Level}
use Rattle.step_candidates.specs.Saving.{AreSavingSteps}
use Rattle.step_laws.specs.declared.step.Step.{Step}
use Rattle.step_laws.specs.Free.{Answered}
use Rattle.step_laws.specs.Leading.{IsDone, Leads}

-- a level, its items once nothing is left to do, and the steps of these that would save bytes
pub record Planned : Type 0 where
  pub level : Level
  pub items : List Item
  pub steps : List Step

-- By these answers a plan leads from a level to these items, these are the steps that would save bytes, and it is answered what
-- stops each of them.
pub record IsPlanned (answers : List Answered) (p : Planned) : Type 0 where
  pub taken : ℕ
  pub leads : Leads answers p.level.source taken p.level.items p.items
  pub done : IsDone answers p.level.source p.items
  pub saving : AreSavingSteps p.level.source p.items p.steps
  pub settled : AllByRecursion (λ k. AreSettled answers p.items (entries_of p.items k)) p.steps

-- the steps of a level with what stops them
abbrev pub stopped_in : List Answered → Planned → List Stopped
stopped_in answers p = map (stopped_of answers p.level.source p.items) p.steps

-- what they add to the totals of all levels
abbrev pub weighed_in : List Answered → Planned → List Weighed
weighed_in answers p = map weighed (stopped_in answers p)

abbrev pub all_weighed : List Answered → List Planned → List Weighed
all_weighed answers ps = flat_map (weighed_in answers) ps

-- the lines of the items of a level of the sheet with these bytes
abbrev pub seen_of : (text : List ℕ) → Planned → Seen
seen_of text p = record { text = text; start = p.level.start; source = p.level.source; items = p.items }

abbrev pub ranked_of_level : List Answered → (text : List ℕ) → Planned → List Ranked
ranked_of_level answers text p = ranked_in (seen_of text p) (stopped_in answers p)

-- those of all levels
abbrev pub all_ranked : List Answered → (text : List ℕ) → List Planned → List Ranked
all_ranked answers text ps = flat_map (ranked_of_level answers text) ps
