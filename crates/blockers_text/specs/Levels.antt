-- What is told of a level, by what is answered later on (own).
use Rattle.std.specs.Prelude.{◌≡◌, ℕ, List, [], ◌∷◌, ◌++◌, map, length}
use Rattle.std.specs.List.{AllByRecursion, flat_map}
use Rattle.blockers_text.specs.declared.level.ReadLevel.{ReadLevel}
use Rattle.blockers_text.specs.declared.tally.Tally.{Tally}
use Rattle.blockers_text.specs.declared.told.Told.{Told}
use Rattle.blockers_text.specs.declared.totals.Weighed.{Weighed}
use Rattle.blockers_text.specs.BlockersTexts.{AreRanked}
use Rattle.blockers_text.specs.Lines.{Ranked, totals_text}
use Rattle.blockers_text.specs.Planned.{IsPlanned, Planned, all_ranked, all_weighed}
use Rattle.blockers_text.specs.Stopping.{AreSettled, entries_of}
use Rattle.blockers_text.specs.Tallies.{counted_each, stopped_of, tallies_of, weighed}
use Rattle.css_model.specs.declared.sheet.Item.{Item}
use Rattle.media_groups.specs.Levels.{Level, levels_of}
use Rattle.step_laws.specs.declared.step.Step.{Step}
use Rattle.step_laws.specs.Free.{Answered}

-- a level as it was read
abbrev pub level_of : ReadLevel → Level
level_of l = record { block = l.block; start = l.start; source = l.source.now; items = l.sheet.now.items }

-- a step of a sheet is counted
pub record CountsStep (answers : List Answered) (source : List ℕ) (items : List Item) (k : Step) (steps more : List Weighed) (old new : List Tally) : Type 0 where
  pub weighed_is : more ≡ steps ++ weighed (stopped_of answers source items k) ∷ []
  pub tallies_are : new ≡ counted_each old (stopped_of answers source items k).by (stopped_of answers source items k)
  pub settled : AreSettled answers items (entries_of items k)

-- these steps of a sheet are counted
pub record CountsSteps (answers : List Answered) (source : List ℕ) (items : List Item) (ks : List Step) (steps more : List Weighed) (tallies : List Tally) : Type 0 where
  pub weighed_are : more ≡ steps ++ map weighed (map (stopped_of answers source items) ks)
  pub tallies_are : tallies ≡ tallies_of (map (stopped_of answers source items) ks) (length items)
  pub settled : AllByRecursion (λ k. AreSettled answers items (entries_of items k)) ks

-- these levels of the sheet with these bytes are planned; so much was told before them, and so much with them
pub record TellsLevels (answers : List Answered) (text : List ℕ) (levels : List Level) (steps more : List Weighed) (items others : List Ranked) : Type 0 where
  pub planned : List Planned
  pub are_levels : map (λ p. p.level) planned ≡ levels
  pub are_planned : AllByRecursion (IsPlanned answers) planned
  pub weighed_are : more ≡ steps ++ all_weighed answers planned
  pub ranked_are : others ≡ items ++ all_ranked answers text planned

-- they are told after what was told before
abbrev pub Tells : List Answered → (text : List ℕ) → List Level → (old new : Told) → Type 0
Tells answers text levels old new = TellsLevels answers text levels old.weighed.items new.weighed.items old.ranked.items new.ranked.items

-- all levels of a sheet are told
abbrev pub TellsAll : List Answered → (text : List ℕ) → List Item → Told → Type 0
TellsAll answers text items told = TellsLevels answers text (levels_of text items) [] told.weighed.items [] told.ranked.items

-- the text of what is told
pub record IsToldText (told : Told) (text : List ℕ) : Type 0 where
  pub sorted : List Ranked
  pub ranked : AreRanked told.ranked.items sorted
  pub text_is : text ≡ totals_text told.weighed.items ++ flat_map (λ r. r.lines) sorted
