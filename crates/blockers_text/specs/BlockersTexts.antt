-- The lines on what stops the steps that would still save bytes (own).
use Rattle.std.specs.Prelude.{◌≡◌, ℕ, Bool, List, [], ◌∷◌, ◌++◌, map, Ok, IsPermutation, IsSortedBy}
use Rattle.std.specs.List.{AllByRecursion, flat_map}
use Rattle.std.specs.List.Sorted.{IsStableBy}
use Rattle.blockers_text.specs.Lines.{Ranked, totals_text}
use Rattle.blockers_text.specs.Planned.{IsPlanned, Planned, all_ranked, all_weighed}
use Rattle.css_model.specs.declared.sheet.Item.{Item}
use Rattle.css_model.specs.Cascade.Winner.{exceeds}
use Rattle.css_model.specs.Sheets.Sheet.{sheet_of}
use Rattle.media_groups.specs.Levels.{levels_of}
use Rattle.overlap.specs.PairsParts.{PairsParts}
use Rattle.overlap.specs.Remembered.{IsTrueList}
use Rattle.sheet_order.specs.Laws.{answer_seen}

-- the numbers by which items are ranked, the first that differs deciding
abbrev pub rank : Ranked → List ℕ
rank r = r.bytes ∷ r.steps ∷ []

-- the one whose steps would save more comes first, or else the one with more steps
abbrev pub comes_first : Ranked → Ranked → Bool
comes_first x y = exceeds (rank x) (rank y)

-- these are all of them in that order; those of one rank stay in theirs
pub record AreRanked (all sorted : List Ranked) : Type 0 where
  pub same : IsPermutation all sorted
  pub descend : IsSortedBy comes_first sorted
  pub stable : IsStableBy comes_first all sorted

-- The text tells of the levels of the sheet that the source is read as: the totals of the steps that are stopped, and then the
-- items that stop them, ranked.
pub record IsBlockersText (pairs : PairsParts) (source text : List ℕ) : Type 0 where
  pub items : List Item
  pub read : sheet_of source ≡ Ok items
  pub true_list : ∥ IsTrueList pairs ∥₁
  pub levels : List Planned
  pub are_levels : map (λ p. p.level) levels ≡ levels_of source items
  pub planned : AllByRecursion (IsPlanned (map answer_seen pairs.answers)) levels
  pub sorted : List Ranked
  pub ranked : AreRanked (all_ranked (map answer_seen pairs.answers) source levels) sorted
  pub text_is : text ≡ totals_text (all_weighed (map answer_seen pairs.answers) levels) ++ flat_map (λ r. r.lines) sorted
