-- Trees of runs: documents in lines, with the lines of children below that of their parent (own).
use Rattle.std.specs.Prelude.{◌≡◌, ℕ, suc, ◌<◌, Bool, true, false, List, [], ◌∷◌, ◌++◌}
use Rattle.css_model.specs.declared.example.RunLine.{RunLine}
use Rattle.css_model.specs.Documents.Document.{Siblings, none}
use Rattle.css_model.specs.Documents.FeatureParts.{FeatureParts}
use Rattle.css_model.specs.Documents.Features.{element_of}
use Rattle.css_model.specs.Documents.RunDocuments.{repeated}

-- runs side by side below one parent: the first one, so many equal elements each with these children, and the
-- later ones
pub data Runs : Type 0 where
  done : Runs
  run : (count : ℕ) (features : FeatureParts) (children later : Runs) → Runs

-- their lines, at this depth and below
abbrev pub lines_of : ℕ → Runs → List RunLine
lines_of depth done = []
lines_of depth (run count f children later) =
    record { depth = depth; count = count; element = f } ∷ (lines_of (suc depth) children ++ lines_of depth later)

-- their elements, in front of others
abbrev pub elements_on : Runs → Siblings → Siblings
elements_on done others = others
elements_on (run count f children later) others = repeated count (element_of f) (elements_on children none) (elements_on later others)

-- whether there is a run
abbrev pub is_run : Runs → Bool
is_run done = false
is_run (run count f children later) = true

-- a tree can be written in lines: each run has an element, and only one element has children
abbrev pub IsWritable : Runs → Type 0
IsWritable done = Unit {0}
IsWritable (run count f children later) = (0 < count) × (is_run children ≡ true → count ≡ 1) × IsWritable children × IsWritable later

-- what holds of the features of each run
abbrev pub AllRuns : (FeatureParts → Type 0) → Runs → Type 0
AllRuns P done = Unit {0}
AllRuns P (run count f children later) = P f × AllRuns P children × AllRuns P later
