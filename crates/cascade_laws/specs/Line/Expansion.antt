-- What the lines of a tree of runs stand for, and which rules they keep.
use Rattle.std.specs.Prelude.{◌≡◌, ℕ, suc, ◌<◌, ◌≤◌, Bool, List, [], ◌∷◌, ◌++◌, length}
use Rattle.css_model.specs.declared.example.RunLine.{RunLine}
use Rattle.css_model.specs.Documents.Document.{none}
use Rattle.css_model.specs.Documents.FeatureParts.{FeatureParts}
use Rattle.css_model.specs.Documents.Features.{element_of}
use Rattle.css_model.specs.Documents.RunDocuments.{AreLines, behind, document_of, path_below, siblings_of}
use Rattle.cascade_laws.specs.Line.Runs.{Runs, done, run, lines_of, elements_on, IsWritable}

-- the lines that follow go no deeper at first: they end all that is deeper
abbrev pub EndsDeeper : ℕ → List RunLine → Type 0
EndsDeeper depth [] = Unit {0}
EndsDeeper depth (l ∷ lines) = l.depth ≤ depth

-- The lines of a tree, in front of others, stand for its elements in front of theirs; and those of one run at
-- depth 0 for a document with its element as the root.
abbrev pub TreesStandForElements : Type 0
TreesStandForElements =
    ((depth : ℕ) (t : Runs) (more : List RunLine) → EndsDeeper depth more →
    siblings_of (lines_of depth t ++ more) depth ≡ elements_on t (siblings_of more depth))
    × ((root_is_child : Bool) (f : FeatureParts) (children : Runs) →
    document_of root_is_child (lines_of 0 (run 1 f children done))
    ≡ record { root = element_of f; children = elements_on children none; root_is_child = root_is_child })

-- The path to a line among a run's children goes first to the run; and the path to a line of later runs passes
-- the elements of a run that has no children.
abbrev pub PathsLeadIntoTrees : Type 0
PathsLeadIntoTrees =
    ((depth count n : ℕ) (f : FeatureParts) (children later : Runs) (more : List RunLine) → n < length (lines_of (suc depth) children) →
    path_below (lines_of depth (run count f children later) ++ more) depth (suc n)
    ≡ 0 ∷ path_below (lines_of (suc depth) children ++ (lines_of depth later ++ more)) (suc depth) n)
    × ((depth count n : ℕ) (f : FeatureParts) (later : Runs) (more : List RunLine) → n < length (lines_of depth later) →
    path_below (lines_of depth (run count f done later) ++ more) depth (suc n) ≡ behind count (path_below (lines_of depth later ++ more) depth n))

-- the lines of one run at depth 0 are those of a document where its children can be written
abbrev pub TreesKeepTheRules : Type 0
TreesKeepTheRules = (f : FeatureParts) (children : Runs) → IsWritable children → AreLines (lines_of 0 (run 1 f children done))
