-- The document of a shape (own): around the element in slot 0 that of each next slot is laid, with as many plain
-- elements between, before and behind them as the shape says.
use Rattle.std.specs.Prelude.{ℕ, zero, suc, ◌-◌, Bool, true, false, List, [], ◌∷◌, Option, codes}
use Rattle.css_model.specs.declared.example.Example.{Example}
use Rattle.css_model.specs.declared.selector.Pseudo.{Pseudo}
use Rattle.css_model.specs.Documents.FeatureParts.{FeatureParts}
use Rattle.cascade_laws.specs.Line.Runs.{Runs, done, run, lines_of}
use Rattle.slot_plan.specs.declared.shape.SlotStep.{SlotStep}
use Rattle.slot_plan.specs.declared.shape.SlotStep.TheVariants.{NextTo, Further, UpOne, UpMore}
use Rattle.slot_plan.specs.ShapeParts.{ShapeParts}

-- an element that no slot asks for
abbrev pub plain : FeatureParts
plain = record { kind = codes "x"; attrs = []; flags = 0; text = false }

-- so many of them in front of others: one run, if there are any
abbrev pub plain_runs : ℕ → Runs → Runs
plain_runs zero later = later
plain_runs (suc n) later = run (suc n) plain done later

-- The next slot's element f with all to its right, from the slot before it with all to its right: b siblings stand
-- before that one, b' before f, and a' behind f.
--     NextTo, Further     plain elements stand between f and the slot before
--     UpOne               f is the parent of the slot before and of its siblings
--     UpMore              the parent stands between, as the only child of f
abbrev pub grown : SlotStep → FeatureParts → (b b' a' : ℕ) → Runs → Runs
grown NextTo f b b' a' row = run 1 f done (plain_runs (b - suc b') row)
grown Further f b b' a' row = run 1 f done (plain_runs (b - suc b') row)
grown UpOne f b b' a' row = run 1 f (plain_runs b row) (plain_runs a' done)
grown UpMore f b b' a' row = run 1 f (run 1 plain (plain_runs b row) done) (plain_runs a' done)

-- the last slot's element is the root, or a plain root is laid around it and its siblings
abbrev pub topped : Bool → ℕ → Runs → Runs
topped true b row = row
topped false b row = run 1 plain (plain_runs b row) done

-- the whole tree, from a slot with all to its right, along the steps from it on
abbrev pub tree_from : Bool → List SlotStep → ℕ → List ℕ → List ℕ → List FeatureParts → Runs → Runs
tree_from root [] b before after elements row = topped root b row
tree_from root (s ∷ steps) b (b' ∷ before) (a' ∷ after) (f ∷ elements) row = tree_from root steps b' before after elements (grown s f b b' a' row)
tree_from root (s ∷ steps) b _ _ _ row = topped root b row

-- the tree of a shape, with an element for each slot
abbrev pub tree_with : Bool → List SlotStep → (before after : List ℕ) → List FeatureParts → Runs
tree_with root steps (b ∷ before) (a ∷ after) (f ∷ elements) = tree_from root steps b before after elements (run 1 f done (plain_runs a done))
tree_with root steps _ _ _ = done

abbrev pub tree_of : ShapeParts → List FeatureParts → Runs
tree_of shape elements = tree_with shape.top_is_root shape.steps shape.before shape.after elements

-- The line of slot 0 among those of the tree, from its line among those of a slot with all to its right.
abbrev pub behind_plain : ℕ → ℕ → ℕ
behind_plain zero line = line
behind_plain (suc n) line = suc line

abbrev pub line_from : Bool → List SlotStep → ℕ → List ℕ → ℕ → ℕ
line_from true [] b before line = line
line_from false [] b before line = suc (behind_plain b line)
line_from root (s ∷ steps) b [] line = line
line_from root (NextTo ∷ steps) b (b' ∷ before) line = line_from root steps b' before (suc (behind_plain (b - suc b') line))
line_from root (Further ∷ steps) b (b' ∷ before) line = line_from root steps b' before (suc (behind_plain (b - suc b') line))
line_from root (UpOne ∷ steps) b (b' ∷ before) line = line_from root steps b' before (suc (behind_plain b line))
line_from root (UpMore ∷ steps) b (b' ∷ before) line = line_from root steps b' before (suc (suc (behind_plain b line)))

abbrev pub line_with : Bool → List SlotStep → List ℕ → ℕ
line_with root steps [] = 0
line_with root steps (b ∷ before) = line_from root steps b before 0

abbrev pub marked_line : ShapeParts → ℕ
marked_line shape = line_with shape.top_is_root shape.steps shape.before

-- the example of a shape: the document of its tree, in which the element of slot 0 is marked
abbrev pub example_of : Option Pseudo → ShapeParts → List FeatureParts → Example
example_of pseudo shape elements = record {
  doc = record { root_is_child = shape.root_is_child; lines = lines_of 0 (tree_of shape elements) };
  marked = marked_line shape;
  pseudo = pseudo;
}
