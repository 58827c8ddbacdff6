-- The lines of the document of a shape, in their order: those in front of slot 0, from the last slot on, its own, and
-- those behind it.
use Rattle.std.specs.Prelude.{ℕ, zero, suc, ◌+◌, ◌-◌, ◌<◌, Bool, true, false, if◌then◌else◌, List, [], ◌∷◌, ◌++◌}
use Rattle.css_model.specs.declared.example.RunLine.{RunLine}
use Rattle.css_model.specs.Documents.FeatureParts.{FeatureParts}
use Rattle.shape_laws.specs.Document.Trees.{plain}
use Rattle.slot_plan.specs.declared.shape.SlotStep.{SlotStep}
use Rattle.slot_plan.specs.declared.shape.SlotStep.TheVariants.{NextTo, Further, UpOne, UpMore}

-- a line of one element
abbrev pub line : ℕ → FeatureParts → RunLine
line depth f = record { depth = depth; count = 1; element = f }

-- a line of so many plain elements, if there are any
abbrev pub plain_line : ℕ → ℕ → List RunLine
plain_line depth zero = []
plain_line depth (suc n) = record { depth = depth; count = suc n; element = plain } ∷ []

-- how many levels a step leads up
abbrev pub rise : SlotStep → ℕ
rise NextTo = 0
rise Further = 0
rise UpOne = 1
rise UpMore = 2

-- and how many several do
abbrev pub height : List SlotStep → ℕ
height [] = 0
height (s ∷ steps) = rise s + height steps

-- the depth of the last slot: that of the root, or one more
abbrev pub top_depth : Bool → ℕ
top_depth root = if root then 0 else 1

-- the depth of a slot, by the steps from it on
abbrev pub depth_from : Bool → List SlotStep → ℕ
depth_from root steps = height steps + top_depth root

-- the lines between those of two slots, the second of which has this depth
abbrev pub lines_between : SlotStep → (depth b b' : ℕ) → List RunLine
lines_between NextTo depth b b' = plain_line depth (b - (b' + 1))
lines_between Further depth b b' = plain_line depth (b - (b' + 1))
lines_between UpOne depth b b' = plain_line (depth + 1) b
lines_between UpMore depth b b' = line (depth + 1) plain ∷ plain_line (depth + 2) b

-- the lines in front of those of the last slot and its siblings: a plain root, if the slot is not the root itself
abbrev pub top_lines : Bool → ℕ → List RunLine
top_lines true b = []
top_lines false b = line 0 plain ∷ plain_line 1 b

-- the lines in front of that of a slot, before which stand b siblings
abbrev pub front_lines : Bool → List SlotStep → ℕ → List ℕ → List FeatureParts → List RunLine
front_lines root [] b before elements = top_lines root b
front_lines root (s ∷ steps) b (b' ∷ before) (f ∷ elements) =
    front_lines root steps b' before elements ++ (line (depth_from root steps) f ∷ lines_between s (depth_from root steps) b b')
front_lines root (s ∷ steps) b _ _ = []

-- those of the siblings behind a slot that is an ancestor
abbrev pub lines_behind : SlotStep → (depth a : ℕ) → List RunLine
lines_behind NextTo depth a = []
lines_behind Further depth a = []
lines_behind UpOne depth a = plain_line depth a
lines_behind UpMore depth a = plain_line depth a

-- the lines behind a slot of this depth, what stands in it and its siblings
abbrev pub back_lines : ℕ → List SlotStep → List ℕ → List RunLine
back_lines depth [] after = []
back_lines depth (s ∷ steps) [] = []
back_lines depth (s ∷ steps) (a ∷ after) = lines_behind s (depth - rise s) a ++ back_lines (depth - rise s) steps after

-- fewer siblings stand before each slot than before one to its right
abbrev pub Falls : SlotStep → ℕ → ℕ → Type 0
Falls NextTo b b' = b' < b
Falls Further b b' = b' < b
Falls UpOne b b' = Unit {0}
Falls UpMore b b' = Unit {0}

abbrev pub AllFall : List SlotStep → ℕ → List ℕ → Type 0
AllFall [] b before = Unit {0}
AllFall (s ∷ steps) b [] = ⊥
AllFall (s ∷ steps) b (b' ∷ before) = Falls s b b' × AllFall steps b' before
