-- The documents that are tried for two selectors of one compound each (own). All of this takes the simple
-- selectors of both compounds together.
use Rattle.std.specs.Prelude.{◌≡◌, ◌⊎◌, ℕ, zero, suc, Bool, true, false, List, [], ◌∷◌, ◌++◌, length, Option}
use Rattle.std.specs.List.{All}
use Rattle.css_model.specs.declared.example.Example.{Example}
use Rattle.css_model.specs.declared.example.RunLine.{RunLine}
use Rattle.css_model.specs.declared.selector.Pseudo.{Pseudo}
use Rattle.css_model.specs.declared.selector.Simple.{Simple}
use Rattle.css_model.specs.Documents.FeatureParts.{FeatureParts}
use Rattle.compound_fit.specs.Fitting.{AreFeatures}
use Rattle.shape_laws.specs.Document.SlotElements.{asks_for_content}
use Rattle.shape_laws.specs.Document.Trees.{plain}
use Rattle.slot_plan.specs.Positions.{PositionFits}
use Rattle.sibling_counts.specs.Places.{AreLeast, NoChildPasses}

-- the features of the marked element: with text exactly where `:not(:empty)` is asked for
abbrev pub with_text : FeatureParts → List Simple → FeatureParts
with_text f simples = record { kind = f.kind; attrs = f.attrs; flags = f.flags; text = asks_for_content simples }

-- a line for so many plain children of the root, if there are any
abbrev pub plain_lines : ℕ → List RunLine
plain_lines zero = []
plain_lines (suc n) = record { depth = 1; count = suc n; element = plain } ∷ []

-- a plain root, and as a child of it the marked element with so many plain siblings before it and behind it
abbrev pub child_example : (before behind : ℕ) → FeatureParts → Option Pseudo → Example
child_example before behind f pseudo = record {
  doc = record {
    root_is_child = false;
    lines = record { depth = 0; count = 1; element = plain } ∷ (plain_lines before ++ (record { depth = 1; count = 1; element = f } ∷ plain_lines behind));
  };
  marked = suc (length (plain_lines before));
  pseudo = pseudo;
}

-- the marked element as the root, alone
abbrev pub root_example : (root_is_child : Bool) → FeatureParts → Option Pseudo → Example
root_example root_is_child f pseudo = record {
  doc = record { root_is_child = root_is_child; lines = record { depth = 0; count = 1; element = f } ∷ [] };
  marked = 0;
  pseudo = pseudo;
}

-- the root passes, as far as its position is asked for (Selectors 3, sections 6.6.1 and 6.6.5)
abbrev pub RootPasses : (root_is_child : Bool) → List Simple → Type 0
RootPasses root_is_child simples = All (PositionFits true root_is_child 0 0) simples

-- The first of three documents in which the marked element passes: a child with the least numbers of siblings;
-- the root, which is no child; the root, which is one.
abbrev pub IsFirst : Example → List Simple → FeatureParts → Option Pseudo → Type 0
IsFirst e simples f pseudo =
    ((before : ℕ) × (behind : ℕ) × AreLeast simples before behind × (e ≡ child_example before behind f pseudo))
    ⊎ ((NoChildPasses simples × RootPasses false simples × (e ≡ root_example false f pseudo))
    ⊎ (NoChildPasses simples × (RootPasses false simples → ⊥) × RootPasses true simples × (e ≡ root_example true f pseudo)))

-- the example for two selectors with these simple selectors and this pseudo-element
abbrev pub IsSingleExample : Example → List Simple → Option Pseudo → Type 0
IsSingleExample e simples pseudo = (f : FeatureParts) × AreFeatures f simples × IsFirst e simples (with_text f simples) pseudo
