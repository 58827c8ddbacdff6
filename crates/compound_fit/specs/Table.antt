-- The features of the elements that two selectors may share.
use Rattle.std.specs.Prelude.{◌≡◌, List, [], ◌∷◌, ◌++◌, map, Option, Ok}
use Rattle.std.specs.List.{Contains, flat_map}
use Rattle.css_model.specs.declared.selector.Simple.{Simple}
use Rattle.css_model.specs.Documents.FeatureParts.{FeatureParts}
use Rattle.css_model.specs.Documents.SelectorParts.{SelectorParts}
use Rattle.compound_fit.specs.declared.compound.FitError.{FitError}
use Rattle.compound_fit.specs.declared.compound.FitError.TheVariants.{SpacesTaken, NoMemory}
use Rattle.compound_fit.specs.Attributes.{attribute_tests}
use Rattle.compound_fit.specs.Fitting.{IsFit, SpacesAreTaken}
use Rattle.compound_fit.specs.TableParts.{TableParts}

-- the compound of the element that a selector selects, and the others, from right to left
abbrev pub target : List (List Simple) → List Simple
target [] = []
target (c ∷ cs) = c

abbrev pub others : List (List Simple) → List (List Simple)
others [] = []
others (c ∷ cs) = cs

-- one compound with each of these
abbrev pub with_each : List Simple → List (List Simple) → List (List Simple)
with_each c ds = map (λ d. c ++ d) ds

-- The groups of compounds that one element may have to pass: both targets; each other compound of x; each
-- other one of y; and each other one of x with each other one of y.
abbrev pub groups : List (List Simple) → List (List Simple) → List (List Simple)
groups x y = (target x ++ target y) ∷ (others x ++ (others y ++ flat_map (λ c. with_each c (others y)) (others x)))

-- features, or none, for each group
abbrev pub AreFits : List (Option FeatureParts) → List (List Simple) → Type 0
AreFits [] [] = Unit {0}
AreFits [] (g ∷ gs) = ⊥
AreFits (f ∷ fs) [] = ⊥
AreFits (f ∷ fs) (g ∷ gs) = IsFit (Ok f) g × AreFits fs gs

-- why there is no table: the white spaces of some group are taken
abbrev pub NoFits : FitError → List (List Simple) → Type 0
NoFits SpacesTaken gs = (g : List Simple) × Contains gs g × SpacesAreTaken (attribute_tests g)
NoFits NoMemory gs = Unit {0}

-- the table of two selectors
pub record IsTable (t : TableParts) (x y : SelectorParts) : Type 0 where
  pub left : t.left ≡ x
  pub right : t.right ≡ y
  pub fits : AreFits t.fits (groups x.chain y.chain)

-- some more fits at the end, for these groups
pub record AddsFits (old new : List (Option FeatureParts)) (gs : List (List Simple)) : Type 0 where
  pub more : List (Option FeatureParts)
  pub is : new ≡ old ++ more
  pub fit : AreFits more gs
