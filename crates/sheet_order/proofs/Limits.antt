-- Selectors that keep the limits are small.
use Rattle.std.proofs.Common.{◌≤◌, List, [], ◌∷◌, length}
use Rattle.std.specs.List.{All, AllByRecursion}
use Rattle.std.proofs.lemmas.List.Elements.{All-cons, All-nil}
use Rattle.css_model.specs.declared.selector.Simple.{Simple}
use Rattle.css_model.specs.Documents.SelectorParts.{SelectorParts}
use Rattle.selector_laws.specs.Limits.{KeepsCompound, KeepsLimits}

abbrev small : List Simple → Type 0
small c = length c ≤ 32

compounds_small : (chain : List (List Simple)) → AllByRecursion KeepsCompound chain → All small chain
compounds_small [] h = All-nil small
compounds_small (c ∷ chain) h = All-cons small c chain h.0.few (compounds_small chain h.1)

pub small_compounds : (s : SelectorParts) → KeepsLimits s → All (λ c. length c ≤ 32) s.chain
small_compounds s h = compounds_small s.chain h.compounds
