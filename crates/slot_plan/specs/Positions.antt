-- Tests of an element's place among its siblings, by how many stand before and behind it (Selectors 3,
-- sections 6.6.1 and 6.6.5).
use Rattle.std.specs.Prelude.{◌≡◌, ℕ, ◌+◌, Bool, true, false}
use Rattle.std.specs.Bool.{MatchBool}
use Rattle.css_model.specs.declared.selector.Simple.{Simple}
use Rattle.css_model.specs.declared.selector.Test.{Test}
use Rattle.css_model.specs.declared.selector.Test.TheVariants.{Nth, NthLast, OnlyChild, Root}
use Rattle.css_model.specs.Documents.Matching.{IsNth}

-- whether a test asks for the place among the siblings, or for the root
abbrev pub is_position : Test → Bool
is_position (Nth x) = true
is_position (NthLast x) = true
is_position OnlyChild = true
is_position Root = true
is_position _ = false

-- What such a test says of an element. The root is the first child and the last one where it counts as a
-- child, and else it is none (own: Selectors 3 says that it is none, Selectors 4 that it is one).
abbrev pub PositionHolds : (is_root root_is_child : Bool) (before after : ℕ) → Test → Type 0
PositionHolds is_root root_is_child before after (Nth x) = MatchBool is_root ((root_is_child ≡ true) × IsNth x 1) (IsNth x (before + 1))
PositionHolds is_root root_is_child before after (NthLast x) = MatchBool is_root ((root_is_child ≡ true) × IsNth x 1) (IsNth x (after + 1))
PositionHolds is_root root_is_child before after OnlyChild = MatchBool is_root (root_is_child ≡ true) ((before ≡ 0) × (after ≡ 0))
PositionHolds is_root root_is_child before after Root = is_root ≡ true
PositionHolds is_root root_is_child before after _ = Unit {0}

-- the element passes a simple selector, as far as it asks for such a place
abbrev pub PositionFits : (is_root root_is_child : Bool) (before after : ℕ) → Simple → Type 0
PositionFits is_root root_is_child before after s =
    is_position s.test ≡ true →
    MatchBool s.negated (PositionHolds is_root root_is_child before after s.test → ⊥) (PositionHolds is_root root_is_child before after s.test)
