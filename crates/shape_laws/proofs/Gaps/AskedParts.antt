-- The parts that are asked in a slot are among those of the pair.
use Rattle.std.proofs.Common.{Bool, List, Some, [], false, inl, inr, true, ℕ, ◌++◌, ◌∷◌, ◌≡◌}
use Rattle.std.proofs.lemmas.List.Elements.{Contains-append_cases, Contains-append_left, Contains-append_right}
use Rattle.std.specs.List.{flat_map}
use Rattle.std.specs.Prelude.{Contains, if◌then◌else◌, ◌==◌}
use Rattle.css_model.specs.Documents.SelectorParts.{SelectorParts}
use Rattle.css_model.specs.Documents.Specificity.{simples_of}
use Rattle.css_model.specs.declared.position.AnB.{AnB}
use Rattle.css_model.specs.declared.selector.Simple.{Simple}
use Rattle.list_facts.proofs.Members.{Contains-nil}
use Rattle.slot_plan.specs.Parts.{pair_parts, part_of, parts_of}
use Rattle.slot_plan.specs.ShapeParts.{ShapeParts}
use Rattle.slot_plan.specs.ValidShape.{simples_at, simples_in}
use Rattle.shape_laws.proofs.Lists.{given}

-- the parts of what stands in a slot are parts of the pair
at_all : (chain : List (List Simple)) (places : List ℕ) (k : ℕ) (s : Simple) → Contains (simples_at chain places k) s → Contains (flat_map (λ compound. compound) chain) s
at_all [] places k s h = absurd (Contains-nil s h)
at_all (c ∷ chain) [] k s h = absurd (Contains-nil s h)
at_all (c ∷ chain) (p ∷ places) k s h = by (p == k) h (λ h. at_all chain places k s h)
  where
    by : (b : Bool) → Contains (if b then c else simples_at chain places k) s → (Contains (simples_at chain places k) s → Contains (flat_map (λ compound. compound) chain) s) → Contains (c ++ flat_map (λ compound. compound) chain) s
    by true h rest = Contains-append_left c (flat_map (λ compound. compound) chain) s h
    by false h rest = Contains-append_right c (flat_map (λ compound. compound) chain) s (rest h)

-- so the part that a simple selector in a slot asks for is one of the pair
pub in_parts : (x y : SelectorParts) (shape : ShapeParts) (k : ℕ) (s : Simple) → Contains (simples_in x y shape k) s → (part : AnB) → part_of s.test ≡ Some part → Contains (pair_parts x y) part
in_parts x y shape k s h part is = elim (Contains-append_cases (simples_at x.chain shape.left k) (simples_at y.chain shape.right k) s h) [
  | inl l ↦ Contains-append_left (parts_of x) (parts_of y) part (given (λ s. part_of s.test) (simples_of x) s part (at_all x.chain shape.left k s l) is)
  | inr r ↦ Contains-append_right (parts_of x) (parts_of y) part (given (λ s. part_of s.test) (simples_of y) s part (at_all y.chain shape.right k s r) is)
]
