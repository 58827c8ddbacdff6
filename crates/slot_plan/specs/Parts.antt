-- The steps and offsets that the tests of positions of a pair ask for (Selectors 3, section 6.6.5).
use Rattle.std.specs.Prelude.{ℕ, List, ◌++◌, Option, Some, None, pos}
use Rattle.std.specs.List.{count_by, filter_map}
use Rattle.css_model.specs.declared.position.AnB.{AnB}
use Rattle.css_model.specs.declared.selector.Test.{Test}
use Rattle.css_model.specs.declared.selector.Test.TheVariants.{Nth, NthLast, OnlyChild}
use Rattle.css_model.specs.Documents.SelectorParts.{SelectorParts}
use Rattle.css_model.specs.Documents.Specificity.{simples_of}
use Rattle.css_model.specs.Selectors.Compounds.{is_stepped_test}

-- the step and the offset of a test; an only child is the first one, from either end (section 6.6.5.10)
abbrev pub part_of : Test → Option AnB
part_of (Nth x) = Some x
part_of (NthLast x) = Some x
part_of OnlyChild = Some (record { a = pos 0; b = pos 1 })
part_of _ = None

-- those of a selector, in its order, negated or not
abbrev pub parts_of : SelectorParts → List AnB
parts_of x = filter_map (λ s. part_of s.test) (simples_of x)

-- those of a pair
abbrev pub pair_parts : SelectorParts → SelectorParts → List AnB
pair_parts x y = parts_of x ++ parts_of y

-- how many positions of a selector have a step of 2 or more in size, negated or not
abbrev pub stepped_count : SelectorParts → ℕ
stepped_count x = count_by (λ s. is_stepped_test s.test) (simples_of x)
