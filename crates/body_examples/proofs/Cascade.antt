-- What simple selectors count for, and where they match.
use Rattle.std.proofs.Common.{◌≡◌, ℕ, List, true, false, pos, refl}
use Rattle.std.specs.Prelude.{codes}
use Rattle.body_examples.proofs.Values.{features}
use Rattle.cascade_laws.specs.Eval.Reaching.{from_child}
use Rattle.cascade_laws.specs.Eval.Surrounded.{test_among}
use Rattle.css_model.specs.declared.selector.Test.TheVariants.{Id, NthLast}
use Rattle.css_model.specs.Documents.Features.{element_of}
use Rattle.css_model.specs.Documents.Specificity.{is_class, is_id}

id_is_counted : (name : List ℕ) → is_id (Id name) ≡ true
id_is_counted name = refl

id_is_no_class : (name : List ℕ) → is_class (Id name) ≡ false
id_is_no_class name = refl

-- `:nth-last-child(1)` counts the later siblings, of which there are none here, and not the two earlier ones
last_is_counted_from_the_end : test_among (element_of (features (codes "x"))) (record { is_root = false; is_child = true; before = 2; behind = 0; has_children = false }) (NthLast (record { a = pos 0; b = pos 1 })) ≡ true
last_is_counted_from_the_end = refl

-- what matches at an ancestor of the parent alone does not match at the parent
child_is_of_the_parent : from_child (record { here = false; next = false; later = false; child = false; inside = true })
    ≡ record { here = false; next = false; later = false; child = false; inside = true }
child_is_of_the_parent = refl
