-- What a run of equal elements is asked, and what is known on the way along it (own).
use Rattle.std.specs.Prelude.{ℕ, Bool, true, false, List, [], ◌∷◌}
use Rattle.css_model.specs.declared.selector.Combinator.{Combinator}
use Rattle.css_model.specs.declared.selector.Simple.{Simple}
use Rattle.css_model.specs.Documents.FeatureParts.{FeatureParts}
use Rattle.css_model.specs.Documents.Features.{element_of}
use Rattle.cascade_laws.specs.declared.reaching.Reached.{Reached}
use Rattle.cascade_laws.specs.Eval.Climbing.{child_among}
use Rattle.cascade_laws.specs.Eval.Reaching.{leads}
use Rattle.cascade_laws.specs.Eval.Surrounded.{chain_among}

-- which compounds hold of an element of a run with so many siblings before and behind it
abbrev pub run_tests : List (List Simple) → FeatureParts → Bool → (before behind : ℕ) → List Bool
run_tests chain element has_children before behind = chain_among chain (element_of element) (child_among has_children before behind)

-- whether the compounds behind one match where its combinator leads: there are none, or the first of them does
abbrev pub is_led : List (List Simple) → List Combinator → List Reached → Bool
is_led [] links rs = true
is_led (c ∷ cs) [] rs = false
is_led (c ∷ cs) (link ∷ links) rs = leads link rs
