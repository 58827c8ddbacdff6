-- Which value is tried: the one of a Dash that passes comes before the one that is built.
use Rattle.std.proofs.Common.{◌≡◌, ℕ, Bool, true, false, List, [], ◌∷◌, refl, codes}
use Rattle.css_model.specs.declared.selector.AttrTest.{AttrTest}
use Rattle.css_model.specs.declared.selector.Op.TheVariants.{Dash, Prefix}
use Rattle.attr_values.specs.Asked.{asked, is_dash}
use Rattle.attr_values.specs.Value.{built, first_passing, without_equal}

-- `[a|=en]:not([a^=en-])`
abbrev tests : List (AttrTest × Bool)
tests = (record { name = codes "a"; op = Dash; value = codes "en" }, true) ∷ (record { name = codes "a"; op = Prefix; value = codes "en-" }, false) ∷ []

dash_is_tried : without_equal 97 32 tests ≡ codes "en"
dash_is_tried = refl

built_is_other : built 97 32 tests ≡ codes "en-a"
built_is_other = refl

-- so it is not passed by
not_passed_by : ((other : List ℕ) → first_passing tests (asked is_dash tests) other ≡ other) → ⊥
not_passed_by passed = absurd (let none : codes "en" ≡ [] = passed [] in cc)
