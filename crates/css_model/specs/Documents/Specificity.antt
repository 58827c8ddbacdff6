-- Specificity (Selectors 3, section 9).
use Rattle.std.specs.Prelude.{ℕ, ◌+◌, Bool, true, false, List, Option, Some, None}
use Rattle.std.specs.List.{count_by, flat_map}
use Rattle.css_model.specs.declared.selector.Pseudo.{Pseudo}
use Rattle.css_model.specs.declared.selector.Simple.{Simple}
use Rattle.css_model.specs.declared.selector.Specificity.{Specificity}
use Rattle.css_model.specs.declared.selector.Test.{Test}
use Rattle.css_model.specs.declared.selector.Test.TheVariants.{Kind, Id, Attr, Nth, NthLast, OnlyChild, Root, Empty, State}
use Rattle.css_model.specs.Documents.SelectorParts.{SelectorParts}

-- an id selector (Selectors 3, section 6.5)
abbrev pub is_id : Test → Bool
is_id (Id name) = true
is_id _ = false

-- a class, an attribute selector or a pseudo-class (Selectors 3, sections 6.3, 6.4 and 6.6)
abbrev pub is_class : Test → Bool
is_class (Attr test) = true
is_class (Nth x) = true
is_class (NthLast x) = true
is_class OnlyChild = true
is_class Root = true
is_class Empty = true
is_class (State flag) = true
is_class _ = false

-- a type selector (Selectors 3, section 6.1); `*` is none (section 6.2)
abbrev pub is_type : Test → Bool
is_type (Kind name) = true
is_type _ = false

-- how many pseudo-elements (Selectors 3, section 7: at most one)
abbrev pub pseudo_count : Option Pseudo → ℕ
pseudo_count None = 0
pseudo_count (Some pseudo) = 1

-- all simple selectors of a selector (Selectors 3, section 4)
abbrev pub simples_of : SelectorParts → List Simple
simples_of selector = flat_map (λ compound. compound) selector.chain

-- The specificity of a selector: how many ids, how many classes, attributes and pseudo-classes, how
-- many types and pseudo-elements (Selectors 3, section 9). A test in `:not()` counts as it does
-- outside, and `:not()` itself does not count.
abbrev pub specificity_of : SelectorParts → Specificity
specificity_of selector = record {
  a = count_by (λ s. is_id s.test) (simples_of selector);
  b = count_by (λ s. is_class s.test) (simples_of selector);
  c = count_by (λ s. is_type s.test) (simples_of selector) + pseudo_count selector.pseudo;
}
