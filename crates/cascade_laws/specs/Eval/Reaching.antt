-- Where the compounds of a selector, from each one on, match, carried from an element to the next one (own).
use Rattle.std.specs.Prelude.{ℕ, zero, suc, ◌+◌, Bool, false, ◌&&◌, ◌||◌, List, [], ◌∷◌, map}
use Rattle.css_model.specs.declared.selector.Combinator.{Combinator}
use Rattle.css_model.specs.declared.selector.Combinator.TheVariants.{Inside, Child, Next, Later}
use Rattle.cascade_laws.specs.declared.reaching.Reached.{Reached}

-- whether the compounds from the first of these on match where a combinator leads (Selectors 3, section 8)
abbrev pub leads : Combinator → List Reached → Bool
leads link [] = false
leads Inside (r ∷ rs) = r.inside
leads Child (r ∷ rs) = r.child
leads Next (r ∷ rs) = r.next
leads Later (r ∷ rs) = r.later

-- the same with what holds at the element itself
abbrev pub put_here : Bool → Reached → Reached
put_here b r = record { here = b; next = r.next; later = r.later; child = r.child; inside = r.inside }

-- What matches at an element, from which of its compounds hold there: a compound alone where it holds, and one
-- with others to its left where these match at some element that the combinator allows.
abbrev pub located : List Bool → List Combinator → List Reached → List Reached
located [] links rs = []
located (t ∷ ts) links [] = []
located (t ∷ []) links (r ∷ rs) = put_here t r ∷ []
located (t ∷ u ∷ ts) [] (r ∷ rs) = put_here false r ∷ located (u ∷ ts) [] rs
located (t ∷ u ∷ ts) (link ∷ links) (r ∷ rs) = put_here (t && leads link rs) r ∷ located (u ∷ ts) links rs

-- seen from the sibling behind
abbrev pub from_next : Reached → Reached
from_next r = record { here = false; next = r.here; later = r.here || r.later; child = r.child; inside = r.inside }

-- seen from the first child
abbrev pub from_child : Reached → Reached
from_child r = record { here = false; next = false; later = false; child = r.here; inside = r.here || r.inside }

-- seen from the root
abbrev pub from_root : Reached
from_root = record { here = false; next = false; later = false; child = false; inside = false }

-- Seen behind so many elements side by side, with so many siblings before the first of them and behind the last:
-- `tests` says which compounds hold with so many siblings before and behind.
abbrev pub passed : (ℕ → ℕ → List Bool) → List Combinator → (count before behind : ℕ) → List Reached → List Reached
passed tests links zero before behind rs = rs
passed tests links (suc n) before behind rs = passed tests links n (suc before) behind (map from_next (located (tests before (n + behind)) links rs))

-- whether all compounds match at the element
abbrev pub is_reached : List Reached → Bool
is_reached [] = false
is_reached (r ∷ rs) = r.here
