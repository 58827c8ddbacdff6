-- Where the elements that a matching visits stand, as seen from the target.
use Rattle.std.specs.Prelude.{List, [], length, suc, ℕ, ◌++◌, ◌+◌, ◌<◌, ◌∷◌, ◌≡◌}
use Rattle.css_model.specs.Documents.Document.{Document}
use Rattle.css_model.specs.Documents.Matching.{CompoundHolds}
use Rattle.css_model.specs.declared.selector.Combinator.{Combinator}
use Rattle.css_model.specs.declared.selector.Combinator.TheVariants.{Child, Inside, Later, Next}
use Rattle.css_model.specs.declared.selector.Simple.{Simple}

-- so many steps up from the target to a parent, then so many to the left
pub record Place : Type 0 where
  pub up : ℕ
  pub left : ℕ

-- how a combinator puts the compound at its left (the second place) to the one at its right
abbrev pub Joins : Combinator → Place → Place → Type 0
Joins Inside p q = (p.up < q.up) × (q.left ≡ 0)
Joins Child p q = (q.up ≡ suc p.up) × (q.left ≡ 0)
Joins Next p q = (q.up ≡ p.up) × (q.left ≡ suc p.left)
Joins Later p q = (q.up ≡ p.up) × (p.left < q.left)

-- the places of a chain's other compounds, behind that of one (a combinator too many is not read)
abbrev pub Trail : List Combinator → Place → List Place → Type 0
Trail links p [] = Unit {0}
Trail [] p (q ∷ qs) = ⊥
Trail (link ∷ links) p (q ∷ qs) = Joins link p q × Trail links q qs

-- the path of the element in a place, as seen from the element at the path `target`
pub data IsPlace (target : List ℕ) (p : Place) (path : List ℕ) : Type 0 where
  root : length target ≡ p.up → p.left ≡ 0 → path ≡ [] → IsPlace target p path
  child : (parent : List ℕ) (i : ℕ) (below : List ℕ) → target ≡ parent ++ (p.left + i) ∷ below → length below ≡ p.up → path ≡ parent ++ i ∷ [] → IsPlace target p path

-- the simple selectors of a compound hold of the element in a place
abbrev pub HoldsIn : Document → List ℕ → List Simple → Place → Type 0
HoldsIn doc target simples p = (path : List ℕ) × IsPlace target p path × CompoundHolds doc path simples
