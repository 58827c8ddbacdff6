-- What stands in a place, and what holds of it.
use Rattle.std.proofs.Common.{Bool, List, None, Option, Some, [], ap, arith, false, refl, subst, suc, sym, true, ℕ, ◌∙◌, ◌∷◌, ◌≡◌, ◌≤◌}
use Rattle.std.proofs.lemmas.Bool.{eqb-true}
use Rattle.std.proofs.lemmas.List.Elements.{All-nil}
use Rattle.std.specs.List.{All, AllZip}
use Rattle.std.specs.Prelude.{IsSomeAnd, if◌then◌else◌, ◌==◌}
use Rattle.css_model.specs.Documents.Document.{Document, ElementAt, element_at}
use Rattle.css_model.specs.Documents.Matching.{CompoundHolds, SimpleHolds}
use Rattle.css_model.specs.declared.selector.Simple.{Simple}
use Rattle.slot_plan.specs.ValidShape.{simples_at}
use Rattle.shape_laws.proofs.Elements.Siblings.{counts_of, row_before}
use Rattle.shape_laws.proofs.Slots.Numbers.{Numbered}
use Rattle.shape_laws.proofs.Slots.SlotList.{Slot, numbers_where, places_where}
use Rattle.shape_laws.proofs.Visits.Places.{HoldsIn, IsPlace, Place, child, root}
use Rattle.shape_laws.proofs.Visits.Trails.{one_path}

-- a simple selector holds of whatever stands in a place
abbrev pub Sees : Document → List ℕ → Place → Simple → Type 0
Sees doc target p s = (path : List ℕ) (here : ElementAt) → IsPlace target p path → element_at doc path ≡ Some here → SimpleHolds doc path here s

-- a compound that holds in a place
pub sees_all : (doc : Document) (target : List ℕ) (c : List Simple) (p : Place) → HoldsIn doc target c p → All (Sees doc target p) c
sees_all doc target c p (path, at, holds) k d h path' here at' e =
    let holds' : CompoundHolds doc path' c = subst (λ r. CompoundHolds doc r c) (one_path target p path path' at at') holds in
    let all : All (λ s. SimpleHolds doc path' here s) c = subst (λ o. IsSomeAnd o (λ x. All (λ s. SimpleHolds doc path' x s) c)) e holds' in
    all k d h

-- what holds of each compound in its place holds of the simple selectors in each slot
pub slot_by_slot : (Q : Place → Simple → Type 0) (in_one : Slot → Bool) (place : ℕ → Place) (n : ℕ) (ss : List Slot) (chain : List (List Simple)) → Numbered place n ss →
    AllZip (λ c p. All (Q p) c) chain (places_where in_one ss) → (k : ℕ) → All (Q (place k)) (simples_at chain (numbers_where in_one n ss) k)
slot_by_slot Q in_one place n [] [] numbered all k = All-nil (Q (place k))
slot_by_slot Q in_one place n [] (c ∷ chain) numbered all k = absurd all
slot_by_slot Q in_one place n (s ∷ ss) chain (at, numbered) all k = by (in_one s) chain all (λ chain all. slot_by_slot Q in_one place (suc n) ss chain numbered all k)
  where
    by : (b : Bool) (chain : List (List Simple)) → AllZip (λ c p. All (Q p) c) chain (if b then s.place ∷ places_where in_one ss else places_where in_one ss) →
        ((chain : List (List Simple)) → AllZip (λ c p. All (Q p) c) chain (places_where in_one ss) → All (Q (place k)) (simples_at chain (numbers_where in_one (suc n) ss) k)) →
        All (Q (place k)) (simples_at chain (if b then n ∷ numbers_where in_one (suc n) ss else numbers_where in_one (suc n) ss) k)
    by false chain all rest = rest chain all
    by true [] all rest = absurd all
    by true (c ∷ chain) (here, all) rest = pick (n == k) refl
      where
        pick : (b : Bool) → (n == k) ≡ b → All (Q (place k)) (if b then c else simples_at chain (numbers_where in_one (suc n) ss) k)
        pick true e = subst (λ p. All (Q p) c) (sym (ap place (sym (eqb-true n k e)) ∙ at)) here
        pick false e = rest chain all

-- what an option holds
some_of : {A : Type 0} (P : A → Type 0) (o : Option A) → IsSomeAnd o P → (x : A) × (o ≡ Some x)
some_of P None h = absurd h
some_of P (Some x) h = (x, refl)

-- something stands in a place
pub record Stood (doc : Document) (target : List ℕ) (p : Place) : Type 0 where
  pub path : List ℕ
  pub here : ElementAt
  pub at : IsPlace target p path
  pub is : element_at doc path ≡ Some here

-- where a compound holds, something stands
pub stood : (doc : Document) (target : List ℕ) (c : List Simple) (p : Place) → HoldsIn doc target c p → Stood doc target p
stood doc target c p (path, at, holds) = let s = some_of (λ here. All (λ s. SimpleHolds doc path here s) c) (element_at doc path) holds in record { path = path; here = s.0; at = at; is = s.1 }

-- a place is in its row, and no higher than the root
pub room : (doc : Document) (target : List ℕ) (there : ElementAt) (p : Place) → element_at doc target ≡ Some there → Stood doc target p → p.left ≤ row_before target p.up
room doc target there p e s = by s.at
  where
    by : IsPlace target p s.path → p.left ≤ row_before target p.up
    by (root n l is) = omega arith
    by (child parent i below at n is) = let f = counts_of doc target there s.here p parent i below at n e (ap (element_at doc) (sym is) ∙ s.is) in (let g = f.0 in omega arith)
