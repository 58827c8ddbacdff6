-- The numbers of siblings of the elements that a matching visits.
use Rattle.std.proofs.Common.{List, None, Option, Some, [], ap, arith, get_or, length, refl, reverse, suc, sym, take, zero, ℕ, ◌++◌, ◌+◌, ◌-◌, ◌∙◌, ◌∷◌, ◌≡◌}
use Rattle.std.proofs.lemmas.List.{append_assoc, get_or-reverse, get_or_at, length-append, take_at}
use Rattle.css_model.specs.Documents.Document.{Document, ElementAt, Siblings, element_at, element_below, first, none}
use Rattle.css_model.specs.Documents.Matching.{count_siblings, sibling_number, sibling_number_from_end}
use Rattle.shape_laws.proofs.Visits.Places.{Place}

-- the number of an element among its siblings, from its path
pub start_place : (doc : Document) (parent : List ℕ) (i : ℕ) → sibling_number doc (parent ++ i ∷ []) ≡ Some (suc i)
start_place doc [] i = refl
start_place doc (p ∷ []) i = refl
start_place doc (p ∷ q ∷ ps) i = start_place doc (q ∷ ps) i

-- and from the last one back
pub end_place : (doc : Document) (parent : List ℕ) (i : ℕ) (here : ElementAt) → sibling_number_from_end doc (parent ++ i ∷ []) here ≡ Some (suc (count_siblings here.later))
end_place doc [] i here = refl
end_place doc (p ∷ ps) i here = refl

-- one element in one place
pub placed_same : (p q : ElementAt) → Some p ≡ Some q → p ≡ q
placed_same p q e = cc

-- below an element
below_on : (s : Siblings) (k : ℕ) (q : List ℕ) (p : ElementAt) (i : ℕ) (path : List ℕ) → element_below s k q ≡ Some p → element_below s k (q ++ i ∷ path) ≡ element_below p.children i path
below_on none k q p i path e = absurd (let h : None ≡ Some p = e in cc)
below_on (first f children later) zero [] p i path e = ap (λ (r : ElementAt). element_below r.children i path) (placed_same (record { element = f; children = children; later = later }) p e)
below_on (first f children later) zero (j ∷ q) p i path e = below_on children j q p i path e
below_on (first f children later) (suc k) q p i path e = below_on later k q p i path e

-- what stands below an element, by the rest of a path
pub below_at : (doc : Document) (q : List ℕ) (p : ElementAt) (i : ℕ) (path : List ℕ) → element_at doc q ≡ Some p → element_at doc (q ++ i ∷ path) ≡ element_below p.children i path
below_at doc [] p i path e = ap (λ (r : ElementAt). element_below r.children i path) (placed_same (record { element = doc.root; children = doc.children; later = none }) p e)
below_at doc (k ∷ q) p i path e = below_on doc.children k q p i path e

-- what stands above an element is there
above : (s : Siblings) (k : ℕ) (q : List ℕ) (i : ℕ) (path : List ℕ) (x : ElementAt) → element_below s k (q ++ i ∷ path) ≡ Some x → (p : ElementAt) × (element_below s k q ≡ Some p)
above none k q i path x e = absurd (let h : None ≡ Some x = e in cc)
above (first f children later) zero [] i path x e = (record { element = f; children = children; later = later }, refl)
above (first f children later) zero (j ∷ q) i path x e = above children j q i path x e
above (first f children later) (suc k) q i path x e = above later k q i path x e

-- the same in a document
above_at : (doc : Document) (q : List ℕ) (i : ℕ) (path : List ℕ) (x : ElementAt) → element_at doc (q ++ i ∷ path) ≡ Some x → (p : ElementAt) × (element_at doc q ≡ Some p)
above_at doc [] i path x e = (record { element = doc.root; children = doc.children; later = none }, refl)
above_at doc (k ∷ q) i path x e = above doc.children k q i path x e

-- how many stand side by side
count_at : (s : Siblings) (n : ℕ) (x : ElementAt) → element_below s n [] ≡ Some x → count_siblings s ≡ suc n + count_siblings x.later
count_at none n x e = absurd (let h : None ≡ Some x = e in cc)
count_at (first f children later) zero x e = let l = ap (λ (r : ElementAt). count_siblings r.later) (placed_same (record { element = f; children = children; later = later }) x e) in omega arith
count_at (first f children later) (suc n) x e = let ih = count_at later n x e in omega arith

-- the counts of the row in which the target, or its parent so many steps up, stands
abbrev pub row_before : List ℕ → ℕ → ℕ
row_before target up = get_or (reverse target) up 0

-- how many siblings stand behind
abbrev pub later_count : Option ElementAt → ℕ
later_count None = 0
later_count (Some x) = count_siblings x.later

-- the siblings behind the target, or behind its ancestor so many steps up
abbrev pub row_after : Document → List ℕ → ℕ → ℕ
row_after doc target up = later_count (element_at doc (take (length target - up) target))

-- the numbers of siblings of an element in a place, from those of its row
pub counts_of : (doc : Document) (target : List ℕ) (there here : ElementAt) (p : Place) (parent : List ℕ) (i : ℕ) (below : List ℕ) →
    target ≡ parent ++ (p.left + i) ∷ below → length below ≡ p.up → element_at doc target ≡ Some there → element_at doc (parent ++ i ∷ []) ≡ Some here →
    (row_before target p.up ≡ p.left + i) × (count_siblings here.later ≡ row_after doc target p.up + p.left)
counts_of doc target there here p parent i below at n e h = (
  ap (λ t. row_before t p.up) at
      ∙ get_or-reverse (parent ++ (p.left + i) ∷ below) p.up 0 (let l = length-append parent ((p.left + i) ∷ below) in omega arith)
      ∙ get_or_at parent (p.left + i) below 0 (length (parent ++ (p.left + i) ∷ below) - 1 - p.up) (let l = length-append parent ((p.left + i) ∷ below) in omega arith),
  later_by (above_at doc parent (p.left + i) below there (ap (element_at doc) (sym at) ∙ e)),
)
  where
    front : take (length target - p.up) target ≡ parent ++ (p.left + i) ∷ []
    front =
        ap (λ t. take (length t - p.up) t) (at ∙ sym (append_assoc parent ((p.left + i) ∷ []) below))
        ∙ take_at (parent ++ (p.left + i) ∷ []) below (length ((parent ++ (p.left + i) ∷ []) ++ below) - p.up)
        (let l = length-append (parent ++ (p.left + i) ∷ []) below in let l' = length-append parent ((p.left + i) ∷ []) in omega arith)

    later_by : (o : ElementAt) × (element_at doc parent ≡ Some o) → count_siblings here.later ≡ row_after doc target p.up + p.left
    later_by (o, is) =
        let big = big_by (above_at doc parent (p.left + i) below there (ap (element_at doc) (sym at) ∙ e)) in
        let c = count_at o.children i here (sym (below_at doc parent o i [] is) ∙ h) in
        let d = count_at o.children (p.left + i) big.0 (sym (below_at doc parent o (p.left + i) [] is) ∙ big.1) in
        let r : row_after doc target p.up ≡ count_siblings big.0.later = ap later_count (ap (element_at doc) front ∙ big.1) in
        omega arith
      where
        big_by : (o' : ElementAt) × (element_at doc parent ≡ Some o') → (x : ElementAt) × (element_at doc (parent ++ (p.left + i) ∷ []) ≡ Some x)
        big_by _ = whole below (ap (element_at doc) (sym at) ∙ e)
          where
            whole : (below : List ℕ) → element_at doc (parent ++ (p.left + i) ∷ below) ≡ Some there → (x : ElementAt) × (element_at doc (parent ++ (p.left + i) ∷ []) ≡ Some x)
            whole [] f = (there, f)
            whole (b ∷ bs) f = above_at doc (parent ++ (p.left + i) ∷ []) b bs there (ap (element_at doc) (append_assoc parent ((p.left + i) ∷ []) (b ∷ bs)) ∙ f)
