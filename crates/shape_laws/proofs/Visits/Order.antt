-- The order of places in which a matching visits them.
use Rattle.std.proofs.Common.{List, [], ap, arith, inl, inr, sym, ℕ, ◌<◌, ◌∙◌, ◌∷◌, ◌≡◌, ◌⊎◌}
use Rattle.std.specs.Prelude.{List, [], ◌<◌, ◌∷◌, ◌≡◌, ◌⊎◌}
use Rattle.css_model.specs.declared.selector.Combinator.{Combinator}
use Rattle.css_model.specs.declared.selector.Combinator.TheVariants.{Child, Inside, Later, Next}
use Rattle.shape_laws.proofs.Visits.Places.{Joins, Place, Trail}

-- q comes after p on the way: further up and on the line, or further left in the same row
abbrev pub Ahead : Place → Place → Type 0
Ahead p q = ((p.up < q.up) × (q.left ≡ 0)) ⊎ ((q.up ≡ p.up) × (p.left < q.left))

-- each place comes after the one before
abbrev pub Rise : Place → List Place → Type 0
Rise c [] = Unit {0}
Rise c (p ∷ ps) = Ahead c p × Rise p ps

-- the place at a combinator's left comes later
joins_ahead : (link : Combinator) (p q : Place) → Joins link p q → Ahead p q
joins_ahead Inside p q (u, l) = inl (u, l)
joins_ahead Child p q (u, l) = inl (omega arith, l)
joins_ahead Next p q (u, l) = inr (u, omega arith)
joins_ahead Later p q (u, l) = inr (u, l)

-- so the places of a matching rise
pub trail_rises : (links : List Combinator) (p : Place) (ps : List Place) → Trail links p ps → Rise p ps
trail_rises links p [] way = tt
trail_rises [] p (q ∷ qs) way = absurd way
trail_rises (link ∷ links) p (q ∷ qs) (join, way) = (joins_ahead link p q join, trail_rises links q qs way)

-- of two places ahead of one, they are the same, or one is ahead of the other
pub data Order (p q : Place) : Type 0 where
  same : p ≡ q → Order p q
  sooner : Ahead p q → Order p q
  later : Ahead q p → Order p q

-- how two numbers can stand to each other
numbers : (m n : ℕ) → (m < n) ⊎ ((m ≡ n) ⊎ (n < m))
numbers m n = grind arith

-- a place, by its numbers
abbrev pub at : ℕ → ℕ → Place
at u l = record { up = u; left = l }

-- equal numbers make equal places
place_same : (p q : Place) → p.up ≡ q.up → p.left ≡ q.left → p ≡ q
place_same p q u l = ap (λ (n : ℕ). at n p.left) u ∙ ap (λ (n : ℕ). at q.up n) l

-- which of the three it is
pub order : (c p q : Place) → Ahead c p → Ahead c q → Order p q
order c p q (inl (u, l)) (inl (v, m)) = elim (numbers p.up q.up) [
  | inl less ↦ sooner (inl (less, m))
  | inr more ↦ elim more [ inl is ↦ same (place_same p q is (l ∙ sym m)) | inr less ↦ later (inl (less, l)) ]
]
order c p q (inl (u, l)) (inr (v, m)) = later (inl (omega arith, l))
order c p q (inr (u, l)) (inl (v, m)) = sooner (inl (omega arith, m))
order c p q (inr (u, l)) (inr (v, m)) = elim (numbers p.left q.left) [
  | inl less ↦ sooner (inr (v ∙ sym u, less))
  | inr more ↦ elim more [ inl is ↦ same (place_same p q (u ∙ sym v) is) | inr less ↦ later (inr (u ∙ sym v, less)) ]
]

-- later on the way
abbrev pub Behind : Place → Place → Type 0
Behind p q = (p.up < q.up) ⊎ ((q.up ≡ p.up) × (p.left < q.left))

-- what is ahead is later
pub ahead_behind : (p q : Place) → Ahead p q → Behind p q
ahead_behind p q (inl (u, l)) = inl u
ahead_behind p q (inr (u, l)) = inr (u, l)

-- later than a later one
pub behind_on : (p q r : Place) → Behind p q → Behind q r → Behind p r
behind_on p q r (inl u) (inl v) = inl (omega arith)
behind_on p q r (inl u) (inr (v, m)) = inl (omega arith)
behind_on p q r (inr (u, l)) (inl v) = inl (omega arith)
behind_on p q r (inr (u, l)) (inr (v, m)) = inr (omega arith, omega arith)
