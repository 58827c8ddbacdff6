-- Elements of a list by their numbers: which is again later, and which goes next.
use Rattle.std.proofs.Common.{◌≡◌, ◌≢◌, ℕ, zero, suc, ◌+◌, ◌<◌, ◌≤◌, List, [], ◌∷◌, map, length, Some, None, refl, sym, ap, subst, ◌∙◌, arith}
use Rattle.std.specs.Prelude.{slice_get}
use Rattle.std.specs.List.{AllByRecursion, Contains, remove}
use Rattle.cascade_laws.proofs.ForCallers.{some-same}
use Rattle.list_facts.proofs.Members.{Contains-here, Contains-there}
use Rattle.repeat_laws.proofs.ForCallers.{found}
use Rattle.run_laws.specs.Marks.{Descends}
use Rattle.run_laws.proofs.Listed.{Compared, compared, is_less, is_more, is_same}
use Rattle.run_laws.proofs.Listed as listed
use Rattle.step_laws.specs.Sizes.{weight}

-- an element that is there
pub there : {X : Type 0} (xs : List X) (i : ℕ) → i < length xs → (x : X) × (slice_get xs i ≡ Some x)
there [] i below = absurd (omega (arith, below))
there (x ∷ xs) zero below = (x, refl)
there (x ∷ xs) (suc i) below = there xs i (omega (arith, below))

pub all_at : {X : Type 0} (P : X → Type 0) (xs : List X) (i : ℕ) (x : X) → AllByRecursion P xs → slice_get xs i ≡ Some x → P x
all_at P [] i x all at = absurd (let e : None ≡ Some x = at in cc)
all_at P (y ∷ xs) zero x all at = subst P (some-same at) all.0
all_at P (y ∷ xs) (suc i) x all at = all_at P xs i x all.1 at

pub has_part : {X Y : Type 0} (part : X → Y) (xs : List X) (i : ℕ) (x : X) (y : Y) → slice_get xs i ≡ Some x → part x ≡ y → Contains (map part xs) y
has_part part [] i x y at is = absurd (let e : None ≡ Some x = at in cc)
has_part part (z ∷ xs) zero x y at is = subst (Contains (part z ∷ map part xs)) (ap part (some-same at) ∙ is) (Contains-here (part z) (map part xs))
has_part part (z ∷ xs) (suc i) x y at is = Contains-there (part z) (map part xs) y (has_part part xs i x y at is)

-- what a list weighs without one of its elements
pub weight_without : {X : Type 0} (text : X → List ℕ) (xs : List X) (i : ℕ) (x : X) → slice_get xs i ≡ Some x → weight text xs ≡ weight text (remove xs i) + (length (text x) + 1)
weight_without text [] i x at = absurd (let e : None ≡ Some x = at in cc)
weight_without text (y ∷ xs) zero x at =
    let e : length (text y) ≡ length (text x) = ap (λ (z : _). length (text z)) (some-same at) in
    let f : length (text y) + 1 + weight text xs ≡ weight text xs + (length (text x) + 1) = omega (arith, e) in f
weight_without text (y ∷ xs) (suc i) x at =
    let rest : weight text xs ≡ weight text (remove xs i) + (length (text x) + 1) = weight_without text xs i x at in
    let f : length (text y) + 1 + weight text xs ≡ length (text y) + 1 + weight text (remove xs i) + (length (text x) + 1) = omega (arith, rest) in f

module _ {X Y : Type 0} (part : X → Y) (weigh : X → ℕ) where
  abbrev None_again : ℕ → List X → Type 0
  None_again t xs = listed.NoneAgain part weigh t xs

  -- ---- Two elements with one part

  pub none_at : (t : ℕ) (xs : List X) (u v : ℕ) (x y : X) → None_again t xs → slice_get xs u ≡ Some x → slice_get xs v ≡ Some y → u < v → part y ≡ part x → t ≤ weigh x → ⊥
  none_at t [] u v x y none at at' less is heavy = let e : None ≡ Some x = at in cc
  none_at t (z ∷ xs) u zero x y none at at' less is heavy = omega (arith, less)
  none_at t (z ∷ xs) zero (suc v) x y none at at' less is heavy =
      let e : z ≡ x = some-same at in
      none.0 (subst (λ (w : X). t ≤ weigh w) (sym e) heavy) (has_part part xs v y (part z) at' (is ∙ ap part (sym e)))
  none_at t (z ∷ xs) (suc u) (suc v) x y none at at' less is heavy = none_at t xs u v x y none.1 at at' (omega (arith, less)) is heavy

  pub descends_at : (xs : List X) (u v : ℕ) (x y : X) → Descends part weigh xs → slice_get xs u ≡ Some x → slice_get xs v ≡ Some y → u < v → part y ≡ part x → weigh y ≤ weigh x
  descends_at [] u v x y d at at' less is = absurd (let e : None ≡ Some x = at in cc)
  descends_at (z ∷ xs) u zero x y d at at' less is = absurd (omega (arith, less))
  descends_at (z ∷ xs) zero (suc v) x y d at at' less is =
      let e : z ≡ x = some-same at in
      subst (λ (w : X). weigh y ≤ weigh w) e (all_at (λ (w : X). part w ≡ part z → weigh w ≤ weigh z) xs v y d.0 at' (is ∙ ap part (sym e)))
  descends_at (z ∷ xs) (suc u) (suc v) x y d at at' less is = descends_at xs u v x y d.1 at at' (omega (arith, less)) is

  -- an element that has an equal one elsewhere
  pub record Cut (xs : List X) (i m : ℕ) : Type 0 where
    pub one : X
    pub place : ℕ
    pub other : X
    pub one_at : slice_get xs i ≡ Some one
    pub other_at : slice_get xs place ≡ Some other
    pub elsewhere : place ≢ i
    pub same_part : part other ≡ part one
    pub weighs : m ≡ weigh one

  -- none is so heavy
  pub no_heavy_cut : (t : ℕ) (xs : List X) (i m : ℕ) → Descends part weigh xs → None_again t xs → Cut xs i m → t ≤ m → ⊥
  no_heavy_cut t xs i m d none c heavy = which (compared c.place i)
    where
      which : Compared c.place i → ⊥
      which (is_more less) = let w = c.weighs in let f : weigh c.one ≤ weigh c.other = descends_at xs c.place i c.other c.one d c.other_at c.one_at less (sym c.same_part) in
          none_at t xs c.place i c.other c.one none c.other_at c.one_at less (sym c.same_part) (omega (arith, f, w, heavy))
      which (is_same e) = c.elsewhere (sym e)
      which (is_less after) = let w = c.weighs in none_at t xs i c.place c.one c.other none c.one_at c.other_at after c.same_part (omega (arith, w, heavy))

  -- ---- The next one

  abbrev Goes : (l i : ℕ) → List X → List X → Type 0
  Goes l i xs ys = listed.Next part weigh l i xs ys

  pub next_first : (l i : ℕ) (xs ys : List X) (u v : ℕ) (x y : X) → Goes l i xs ys → slice_get xs u ≡ Some x → slice_get xs v ≡ Some y → u < v → u < i → part y ≡ part x → l ≤ weigh x → ⊥
  next_first l i [] ys u v x y next at at' less first is heavy = next
  next_first l zero (z ∷ xs) ys u v x y next at at' less first is heavy = omega (arith, first)
  next_first l (suc i) (z ∷ xs) [] u v x y next at at' less first is heavy = next
  next_first l (suc i) (z ∷ xs) (w ∷ ys) u zero x y next at at' less first is heavy = omega (arith, less)
  next_first l (suc i) (z ∷ xs) (w ∷ ys) zero (suc v) x y next at at' less first is heavy =
      let e : z ≡ x = some-same at in
      next.1 (subst (λ (a : X). l ≤ weigh a) (sym e) heavy) (has_part part xs v y (part z) at' (is ∙ ap part (sym e)))
  next_first l (suc i) (z ∷ xs) (w ∷ ys) (suc u) (suc v) x y next at at' less first is heavy =
      next_first l i xs ys u v x y next.2 at at' (omega (arith, less)) (omega (arith, first)) is heavy

  -- no cut before it saves as much
  pub no_earlier_cut : (l i : ℕ) (xs ys : List X) (k m : ℕ) → Descends part weigh xs → Goes l i xs ys → Cut xs k m → k < i → l ≤ m → ⊥
  no_earlier_cut l i xs ys k m d next c first heavy = which (compared c.place k)
    where
      which : Compared c.place k → ⊥
      which (is_more less) = let w = c.weighs in let f : weigh c.one ≤ weigh c.other = descends_at xs c.place k c.other c.one d c.other_at c.one_at less (sym c.same_part) in
          next_first l i xs ys c.place k c.other c.one next c.other_at c.one_at less (omega (arith, less, first)) (sym c.same_part) (omega (arith, f, w, heavy))
      which (is_same e) = c.elsewhere (sym e)
      which (is_less after) = let w = c.weighs in next_first l i xs ys k c.place c.one c.other next c.one_at c.other_at after first c.same_part (omega (arith, w, heavy))

  -- what the next one is
  pub record IsNextAt (l i : ℕ) (xs ys : List X) : Type 0 where
    pub one : X
    pub later : ℕ
    pub other : X
    pub one_at : slice_get xs i ≡ Some one
    pub other_at : slice_get xs later ≡ Some other
    pub after : i < later
    pub same_part : part other ≡ part one
    pub weighs : weigh one ≡ l
    pub left : ys ≡ remove xs i

  pub next_at : (l i : ℕ) (xs ys : List X) → Goes l i xs ys → IsNextAt l i xs ys
  next_at l i [] ys next = absurd next
  next_at l zero (x ∷ xs) ys next =
      let w = found part xs (part x) next.1 in
      record { one = x; later = suc w.number; other = w.item; one_at = refl; other_at = w.at; after = omega arith; same_part = w.is; weighs = next.0; left = next.2 }
  next_at l (suc i) (x ∷ xs) [] next = absurd next
  next_at l (suc i) (x ∷ xs) (y ∷ ys) next = which (next_at l i xs ys next.2)
    where
      which : IsNextAt l i xs ys → IsNextAt l (suc i) (x ∷ xs) (y ∷ ys)
      which w = record {
        one = w.one;
        later = suc w.later;
        other = w.other;
        one_at = w.one_at;
        other_at = w.other_at;
        after = (let after = w.after in omega (arith, after));
        same_part = w.same_part;
        weighs = w.weighs;
        left = ap (λ (z : X). z ∷ ys) next.0 ∙ ap (λ (zs : List X). x ∷ zs) w.left;
      }

  -- it is one less
  pub next_length : (l i : ℕ) (xs ys : List X) → Goes l i xs ys → length xs ≡ suc (length ys)
  next_length l i [] ys next = absurd next
  next_length l zero (x ∷ xs) ys next = ap (λ (zs : List X). suc (length zs)) (sym next.2)
  next_length l (suc i) (x ∷ xs) [] next = absurd next
  next_length l (suc i) (x ∷ xs) (y ∷ ys) next = ap suc (next_length l i xs ys next.2)
