-- The places that a matching visits.
use Rattle.std.proofs.Common.{List, [], ap, arith, get_or, inl, inr, length, refl, suc, sym, take, ℕ, ◌++◌, ◌+◌, ◌-◌, ◌∙◌, ◌∷◌, ◌≡◌, ◌≤◌}
use Rattle.std.proofs.lemmas.List.{append_assoc, get_or_at, length-append, same_from_push, take_at}
use Rattle.std.specs.List.{AllZip}
use Rattle.css_model.specs.Documents.Document.{Document}
use Rattle.css_model.specs.Documents.Matching.{Allows, MatchesFrom}
use Rattle.css_model.specs.declared.selector.Combinator.{Combinator}
use Rattle.css_model.specs.declared.selector.Combinator.TheVariants.{Child, Inside, Later, Next}
use Rattle.css_model.specs.declared.selector.Simple.{Simple}
use Rattle.shape_laws.proofs.Lists.{Snoc, append_some, empty, last, push_some, snoc}
use Rattle.shape_laws.proofs.Visits.Order.{Behind}
use Rattle.shape_laws.proofs.Visits.Places.{HoldsIn, IsPlace, Joins, Place, Trail, child, root}

-- a front of the target's path is the place of the parent so many steps up
front_place : (target other below : List ℕ) → target ≡ other ++ below → IsPlace target (record { up = length below; left = 0 }) other
front_place target other below e = by (snoc other)
  where
    by : Snoc other → IsPlace target (record { up = length below; left = 0 }) other
    by (empty none) = root (ap length e ∙ ap (λ o. length (o ++ below)) none) refl none
    by (last parent i is) = child parent i below (e ∙ ap (λ o. o ++ below) is ∙ append_assoc parent (i ∷ []) below ∙ ap (λ (j : ℕ). parent ++ j ∷ below) (omega arith)) refl is

-- where a combinator allows another path, that is a place which the combinator joins
visit : (target path other : List ℕ) (p : Place) (link : Combinator) → IsPlace target p path → Allows link path other → (q : Place) × Joins link p q × IsPlace target q other
visit target path other p Child (root _ _ none) (i, is) = absurd (push_some other i (sym is ∙ none))
visit target path other p Child (child parent i below at n is) (j, more) =
    let same = same_from_push parent other i j (sym is ∙ more) in (
      record { up = length ((p.left + i) ∷ below); left = 0 },
      ((let h : length below ≡ p.up = n in omega arith), refl),
      front_place target other ((p.left + i) ∷ below) (at ∙ ap (λ o. o ++ (p.left + i) ∷ below) same.0),
    )
visit target path other p Inside (root _ _ none) (rest, some, is) = absurd (some (append_some other rest (sym is ∙ none)))
visit target path other p Inside (child parent i below at n is) (rest, some, was) = by (snoc rest)
  where
    by : Snoc rest → (q : Place) × Joins Inside p q × IsPlace target q other
    by (empty none) = absurd (some none)
    by (last front x end) =
        let same = same_from_push parent (other ++ front) i x (sym is ∙ was ∙ ap (λ r. other ++ r) end ∙ sym (append_assoc other front (x ∷ []))) in
        let below' = front ++ (p.left + i) ∷ below in (
          record { up = length below'; left = 0 },
          ((let h : length below ≡ p.up = n in let l : length below' ≡ length front + length ((p.left + i) ∷ below) = length-append front ((p.left + i) ∷ below) in omega arith), refl),
          front_place target other below' (at ∙ ap (λ o. o ++ (p.left + i) ∷ below) same.0 ∙ append_assoc other front ((p.left + i) ∷ below)),
        )
visit target path other p Next (root _ _ none) (parent, i, is, _) = absurd (push_some parent (suc i) (sym is ∙ none))
visit target path other p Next (child parent i below at n is) (parent', j, was, now) =
    let same = same_from_push parent parent' i (suc j) (sym is ∙ was) in
    let there : p.left + i ≡ suc p.left + j = (let h : i ≡ suc j = same.1 in omega arith) in (
      record { up = p.up; left = suc p.left },
      (refl, refl),
      child parent j below (at ∙ ap (λ (k : ℕ). parent ++ k ∷ below) there) n (now ∙ ap (λ o. o ++ j ∷ []) (sym same.0)),
    )
visit target path other p Later (root _ _ none) (parent, i, j, is, _, _) = absurd (push_some parent i (sym is ∙ none))
visit target path other p Later (child parent i below at n is) (parent', j, k, was, now, less) =
    let same = same_from_push parent parent' i j (sym is ∙ was) in
    let there : p.left + i ≡ (p.left + (i - k)) + k = (let h : i ≡ j = same.1 in omega arith) in (
      record { up = p.up; left = p.left + (i - k) },
      (refl, (let h : i ≡ j = same.1 in omega arith)),
      child parent k below (at ∙ ap (λ (m : ℕ). parent ++ m ∷ below) there) n (now ∙ ap (λ o. o ++ k ∷ []) (sym same.0)),
    )

-- the element at a path holds up a compound
pub trail : (doc : Document) (target : List ℕ) (chain : List (List Simple)) (links : List Combinator) (c : List Simple) (p : Place) (path : List ℕ) → IsPlace target p path → MatchesFrom doc (c ∷ chain) links path →
    (ps : List Place) × Trail links p ps × AllZip (HoldsIn doc target) (c ∷ chain) (p ∷ ps)
trail doc target [] links c p path at holds = ([], tt, ((path, at, holds), tt))
trail doc target (d ∷ chain) [] c p path at holds = absurd holds
trail doc target (d ∷ chain) (link ∷ links) c p path at holds =
    let other = holds.1.0 in
    let next = visit target path other p link at holds.1.1 in
    let rest = trail doc target chain links d next.0 other next.2 holds.1.2 in
    (next.0 ∷ rest.0, (next.1, rest.1), ((path, at, holds.0), rest.2))

-- a place has one path
pub one_path : (target : List ℕ) (p : Place) (path path' : List ℕ) → IsPlace target p path → IsPlace target p path' → path ≡ path'
one_path target p path path' (root _ _ e) (root _ _ e') = e ∙ sym e'
one_path target p path path' (root n _ e) (child parent i below at m is) = absurd (let l = length-append parent ((p.left + i) ∷ below) in let w = ap length at in omega arith)
one_path target p path path' (child parent i below at m is) (root n _ e) = absurd (let l = length-append parent ((p.left + i) ∷ below) in let w = ap length at in omega arith)
one_path target p path path' (child parent i below at m is) (child parent' i' below' at' m' is') =
    is ∙ ap (λ (j : ℕ). parent ++ j ∷ []) (let s = same_index in omega arith) ∙ ap (λ o. o ++ i' ∷ []) same_parent ∙ sym is'
  where
    n : length parent ≡ length target - suc p.up
    n = let l = length-append parent ((p.left + i) ∷ below) in let w = ap length at in omega arith

    n' : length parent' ≡ length target - suc p.up
    n' = let l = length-append parent' ((p.left + i') ∷ below') in let w = ap length at' in omega arith

    same_parent : parent ≡ parent'
    same_parent = sym (ap (take (length target - suc p.up)) at ∙ take_at parent ((p.left + i) ∷ below) (length target - suc p.up) n) ∙ (ap (take (length target - suc p.up)) at' ∙ take_at parent' ((p.left + i') ∷ below') (length target - suc p.up) n')

    same_index : p.left + i ≡ p.left + i'
    same_index = sym (ap (λ t. get_or t (length target - suc p.up) 0) at ∙ get_or_at parent (p.left + i) below 0 (length target - suc p.up) n) ∙ (ap (λ t. get_or t (length target - suc p.up) 0) at' ∙ get_or_at parent' (p.left + i') below' 0 (length target - suc p.up) n')

-- the place of the target itself
pub start : (target : List ℕ) → IsPlace target (record { up = 0; left = 0 }) target
start target = by (snoc target)
  where
    by : Snoc target → IsPlace target (record { up = 0; left = 0 }) target
    by (empty e) = root (ap length e) refl e
    by (last parent i e) = child parent i [] (e ∙ ap (λ (j : ℕ). parent ++ j ∷ []) (let w : i ≡ 0 + i = omega arith in w)) refl e

-- no place is higher than the root, and the root has no siblings
pub height : (target : List ℕ) (p : Place) (path : List ℕ) → IsPlace target p path → (p.up ≤ length target) × (p.up ≡ length target → p.left ≡ 0)
height target p path (root n l is) = (omega arith, λ _. l)
height target p path (child parent i below at n is) = let w = length-append parent ((p.left + i) ∷ below) in let v = ap length at in (omega arith, λ h. absurd (omega arith))

-- one path has one place
pub same_place : (target : List ℕ) (p q : Place) (path : List ℕ) → IsPlace target p path → IsPlace target q path → Behind p q → ⊥
same_place target p q path (root n l is) (root n' l' is') b = elim b [ inl u ↦ omega arith | inr r ↦ (let w = r.1 in omega arith) ]
same_place target p q path (root n l is) (child parent i below at m is') b = let w = length-append parent (i ∷ []) in let v = ap length (sym is ∙ is') in omega arith
same_place target p q path (child parent i below at m is') (root n l is) b = let w = length-append parent (i ∷ []) in let v = ap length (sym is ∙ is') in omega arith
same_place target p q path (child parent i below at n is) (child parent' i' below' at' n' is') b =
    let w = length-append parent (i ∷ []) in let w' = length-append parent' (i' ∷ []) in let v = ap length (sym is ∙ is') in
    let t = length-append parent ((p.left + i) ∷ below) in let t' = length-append parent' ((q.left + i') ∷ below') in let z = ap length (sym at ∙ at') in
    let parents : length parent ≡ length parent' = omega arith in
    elim b [
      | inl u ↦ omega arith
      | inr r ↦ (let less = r.1 in let k = same_index (ap (λ o. get_or o (length parent) 0) (sym at ∙ at')) parents in let k' = same_last (ap (λ o. get_or o (length parent) 0) (sym is ∙ is')) parents in omega arith)
    ]
  where
    same_index : get_or (parent ++ (p.left + i) ∷ below) (length parent) 0 ≡ get_or (parent' ++ (q.left + i') ∷ below') (length parent) 0 → length parent ≡ length parent' → p.left + i ≡ q.left + i'
    same_index e l = sym (get_or_at parent (p.left + i) below 0 (length parent) refl) ∙ e ∙ get_or_at parent' (q.left + i') below' 0 (length parent) (sym l)

    same_last : get_or (parent ++ i ∷ []) (length parent) 0 ≡ get_or (parent' ++ i' ∷ []) (length parent) 0 → length parent ≡ length parent' → i ≡ i'
    same_last e l = sym (get_or_at parent i [] 0 (length parent) refl) ∙ e ∙ get_or_at parent' i' [] 0 (length parent) (sym l)
