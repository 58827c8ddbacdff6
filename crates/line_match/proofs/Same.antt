-- Equality decides whether the same is known.
use Rattle.std.proofs.Common.{◌≡◌, Bool, true, ◌&&◌, List, Decides, refl, subst}
use Rattle.std.proofs.lemmas.Bool.{and_parts}
use Rattle.std.specs.Cmp.{booleans_Decides}
use Rattle.std.specs.Cmp.Lexicographic.{pointwise, pointwise_decides}
use mathlib.Core.Bool.{beq}
use Rattle.cascade_laws.specs.declared.reaching.Reached.{Reached}
use Rattle.cascade_laws.specs.contracts.reaching.ReachedPartialEq.TheImpl as reached

abbrev known_at : Bool → Bool → Bool → Bool → Bool → Reached
known_at h n l c i = record { here = h; next = n; later = l; child = c; inside = i }

whole : (h h' n n' l l' c c' i i' : Bool) → h ≡ h' → n ≡ n' → l ≡ l' → c ≡ c' → i ≡ i' → known_at h n l c i ≡ known_at h' n' l' c' i'
whole h h' n n' l l' c c' i i' eh en el ec ei = cc

reached_decides : (a b : Reached) → Decides ((reached.ghosts).eq a b) (a ≡ b)
reached_decides a b = (
  λ t.
      let (here, after_here) = and_parts (beq a.here b.here) (beq a.next b.next && (beq a.later b.later && (beq a.child b.child && beq a.inside b.inside))) t in
      let (next, after_next) = and_parts (beq a.next b.next) (beq a.later b.later && (beq a.child b.child && beq a.inside b.inside)) after_here in
      let (later, after_later) = and_parts (beq a.later b.later) (beq a.child b.child && beq a.inside b.inside) after_next in
      let (child, inside) = and_parts (beq a.child b.child) (beq a.inside b.inside) after_later in
      let h : a.here ≡ b.here = (booleans_Decides a.here b.here).0 here in
      let n : a.next ≡ b.next = (booleans_Decides a.next b.next).0 next in
      let l : a.later ≡ b.later = (booleans_Decides a.later b.later).0 later in
      let c : a.child ≡ b.child = (booleans_Decides a.child b.child).0 child in
      let i : a.inside ≡ b.inside = (booleans_Decides a.inside b.inside).0 inside in
      whole a.here b.here a.next b.next a.later b.later a.child b.child a.inside b.inside h n l c i,
  λ e. subst (λ (x : Reached). (reached.ghosts).eq a x ≡ true) e (itself a),
)
  where
    same : (x : Bool) → beq x x ≡ true
    same x = (booleans_Decides x x).1 refl

    itself : (a : Reached) → (reached.ghosts).eq a a ≡ true
    itself a = simp same

pub known_decides : (a b : List Reached) → Decides (pointwise (reached.ghosts).eq a b) (a ≡ b)
known_decides = pointwise_decides reached_decides
