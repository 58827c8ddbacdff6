-- A candidate that is on the watch list under each pair of what blocks its step.
use Rattle.std.proofs.Common.{◌≡◌, ◌⊎◌, List, [], ◌∷◌, refl, subst, inl, inr}
use Rattle.std.specs.List.{Contains}
use Rattle.css_model.specs.Cascade.Order.{Pair}
use Rattle.css_model.specs.declared.sheet.Item.{Item}
use Rattle.queue_laws.specs.Remembering.{entry_of, pairs_of}
use Rattle.step_queue.specs.declared.watch_list.Entry.{Entry}
use Rattle.step_queue.specs.declared.candidate.Candidate.{Candidate}
use Rattle.list_facts.proofs.Members.{Contains-cons_cases, Contains-nil}
use Rattle.obstacles.specs.Blocking.{IsAt, IsOther, Names}
use Rattle.obstacles.specs.declared.obstacle.Obstacle.{Obstacle}
use Rattle.obstacles.specs.declared.obstacle.Other.{Other}
use Rattle.obstacles.specs.declared.obstacle.Other.TheVariants as others
use Rattle.obstacles.specs.declared.obstacle.PairPlace.{PairPlace}
use Rattle.plan_laws.specs.Barrier.Hindering.{Hindrance, OfPair, OfKept}

module _ (items : List Item) (o : Obstacle) (candidate : Candidate) (between new : List Entry) (moved : (p : Pair) → IsAt items o.moved p → Contains between (entry_of p candidate)) (more : (x : Entry) → Contains between x → Contains new x)
    (other : (place : PairPlace) (p : Pair) → o.other ≡ others.Pair place → IsAt items place p → Contains new (entry_of p candidate)) where
  moved_put : (a : Pair) → IsAt items o.moved a → Contains new (entry_of a candidate)
  moved_put a at = more (entry_of a candidate) (moved a at)

  other_put : (a b : Pair) (x : Other) → o.other ≡ x → IsOther items x (OfPair a b) → Contains new (entry_of b candidate)
  other_put a b (others.Pair place) is at = other place b is at
  other_put a b (others.Kept n) is none = absurd none

  pub named_put : (by : Hindrance) → Names items o by → (p : Pair) → Contains (pairs_of by) p → Contains new (entry_of p candidate)
  named_put (OfPair a b) names p among = which (Contains-cons_cases a (b ∷ []) p among)
    where
      last : (b ≡ p) ⊎ Contains [] p → Contains new (entry_of p candidate)
      last (inl e) = subst (λ (q : Pair). Contains new (entry_of q candidate)) e (other_put a b o.other refl names.other)
      last (inr g) = absurd (Contains-nil p g)

      which : (a ≡ p) ⊎ Contains (b ∷ []) p → Contains new (entry_of p candidate)
      which (inl e) = subst (λ (q : Pair). Contains new (entry_of q candidate)) e (moved_put a names.moved)
      which (inr g) = last (Contains-cons_cases b [] p g)
  named_put (OfKept a n) names p among = which (Contains-cons_cases a [] p among)
    where
      which : (a ≡ p) ⊎ Contains [] p → Contains new (entry_of p candidate)
      which (inl e) = subst (λ (q : Pair). Contains new (entry_of q candidate)) e (moved_put a names.moved)
      which (inr g) = absurd (Contains-nil p g)
