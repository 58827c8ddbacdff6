-- A candidate put to those that were found.
use Rattle.std.proofs.Common.{◌≡◌, ◌⊎◌, List, Option, Some, None, sym, ◌∙◌, subst, inl, inr}
use Rattle.std.specs.List.{Contains}
use Rattle.cascade_laws.proofs.ForCallers.{some-same}
use Rattle.step_queue.specs.declared.candidate.Candidate.{Candidate}
use Rattle.step_queue.specs.Told.{candidate_told}
use Rattle.next_step.specs.Looking.{FoundParts, IsAmong, Keeps, KeepsLast, ReachesLast}

abbrev pub found_of : List Candidate → Option Candidate → FoundParts
found_of candidates others = record { candidates = candidates; others = others }

module _ (candidates candidates' : List Candidate) (others others' late : Option Candidate) where
  -- where one goes, the first of the others does not come later
  pub found_keeps : ((l : Candidate) → Contains candidates l → Contains candidates' l ⊎ (late ≡ Some l)) → KeepsLast others others' → ((l : Candidate) → late ≡ Some l → ReachesLast others' (candidate_told l).priority) →
      Keeps (found_of candidates others) (found_of candidates' others')
  found_keeps stay keeps reached t (inl (l, among, priority)) = which (stay l among)
    where
      which : Contains candidates' l ⊎ (late ≡ Some l) → ((x : Candidate) × Contains candidates' x × ((candidate_told x).priority ≡ t)) ⊎ ReachesLast others' t
      which (inl h) = inl (l, h, priority)
      which (inr e) = inr (subst (ReachesLast others') priority (reached l e))
  found_keeps stay keeps reached t (inr h) = inr (keeps t h)

  pub found_only : (candidate : Candidate) → ((l : Candidate) → Contains candidates' l → Contains candidates l ⊎ (l ≡ candidate)) → ((l : Candidate) → others' ≡ Some l → (others ≡ Some l) ⊎ (Contains candidates l ⊎ (l ≡ candidate))) →
      (l : Candidate) → IsAmong (found_of candidates' others') l → IsAmong (found_of candidates others) l ⊎ (l ≡ candidate)
  found_only candidate only last l (inl h) = which (only l h)
    where
      which : Contains candidates l ⊎ (l ≡ candidate) → IsAmong (found_of candidates others) l ⊎ (l ≡ candidate)
      which (inl g) = inl (inl g)
      which (inr e) = inr e
  found_only candidate only last l (inr h) = which (last l h)
    where
      which : (others ≡ Some l) ⊎ (Contains candidates l ⊎ (l ≡ candidate)) → IsAmong (found_of candidates others) l ⊎ (l ≡ candidate)
      which (inl e) = inl (inr e)
      which (inr (inl g)) = inl (inl g)
      which (inr (inr e)) = inr e

-- nothing goes where there is room
pub none_goes : (late : Option Candidate) (others : Option Candidate) → late ≡ None → (l : Candidate) → late ≡ Some l → ReachesLast others (candidate_told l).priority
none_goes late others none l is = absurd (let e : None ≡ Some l = sym none ∙ is in cc)

-- what goes is reached as the one that went is
pub one_goes : (late others : Option Candidate) (x : Candidate) → late ≡ Some x → ReachesLast others (candidate_told x).priority → (l : Candidate) → late ≡ Some l → ReachesLast others (candidate_told l).priority
one_goes late others x was reached l is = subst (λ (y : Candidate). ReachesLast others (candidate_told y).priority) (some-same (sym was ∙ is)) reached

pub last_only : (candidates : List Candidate) (others others' : Option Candidate) (late candidate : Candidate) → (others' ≡ others) ⊎ (others' ≡ Some late) → Contains candidates late ⊎ (late ≡ candidate) →
    (l : Candidate) → others' ≡ Some l → (others ≡ Some l) ⊎ (Contains candidates l ⊎ (l ≡ candidate))
last_only candidates others others' late candidate (inl e) was l is = inl (sym e ∙ is)
last_only candidates others others' late candidate (inr e) was l is = inr (subst (λ (x : Candidate). Contains candidates x ⊎ (x ≡ candidate)) (some-same (sym e ∙ is)) was)
