-- What holds of the slots that a walk through the grid lays.
use Rattle.std.specs.Bool.{MatchBool}
use Rattle.std.specs.Prelude.{Bool, List, [], false, suc, true, ℕ, ◌++◌, ◌∷◌, ◌≡◌}
use Rattle.css_model.specs.declared.selector.Combinator.{Combinator}
use Rattle.grid_laws.specs.Grid.{Lays, Nodes, left_alone, right_alone, together}
use Rattle.grid_laws.specs.Slots.{Laid}
use Rattle.slot_plan.specs.Steps.{LinkFits}
use Rattle.slot_plan.specs.declared.shape.SlotStep.{SlotStep}

-- the steps are as one selector's combinators ask, where `mids` are those since its last compound: all its compounds are laid
abbrev pub WalkFits : (Lays → Bool) → List Combinator → List SlotStep → List Laid → Type 0
WalkFits one links mids [] = links ≡ []
WalkFits one [] mids (s ∷ ss) = (one s.lays ≡ false) × WalkFits one [] (mids ++ s.step ∷ []) ss
WalkFits one (link ∷ links) mids (s ∷ ss) = MatchBool (one s.lays)
    (LinkFits link (mids ++ s.step ∷ []) × WalkFits one links [] ss)
    (WalkFits one (link ∷ links) (mids ++ s.step ∷ []) ss)

-- the counts in the slots of a chain's compounds are its numbers
abbrev pub NumbersAt : (Lays → Bool) → (ℕ → ℕ) → (ℕ → ℕ) → List Laid → Type 0
NumbersAt one b a [] = Unit {0}
NumbersAt one b a (s ∷ ss) = MatchBool (one s.lays)
    ((s.before ≡ b 0) × (s.after ≡ a 0) × NumbersAt one (λ i. b (suc i)) (λ i. a (suc i)) ss)
    (NumbersAt one b a ss)

-- the nodes of the slots are true
abbrev pub On : Nodes → List Laid → Type 0
On v [] = Unit {0}
On v (s ∷ ss) = elim s.lays [
  | left_alone ↦ (v left_alone 1 0 ≡ true) × On (λ k i j. v k (suc i) j) ss
  | right_alone ↦ (v right_alone 0 1 ≡ true) × On (λ k i j. v k i (suc j)) ss
  | together ↦ (v together 1 1 ≡ true) × On (λ k i j. v k (suc i) (suc j)) ss
]
