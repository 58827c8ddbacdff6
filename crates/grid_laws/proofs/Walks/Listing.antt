-- The lists of a shape, from the slots that a walk lays.
use Rattle.std.proofs.Common.{Bool, List, [], ap, arith, false, length, map, refl, subst, suc, sym, true, zero, ℕ, ◌++◌, ◌+◌, ◌<◌, ◌∙◌, ◌∷◌, ◌≡◌, ◌≤◌}
use Rattle.std.proofs.lemmas.List.{append_assoc, length-append}
use Rattle.std.specs.Bool.{MatchBool}
use Rattle.std.specs.List.{slice_range}
use Rattle.std.specs.Prelude.{if◌then◌else◌}
use Rattle.css_model.specs.declared.selector.Combinator.{Combinator}
use Rattle.grid_laws.proofs.Walks.Laid.{WalkFits}
use Rattle.grid_laws.proofs.Walks.Placed.{Chained, place_of}
use Rattle.grid_laws.specs.Grid.{Lays}
use Rattle.grid_laws.specs.Slots.{Laid, laid_at}
use Rattle.slot_plan.specs.Steps.{LinkFits, LinksFit}
use Rattle.slot_plan.specs.ValidShape.{Ascend}
use Rattle.slot_plan.specs.declared.shape.SlotStep.{SlotStep}
use Rattle.shape_laws.proofs.ForCallers.{slice_range_between}

abbrev pub steps_of : List Laid → List SlotStep
steps_of ss = map (λ s. s.step) ss

-- the lists of slots that a walk lays fit
lists_fit : (one : Lays → Bool) (front mids : List SlotStep) (links : List Combinator) (a k : ℕ) (ss : List Laid) → length front ≡ a → a + length mids ≡ k → WalkFits one links mids ss →
    LinksFit (front ++ (mids ++ steps_of ss)) links a (laid_at one (suc k) ss)
lists_fit one front mids links a k [] e f fit = tt
lists_fit one front mids [] a k (s ∷ ss) e f (no_more, fit) =
    subst (λ b. LinksFit (front ++ (mids ++ s.step ∷ steps_of ss)) [] a (if b then suc k ∷ laid_at one (suc (suc k)) ss else laid_at one (suc (suc k)) ss)) (sym no_more)
    (subst (λ steps. LinksFit steps [] a (laid_at one (suc (suc k)) ss)) (ap (λ rest. front ++ rest) (append_assoc mids (s.step ∷ []) (steps_of ss)))
    (lists_fit one front (mids ++ s.step ∷ []) [] a (suc k) ss e (let l = length-append mids (s.step ∷ []) in omega arith) fit))
lists_fit one front mids (link ∷ links) a k (s ∷ ss) e f fit = by (one s.lays) fit
    (λ more. lists_fit one (front ++ (mids ++ s.step ∷ [])) [] links (suc k) (suc k) ss (let l = length-append front (mids ++ s.step ∷ []) in let l' = length-append mids (s.step ∷ []) in omega arith) (omega arith) more)
    (λ more. lists_fit one front (mids ++ s.step ∷ []) (link ∷ links) a (suc k) ss e (let l = length-append mids (s.step ∷ []) in omega arith) more)
  where
    longer : front ++ (mids ++ s.step ∷ steps_of ss) ≡ front ++ ((mids ++ s.step ∷ []) ++ steps_of ss)
    longer = ap (λ rest. front ++ rest) (sym (append_assoc mids (s.step ∷ []) (steps_of ss)))

    by : (b : Bool) → MatchBool b (LinkFits link (mids ++ s.step ∷ []) × WalkFits one links [] ss) (WalkFits one (link ∷ links) (mids ++ s.step ∷ []) ss) →
        (WalkFits one links [] ss → LinksFit ((front ++ (mids ++ s.step ∷ [])) ++ ([] ++ steps_of ss)) links (suc k) (laid_at one (suc (suc k)) ss)) →
        (WalkFits one (link ∷ links) (mids ++ s.step ∷ []) ss → LinksFit (front ++ ((mids ++ s.step ∷ []) ++ steps_of ss)) (link ∷ links) a (laid_at one (suc (suc k)) ss)) →
        LinksFit (front ++ (mids ++ s.step ∷ steps_of ss)) (link ∷ links) a (if b then suc k ∷ laid_at one (suc (suc k)) ss else laid_at one (suc (suc k)) ss)
    by true (here, more) yes' no' = (
      subst (λ steps. LinkFits link steps) (sym (ap (λ steps. slice_range steps a (suc k)) longer ∙ slice_range_between front (mids ++ s.step ∷ []) (steps_of ss) a (suc k) e (let l = length-append mids (s.step ∷ []) in omega arith))) here,
      subst (λ steps. LinksFit steps links (suc k) (laid_at one (suc (suc k)) ss)) (append_assoc front (mids ++ s.step ∷ []) (steps_of ss) ∙ sym longer) (yes' more),
    )
    by false more yes' no' = subst (λ steps. LinksFit steps (link ∷ links) a (laid_at one (suc (suc k)) ss)) (sym longer) (no' more)

-- they ascend
lists_ascend : (one : Lays → Bool) (a k : ℕ) (ss : List Laid) → a < k → Ascend a (laid_at one k ss)
lists_ascend one a k [] h = tt
lists_ascend one a k (s ∷ ss) h = by (one s.lays) (lists_ascend one k (suc k) ss (omega arith)) (lists_ascend one a (suc k) ss (omega arith))
  where
    by : (b : Bool) → Ascend k (laid_at one (suc k) ss) → Ascend a (laid_at one (suc k) ss) → Ascend a (if b then k ∷ laid_at one (suc k) ss else laid_at one (suc k) ss)
    by true yes' no' = (h, yes')
    by false yes' no' = no'

-- one slot for each combinator
lists_same : (one : Lays → Bool) (links : List Combinator) (mids : List SlotStep) (k : ℕ) (ss : List Laid) → WalkFits one links mids ss → length links ≡ length (laid_at one k ss)
lists_same one links mids k [] fit = ap length fit
lists_same one [] mids k (s ∷ ss) (no_more, fit) =
    lists_same one [] (mids ++ s.step ∷ []) (suc k) ss fit ∙ ap (λ b. length (if b then k ∷ laid_at one (suc k) ss else laid_at one (suc k) ss)) (sym no_more)
lists_same one (link ∷ links) mids k (s ∷ ss) fit = by (one s.lays) fit (λ more. lists_same one links [] (suc k) ss more) (λ more. lists_same one (link ∷ links) (mids ++ s.step ∷ []) (suc k) ss more)
  where
    by : (b : Bool) → MatchBool b (LinkFits link (mids ++ s.step ∷ []) × WalkFits one links [] ss) (WalkFits one (link ∷ links) (mids ++ s.step ∷ []) ss) →
        (WalkFits one links [] ss → length links ≡ length (laid_at one (suc k) ss)) → (WalkFits one (link ∷ links) (mids ++ s.step ∷ []) ss → length (link ∷ links) ≡ length (laid_at one (suc k) ss)) →
        length (link ∷ links) ≡ length (if b then k ∷ laid_at one (suc k) ss else laid_at one (suc k) ss)
    by true (here, more) yes' no' = ap suc (yes' more)
    by false more yes' no' = no' more

-- no slot is beyond the last one
lists_bound : (one : Lays → Bool) (p k : ℕ) (ss : List Laid) (i : ℕ) → p < k + length ss + 1 → p ≤ k → place_of p (laid_at one (suc k) ss) i ≤ k + length ss
lists_bound one p k [] zero h l = omega arith
lists_bound one p k [] (suc i) h l = omega arith
lists_bound one p k (s ∷ ss) i h l = by (one s.lays) i
    (λ i. let ih = lists_bound one (suc k) (suc k) ss i (omega arith) (omega arith) in omega (arith, ih))
    (λ i. let ih = lists_bound one p (suc k) ss i (omega arith) (omega arith) in omega (arith, ih))
  where
    by : (b : Bool) (i : ℕ) → ((i : ℕ) → place_of (suc k) (laid_at one (suc (suc k)) ss) i ≤ k + length (s ∷ ss)) → ((i : ℕ) → place_of p (laid_at one (suc (suc k)) ss) i ≤ k + length (s ∷ ss)) →
        place_of p (if b then suc k ∷ laid_at one (suc (suc k)) ss else laid_at one (suc (suc k)) ss) i ≤ k + length (s ∷ ss)
    by true zero yes' no' = omega arith
    by true (suc i) yes' no' = yes' i
    by false i yes' no' = no' i

-- one step into each slot
pub length_steps : (ss : List Laid) → length (steps_of ss) ≡ length ss
length_steps [] = refl
length_steps (s ∷ ss) = ap suc (length_steps ss)

-- the lists of a walk for one selector
pub chained : (one : Lays → Bool) (links : List Combinator) (ss : List Laid) → WalkFits one links [] ss → Chained (steps_of ss) links (laid_at one 1 ss)
chained one links ss fit = record {
  fit = lists_fit one [] [] links 0 0 ss refl (omega arith) fit;
  up = lists_ascend one 0 1 ss (omega arith);
  bound = λ k. (let b = lists_bound one 0 0 ss k (omega arith) (omega arith) in let l = length_steps ss in omega arith);
  same = lists_same one links [] 1 ss fit;
}
