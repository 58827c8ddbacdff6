-- The steps between the slots of two compounds are as their combinator asks.
use Rattle.std.proofs.Common.{Bool, List, [], ap, arith, false, inl, inr, length, refl, subst, suc, sym, take, true, ℕ, ◌++◌, ◌+◌, ◌-◌, ◌∙◌, ◌∷◌, ◌≡◌, ◌≤◌}
use Rattle.std.proofs.lemmas.List.{append_assoc, drop_at, length-append, take_at}
use Rattle.std.specs.List.{slice_range}
use Rattle.std.specs.Prelude.{if◌then◌else◌}
use Rattle.css_model.specs.declared.selector.Combinator.{Combinator}
use Rattle.css_model.specs.declared.selector.Combinator.TheVariants.{Child, Inside, Later, Next}
use Rattle.slot_plan.specs.Steps.{LinkFits, LinksFit}
use Rattle.slot_plan.specs.declared.shape.SlotStep.{SlotStep}
use Rattle.slot_plan.specs.declared.shape.SlotStep.TheVariants.{Further, NextTo, UpMore, UpOne}
use Rattle.shape_laws.proofs.Lists.{Snoc, empty, last, snoc}
use Rattle.shape_laws.proofs.Slots.Moves.{Leads, Moves, leads_join, leads_on, leads_parts, leads_up, moves_step}
use Rattle.shape_laws.proofs.Slots.SlotList.{Slot, SlotsRise, numbers_where, places_where, step_to, steps_from}
use Rattle.shape_laws.proofs.Visits.Places.{Joins, Place, Trail}

-- no steps
no_steps : (ss : List SlotStep) → length ss ≤ 0 → ss ≡ []
no_steps [] h = refl
no_steps (s ∷ ss) h = absurd (omega arith)

-- the steps of a row that end in the place directly to the left
next_fits : (ss : List SlotStep) (p q : Place) → (q.up ≡ p.up) → (q.left ≡ suc p.left) → Leads ss p q → ss ≡ NextTo ∷ []
next_fits [] p q u l is = absurd (let e : p.left ≡ q.left = ap (λ (r : Place). r.left) is in omega arith)
next_fits (NextTo ∷ ss) p q u l (mid, move, way) = elim (leads_on ss mid q way) [
  | inl more ↦ absurd (omega (arith, move))
  | inr row ↦ ap (λ rest. NextTo ∷ rest) (no_steps ss (omega (arith, move, row.1)))
]
next_fits (Further ∷ ss) p q u l (mid, move, way) = absurd (elim (leads_on ss mid q way) [ inl more ↦ omega (arith, move) | inr row ↦ omega (arith, move, row.1) ])
next_fits (UpOne ∷ ss) p q u l (mid, move, way) = absurd (let h = leads_up ss mid q way in omega (arith, move))
next_fits (UpMore ∷ ss) p q u l (mid, move, way) = absurd (let h = leads_up ss mid q way in omega (arith, move))

-- the steps that end at the parent
child_fits : (ss : List SlotStep) (p q : Place) → (q.up ≡ suc p.up) → (q.left ≡ 0) → Leads ss p q → LinkFits Child ss
child_fits [] p q u l is = absurd (let e : p.up ≡ q.up = ap (λ (r : Place). r.up) is in omega arith)
child_fits (NextTo ∷ ss) p q u l (mid, move, way) =
    let rest = child_fits ss mid q (u ∙ ap suc (sym move.0)) l way in (NextTo ∷ rest.0, ap (λ more. NextTo ∷ more) rest.1, (tt, rest.2))
child_fits (Further ∷ ss) p q u l (mid, move, way) =
    let rest = child_fits ss mid q (u ∙ ap suc (sym move.0)) l way in (Further ∷ rest.0, ap (λ more. Further ∷ more) rest.1, (tt, rest.2))
child_fits (UpOne ∷ ss) p q u l (mid, move, way) = elim (leads_on ss mid q way) [
  | inl more ↦ absurd (omega (arith, move))
  | inr row ↦ ([], ap (λ rest. UpOne ∷ rest) (no_steps ss (omega (arith, row.1))), tt)
]
child_fits (UpMore ∷ ss) p q u l (mid, move, way) = absurd (let h = leads_up ss mid q way in omega (arith, move))

-- steps that lead where a combinator joins are steps that it allows
joins_fits : (link : Combinator) (ss : List SlotStep) (p q : Place) → Joins link p q → Leads ss p q → LinkFits link ss
joins_fits Next ss p q (u, l) way = next_fits ss p q u l way
joins_fits Later ss p q (u, l) way = elim (leads_on ss p q way) [ inl more ↦ absurd (omega arith) | inr row ↦ row.2 ]
joins_fits Child ss p q (u, l) way = child_fits ss p q u l way
joins_fits Inside ss p q (u, l) way = by (snoc ss)
  where
    end : (front : List SlotStep) (s : SlotStep) (mid : Place) → ss ≡ front ++ s ∷ [] → Moves s mid q → LinkFits Inside ss
    end front NextTo mid is move = absurd (omega (arith, move))
    end front Further mid is move = absurd (omega (arith, move))
    end front UpOne mid is move = (front, UpOne, is, tt)
    end front UpMore mid is move = (front, UpMore, is, tt)

    by : Snoc ss → LinkFits Inside ss
    by (empty none) = absurd (let e : p ≡ q = subst (λ steps. Leads steps p q) none way in let f : p.up ≡ q.up = ap (λ (r : Place). r.up) e in omega arith)
    by (last front s is) =
        let parts = leads_parts front (s ∷ []) p q (subst (λ steps. Leads steps p q) is way) in
        end front s parts.0 is (subst (λ r. Moves s parts.0 r) parts.2.2 parts.2.1)

-- a part of a list between two numbers
pub slice_range_between : {A : Type 0} (front mids rest : List A) (a k : ℕ) → length front ≡ a → a + length mids ≡ k → slice_range (front ++ (mids ++ rest)) a k ≡ mids
slice_range_between front mids rest a k e f =
    ap (λ more. take (k - a) more) (drop_at front (mids ++ rest) a e)
    ∙ take_at mids rest (k - a) (omega arith)

-- Slots in order, where those of one selector are joined as its combinators ask, have such steps between them.
-- `front` are the steps up to its last compound, `mids` those since.
pub links_fit : (in_one : Slot → Bool) (front mids : List SlotStep) (links : List Combinator) (a k : ℕ) (p c : Place) (ss : List Slot) →
    length front ≡ a → a + length mids ≡ k → Leads mids p c → SlotsRise c ss → Trail links p (places_where in_one ss) →
    LinksFit (front ++ (mids ++ steps_from c ss)) links a (numbers_where in_one (suc k) ss)
links_fit in_one front mids links a k p c [] e f way _ _ = tt
links_fit in_one front mids links a k p c (s ∷ ss) e f way (to, up) joins =
    by (in_one s) links joins
    (λ links joins. subst (λ steps. LinksFit steps links (suc k) (numbers_where in_one (suc (suc k)) ss)) (sym anew) (links_fit in_one (front ++ (mids ++ step_to c s.place ∷ [])) [] links (suc k) (suc k) s.place s.place ss counted (omega arith) refl up joins))
    (λ links joins. subst (λ steps. LinksFit steps links a (numbers_where in_one (suc (suc k)) ss)) (sym longer) (links_fit in_one front (mids ++ step_to c s.place ∷ []) links a (suc k) p s.place ss e more to_here up joins))
  where
    to_here : Leads (mids ++ step_to c s.place ∷ []) p s.place
    to_here = leads_join mids (step_to c s.place ∷ []) p c s.place way (s.place, moves_step c s.place to, refl)

    more : a + length (mids ++ step_to c s.place ∷ []) ≡ suc k
    more = let l : length (mids ++ step_to c s.place ∷ []) ≡ length mids + 1 = length-append mids (step_to c s.place ∷ []) in omega arith

    counted : length (front ++ (mids ++ step_to c s.place ∷ [])) ≡ suc k
    counted = let l = length-append front (mids ++ step_to c s.place ∷ []) in omega (arith, l, more, e)

    longer : front ++ (mids ++ step_to c s.place ∷ steps_from s.place ss) ≡ front ++ ((mids ++ step_to c s.place ∷ []) ++ steps_from s.place ss)
    longer = ap (λ rest. front ++ rest) (sym (append_assoc mids (step_to c s.place ∷ []) (steps_from s.place ss)))

    anew : front ++ (mids ++ step_to c s.place ∷ steps_from s.place ss) ≡ (front ++ (mids ++ step_to c s.place ∷ [])) ++ ([] ++ steps_from s.place ss)
    anew = longer ∙ sym (append_assoc front (mids ++ step_to c s.place ∷ []) (steps_from s.place ss))

    by : (b : Bool) (links : List Combinator) → Trail links p (if b then s.place ∷ places_where in_one ss else places_where in_one ss) →
        ((links : List Combinator) → Trail links s.place (places_where in_one ss) → LinksFit (front ++ (mids ++ step_to c s.place ∷ steps_from s.place ss)) links (suc k) (numbers_where in_one (suc (suc k)) ss)) →
        ((links : List Combinator) → Trail links p (places_where in_one ss) → LinksFit (front ++ (mids ++ step_to c s.place ∷ steps_from s.place ss)) links a (numbers_where in_one (suc (suc k)) ss)) →
        LinksFit (front ++ (mids ++ step_to c s.place ∷ steps_from s.place ss)) links a (if b then suc k ∷ numbers_where in_one (suc (suc k)) ss else numbers_where in_one (suc (suc k)) ss)
    by true [] joins yes' no' = absurd joins
    by true (link ∷ links) (join, joins) yes' no' = (
      subst (λ steps. LinkFits link steps) (sym (ap (λ steps. slice_range steps a (suc k)) longer ∙ slice_range_between front (mids ++ step_to c s.place ∷ []) (steps_from s.place ss) a (suc k) e more)) (joins_fits link (mids ++ step_to c s.place ∷ []) p s.place join to_here),
      yes' links joins,
    )
    by false links joins yes' no' = no' links joins
