-- Where steps lead from a place.
use Rattle.std.proofs.Common.{Bool, List, [], ap, arith, false, inl, inr, length, refl, subst, suc, sym, true, ◌++◌, ◌+◌, ◌<◌, ◌∷◌, ◌≡◌, ◌≤◌, ◌⊎◌}
use Rattle.std.proofs.lemmas.Bool.{eqb-true}
use Rattle.std.specs.Prelude.{List, [], if◌then◌else◌, suc, ◌<◌, ◌==◌, ◌∷◌, ◌≡◌}
use Rattle.slot_plan.specs.Steps.{AreSides}
use Rattle.slot_plan.specs.declared.shape.SlotStep.{SlotStep}
use Rattle.slot_plan.specs.declared.shape.SlotStep.TheVariants.{Further, NextTo, UpMore, UpOne}
use Rattle.shape_laws.proofs.Slots.SlotList.{step_to}
use Rattle.shape_laws.proofs.Visits.Order.{Ahead}
use Rattle.shape_laws.proofs.Visits.Places.{Place}

-- one step, between places
abbrev pub Moves : SlotStep → Place → Place → Type 0
Moves NextTo p q = (q.up ≡ p.up) × (q.left ≡ suc p.left)
Moves Further p q = (q.up ≡ p.up) × (suc p.left < q.left)
Moves UpOne p q = (q.up ≡ suc p.up) × (q.left ≡ 0)
Moves UpMore p q = (suc p.up < q.up) × (q.left ≡ 0)

-- steps, one after the other
abbrev pub Leads : List SlotStep → Place → Place → Type 0
Leads [] p q = p ≡ q
Leads (s ∷ ss) p q = (mid : Place) × Moves s p mid × Leads ss mid q

-- steps lead further up, or all of them lead to the left
pub leads_on : (ss : List SlotStep) (p q : Place) → Leads ss p q → (p.up < q.up) ⊎ ((q.up ≡ p.up) × (p.left + length ss ≤ q.left) × AreSides ss)
leads_on [] p q is = inr (ap (λ (r : Place). r.up) (sym is), (let e : p.left ≡ q.left = ap (λ (r : Place). r.left) is in omega arith), tt)
leads_on (s ∷ ss) p q (mid, move, rest) = by s move (leads_on ss mid q rest)
  where
    by : (s : SlotStep) → Moves s p mid → (mid.up < q.up) ⊎ ((q.up ≡ mid.up) × (mid.left + length ss ≤ q.left) × AreSides ss) → (p.up < q.up) ⊎ ((q.up ≡ p.up) × (p.left + length (s ∷ ss) ≤ q.left) × AreSides (s ∷ ss))
    by NextTo (same, l) (inl more) = inl (omega arith)
    by NextTo (same, l) (inr (row, n, sides)) = inr (omega arith, omega arith, (tt, sides))
    by Further (same, l) (inl more) = inl (omega arith)
    by Further (same, l) (inr (row, n, sides)) = inr (omega arith, omega arith, (tt, sides))
    by UpOne (u, l) (inl more) = inl (omega arith)
    by UpOne (u, l) (inr (row, n, sides)) = inl (omega arith)
    by UpMore (u, l) (inl more) = inl (omega arith)
    by UpMore (u, l) (inr (row, n, sides)) = inl (omega arith)

-- steps never lead down
pub leads_up : (ss : List SlotStep) (p q : Place) → Leads ss p q → p.up ≤ q.up
leads_up ss p q way = elim (leads_on ss p q way) [ inl more ↦ omega arith | inr row ↦ (let e : q.up ≡ p.up = row.0 in omega arith) ]

-- steps in two parts
pub leads_parts : (xs ys : List SlotStep) (p q : Place) → Leads (xs ++ ys) p q → (mid : Place) × Leads xs p mid × Leads ys mid q
leads_parts [] ys p q way = (p, refl, way)
leads_parts (x ∷ xs) ys p q (mid, move, way) = let rest = leads_parts xs ys mid q way in (rest.0, (mid, move, rest.1), rest.2)

-- the step from one place to a later one, by three comparisons
moves-pick : (p q : Place) (a b c : Bool) → (q.up == p.up) ≡ a → (q.left == suc p.left) ≡ b → (q.up == suc p.up) ≡ c → Ahead p q → Moves (if a then (if b then NextTo else Further) else (if c then UpOne else UpMore)) p q
moves-pick p q true true c e f g (inl (u, l)) = absurd (let h = eqb-true q.up p.up e in omega arith)
moves-pick p q true false c e f g (inl (u, l)) = absurd (let h = eqb-true q.up p.up e in omega arith)
moves-pick p q true true c e f g (inr (u, l)) = (u, eqb-true q.left (suc p.left) f)
moves-pick p q true false c e f g (inr (u, l)) = (u, grind arith)
moves-pick p q false b true e f g (inl (u, l)) = (eqb-true q.up (suc p.up) g, l)
moves-pick p q false b false e f g (inl (u, l)) = (grind arith, l)
moves-pick p q false b true e f g (inr (u, l)) = absurd (grind arith)
moves-pick p q false b false e f g (inr (u, l)) = absurd (grind arith)

-- so the step that is picked leads there
pub moves_step : (p q : Place) → Ahead p q → Moves (step_to p q) p q
moves_step p q ahead = moves-pick p q (q.up == p.up) (q.left == suc p.left) (q.up == suc p.up) refl refl refl ahead

-- two parts of steps, one after the other
pub leads_join : (xs ys : List SlotStep) (p mid q : Place) → Leads xs p mid → Leads ys mid q → Leads (xs ++ ys) p q
leads_join [] ys p mid q is way = subst (λ r. Leads ys r q) (sym is) way
leads_join (x ∷ xs) ys p mid q (r, move, rest) way = (r, move, leads_join xs ys r mid q rest way)
