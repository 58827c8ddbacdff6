-- The nodes and numbers of a shape.
use Rattle.std.proofs.Common.{List, ap, arith, false, get_or, length, suc, sym, ℕ, ◌+◌, ◌-◌, ◌<◌, ◌∙◌, ◌≡◌, ◌≤◌}
use Rattle.std.proofs.lemmas.Bool.{eqb-true}
use Rattle.css_model.specs.declared.selector.Combinator.{Combinator}
use Rattle.grid_laws.proofs.FromShape.NextNodes.{nodes_go}
use Rattle.grid_laws.proofs.FromShape.Steps.{ascends, own_up, row, runs, sides_between, waits_fit}
use Rattle.grid_laws.proofs.Walks.Placed.{Chained, nodes_in, place_of}
use Rattle.grid_laws.specs.Grid.{Grid, waits_at}
use Rattle.grid_laws.specs.Numbers.{Counted}
use Rattle.slot_plan.specs.Counts.{CountsFit}
use Rattle.slot_plan.specs.Steps.{is_parent, is_up}
use Rattle.slot_plan.specs.declared.shape.SlotStep.{SlotStep}
use Rattle.slot_plan.specs.declared.shape.SlotStep.TheVariants.{NextTo}

-- the nodes of a shape are a grid
pub shape_grid : (steps : List SlotStep) (xl yl : List Combinator) (ps qs : List ℕ) → Chained steps xl ps → Chained steps yl qs → Grid xl yl (nodes_in xl yl ps qs)
shape_grid steps xl yl ps qs x y = record {
  go = nodes_go (length xl) (length yl) (place_of 0 ps) (place_of 0 qs)
      (λ i h. ascends 0 ps i x.up (let e = x.same in omega arith)) (λ j h. ascends 0 qs j y.up (let e = y.same in omega arith));
  left = λ i j hi hj t.
      ap (waits_at yl j) (sym (own_up steps xl 0 ps i x.fit x.up x.bound (let e = x.same in omega arith)))
      ∙ waits_fit steps yl 0 qs j (place_of 0 ps (suc i)) y.fit y.up y.bound y.same (let e = y.same in omega arith) (grind arith) (λ h. let e = y.same in grind arith);
  right = λ i j hi hj t.
      ap (waits_at xl i) (sym (own_up steps yl 0 qs j y.fit y.up y.bound (let e = y.same in omega arith)))
      ∙ waits_fit steps xl 0 ps i (place_of 0 qs (suc j)) x.fit x.up x.bound x.same (let e = x.same in omega arith) (grind arith) (λ h. let e = x.same in grind arith);
  both = λ i j hi hj t.
      sym (own_up steps xl 0 ps i x.fit x.up x.bound (let e = x.same in omega arith))
      ∙ ap (is_parent steps) (eqb-true (place_of 0 ps (suc i)) (place_of 0 qs (suc j)) t)
      ∙ own_up steps yl 0 qs j y.fit y.up y.bound (let e = y.same in omega arith);
}

-- its numbers fit
pub shape_counted : (steps : List SlotStep) (bs aa : List ℕ) (xl yl : List Combinator) (ps qs : List ℕ) → CountsFit steps bs aa → Chained steps xl ps → Chained steps yl qs →
    Counted xl yl (nodes_in xl yl ps qs) (λ i. get_or bs (place_of 0 ps i) 0) (λ i. get_or aa (place_of 0 ps i) 0) (λ j. get_or bs (place_of 0 qs j) 0) (λ j. get_or aa (place_of 0 qs j) 0)
shape_counted steps bs aa xl yl ps qs fit x y = record {
  run_left = runs steps bs aa xl 0 ps fit x.fit x.up x.bound x.same;
  run_right = runs steps bs aa yl 0 qs fit y.fit y.up y.bound y.same;
  equal = λ i j hi hj t. let e = eqb-true (place_of 0 ps i) (place_of 0 qs j) t in (ap (λ (n : ℕ). get_or bs n 0) e, ap (λ (n : ℕ). get_or aa n 0) e);
  order_left = λ i j hi hj t u h.
      along (place_of 0 qs j) (place_of 0 ps (suc i)) (grind arith) (x.bound (suc i))
      (λ k low high. sides_between steps xl 0 ps i k x.fit (let e = x.same in omega arith) h (grind arith) high);
  order_right = λ i j hi hj t u h.
      along (place_of 0 ps i) (place_of 0 qs (suc j)) (grind arith) (y.bound (suc j))
      (λ k low high. sides_between steps yl 0 qs j k y.fit (let e = y.same in omega arith) h (grind arith) high);
}
  where
    along : (p q : ℕ) → p < q → q ≤ length steps → ((k : ℕ) → p ≤ k → k < q → is_up (get_or steps k NextTo) ≡ false) → get_or bs q 0 < get_or bs p 0
    along p q less inside sides =
        let r = row steps bs aa (q - p) p fit (λ t h. sides (p + t) (omega arith) (omega arith)) (omega arith) in
        let e : p + (q - p) ≡ q = omega arith in
        let w = ap (λ (n : ℕ). get_or bs n 0) e in
        omega (arith, r)
