-- Slots along true nodes.
use Rattle.std.proofs.Common.{Bool, List, [], ap, arith, length, refl, suc, sym, zero, ℕ, ◌++◌, ◌+◌, ◌-◌, ◌∙◌, ◌∷◌, ◌≡◌, ◌≢◌, ◌≤◌}
use Rattle.std.proofs.lemmas.List.{append_assoc}
use Rattle.std.specs.Prelude.{None, Option, Some}
use Rattle.clause_encode.specs.Fits.{numbering_of}
use Rattle.css_model.specs.Documents.SelectorParts.{SelectorParts}
use Rattle.css_model.specs.declared.selector.Combinator.{Combinator}
use Rattle.formula_laws.specs.Deciding.{shape_from}
use Rattle.formula_laws.specs.Path.{true_nodes}
use Rattle.grid_laws.specs.Grid.{Lays, Nodes, has_left, has_right}
use Rattle.grid_laws.specs.Slots.{Laid, after_by, ahead, laid_next, next_lays, numbered, slot_at, slots_from}
use Rattle.grid_laws.specs.Solved.{numbers_asked}
use Rattle.nth_positions.specs.Gaps.{bounds_of}
use Rattle.shape_decode.specs.Read.{after_left, after_right, before_left, before_right, shape_read, slots_read}
use Rattle.sibling_clauses.specs.declared.numbering.Numbering.{Numbering}
use Rattle.slot_plan.specs.Parts.{pair_parts}
use Rattle.slot_plan.specs.Steps.{is_up}

-- the slot of the node that follows, and those behind it
pub slots_on : (n : ℕ) (xl yl : List Combinator) (v : Nodes) (bx ax by ay : ℕ → ℕ) (i j b : ℕ) (k : Lays) → n ≢ 0 → Some k ≡ next_lays (length xl) (length yl) v i j →
    slots_from n xl yl v bx ax by ay i j b ≡ slot_at xl yl bx ax by ay k (ahead (has_left k) i) (ahead (has_right k) j) b
    ∷ slots_from (n - 1) xl yl v bx ax by ay (ahead (has_left k) i) (ahead (has_right k) j) (slot_at xl yl bx ax by ay k (ahead (has_left k) i) (ahead (has_right k) j) b).before
slots_on zero xl yl v bx ax by ay i j b k some e = absurd (some refl)
slots_on (suc n) xl yl v bx ax by ay i j b k some e =
    ap (λ o. laid_next o (λ k. slot_at xl yl bx ax by ay k (ahead (has_left k) i) (ahead (has_right k) j) b
    ∷ slots_from n xl yl v bx ax by ay (ahead (has_left k) i) (ahead (has_right k) j) (slot_at xl yl bx ax by ay k (ahead (has_left k) i) (ahead (has_right k) j) b).before)) (sym e)
    ∙ ap (λ (m : ℕ). slot_at xl yl bx ax by ay k (ahead (has_left k) i) (ahead (has_right k) j) b
    ∷ slots_from m xl yl v bx ax by ay (ahead (has_left k) i) (ahead (has_right k) j) (slot_at xl yl bx ax by ay k (ahead (has_left k) i) (ahead (has_right k) j) b).before) (let less : n ≡ suc n - 1 = omega arith in less)

next_within : (o : Option Lays) (make : Lays → List Laid) (m : ℕ) → ((k : Lays) → length (make k) ≤ m) → length (laid_next o make) ≤ m
next_within None make m h = omega arith
next_within (Some k) make m h = h k

-- they are no more than asked for
pub slots_within : (n : ℕ) (xl yl : List Combinator) (v : Nodes) (bx ax by ay : ℕ → ℕ) (i j b : ℕ) → length (slots_from n xl yl v bx ax by ay i j b) ≤ n
slots_within zero xl yl v bx ax by ay i j b = omega arith
slots_within (suc n) xl yl v bx ax by ay i j b = next_within (next_lays (length xl) (length yl) v i j) _ (suc n) (λ k.
    let rest = slots_within n xl yl v bx ax by ay (ahead (has_left k) i) (ahead (has_right k) j) (slot_at xl yl bx ax by ay k (ahead (has_left k) i) (ahead (has_right k) j) b).before in omega (arith, rest))

-- as many slots with other numbers
pub numbered_as_many : (a : ℕ) (ss : List Laid) → length (numbered a ss) ≡ length ss
numbered_as_many a [] = refl
numbered_as_many a (s ∷ ss) = ap suc (numbered_as_many (after_by (is_up s.step) a) ss)

-- the shape that is read is that of the values
pub read_of : (x y : SelectorParts) (values : List Bool) (g : Numbering) (left right : List Combinator) (asked : Bool) → g ≡ numbering_of x y → left ≡ x.links → right ≡ y.links → asked ≡ numbers_asked x y →
    shape_read g values left right asked ≡ shape_from (bounds_of (pair_parts x y)).width x y values
read_of x y values g left right asked eg el er ea =
    ap (λ g. shape_read g values left right asked) eg
    ∙ ap (λ l. shape_read (numbering_of x y) values l right asked) el
    ∙ ap (λ r. shape_read (numbering_of x y) values x.links r asked) er
    ∙ ap (λ a. shape_read (numbering_of x y) values x.links y.links a) ea

-- one slot is added, and those behind it
pub pushed_on : (g : Numbering) (values : List Bool) (left right : List Combinator) (old made : List Laid) (slot : Laid) (k : Lays) (most i j b i' j' b' : ℕ) → length left ≡ g.left → length right ≡ g.right → most ≢ 0 →
    Some k ≡ next_lays g.left g.right (true_nodes (suc g.right) values) i j → i' ≡ ahead (has_left k) i → j' ≡ ahead (has_right k) j →
    slot ≡ slot_at left right (before_left g values) (after_left g values) (before_right g values) (after_right g values) k i' j' b → b' ≡ slot.before → made ≡ old ++ slot ∷ [] →
    made ++ slots_read g values left right (most - 1) i' j' b' ≡ old ++ slots_read g values left right most i j b
pushed_on g values left right old made slot k most i j b i' j' b' el er some next ei ej es eb em =
    rw (em, eb, es, ei, ej)
    (append_assoc old (slot_at left right (before_left g values) (after_left g values) (before_right g values) (after_right g values) k (ahead (has_left k) i) (ahead (has_right k) j) b ∷ []) _
    ∙ ap (λ ss. old ++ ss) (sym (slots_on most left right (true_nodes (suc g.right) values) (before_left g values) (after_left g values) (before_right g values) (after_right g values) i j b k some
    (next ∙ ap (λ (m : ℕ). next_lays m g.right (true_nodes (suc g.right) values) i j) (sym el) ∙ ap (λ (n : ℕ). next_lays (length left) n (true_nodes (suc g.right) values) i j) (sym er)))))
