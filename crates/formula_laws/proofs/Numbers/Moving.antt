-- The same conditions hold of nodes and numbers that are the same where it counts.
use Rattle.std.proofs.Common.{Bool, List, [], ap, arith, false, inl, inr, length, not, refl, subst, suc, sym, true, zero, ℕ, ◌&&◌, ◌+◌, ◌∙◌, ◌∷◌, ◌≡◌, ◌≤◌}
use Rattle.std.proofs.lemmas.Bool.{and_parts, false≢true}
use Rattle.std.specs.List.{All}
use Rattle.std.specs.Prelude.{◌==◌}
use Rattle.formula_laws.proofs.Paths.Pathway.{Joined}
use Rattle.formula_laws.proofs.Whole.Conditions.{ends}
use Rattle.formula_laws.specs.Path.{both_fit, left_fits, right_fits, same_bool}
use Rattle.css_model.specs.Documents.SelectorParts.{SelectorParts}
use Rattle.css_model.specs.declared.selector.Combinator.{Combinator}
use Rattle.css_model.specs.declared.selector.Combinator.TheVariants.{Child, Inside, Later, Next}
use Rattle.css_model.specs.declared.selector.Simple.{Simple}
use Rattle.grid_laws.specs.Grid.{Grid, Lays, Nodes, goes_up_at, left_alone, right_alone, together}
use Rattle.grid_laws.specs.Numbers.{Counted, LinkNumbers, RunFits}
use Rattle.grid_laws.specs.Solved.{Solved, nth_compound, root_left, root_right}
use Rattle.slot_plan.specs.Positions.{PositionFits}

-- nodes that a walk can come to
abbrev pub inner : Lays → ℕ → ℕ → Bool
inner left_alone zero j = false
inner left_alone (suc i) j = true
inner right_alone i zero = false
inner right_alone i (suc j) = true
inner together zero zero = true
inner together zero (suc j) = false
inner together (suc i) zero = false
inner together (suc i) (suc j) = true

abbrev pub Trimmed : ℕ → ℕ → Nodes → Nodes → Type 0
Trimmed m n v w = (k : Lays) (i j : ℕ) → i ≤ m → j ≤ n → w k i j ≡ (inner k i j && v k i j)

abbrev pub SameBelow : ℕ → (ℕ → ℕ) → (ℕ → ℕ) → Type 0
SameBelow m b c = (i : ℕ) → i ≤ m → c i ≡ b i

was : (m n : ℕ) (v w : Nodes) → Trimmed m n v w → (k : Lays) (i j : ℕ) → i ≤ m → j ≤ n → w k i j ≡ true → v k i j ≡ true
was m n v w trim k i j hi hj t = (and_parts (inner k i j) (v k i j) (sym (trim k i j hi hj) ∙ t)).1

never_outer : (m n : ℕ) (v w : Nodes) → Trimmed m n v w → (k : Lays) (i j : ℕ) → i ≤ m → j ≤ n → w k i j ≡ true → inner k i j ≡ true
never_outer m n v w trim k i j hi hj t = (and_parts (inner k i j) (v k i j) (sym (trim k i j hi hj) ∙ t)).0

moved_grid : (xl yl : List Combinator) (v w : Nodes) → Trimmed (length xl) (length yl) v w → Grid xl yl v → Grid xl yl w
moved_grid xl yl v w trim g = record {
  go = λ k i j t hi hj more. elim (g.go k i j (was (length xl) (length yl) v w trim k i j hi hj t) hi hj more) [
    | inl way ↦ inl (way.0, trim left_alone (suc i) j (let h = way.0 in omega arith) hj ∙ way.1)
    | inr rest ↦ elim rest [
      | inl way ↦ inr (inl (way.0, trim right_alone i (suc j) hi (let h = way.0 in omega arith) ∙ way.1))
      | inr way ↦ inr (inr (way.0, way.1, trim together (suc i) (suc j) (let h = way.0 in omega arith) (let h = way.1 in omega arith) ∙ way.2))
    ]
  ];
  left = λ i j hi hj t. g.left i j hi hj (was (length xl) (length yl) v w trim left_alone (suc i) j (omega arith) hj t);
  right = λ i j hi hj t. g.right i j hi hj (was (length xl) (length yl) v w trim right_alone i (suc j) hi (omega arith) t);
  both = λ i j hi hj t. g.both i j hi hj (was (length xl) (length yl) v w trim together (suc i) (suc j) (omega arith) (omega arith) t);
}

pub moved_joined : (xl yl : List Combinator) (v w : Nodes) → Trimmed (length xl) (length yl) v w → Grid xl yl v → Joined xl yl w
moved_joined xl yl v w trim g = record {
  left = left;
  right = right;
  both = both;
}
  where
    out : (k : Lays) (i j : ℕ) → i ≤ length xl → j ≤ length yl → w k i j ≡ true → inner k i j ≡ true
    out k i j hi hj t = never_outer (length xl) (length yl) v w trim k i j hi hj t

    left : (i j : ℕ) → i ≤ length xl → j ≤ length yl → w left_alone i j ≡ true → left_fits xl yl i j ≡ true
    left zero j hi hj t = out left_alone 0 j hi hj t
    left (suc i) j hi hj t = g.left i j (omega arith) hj (was (length xl) (length yl) v w trim left_alone (suc i) j hi hj t)

    right : (i j : ℕ) → i ≤ length xl → j ≤ length yl → w right_alone i j ≡ true → right_fits xl yl i j ≡ true
    right i zero hi hj t = out right_alone i 0 hi hj t
    right i (suc j) hi hj t = g.right i j hi (omega arith) (was (length xl) (length yl) v w trim right_alone i (suc j) hi hj t)

    same : (a b : Bool) → a ≡ b → same_bool a b ≡ true
    same true true e = refl
    same true false e = sym e
    same false true e = e
    same false false e = refl

    both : (i j : ℕ) → i ≤ length xl → j ≤ length yl → w together i j ≡ true → both_fit xl yl i j ≡ true
    both zero zero hi hj t = refl
    both zero (suc j) hi hj t = out together 0 (suc j) hi hj t
    both (suc i) zero hi hj t = out together (suc i) 0 hi hj t
    both (suc i) (suc j) hi hj t = same (goes_up_at xl (suc i)) (goes_up_at yl (suc j)) (g.both i j (omega arith) (omega arith) (was (length xl) (length yl) v w trim together (suc i) (suc j) hi hj t))

moved_run : (links : List Combinator) (b c a d : ℕ → ℕ) → SameBelow (length links) b c → SameBelow (length links) a d → RunFits links b a → RunFits links c d
moved_run [] b c a d sb sa fits = tt
moved_run (link ∷ links) b c a d sb sa fits =
    (by link fits.0, moved_run links (λ i. b (suc i)) (λ i. c (suc i)) (λ i. a (suc i)) (λ i. d (suc i)) (λ i h. sb (suc i) (omega arith)) (λ i h. sa (suc i) (omega arith)) fits.1)
  where
    by : (link : Combinator) → LinkNumbers link (b 0) (b 1) (a 0) (a 1) → LinkNumbers link (c 0) (c 1) (d 0) (d 1)
    by Inside s = tt
    by Child s = tt
    by Next s = let e0 = sb 0 (omega arith) in let e1 = sb 1 (omega arith) in let f0 = sa 0 (omega arith) in let f1 = sa 1 (omega arith) in let s0 = s.0 in let s1 = s.1 in (omega arith, omega arith)
    by Later s = let e0 = sb 0 (omega arith) in let e1 = sb 1 (omega arith) in let f0 = sa 0 (omega arith) in let f1 = sa 1 (omega arith) in let s0 = s.0 in let s1 = s.1 in (omega arith, omega arith)

moved_counted : (xl yl : List Combinator) (v w : Nodes) (bx ax by ay bx' ax' by' ay' : ℕ → ℕ) → Trimmed (length xl) (length yl) v w → SameBelow (length xl) bx bx' → SameBelow (length xl) ax ax' → SameBelow (length yl) by by' → SameBelow (length yl) ay ay' →
    Counted xl yl v bx ax by ay → Counted xl yl w bx' ax' by' ay'
moved_counted xl yl v w bx ax by ay bx' ax' by' ay' trim sb sa tb ta c = record {
  run_left = moved_run xl bx bx' ax ax' sb sa c.run_left;
  run_right = moved_run yl by by' ay ay' tb ta c.run_right;
  equal = λ i j hi hj t. let e = c.equal i j hi hj (on together i j hi hj t) in (sb i hi ∙ e.0 ∙ sym (tb j hj), sa i hi ∙ e.1 ∙ sym (ta j hj));
  order_left = λ i j hi hj t u side. let e = c.order_left i j hi hj (on right_alone i j (omega arith) hj t) (on left_alone (suc i) j (omega arith) hj u) side in let p = sb (suc i) (omega arith) in let q = tb j hj in omega arith;
  order_right = λ i j hi hj t u side. let e = c.order_right i j hi hj (on left_alone i j hi (omega arith) t) (on right_alone i (suc j) hi (omega arith) u) side in let p = tb (suc j) (omega arith) in let q = sb i hi in omega arith;
}
  where
    on : (k : Lays) (i j : ℕ) → i ≤ length xl → j ≤ length yl → w k i j ≡ true → v k i j ≡ true
    on k i j hi hj t = was (length xl) (length yl) v w trim k i j hi hj t

-- in the last cell nothing is trimmed
last_same : (x y : SelectorParts) (v w : Nodes) (bx ax by ay : ℕ → ℕ) (root child : Bool) → Solved x y v bx ax by ay root child → Trimmed (length x.links) (length y.links) v w → (k : Lays) → w k (length x.links) (length y.links) ≡ v k (length x.links) (length y.links)
last_same x y v w bx ax by ay root child s trim k = which (v k (length x.links) (length y.links)) (w k (length x.links) (length y.links)) refl refl
  where
    start : w together 0 0 ≡ true
    start = trim together 0 0 (omega arith) (omega arith) ∙ s.start

    on : (l : Lays) → w l (length x.links) (length y.links) ≡ true → v l (length x.links) (length y.links) ≡ true
    on l t = was (length x.links) (length y.links) v w trim l (length x.links) (length y.links) (omega arith) (omega arith) t

    found : (l : Lays) → w l (length x.links) (length y.links) ≡ true → v k (length x.links) (length y.links) ≡ true → w k (length x.links) (length y.links) ≡ true
    found l t u = subst (λ o. w o (length x.links) (length y.links) ≡ true) (s.one_last l k (on l t) u) t

    some : v k (length x.links) (length y.links) ≡ true → w k (length x.links) (length y.links) ≡ true
    some u = elim (ends x.links y.links w (moved_grid x.links y.links v w trim s.grid) (length x.links + length y.links) together 0 0 (omega arith) (omega arith) (omega arith) start) [
      | inl t ↦ found left_alone t u
      | inr rest ↦ elim rest [ inl t ↦ found right_alone t u | inr t ↦ found together t u ]
    ]

    which : (a b : Bool) → v k (length x.links) (length y.links) ≡ a → w k (length x.links) (length y.links) ≡ b → w k (length x.links) (length y.links) ≡ v k (length x.links) (length y.links)
    which true b e e' = some e ∙ sym e
    which false true e e' = absurd (false≢true (sym e ∙ on k e'))
    which false false e e' = e' ∙ sym e

pub moved : (x y : SelectorParts) (v w : Nodes) (bx ax by ay bx' ax' by' ay' : ℕ → ℕ) (root child : Bool) → Trimmed (length x.links) (length y.links) v w →
    SameBelow (length x.links) bx bx' → SameBelow (length x.links) ax ax' → SameBelow (length y.links) by by' → SameBelow (length y.links) ay ay' →
    Solved x y v bx ax by ay root child → Solved x y w bx' ax' by' ay' root child
moved x y v w bx ax by ay bx' ax' by' ay' root child trim sb sa tb ta s = record {
  length_left = s.length_left;
  length_right = s.length_right;
  start = trim together 0 0 (omega arith) (omega arith) ∙ s.start;
  grid = moved_grid x.links y.links v w trim s.grid;
  counted = λ asked. moved_counted x.links y.links v w bx ax by ay bx' ax' by' ay' trim sb sa tb ta (s.counted asked);
  one_last = λ k l t u. s.one_last k l (on k (length x.links) (length y.links) (omega arith) (omega arith) t) (on l (length x.links) (length y.links) (omega arith) (omega arith) u);
  top_left = λ e. let t = s.top_left (sym left_root ∙ e) in (t.0, sb (length x.links) (omega arith) ∙ t.1, sa (length x.links) (omega arith) ∙ t.2);
  top_right = λ e. let t = s.top_right (sym right_root ∙ e) in (t.0, tb (length y.links) (omega arith) ∙ t.1, ta (length y.links) (omega arith) ∙ t.2);
  left_positions = λ i hi. fits (nth_compound x.chain i) (i == length x.links) (root_left x y v root) (root_left x y w root) (bx i) (bx' i) (ax i) (ax' i) left_root (sb i hi) (sa i hi) (s.left_positions i hi);
  right_positions = λ j hj. fits (nth_compound y.chain j) (j == length y.links) (root_right x y v root) (root_right x y w root) (by j) (by' j) (ay j) (ay' j) right_root (tb j hj) (ta j hj) (s.right_positions j hj);
  empties = λ k i j t hi hj. s.empties k i j (on k i j hi hj t) hi hj;
  features = λ k i j t hi hj. s.features k i j (on k i j hi hj t) hi hj;
  left_ids = s.left_ids;
  right_ids = s.right_ids;
  both_ids = λ i j id hi hj hx hy k i' j' hi' hj' t. s.both_ids i j id hi hj hx hy k i' j' hi' hj' (on k i' j' hi' hj' t);
  pseudo = s.pseudo;
}
  where
    on : (k : Lays) (i j : ℕ) → i ≤ length x.links → j ≤ length y.links → w k i j ≡ true → v k i j ≡ true
    on k i j hi hj t = was (length x.links) (length y.links) v w trim k i j hi hj t

    left_root : root_left x y w root ≡ root_left x y v root
    left_root = ap (λ b. root && not b) (last_same x y v w bx ax by ay root child s trim right_alone)

    right_root : root_right x y w root ≡ root_right x y v root
    right_root = ap (λ b. root && not b) (last_same x y v w bx ax by ay root child s trim left_alone)

    fits : (ss : List Simple) (last r r' : Bool) (b b' a a' : ℕ) → r' ≡ r → b' ≡ b → a' ≡ a → All (PositionFits (r && last) child b a) ss → All (PositionFits (r' && last) child b' a') ss
    fits ss last r r' b b' a a' e eb ea h =
        subst (λ q. All (PositionFits (q && last) child b' a') ss) (sym e) (subst (λ (n : ℕ). All (PositionFits (r && last) child n a') ss) (sym eb) (subst (λ (n : ℕ). All (PositionFits (r && last) child b n) ss) (sym ea) h))
