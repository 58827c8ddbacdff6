-- Which node follows, and slots counted from compounds further on.
use Rattle.std.proofs.Common.{Bool, List, ap, arith, false, inl, inr, length, lt-ltb, refl, suc, sym, true, zero, ℕ, ◌&&◌, ◌+◌, ◌<◌, ◌∙◌, ◌∷◌, ◌≡◌, ◌≤◌}
use Rattle.std.proofs.lemmas.Bool.{and_parts, false≢true, ltb-true}
use Rattle.std.specs.Prelude.{None, Option, Some, if◌then◌else◌, nat_lt}
use Rattle.css_model.specs.declared.selector.Combinator.{Combinator}
use Rattle.grid_laws.specs.Grid.{Grid, Lays, Nodes, has_left, has_right, left_alone, right_alone, together}
use Rattle.grid_laws.specs.Slots.{Laid, ahead, laid_next, next_lays, slot_at, slots_from}

-- numbers counted from the next compound
abbrev pub shift : (ℕ → ℕ) → ℕ → ℕ
shift f i = f (suc i)

-- the way on from a cell that is not the last one
pub data Way (xl yl : List Combinator) (v : Nodes) (i j : ℕ) : Type 0 where
  to_left : next_lays (length xl) (length yl) v i j ≡ Some left_alone → i < length xl → v left_alone (suc i) j ≡ true → Way xl yl v i j
  to_right : next_lays (length xl) (length yl) v i j ≡ Some right_alone → j < length yl → v right_alone i (suc j) ≡ true → Way xl yl v i j
  to_both : next_lays (length xl) (length yl) v i j ≡ Some together → i < length xl → j < length yl → v together (suc i) (suc j) ≡ true → Way xl yl v i j

-- three tests, one after the other
abbrev chosen : Bool → Bool → Bool → Option Lays
chosen a b c = if a then Some left_alone else (if b then Some right_alone else (if c then Some together else None))

pub way : (xl yl : List Combinator) (v : Nodes) (k : Lays) (i j : ℕ) → Grid xl yl v → v k i j ≡ true → i ≤ length xl → j ≤ length yl → i + j < length xl + length yl → Way xl yl v i j
way xl yl v k i j g t hi hj more = by (nat_lt i (length xl) && v left_alone (suc i) j) (nat_lt j (length yl) && v right_alone i (suc j)) refl refl
  where
    by : (a b : Bool) → (nat_lt i (length xl) && v left_alone (suc i) j) ≡ a → (nat_lt j (length yl) && v right_alone i (suc j)) ≡ b → Way xl yl v i j
    by true b ea eb = let p = and_parts (nat_lt i (length xl)) (v left_alone (suc i) j) ea in
        to_left (ap (λ a. chosen a (nat_lt j (length yl) && v right_alone i (suc j)) (nat_lt i (length xl) && nat_lt j (length yl))) ea) (ltb-true i (length xl) p.0) p.1
    by false true ea eb = let p = and_parts (nat_lt j (length yl)) (v right_alone i (suc j)) eb in
        to_right (ap (λ a. chosen a (nat_lt j (length yl) && v right_alone i (suc j)) (nat_lt i (length xl) && nat_lt j (length yl))) ea ∙ ap (λ b. chosen false b (nat_lt i (length xl) && nat_lt j (length yl))) eb) (ltb-true j (length yl) p.0) p.1
    by false false ea eb = elim (g.go k i j t hi hj more) [
      | inl left ↦ absurd (false≢true (sym ea ∙ (ap (λ b. b && v left_alone (suc i) j) (lt-ltb i (length xl) left.0) ∙ left.1)))
      | inr rest ↦ elim rest [
        | inl right ↦ absurd (false≢true (sym eb ∙ (ap (λ b. b && v right_alone i (suc j)) (lt-ltb j (length yl) right.0) ∙ right.1)))
        | inr both ↦ to_both
            (ap (λ a. chosen a (nat_lt j (length yl) && v right_alone i (suc j)) (nat_lt i (length xl) && nat_lt j (length yl))) ea
            ∙ ap (λ b. chosen false b (nat_lt i (length xl) && nat_lt j (length yl))) eb
            ∙ ap (λ c. chosen false false (c && nat_lt j (length yl))) (lt-ltb i (length xl) both.0)
            ∙ ap (λ c. chosen false false c) (lt-ltb j (length yl) both.1)) both.0 both.1 both.2
      ]
    ]

-- what follows is made alike
laid_same : (o : Option Lays) (f g : Lays → List Laid) → ((k : Lays) → f k ≡ g k) → laid_next o f ≡ laid_next o g
laid_same None f g h = refl
laid_same (Some k) f g h = h k

next_suc : (i n : ℕ) → nat_lt (suc i) (suc n) ≡ nat_lt i n
next_suc i n = grind arith

next_left : (l : Combinator) (xl yl : List Combinator) (v : Nodes) (i j : ℕ) → next_lays (length (l ∷ xl)) (length yl) v (suc i) j ≡ next_lays (length xl) (length yl) (λ k i j. v k (suc i) j) i j
next_left l xl yl v i j = ap (λ b. chosen (b && v left_alone (suc (suc i)) j) (nat_lt j (length yl) && v right_alone (suc i) (suc j)) (b && nat_lt j (length yl))) (next_suc i (length xl))

next_right : (m : Combinator) (xl yl : List Combinator) (v : Nodes) (i j : ℕ) → next_lays (length xl) (length (m ∷ yl)) v i (suc j) ≡ next_lays (length xl) (length yl) (λ k i j. v k i (suc j)) i j
next_right m xl yl v i j = ap (λ b. chosen (nat_lt i (length xl) && v left_alone (suc i) (suc j)) (b && v right_alone i (suc (suc j))) (nat_lt i (length xl) && b)) (next_suc j (length yl))

-- slots behind the next left compound
pub slots_left : (n : ℕ) (l : Combinator) (xl yl : List Combinator) (v : Nodes) (bx ax by ay : ℕ → ℕ) (i j b : ℕ) →
    slots_from n (l ∷ xl) yl v bx ax by ay (suc i) j b ≡ slots_from n xl yl (λ k i j. v k (suc i) j) (shift bx) (shift ax) by ay i j b
slots_left zero l xl yl v bx ax by ay i j b = refl
slots_left (suc n) l xl yl v bx ax by ay i j b =
    ap (λ o. laid_next o (λ k. slot_at (l ∷ xl) yl bx ax by ay k (ahead (has_left k) (suc i)) (ahead (has_right k) j) b
    ∷ slots_from n (l ∷ xl) yl v bx ax by ay (ahead (has_left k) (suc i)) (ahead (has_right k) j) (slot_at (l ∷ xl) yl bx ax by ay k (ahead (has_left k) (suc i)) (ahead (has_right k) j) b).before)) (next_left l xl yl v i j)
    ∙ laid_same (next_lays (length xl) (length yl) (λ k i j. v k (suc i) j) i j) _ _ (each (λ i j b. slots_left n l xl yl v bx ax by ay i j b))
  where
    each : ((i j b : ℕ) → slots_from n (l ∷ xl) yl v bx ax by ay (suc i) j b ≡ slots_from n xl yl (λ k i j. v k (suc i) j) (shift bx) (shift ax) by ay i j b) → (k : Lays) → (slot_at (l ∷ xl) yl bx ax by ay k (ahead (has_left k) (suc i)) (ahead (has_right k) j) b
        ∷ slots_from n (l ∷ xl) yl v bx ax by ay (ahead (has_left k) (suc i)) (ahead (has_right k) j) (slot_at (l ∷ xl) yl bx ax by ay k (ahead (has_left k) (suc i)) (ahead (has_right k) j) b).before)
        ≡ (slot_at xl yl (shift bx) (shift ax) by ay k (ahead (has_left k) i) (ahead (has_right k) j) b
        ∷ slots_from n xl yl (λ k i j. v k (suc i) j) (shift bx) (shift ax) by ay (ahead (has_left k) i) (ahead (has_right k) j) (slot_at xl yl (shift bx) (shift ax) by ay k (ahead (has_left k) i) (ahead (has_right k) j) b).before)
    each rest left_alone = ap (λ ss. slot_at (l ∷ xl) yl bx ax by ay left_alone (suc (suc i)) j b ∷ ss) (rest (suc i) j (bx (suc (suc i))))
    each rest right_alone = ap (λ ss. slot_at (l ∷ xl) yl bx ax by ay right_alone (suc i) (suc j) b ∷ ss) (rest i (suc j) (by (suc j)))
    each rest together = ap (λ ss. slot_at (l ∷ xl) yl bx ax by ay together (suc (suc i)) (suc j) b ∷ ss) (rest (suc i) (suc j) (bx (suc (suc i))))

-- slots behind the next right compound
pub slots_right : (n : ℕ) (m : Combinator) (xl yl : List Combinator) (v : Nodes) (bx ax by ay : ℕ → ℕ) (i j b : ℕ) →
    slots_from n xl (m ∷ yl) v bx ax by ay i (suc j) b ≡ slots_from n xl yl (λ k i j. v k i (suc j)) bx ax (shift by) (shift ay) i j b
slots_right zero m xl yl v bx ax by ay i j b = refl
slots_right (suc n) m xl yl v bx ax by ay i j b =
    ap (λ o. laid_next o (λ k. slot_at xl (m ∷ yl) bx ax by ay k (ahead (has_left k) i) (ahead (has_right k) (suc j)) b
    ∷ slots_from n xl (m ∷ yl) v bx ax by ay (ahead (has_left k) i) (ahead (has_right k) (suc j)) (slot_at xl (m ∷ yl) bx ax by ay k (ahead (has_left k) i) (ahead (has_right k) (suc j)) b).before)) (next_right m xl yl v i j)
    ∙ laid_same (next_lays (length xl) (length yl) (λ k i j. v k i (suc j)) i j) _ _ (each (λ i j b. slots_right n m xl yl v bx ax by ay i j b))
  where
    each : ((i j b : ℕ) → slots_from n xl (m ∷ yl) v bx ax by ay i (suc j) b ≡ slots_from n xl yl (λ k i j. v k i (suc j)) bx ax (shift by) (shift ay) i j b) → (k : Lays) → (slot_at xl (m ∷ yl) bx ax by ay k (ahead (has_left k) i) (ahead (has_right k) (suc j)) b
        ∷ slots_from n xl (m ∷ yl) v bx ax by ay (ahead (has_left k) i) (ahead (has_right k) (suc j)) (slot_at xl (m ∷ yl) bx ax by ay k (ahead (has_left k) i) (ahead (has_right k) (suc j)) b).before)
        ≡ (slot_at xl yl bx ax (shift by) (shift ay) k (ahead (has_left k) i) (ahead (has_right k) j) b
        ∷ slots_from n xl yl (λ k i j. v k i (suc j)) bx ax (shift by) (shift ay) (ahead (has_left k) i) (ahead (has_right k) j) (slot_at xl yl bx ax (shift by) (shift ay) k (ahead (has_left k) i) (ahead (has_right k) j) b).before)
    each rest left_alone = ap (λ ss. slot_at xl (m ∷ yl) bx ax by ay left_alone (suc i) (suc j) b ∷ ss) (rest (suc i) j (bx (suc i)))
    each rest right_alone = ap (λ ss. slot_at xl (m ∷ yl) bx ax by ay right_alone i (suc (suc j)) b ∷ ss) (rest i (suc j) (by (suc (suc j))))
    each rest together = ap (λ ss. slot_at xl (m ∷ yl) bx ax by ay together (suc i) (suc (suc j)) b ∷ ss) (rest (suc i) (suc j) (bx (suc i)))

-- what is laid, by the node that follows
abbrev pub laid_by : ℕ → List Combinator → List Combinator → Nodes → (ℕ → ℕ) → (ℕ → ℕ) → (ℕ → ℕ) → (ℕ → ℕ) → ℕ → Lays → List Laid
laid_by n xl yl v bx ax by ay b k =
    let slot = slot_at xl yl bx ax by ay k (ahead (has_left k) 0) (ahead (has_right k) 0) b in
    slot ∷ slots_from n xl yl v bx ax by ay (ahead (has_left k) 0) (ahead (has_right k) 0) slot.before
