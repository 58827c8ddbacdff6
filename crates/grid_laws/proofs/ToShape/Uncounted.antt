-- Where no test looks at numbers, the numbers are free, and true nodes alone give a shape.
use Rattle.std.proofs.Common.{Bool, List, [], ap, arith, false, get_or, inl, inr, length, map, not, refl, suc, sym, true, zero, ℕ, ◌&&◌, ◌||◌, ◌∙◌, ◌∷◌, ◌≡◌, ◌≤◌, ◌⊎◌}
use Rattle.std.proofs.lemmas.Bool.{and_parts, false≢true}
use Rattle.std.specs.Bool.{MatchBool}
use Rattle.std.specs.List.{All, list_any}
use Rattle.css_model.specs.Documents.SelectorParts.{SelectorParts}
use Rattle.css_model.specs.declared.selector.Combinator.{Combinator}
use Rattle.css_model.specs.declared.selector.Simple.{Simple}
use Rattle.css_model.specs.declared.selector.Test.{Test}
use Rattle.css_model.specs.declared.selector.Test.TheVariants.{Any, Attr, Empty, Id, Kind, Nth, NthLast, OnlyChild, Root, State}
use Rattle.grid_laws.proofs.ToShape.AtSlots.{AtSlot, Laying, at_slot}
use Rattle.grid_laws.proofs.ToShape.Conditions.{above_by}
use Rattle.grid_laws.proofs.ToShape.SolvedShape.{valid_of}
use Rattle.grid_laws.proofs.Walks.Listing.{chained, length_steps, steps_of}
use Rattle.grid_laws.proofs.Walks.Placed.{Chained, place_of}
use Rattle.grid_laws.proofs.Walks.Strolling.{Strolled}
use Rattle.grid_laws.specs.Grid.{Lays, Nodes, goes_up_at, has_left, has_right, left_alone, right_alone, together}
use Rattle.grid_laws.specs.Slots.{Laid, laid_at, numbered, row_before, shape_of}
use Rattle.grid_laws.specs.Solved.{Solved, asks_numbers, is_counted, nth_compound, numbers_asked, root_left, root_right}
use Rattle.slot_plan.specs.Positions.{PositionFits, PositionHolds, is_position}
use Rattle.slot_plan.specs.Steps.{is_parent}
use Rattle.slot_plan.specs.ValidShape.{ValidShape}

-- neither of two tests holds
neither : (a b : Bool) → (a || b) ≡ false → (a ≡ false) × (b ≡ false)
neither true b h = absurd (false≢true (sym h))
neither false b h = (refl, h)

-- no compound of a chain asks
none_asks : (chain : List (List Simple)) → list_any asks_numbers chain ≡ false → (i : ℕ) → asks_numbers (nth_compound chain i) ≡ false
none_asks [] h i = refl
none_asks (c ∷ cs) h zero = (neither (asks_numbers c) (list_any asks_numbers cs) h).0
none_asks (c ∷ cs) h (suc i) = none_asks cs (neither (asks_numbers c) (list_any asks_numbers cs) h).1 i

-- a test that looks at no number
free_test : (t : Test) (negated r child : Bool) (b a b' a' : ℕ) → is_counted t ≡ false →
    (is_position t ≡ true → MatchBool negated (PositionHolds r child b a t → ⊥) (PositionHolds r child b a t)) →
    is_position t ≡ true → MatchBool negated (PositionHolds r child b' a' t → ⊥) (PositionHolds r child b' a' t)
free_test (Nth x) negated r child b a b' a' none h = absurd (false≢true (sym none))
free_test (NthLast x) negated r child b a b' a' none h = absurd (false≢true (sym none))
free_test OnlyChild negated r child b a b' a' none h = absurd (false≢true (sym none))
free_test Root negated r child b a b' a' none h = h
free_test Any negated r child b a b' a' none h = h
free_test Empty negated r child b a b' a' none h = h
free_test (Kind x) negated r child b a b' a' none h = h
free_test (Id x) negated r child b a b' a' none h = h
free_test (Attr x) negated r child b a b' a' none h = h
free_test (State x) negated r child b a b' a' none h = h

-- the tests of a compound that asks none
free_compound : (ss : List Simple) (r child : Bool) (b a b' a' : ℕ) → asks_numbers ss ≡ false → All (PositionFits r child b a) ss → All (PositionFits r child b' a') ss
free_compound ss r child b a b' a' none h k d less = free_test (get_or ss k d).test (get_or ss k d).negated r child b a b' a' (at ss k d none less) (h k d less)
  where
    at : (ss : List Simple) (k : ℕ) (d : Simple) → asks_numbers ss ≡ false → suc k ≤ length ss → is_counted (get_or ss k d).test ≡ false
    at [] k d none less = absurd (omega arith)
    at (s ∷ ss) zero d none less = (neither (is_counted s.test) (asks_numbers ss) none).0
    at (s ∷ ss) (suc k) d none less = at ss k d (neither (is_counted s.test) (asks_numbers ss) none).1 (omega arith)

-- other numbers serve as well, where they are 0 in the root
pub renumbered : (x y : SelectorParts) (v : Nodes) (bx ax by ay bx' ax' by' ay' : ℕ → ℕ) (root child : Bool) → numbers_asked x y ≡ false →
    (root_left x y v root ≡ true → (bx' (length x.links) ≡ 0) × (ax' (length x.links) ≡ 0)) →
    (root_right x y v root ≡ true → (by' (length y.links) ≡ 0) × (ay' (length y.links) ≡ 0)) →
    Solved x y v bx ax by ay root child → Solved x y v bx' ax' by' ay' root child
renumbered x y v bx ax by ay bx' ax' by' ay' root child none left right s =
    let apart = neither (list_any asks_numbers x.chain) (list_any asks_numbers y.chain) none in
    record {
      length_left = s.length_left;
      length_right = s.length_right;
      start = s.start;
      grid = s.grid;
      counted = λ asked. absurd (false≢true (sym none ∙ asked));
      one_last = s.one_last;
      top_left = λ top. ((s.top_left top).0, (left top).0, (left top).1);
      top_right = λ top. ((s.top_right top).0, (right top).0, (right top).1);
      left_positions = λ i h. free_compound (nth_compound x.chain i) _ child (bx i) (ax i) (bx' i) (ax' i) (none_asks x.chain apart.0 i) (s.left_positions i h);
      right_positions = λ j h. free_compound (nth_compound y.chain j) _ child (by j) (ay j) (by' j) (ay' j) (none_asks y.chain apart.1 j) (s.right_positions j h);
      empties = s.empties;
      features = s.features;
      left_ids = s.left_ids;
      right_ids = s.right_ids;
      both_ids = s.both_ids;
      pseudo = s.pseudo;
    }

-- the numbers of the slots of a chain's compounds
abbrev pub number_in : ℕ → List ℕ → List ℕ → ℕ → ℕ
number_in first numbers slots i = get_or (first ∷ numbers) (place_of 0 slots i) 0

-- the last compound of a chain, in a slot to which no step leads or a step up, has none behind it
top_number : (links : List Combinator) (v : Nodes) (ss : List Laid) (after : List ℕ) (slots : List ℕ) → Chained (steps_of ss) links slots → goes_up_at links (length links) ≡ true →
    place_of 0 slots (length links) ≡ length ss → (is_parent (steps_of ss) (length ss) ≡ true → get_or (0 ∷ after) (length ss) 0 ≡ 0) → number_in 0 after slots (length links) ≡ 0
top_number links v ss after slots c up place last = by (length links) refl
  where
    by : (m : ℕ) → length links ≡ m → number_in 0 after slots (length links) ≡ 0
    by zero e = ap (number_in 0 after slots) e
    by (suc m) e = ap (λ (k : ℕ). get_or (0 ∷ after) k 0) place
        ∙ last (ap (is_parent (steps_of ss)) (sym place ∙ ap (place_of 0 slots) e) ∙ above_by (steps_of ss) links slots (suc m) c (omega arith) ∙ ap (goes_up_at links) (sym e) ∙ up)

-- where no test looks at numbers, the shape that true nodes alone give is valid
pub uncounted_shape : (x y : SelectorParts) (v : Nodes) (bx ax by ay : ℕ → ℕ) (root child : Bool) → numbers_asked x y ≡ false → Solved x y v bx ax by ay root child → (raw : List Laid) → Strolled x.links y.links v [] [] 0 (row_before raw) (numbered 0 raw) →
    ValidShape x y (shape_of (row_before raw) 0 root child (numbered 0 raw))
uncounted_shape x y v bx ax by ay root child none s raw w = valid_of x y v bx' ax' by' ay' root child ss s' laying w.counts
  where
    b : ℕ
    b = row_before raw

    ss : List Laid
    ss = numbered 0 raw

    cl : Chained (steps_of ss) x.links (laid_at has_left 1 ss)
    cl = chained has_left x.links ss w.left

    cr : Chained (steps_of ss) y.links (laid_at has_right 1 ss)
    cr = chained has_right y.links ss w.right

    bx' : ℕ → ℕ
    bx' = number_in b (map (λ s. s.before) ss) (laid_at has_left 1 ss)

    ax' : ℕ → ℕ
    ax' = number_in 0 (map (λ s. s.after) ss) (laid_at has_left 1 ss)

    by' : ℕ → ℕ
    by' = number_in b (map (λ s. s.before) ss) (laid_at has_right 1 ss)

    ay' : ℕ → ℕ
    ay' = number_in 0 (map (λ s. s.after) ss) (laid_at has_right 1 ss)

    slot : (k : ℕ) → k ≤ length ss → AtSlot x y v ss k
    slot = at_slot x y v bx ax by ay root child ss s w.on cl.same cr.same

    top : AtSlot x y v ss (length ss)
    top = slot (length ss) (omega arith)

    -- what stands in the last slot
    here : v top.kind (length x.links) (length y.links) ≡ true
    here = ap (λ (i : ℕ). v top.kind i (length y.links)) (sym (top.last refl).0) ∙ ap (λ (j : ℕ). v top.kind top.i j) (sym (top.last refl).1) ∙ top.holds

    -- a root without the other selector alone has a compound of this one
    lays : (one : Lays → Bool) (other : Lays) → ((k : Lays) → (one k ≡ true) ⊎ (k ≡ other)) → (root && not (v other (length x.links) (length y.links))) ≡ true → one top.kind ≡ true
    lays one other which t = elim (which top.kind) [
      | inl e ↦ e
      | inr e ↦ absurd (false≢true (sym (ap not (sym (ap (λ (k : Lays). v k (length x.links) (length y.links)) e) ∙ here)) ∙ (and_parts root (not (v other (length x.links) (length y.links))) t).1))
    ]

    left_or : (k : Lays) → (has_left k ≡ true) ⊎ (k ≡ right_alone)
    left_or left_alone = inl refl
    left_or right_alone = inr refl
    left_or together = inl refl

    right_or : (k : Lays) → (has_right k ≡ true) ⊎ (k ≡ left_alone)
    right_or left_alone = inr refl
    right_or right_alone = inl refl
    right_or together = inl refl

    zero_left : root_left x y v root ≡ true → (bx' (length x.links) ≡ 0) × (ax' (length x.links) ≡ 0)
    zero_left t =
        let place : place_of 0 (laid_at has_left 1 ss) (length x.links) ≡ length ss = ap (place_of 0 (laid_at has_left 1 ss)) (sym (top.last refl).0) ∙ top.left_place (lays has_left right_alone left_or t) in
        (ap (λ (k : ℕ). get_or (b ∷ map (λ s. s.before) ss) k 0) place ∙ w.last_before, top_number x.links v ss (map (λ s. s.after) ss) (laid_at has_left 1 ss) cl (s.top_left t).0 place w.last_after)

    zero_right : root_right x y v root ≡ true → (by' (length y.links) ≡ 0) × (ay' (length y.links) ≡ 0)
    zero_right t =
        let place : place_of 0 (laid_at has_right 1 ss) (length y.links) ≡ length ss = ap (place_of 0 (laid_at has_right 1 ss)) (sym (top.last refl).1) ∙ top.right_place (lays has_right left_alone right_or t) in
        (ap (λ (k : ℕ). get_or (b ∷ map (λ s. s.before) ss) k 0) place ∙ w.last_before, top_number y.links v ss (map (λ s. s.after) ss) (laid_at has_right 1 ss) cr (s.top_right t).0 place w.last_after)

    s' : Solved x y v bx' ax' by' ay' root child
    s' = renumbered x y v bx ax by ay bx' ax' by' ay' root child none zero_left zero_right s

    laying : Laying x y v bx' ax' by' ay' root child ss
    laying = record {
      solved = s';
      left = cl;
      right = cr;
      slot = slot;
      steps = length_steps ss;
      left_before = λ i h. refl;
      left_after = λ i h. refl;
      right_before = λ j h. refl;
      right_after = λ j h. refl;
    }
