-- The node of each slot of a walk.
use Rattle.std.proofs.Common.{Bool, List, [], ap, arith, false, get_or, inl, inr, length, refl, subst, suc, sym, true, zero, ℕ, ◌+◌, ◌<◌, ◌∙◌, ◌∷◌, ◌≡◌, ◌≤◌, ◌⊎◌}
use Rattle.std.proofs.lemmas.Bool.{eq-eqb, false≢true}
use Rattle.std.specs.Prelude.{if◌then◌else◌, ◌==◌}
use Rattle.css_model.specs.declared.selector.Simple.{Simple}
use Rattle.grid_laws.proofs.Walks.Laid.{On}
use Rattle.grid_laws.proofs.Walks.Placed.{place_of}
use Rattle.grid_laws.specs.Grid.{Lays, Nodes, has_left, has_right, left_alone, right_alone, together}
use Rattle.grid_laws.specs.Slots.{Laid, laid_at}
use Rattle.slot_plan.specs.ValidShape.{simples_at}

-- no compound stands in a slot before the first one of a list
none_at : (one : Lays → Bool) (chain : List (List Simple)) (n k : ℕ) (ss : List Laid) → k < n → simples_at chain (laid_at one n ss) k ≡ []
none_at one [] n k ss h = refl
none_at one (c ∷ chain) n k [] h = refl
none_at one (c ∷ chain) n k (s ∷ ss) h = by (one s.lays) (none_at one chain (suc n) k ss (omega arith)) (none_at one (c ∷ chain) (suc n) k ss (omega arith))
  where
    by : (b : Bool) → simples_at chain (laid_at one (suc n) ss) k ≡ [] → simples_at (c ∷ chain) (laid_at one (suc n) ss) k ≡ [] → simples_at (c ∷ chain) (if b then n ∷ laid_at one (suc n) ss else laid_at one (suc n) ss) k ≡ []
    by true yes' no' = ap (λ b. if b then c else simples_at chain (laid_at one (suc n) ss) k) (let w : (n == k) ≡ false = grind arith in w) ∙ yes'
    by false yes' no' = no'

-- the compound of a node in a chain, counted from the compound laid last; nothing where the node has none
abbrev pub at_node : Bool → List (List Simple) → ℕ → List Simple
at_node false chain i = []
at_node true chain zero = []
at_node true chain (suc i) = get_or chain i []

-- slot t and its node, by the numbers of the slots of both chains
pub record SlotNode (v : Nodes) (xs ys : List (List Simple)) (t end : ℕ) (nl nr : List ℕ) : Type 0 where
  pub kind : Lays
  pub i : ℕ
  pub j : ℕ
  pub holds : v kind i j ≡ true
  pub left_some : has_left kind ≡ true → 0 < i
  pub right_some : has_right kind ≡ true → 0 < j
  pub left : simples_at xs nl t ≡ at_node (has_left kind) xs i
  pub right : simples_at ys nr t ≡ at_node (has_right kind) ys j
  pub left_place : has_left kind ≡ true → (p : ℕ) → place_of p nl i ≡ t
  pub right_place : has_right kind ≡ true → (p : ℕ) → place_of p nr j ≡ t
  pub last : suc t ≡ end → (i ≡ length nl) × (j ≡ length nr)
  pub inside : (i ≤ length nl) × (j ≤ length nr)

-- behind one compound
shift_at : (b : Bool) (c : List Simple) (chain : List (List Simple)) (i : ℕ) → (b ≡ true → 0 < i) → at_node b chain i ≡ at_node b (c ∷ chain) (suc i)
shift_at false c chain i h = refl
shift_at true c chain zero h = absurd (let w = h refl in omega arith)
shift_at true c chain (suc i) h = refl

pub slot_node : (ss : List Laid) (v : Nodes) (xs ys : List (List Simple)) (n t : ℕ) → On v ss → length (laid_at has_left n ss) ≤ length xs → length (laid_at has_right n ss) ≤ length ys → n ≤ t → t < n + length ss →
    SlotNode v xs ys t (n + length ss) (laid_at has_left n ss) (laid_at has_right n ss)
slot_node [] v xs ys n t on hx hy low high = absurd (omega arith)
slot_node (s ∷ ss) v xs ys n t on hx hy low high = by s.lays xs ys on hx hy
    (λ v xs ys on hx hy low. subst (λ (end : ℕ). SlotNode v xs ys t end (laid_at has_left (suc n) ss) (laid_at has_right (suc n) ss)) (omega arith) (slot_node ss v xs ys (suc n) t on hx hy low (omega arith)))
  where
    here_or : (n t : ℕ) → n ≤ t → (n ≡ t) ⊎ (suc n ≤ t)
    here_or n t h = grind arith

    no_more : length ss ≡ 0 → (one : Lays → Bool) → length (laid_at one (suc n) ss) ≡ 0
    no_more e one = empty_list ss e
      where
        empty_list : (ss : List Laid) → length ss ≡ 0 → length (laid_at one (suc n) ss) ≡ 0
        empty_list [] e = refl
        empty_list (s ∷ ss) e = absurd (omega arith)

    first_here : (c : List Simple) (cs : List (List Simple)) (ks : List ℕ) → n ≡ t → simples_at (c ∷ cs) (n ∷ ks) t ≡ c
    first_here c cs ks e = ap (λ b. if b then c else simples_at cs ks t) (eq-eqb n t e)

    not_first : (c : List Simple) (cs : List (List Simple)) (ks : List ℕ) → suc n ≤ t → simples_at (c ∷ cs) (n ∷ ks) t ≡ simples_at cs ks t
    not_first c cs ks h = ap (λ b. if b then c else simples_at cs ks t) (let w : (n == t) ≡ false = grind arith in w)

    none_here : (one : Lays → Bool) (cs : List (List Simple)) → n ≡ t → simples_at cs (laid_at one (suc n) ss) t ≡ []
    none_here one cs e = none_at one cs (suc n) t ss (omega arith)

    by : (l : Lays) (xs ys : List (List Simple)) →
        (elim l as (λ _. Type 0) [ left_alone ↦ (v left_alone 1 0 ≡ true) × On (λ k i j. v k (suc i) j) ss | right_alone ↦ (v right_alone 0 1 ≡ true) × On (λ k i j. v k i (suc j)) ss | together ↦ (v together 1 1 ≡ true) × On (λ k i j. v k (suc i) (suc j)) ss ]) →
        length (if has_left l then n ∷ laid_at has_left (suc n) ss else laid_at has_left (suc n) ss) ≤ length xs → length (if has_right l then n ∷ laid_at has_right (suc n) ss else laid_at has_right (suc n) ss) ≤ length ys →
        ((v : Nodes) (xs ys : List (List Simple)) → On v ss → length (laid_at has_left (suc n) ss) ≤ length xs → length (laid_at has_right (suc n) ss) ≤ length ys → suc n ≤ t → SlotNode v xs ys t (n + length (s ∷ ss)) (laid_at has_left (suc n) ss) (laid_at has_right (suc n) ss)) →
        SlotNode v xs ys t (n + length (s ∷ ss)) (if has_left l then n ∷ laid_at has_left (suc n) ss else laid_at has_left (suc n) ss) (if has_right l then n ∷ laid_at has_right (suc n) ss else laid_at has_right (suc n) ss)
    by left_alone [] ys on hx hy rest = absurd (omega arith)
    by left_alone (c ∷ xs) ys on hx hy rest = elim (here_or n t low) [
      | inl e ↦ record { kind = left_alone; i = 1; j = 0; holds = on.0; left_some = λ _. omega arith; right_some = λ h. absurd (false≢true h); left = first_here c xs (laid_at has_left (suc n) ss) e; right = none_here has_right ys e; left_place = λ _ p. e; right_place = λ h. absurd (false≢true h); last = λ z. let q = no_more (omega arith) in (ap suc (sym (q has_left)), sym (q has_right)); inside = (omega arith, omega arith) }
      | inr h ↦ (let r = rest (λ k i j. v k (suc i) j) xs ys on.1 (omega arith) hy h in
          record {
            kind = r.kind;
            i = suc r.i;
            j = r.j;
            holds = r.holds;
            left_some = λ _. omega arith;
            right_some = r.right_some;
            left = not_first c xs (laid_at has_left (suc n) ss) h ∙ r.left ∙ shift_at (has_left r.kind) c xs r.i r.left_some;
            right = r.right;
            left_place = λ h p. r.left_place h n;
            right_place = r.right_place;
            last = λ z. let q = r.last z in (ap suc q.0, q.1);
            inside = ((let w = r.inside in omega (arith, w)), (r.inside).1);
          })
    ]
    by right_alone xs [] on hx hy rest = absurd (omega arith)
    by right_alone xs (d ∷ ys) on hx hy rest = elim (here_or n t low) [
      | inl e ↦ record { kind = right_alone; i = 0; j = 1; holds = on.0; left_some = λ h. absurd (false≢true h); right_some = λ _. omega arith; left = none_here has_left xs e; right = first_here d ys (laid_at has_right (suc n) ss) e; left_place = λ h. absurd (false≢true h); right_place = λ _ p. e; last = λ z. let q = no_more (omega arith) in (sym (q has_left), ap suc (sym (q has_right))); inside = (omega arith, omega arith) }
      | inr h ↦ (let r = rest (λ k i j. v k i (suc j)) xs ys on.1 hx (omega arith) h in
          record {
            kind = r.kind;
            i = r.i;
            j = suc r.j;
            holds = r.holds;
            left_some = r.left_some;
            right_some = λ _. omega arith;
            left = r.left;
            right = not_first d ys (laid_at has_right (suc n) ss) h ∙ r.right ∙ shift_at (has_right r.kind) d ys r.j r.right_some;
            left_place = r.left_place;
            right_place = λ h p. r.right_place h n;
            last = λ z. let q = r.last z in (q.0, ap suc q.1);
            inside = ((r.inside).0, (let w = r.inside in omega (arith, w)));
          })
    ]
    by together [] ys on hx hy rest = absurd (omega arith)
    by together (c ∷ xs) [] on hx hy rest = absurd (omega arith)
    by together (c ∷ xs) (d ∷ ys) on hx hy rest = elim (here_or n t low) [
      | inl e ↦ record { kind = together; i = 1; j = 1; holds = on.0; left_some = λ _. omega arith; right_some = λ _. omega arith; left = first_here c xs (laid_at has_left (suc n) ss) e; right = first_here d ys (laid_at has_right (suc n) ss) e; left_place = λ _ p. e; right_place = λ _ p. e; last = λ z. let q = no_more (omega arith) in (ap suc (sym (q has_left)), ap suc (sym (q has_right))); inside = (omega arith, omega arith) }
      | inr h ↦ (let r = rest (λ k i j. v k (suc i) (suc j)) xs ys on.1 (omega arith) (omega arith) h in
          record {
            kind = r.kind;
            i = suc r.i;
            j = suc r.j;
            holds = r.holds;
            left_some = λ _. omega arith;
            right_some = λ _. omega arith;
            left = not_first c xs (laid_at has_left (suc n) ss) h ∙ r.left ∙ shift_at (has_left r.kind) c xs r.i r.left_some;
            right = not_first d ys (laid_at has_right (suc n) ss) h ∙ r.right ∙ shift_at (has_right r.kind) d ys r.j r.right_some;
            left_place = λ h p. r.left_place h n;
            right_place = λ h p. r.right_place h n;
            last = λ z. let q = r.last z in (ap suc q.0, ap suc q.1);
            inside = ((let w = r.inside in omega (arith, w)), (let w = r.inside in omega (arith, w)));
          })
    ]
