-- What stands in each slot of a walk.
use Rattle.std.proofs.Common.{Bool, List, [], ap, arith, false, get_or, inl, inr, length, map, not, refl, suc, sym, true, zero, ℕ, ◌&&◌, ◌++◌, ◌<◌, ◌∙◌, ◌∷◌, ◌≡◌, ◌≤◌, ◌⊎◌}
use Rattle.std.proofs.lemmas.Bool.{eq-eqb, eqb-true, false≢true}
use Rattle.std.proofs.lemmas.List.{append_assoc, get_or_at, length_push}
use Rattle.std.specs.Bool.{MatchBool}
use Rattle.std.specs.Prelude.{Contains, if◌then◌else◌, ◌==◌}
use Rattle.css_model.specs.Documents.SelectorParts.{SelectorParts}
use Rattle.css_model.specs.declared.selector.Simple.{Simple}
use Rattle.grid_laws.proofs.Walks.Laid.{NumbersAt, On}
use Rattle.grid_laws.proofs.Walks.Listing.{steps_of}
use Rattle.grid_laws.proofs.Walks.Placed.{Chained, place_of}
use Rattle.grid_laws.proofs.Walks.SlotNodes.{at_node, slot_node}
use Rattle.grid_laws.specs.Grid.{Lays, Nodes, has_left, has_right, left_alone, right_alone, together}
use Rattle.grid_laws.specs.Slots.{Laid, laid_at}
use Rattle.grid_laws.specs.Solved.{Solved, if_there, nth_compound, root_left, root_right}
use Rattle.list_facts.proofs.Members.{Contains-cons_cases, Contains-here, Contains-nil, Contains-there}
use Rattle.slot_plan.specs.ValidShape.{simples_at}

-- the counts in a compound's slot are its numbers
pub before_at : (one : Lays → Bool) (b a : ℕ → ℕ) (front : List ℕ) (n p : ℕ) (ss : List Laid) (i : ℕ) → length front ≡ n → NumbersAt one b a ss → i < length (laid_at one n ss) →
    get_or (front ++ map (λ s. s.before) ss) (place_of p (laid_at one n ss) (suc i)) 0 ≡ b i
before_at one b a front n p [] i e numbers h = absurd (omega arith)
before_at one b a front n p (s ∷ ss) i e numbers h = by (one s.lays) i numbers h
    (λ b a p i numbers h. ap (λ vs. get_or vs (place_of p (laid_at one (suc n) ss) (suc i)) 0) (sym (append_assoc front (s.before ∷ []) (map (λ s. s.before) ss)))
    ∙ before_at one b a (front ++ s.before ∷ []) (suc n) p ss i (let l = length_push front s.before in omega arith) numbers h)
  where
    by : (y : Bool) (i : ℕ) → MatchBool y ((s.before ≡ b 0) × (s.after ≡ a 0) × NumbersAt one (λ i. b (suc i)) (λ i. a (suc i)) ss) (NumbersAt one b a ss) → i < length (if y then n ∷ laid_at one (suc n) ss else laid_at one (suc n) ss) →
        ((b a : ℕ → ℕ) (p i : ℕ) → NumbersAt one b a ss → i < length (laid_at one (suc n) ss) → get_or (front ++ s.before ∷ map (λ s. s.before) ss) (place_of p (laid_at one (suc n) ss) (suc i)) 0 ≡ b i) →
        get_or (front ++ s.before ∷ map (λ s. s.before) ss) (place_of p (if y then n ∷ laid_at one (suc n) ss else laid_at one (suc n) ss) (suc i)) 0 ≡ b i
    by true zero numbers h rest = get_or_at front s.before (map (λ s. s.before) ss) 0 n e ∙ numbers.0
    by true (suc i) numbers h rest = rest (λ i. b (suc i)) (λ i. a (suc i)) n i numbers.2 (omega arith)
    by false i numbers h rest = rest b a p i numbers h

pub after_at : (one : Lays → Bool) (b a : ℕ → ℕ) (front : List ℕ) (n p : ℕ) (ss : List Laid) (i : ℕ) → length front ≡ n → NumbersAt one b a ss → i < length (laid_at one n ss) →
    get_or (front ++ map (λ s. s.after) ss) (place_of p (laid_at one n ss) (suc i)) 0 ≡ a i
after_at one b a front n p [] i e numbers h = absurd (omega arith)
after_at one b a front n p (s ∷ ss) i e numbers h = by (one s.lays) i numbers h
    (λ b a p i numbers h. ap (λ vs. get_or vs (place_of p (laid_at one (suc n) ss) (suc i)) 0) (sym (append_assoc front (s.after ∷ []) (map (λ s. s.after) ss)))
    ∙ after_at one b a (front ++ s.after ∷ []) (suc n) p ss i (let l = length_push front s.after in omega arith) numbers h)
  where
    by : (y : Bool) (i : ℕ) → MatchBool y ((s.before ≡ b 0) × (s.after ≡ a 0) × NumbersAt one (λ i. b (suc i)) (λ i. a (suc i)) ss) (NumbersAt one b a ss) → i < length (if y then n ∷ laid_at one (suc n) ss else laid_at one (suc n) ss) →
        ((b a : ℕ → ℕ) (p i : ℕ) → NumbersAt one b a ss → i < length (laid_at one (suc n) ss) → get_or (front ++ s.after ∷ map (λ s. s.after) ss) (place_of p (laid_at one (suc n) ss) (suc i)) 0 ≡ a i) →
        get_or (front ++ s.after ∷ map (λ s. s.after) ss) (place_of p (if y then n ∷ laid_at one (suc n) ss else laid_at one (suc n) ss) (suc i)) 0 ≡ a i
    by true zero numbers h rest = get_or_at front s.after (map (λ s. s.after) ss) 0 n e ∙ numbers.1
    by true (suc i) numbers h rest = rest (λ i. b (suc i)) (λ i. a (suc i)) n i numbers.2 (omega arith)
    by false i numbers h rest = rest b a p i numbers h

pub contains_place : (p : ℕ) (ps : List ℕ) (i : ℕ) → Contains (p ∷ ps) (place_of p ps i)
contains_place p ps zero = Contains-here p ps
contains_place p [] (suc i) = Contains-here p []
contains_place p (q ∷ qs) (suc i) = Contains-there p (q ∷ qs) (place_of q qs i) (contains_place q qs i)

pub place_contained : (p : ℕ) (ps : List ℕ) (k : ℕ) → Contains (p ∷ ps) k → (i : ℕ) × (place_of p ps i ≡ k)
place_contained p [] k h = elim (Contains-cons_cases p [] k h) [ inl e ↦ (0, e) | inr more ↦ absurd (Contains-nil k more) ]
place_contained p (q ∷ qs) k h = elim (Contains-cons_cases p (q ∷ qs) k h) [ inl e ↦ (0, e) | inr more ↦ (let r = place_contained q qs k more in (suc r.0, r.1)) ]

-- slot k and its node, counted from the first compounds
pub record AtSlot (x y : SelectorParts) (v : Nodes) (ss : List Laid) (k : ℕ) : Type 0 where
  pub kind : Lays
  pub i : ℕ
  pub j : ℕ
  pub holds : v kind i j ≡ true
  pub hi : i ≤ length x.links
  pub hj : j ≤ length y.links
  pub left : simples_at x.chain (0 ∷ laid_at has_left 1 ss) k ≡ if_there (has_left kind) (nth_compound x.chain i)
  pub right : simples_at y.chain (0 ∷ laid_at has_right 1 ss) k ≡ if_there (has_right kind) (nth_compound y.chain j)
  pub left_place : has_left kind ≡ true → place_of 0 (laid_at has_left 1 ss) i ≡ k
  pub right_place : has_right kind ≡ true → place_of 0 (laid_at has_right 1 ss) j ≡ k
  pub last : k ≡ length ss → (i ≡ length x.links) × (j ≡ length y.links)

-- the first slot
at_zero : (chain : List (List Simple)) (ps : List ℕ) → simples_at chain (0 ∷ ps) 0 ≡ nth_compound chain 0
at_zero [] ps = refl
at_zero (c ∷ cs) ps = refl

-- what a node lays
node_compound : (c : List Simple) (cs : List (List Simple)) (b : Bool) (i : ℕ) → (b ≡ true → 0 < i) → at_node b cs i ≡ if_there b (nth_compound (c ∷ cs) i)
node_compound c cs false i some = refl
node_compound c cs true zero some = absurd (let w = some refl in omega arith)
node_compound c cs true (suc i) some = refl

-- what stands in slot k
pub at_slot : (x y : SelectorParts) (v : Nodes) (bx ax by ay : ℕ → ℕ) (root child : Bool) (ss : List Laid) → Solved x y v bx ax by ay root child → On v ss →
    length x.links ≡ length (laid_at has_left 1 ss) → length y.links ≡ length (laid_at has_right 1 ss) → (k : ℕ) → k ≤ length ss → AtSlot x y v ss k
at_slot x y v bx ax by ay root child ss s on lx ly zero h = record {
  kind = together;
  i = 0;
  j = 0;
  holds = s.start;
  hi = omega arith;
  hj = omega arith;
  left = at_zero x.chain (laid_at has_left 1 ss);
  right = at_zero y.chain (laid_at has_right 1 ss);
  left_place = λ _. refl;
  right_place = λ _. refl;
  last = λ e. (sym (none_left has_left ss e) ∙ sym lx, sym (none_left has_right ss e) ∙ sym ly);
}
  where
    none_left : (one : Lays → Bool) (ss : List Laid) → 0 ≡ length ss → length (laid_at one 1 ss) ≡ 0
    none_left one [] e = refl
    none_left one (t ∷ ts) e = absurd (omega arith)
at_slot x y v bx ax by ay root child ss s on lx ly (suc k) h = go x.chain y.chain refl refl
  where
    past : (c : List Simple) (cs : List (List Simple)) (ps : List ℕ) → simples_at (c ∷ cs) (0 ∷ ps) (suc k) ≡ simples_at cs ps (suc k)
    past c cs ps = ap (λ t. if t then c else simples_at cs ps (suc k)) (let w : (0 == suc k) ≡ false = grind arith in w)

    go : (xc yc : List (List Simple)) → x.chain ≡ xc → y.chain ≡ yc → AtSlot x y v ss (suc k)
    go [] yc ex ey = absurd (let l = s.length_left in let w = ap length ex in omega arith)
    go (c ∷ cs) [] ex ey = absurd (let l = s.length_right in let w = ap length ey in omega arith)
    go (c ∷ cs) (d ∷ ds) ex ey =
        let n = slot_node ss v cs ds 1 (suc k) on (let l = s.length_left in let w = ap length ex in omega arith) (let l = s.length_right in let w = ap length ey in omega arith) (omega arith) (omega arith) in
        record {
          kind = n.kind;
          i = n.i;
          j = n.j;
          holds = n.holds;
          hi = (let w = n.inside in omega (arith, w));
          hj = (let w = n.inside in omega (arith, w));
          left = ap (λ ch. simples_at ch (0 ∷ laid_at has_left 1 ss) (suc k)) ex ∙ past c cs (laid_at has_left 1 ss) ∙ n.left ∙ node_compound c cs (has_left n.kind) n.i n.left_some ∙ ap (λ ch. if_there (has_left n.kind) (nth_compound ch n.i)) (sym ex);
          right = ap (λ ch. simples_at ch (0 ∷ laid_at has_right 1 ss) (suc k)) ey ∙ past d ds (laid_at has_right 1 ss) ∙ n.right ∙ node_compound d ds (has_right n.kind) n.j n.right_some ∙ ap (λ ch. if_there (has_right n.kind) (nth_compound ch n.j)) (sym ey);
          left_place = λ e. n.left_place e 0;
          right_place = λ e. n.right_place e 0;
          last = λ e. (let q = n.last (omega arith) in (q.0 ∙ sym lx, q.1 ∙ sym ly));
        }

-- what is at hand behind a walk
pub record Laying (x y : SelectorParts) (v : Nodes) (bx ax by ay : ℕ → ℕ) (root child : Bool) (ss : List Laid) : Type 0 where
  pub solved : Solved x y v bx ax by ay root child
  pub left : Chained (steps_of ss) x.links (laid_at has_left 1 ss)
  pub right : Chained (steps_of ss) y.links (laid_at has_right 1 ss)
  pub slot : (k : ℕ) → k ≤ length ss → AtSlot x y v ss k
  pub steps : length (steps_of ss) ≡ length ss
  pub left_before : (i : ℕ) → i ≤ length x.links → get_or (bx 0 ∷ map (λ s. s.before) ss) (place_of 0 (laid_at has_left 1 ss) i) 0 ≡ bx i
  pub left_after : (i : ℕ) → i ≤ length x.links → get_or (ax 0 ∷ map (λ s. s.after) ss) (place_of 0 (laid_at has_left 1 ss) i) 0 ≡ ax i
  pub right_before : (j : ℕ) → j ≤ length y.links → get_or (bx 0 ∷ map (λ s. s.before) ss) (place_of 0 (laid_at has_right 1 ss) j) 0 ≡ by j
  pub right_after : (j : ℕ) → j ≤ length y.links → get_or (ax 0 ∷ map (λ s. s.after) ss) (place_of 0 (laid_at has_right 1 ss) j) 0 ≡ ay j

-- a test and one that holds
pub and_true : (b : Bool) → (b && true) ≡ b
and_true true = refl
and_true false = refl

-- and one that does not
and_false : (b : Bool) → (b && false) ≡ false
and_false true = refl
and_false false = refl

not_false : (r b : Bool) → b ≡ false → (r && not b) ≡ r
not_false true b e = ap not e
not_false false b e = refl

not_true' : (r b c : Bool) → b ≡ true → ((r && not b) && c) ≡ false
not_true' true b c e = ap (λ t. not t && c) e
not_true' false b c e = refl

-- a smaller number is another one
below_apart : (k n : ℕ) → k < n → (k == n) ≡ false
below_apart k n h = grind arith

last_or : (k n : ℕ) → k ≤ n → (k ≡ n) ⊎ (k < n)
last_or k n h = grind arith

-- whether a compound stands in the root
pub root_at_left : (x y : SelectorParts) (v : Nodes) (bx ax by ay : ℕ → ℕ) (root child : Bool) (ss : List Laid) → Laying x y v bx ax by ay root child ss → (k : ℕ) (h : k ≤ length ss) (a : AtSlot x y v ss k) → has_left a.kind ≡ true →
    (root && (k == length (steps_of ss))) ≡ (root_left x y v root && (a.i == length x.links))
root_at_left x y v bx ax by ay root child ss l k h a here = split (last_or k (length ss) h)
  where
    at_last : k ≡ length ss → (root && (k == length (steps_of ss))) ≡ (root_left x y v root && (a.i == length x.links))
    at_last is =
        let q = a.last is in
        ap (λ b. root && b) (eq-eqb k (length (steps_of ss)) (is ∙ sym l.steps)) ∙ and_true root
        ∙ sym (ap (λ b. root_left x y v root && b) (eq-eqb a.i (length x.links) q.0) ∙ and_true (root_left x y v root)
        ∙ not_false root (v right_alone (length x.links) (length y.links)) (no_right (v right_alone (length x.links) (length y.links)) refl q.0 q.1))
      where
        no_right : (b : Bool) → v right_alone (length x.links) (length y.links) ≡ b → a.i ≡ length x.links → a.j ≡ length y.links → b ≡ false
        no_right false e ei ej = refl
        no_right true e ei ej =
            let same = l.solved.one_last a.kind right_alone (ap (λ (i : ℕ). v a.kind i (length y.links)) (sym ei) ∙ ap (λ (j : ℕ). v a.kind a.i j) (sym ej) ∙ a.holds) e in
            absurd (false≢true (sym (ap has_left same) ∙ here))

    split : (k ≡ length ss) ⊎ (k < length ss) → (root && (k == length (steps_of ss))) ≡ (root_left x y v root && (a.i == length x.links))
    split (inl is) = at_last is
    split (inr less) =
        ap (λ b. root && b) (below_apart k (length (steps_of ss)) (let e = l.steps in omega arith)) ∙ and_false root ∙ sym (other (a.i == length x.links) refl)
      where
        top : AtSlot x y v ss (length ss)
        top = l.slot (length ss) (omega arith)

        other : (b : Bool) → (a.i == length x.links) ≡ b → (root_left x y v root && b) ≡ false
        other false e = and_false (root_left x y v root)
        other true e = not_true' root (v right_alone (length x.links) (length y.links)) true (alone top.kind refl)
          where
            q : (top.i ≡ length x.links) × (top.j ≡ length y.links)
            q = top.last refl

            alone : (kind : Lays) → top.kind ≡ kind → v right_alone (length x.links) (length y.links) ≡ true
            alone right_alone is = ap (λ (k : Lays). v k (length x.links) (length y.links)) (sym is) ∙ ap (λ (i : ℕ). v top.kind i (length y.links)) (sym q.0) ∙ ap (λ (j : ℕ). v top.kind top.i j) (sym q.1) ∙ top.holds
            alone left_alone is = absurd (let w = top.left_place (ap has_left is) in let w' = a.left_place here in let z = ap (place_of 0 (laid_at has_left 1 ss)) (q.0 ∙ sym (eqb-true a.i (length x.links) e)) in omega arith)
            alone together is = absurd (let w = top.left_place (ap has_left is) in let w' = a.left_place here in let z = ap (place_of 0 (laid_at has_left 1 ss)) (q.0 ∙ sym (eqb-true a.i (length x.links) e)) in omega arith)

pub root_at_right : (x y : SelectorParts) (v : Nodes) (bx ax by ay : ℕ → ℕ) (root child : Bool) (ss : List Laid) → Laying x y v bx ax by ay root child ss → (k : ℕ) (h : k ≤ length ss) (a : AtSlot x y v ss k) → has_right a.kind ≡ true →
    (root && (k == length (steps_of ss))) ≡ (root_right x y v root && (a.j == length y.links))
root_at_right x y v bx ax by ay root child ss l k h a here = split (last_or k (length ss) h)
  where
    at_last : k ≡ length ss → (root && (k == length (steps_of ss))) ≡ (root_right x y v root && (a.j == length y.links))
    at_last is =
        let q = a.last is in
        ap (λ b. root && b) (eq-eqb k (length (steps_of ss)) (is ∙ sym l.steps)) ∙ and_true root
        ∙ sym (ap (λ b. root_right x y v root && b) (eq-eqb a.j (length y.links) q.1) ∙ and_true (root_right x y v root)
        ∙ not_false root (v left_alone (length x.links) (length y.links)) (no_left (v left_alone (length x.links) (length y.links)) refl q.0 q.1))
      where
        no_left : (b : Bool) → v left_alone (length x.links) (length y.links) ≡ b → a.i ≡ length x.links → a.j ≡ length y.links → b ≡ false
        no_left false e ei ej = refl
        no_left true e ei ej =
            let same = l.solved.one_last a.kind left_alone (ap (λ (i : ℕ). v a.kind i (length y.links)) (sym ei) ∙ ap (λ (j : ℕ). v a.kind a.i j) (sym ej) ∙ a.holds) e in
            absurd (false≢true (sym (ap has_right same) ∙ here))

    split : (k ≡ length ss) ⊎ (k < length ss) → (root && (k == length (steps_of ss))) ≡ (root_right x y v root && (a.j == length y.links))
    split (inl is) = at_last is
    split (inr less) =
        ap (λ b. root && b) (below_apart k (length (steps_of ss)) (let e = l.steps in omega arith)) ∙ and_false root ∙ sym (other (a.j == length y.links) refl)
      where
        top : AtSlot x y v ss (length ss)
        top = l.slot (length ss) (omega arith)

        other : (b : Bool) → (a.j == length y.links) ≡ b → (root_right x y v root && b) ≡ false
        other false e = and_false (root_right x y v root)
        other true e = not_true' root (v left_alone (length x.links) (length y.links)) true (alone top.kind refl)
          where
            q : (top.i ≡ length x.links) × (top.j ≡ length y.links)
            q = top.last refl

            alone : (kind : Lays) → top.kind ≡ kind → v left_alone (length x.links) (length y.links) ≡ true
            alone left_alone is = ap (λ (k : Lays). v k (length x.links) (length y.links)) (sym is) ∙ ap (λ (i : ℕ). v top.kind i (length y.links)) (sym q.0) ∙ ap (λ (j : ℕ). v top.kind top.i j) (sym q.1) ∙ top.holds
            alone right_alone is = absurd (let w = top.right_place (ap has_right is) in let w' = a.right_place here in let z = ap (place_of 0 (laid_at has_right 1 ss)) (q.1 ∙ sym (eqb-true a.j (length y.links) e)) in omega arith)
            alone together is = absurd (let w = top.right_place (ap has_right is) in let w' = a.right_place here in let z = ap (place_of 0 (laid_at has_right 1 ss)) (q.1 ∙ sym (eqb-true a.j (length y.links) e)) in omega arith)
