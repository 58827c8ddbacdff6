-- Where the compounds of a slot stand in the table of two selectors.
use Rattle.std.proofs.Common.{Bool, List, None, Option, Some, [], ap, arith, false, get_or, inl, inr, length, refl, subst, suc, sym, true, zero, ℕ, ◌*◌, ◌++◌, ◌+◌, ◌-◌, ◌<◌, ◌∙◌, ◌∷◌, ◌≡◌, ◌≤◌, ◌⊎◌}
use Rattle.std.proofs.lemmas.Bool.{eq-eqb, eqb-true, false≢true}
use Rattle.std.proofs.lemmas.List.{append-nil}
use Rattle.std.proofs.lemmas.Option.{get_or_from_slice_get, slice_get_within}
use Rattle.std.specs.List.{flat_map, slice_get}
use Rattle.std.specs.Prelude.{Contains, Ok, if◌then◌else◌, ◌==◌}
use Rattle.css_model.specs.Documents.FeatureParts.{FeatureParts}
use Rattle.css_model.specs.Documents.SelectorParts.{SelectorParts}
use Rattle.css_model.specs.declared.selector.Simple.{Simple}
use Rattle.compound_fit.specs.Fitting.{AreFeatures, IsFit}
use Rattle.compound_fit.specs.Table.{AreFits, IsTable, groups, with_each}
use Rattle.compound_fit.specs.TableParts.{TableParts}
use Rattle.example_doc.specs.Groups.{group_in, group_of, one_more, place_in}
use Rattle.list_facts.proofs.Members.{Contains-cons_cases, Contains-nil}
use Rattle.list_facts.proofs.Zips.{some_not_none}
use Rattle.shape_laws.proofs.ForCallers.{slots_length}
use Rattle.slot_plan.specs.ShapeParts.{ShapeParts}
use Rattle.slot_plan.specs.ValidShape.{SlotsOf, ValidShape, simples_at, simples_in}

-- ---- Compounds in slots

-- a compound of a chain, by its number
abbrev pub compound : List (List Simple) → Option ℕ → List Simple
compound chain None = []
compound chain (Some i) = get_or chain i []

-- a chain without its first compound
compound_behind : (c : List Simple) (chain : List (List Simple)) (o : Option ℕ) → compound (c ∷ chain) (one_more o) ≡ compound chain o
compound_behind c chain None = refl
compound_behind c chain (Some i) = refl

-- what stands in a slot, by the number of its compound
at_place : (chain : List (List Simple)) (slots : List ℕ) (k : ℕ) → length slots ≡ length chain → simples_at chain slots k ≡ compound chain (place_in slots k)
at_place [] [] k same = refl
at_place [] (p ∷ slots) k same = absurd (omega arith)
at_place (c ∷ chain) [] k same = absurd (omega arith)
at_place (c ∷ chain) (p ∷ slots) k same = by (p == k) (at_place chain slots k (omega arith))
  where
    by : (b : Bool) → simples_at chain slots k ≡ compound chain (place_in slots k) → (if b then c else simples_at chain slots k) ≡ compound (c ∷ chain) (if b then Some 0 else one_more (place_in slots k))
    by true rest = refl
    by false rest = rest ∙ sym (compound_behind c chain (place_in slots k))

-- the number of a compound is in range
pub place_small : (slots : List ℕ) (k i : ℕ) → place_in slots k ≡ Some i → i < length slots
place_small [] k i e = absurd (let bad : None ≡ Some i = e in cc)
place_small (p ∷ slots) k i e = by (p == k) e (place_small slots k)
  where
    by : (b : Bool) → (if b then Some 0 else one_more (place_in slots k)) ≡ Some i → ((j : ℕ) → place_in slots k ≡ Some j → j < length slots) → i < suc (length slots)
    by true e rest = let q : 0 ≡ i = cc in omega arith
    by false e rest = of (place_in slots k) refl e
      where
        of : (o : Option ℕ) → place_in slots k ≡ o → one_more o ≡ Some i → i < suc (length slots)
        of None is e = absurd (let bad : None ≡ Some i = e in cc)
        of (Some j) is e = let h = rest j is in let q : suc j ≡ i = cc in omega arith

-- the first compound stands in slot 0 alone
place_zero : (slots : List ℕ) → place_in (0 ∷ slots) 0 ≡ Some 0
place_zero slots = refl

place_first : (slots : List ℕ) (k : ℕ) → place_in (0 ∷ slots) k ≡ Some 0 → k ≡ 0
place_first slots k e = by (0 == k) refl e
  where
    by : (b : Bool) → (0 == k) ≡ b → (if b then Some 0 else one_more (place_in slots k)) ≡ Some 0 → k ≡ 0
    by true is e = sym (eqb-true 0 k is)
    by false is e = of (place_in slots k) e
      where
        of : (o : Option ℕ) → one_more o ≡ Some 0 → k ≡ 0
        of None e = absurd (let bad : None ≡ Some 0 = e in cc)
        of (Some j) e = absurd (let q : suc j ≡ 0 = cc in omega arith)

-- ---- Groups

-- a member of a list
member : {X : Type 0} (xs : List X) (i : ℕ) (d : X) → i < length xs → slice_get xs i ≡ Some (get_or xs i d)
member [] i d h = absurd (omega arith)
member (x ∷ xs) zero d h = refl
member (x ∷ xs) (suc i) d h = member xs i d (omega arith)

-- the members of two lists, one behind the other
get_left : {X : Type 0} (xs ys : List X) (i : ℕ) → i < length xs → slice_get (xs ++ ys) i ≡ slice_get xs i
get_left [] ys i h = absurd (omega arith)
get_left (x ∷ xs) ys zero h = refl
get_left (x ∷ xs) ys (suc i) h = get_left xs ys i (omega arith)

get_right : {X : Type 0} (xs ys : List X) (i : ℕ) → slice_get (xs ++ ys) (length xs + i) ≡ slice_get ys i
get_right [] ys i = ap (slice_get ys) (let e : 0 + i ≡ i = omega arith in e)
get_right (x ∷ xs) ys i = ap (slice_get (x ∷ (xs ++ ys))) (let e : suc (length xs) + i ≡ suc (length xs + i) = omega arith in e) ∙ get_right xs ys i

-- one compound with each of some
each_of : (c : List Simple) (ds : List (List Simple)) (j : ℕ) → j < length ds → slice_get (with_each c ds) j ≡ Some (c ++ get_or ds j [])
each_of c [] j h = absurd (omega arith)
each_of c (d ∷ ds) zero h = refl
each_of c (d ∷ ds) (suc j) h = each_of c ds j (omega arith)

length_each : (c : List Simple) (ds : List (List Simple)) → length (with_each c ds) ≡ length ds
length_each c [] = refl
length_each c (d ∷ ds) = ap suc (length_each c ds)

-- each of some with each of others
pairs_of : (cs ds : List (List Simple)) (i j : ℕ) → i < length cs → j < length ds → slice_get (flat_map (λ c. with_each c ds) cs) (i * length ds + j) ≡ Some (get_or cs i [] ++ get_or ds j [])
pairs_of [] ds i j hi hj = absurd (omega arith)
pairs_of (c ∷ cs) ds zero j hi hj =
    ap (slice_get (with_each c ds ++ flat_map (λ c. with_each c ds) cs)) (let e : 0 * length ds + j ≡ j = omega arith in e)
    ∙ get_left (with_each c ds) (flat_map (λ c. with_each c ds) cs) j (let l = length_each c ds in omega arith)
    ∙ each_of c ds j hj
pairs_of (c ∷ cs) ds (suc i) j hi hj =
    ap (slice_get (with_each c ds ++ flat_map (λ c. with_each c ds) cs)) (let l = length_each c ds in let e : suc i * length ds + j ≡ length (with_each c ds) + (i * length ds + j) = omega arith in e)
    ∙ get_right (with_each c ds) (flat_map (λ c. with_each c ds) cs) (i * length ds + j)
    ∙ pairs_of cs ds i j (omega arith) hj

-- the group of two compounds, one of which is the first of its chain only where both are
abbrev pub AreBothFirst : Option ℕ → Option ℕ → Type 0
AreBothFirst None None = ⊥
AreBothFirst None (Some zero) = ⊥
AreBothFirst None (Some (suc j)) = Unit {0}
AreBothFirst (Some zero) None = ⊥
AreBothFirst (Some (suc i)) None = Unit {0}
AreBothFirst (Some zero) (Some zero) = Unit {0}
AreBothFirst (Some zero) (Some (suc j)) = ⊥
AreBothFirst (Some (suc i)) (Some zero) = ⊥
AreBothFirst (Some (suc i)) (Some (suc j)) = Unit {0}

abbrev pub Within : ℕ → Option ℕ → Type 0
Within n None = Unit {0}
Within n (Some i) = i < n

group_is : (c d : List Simple) (cs ds : List (List Simple)) (left right : Option ℕ) → AreBothFirst left right → Within (suc (length cs)) left → Within (suc (length ds)) right →
    slice_get (groups (c ∷ cs) (d ∷ ds)) (group_of (length cs) (length ds) left right) ≡ Some (compound (c ∷ cs) left ++ compound (d ∷ ds) right)
group_is c d cs ds None None first hi hj = absurd first
group_is c d cs ds None (Some zero) first hi hj = absurd first
group_is c d cs ds None (Some (suc j)) first hi hj =
    ap (slice_get (groups (c ∷ cs) (d ∷ ds))) (let e : length cs + suc j ≡ suc (length cs + j) = omega arith in e)
    ∙ get_right cs (ds ++ flat_map (λ c. with_each c ds) cs) j ∙ get_left ds (flat_map (λ c. with_each c ds) cs) j (omega arith) ∙ member ds j [] (omega arith)
group_is c d cs ds (Some zero) None first hi hj = absurd first
group_is c d cs ds (Some (suc i)) None first hi hj =
    get_left cs (ds ++ flat_map (λ c. with_each c ds) cs) i (omega arith) ∙ member cs i [] (omega arith) ∙ ap Some (sym (append-nil (get_or cs i [])))
group_is c d cs ds (Some zero) (Some zero) first hi hj = refl
group_is c d cs ds (Some zero) (Some (suc j)) first hi hj = absurd first
group_is c d cs ds (Some (suc i)) (Some zero) first hi hj = absurd first
group_is c d cs ds (Some (suc i)) (Some (suc j)) first hi hj =
    ap (slice_get (groups (c ∷ cs) (d ∷ ds))) (let e : 1 + length cs + length ds + i * length ds + j ≡ suc (length cs + (length ds + (i * length ds + j))) = omega arith in e)
    ∙ get_right cs (ds ++ flat_map (λ c. with_each c ds) cs) (length ds + (i * length ds + j))
    ∙ get_right ds (flat_map (λ c. with_each c ds) cs) (i * length ds + j)
    ∙ pairs_of cs ds i j (omega arith) (omega arith)

-- ---- Slots of a shape

-- the slots of a chain begin with 0
slots_first : (chain : List (List Simple)) (links : _) (steps : _) (slots : List ℕ) → SlotsOf chain links steps slots → (c : List Simple) × (cs : List (List Simple)) × (ps : List ℕ) × (chain ≡ c ∷ cs) × (slots ≡ 0 ∷ ps) × (length ps ≡ length cs)
slots_first chain links steps [] of = absurd of
slots_first [] links steps (p ∷ ps) (is, up, same, fit) = absurd (omega arith)
slots_first (c ∷ cs) links steps (p ∷ ps) (is, up, same, fit) = (c, cs, ps, refl, ap (λ (n : ℕ). n ∷ ps) is, (omega arith))

-- a slot without a compound of a chain is none of its slots
none_there : (xs : List ℕ) (n : ℕ) → place_in xs n ≡ None → Contains xs n → ⊥
none_there [] n e in' = Contains-nil n in'
none_there (x ∷ xs) n e in' = of (x == n) refl e (none_there xs n)
  where
    no_more : (o : Option ℕ) → one_more o ≡ None → o ≡ None
    no_more None e = refl
    no_more (Some j) e = absurd (let bad : Some (suc j) ≡ None = e in cc)

    of : (b : Bool) → (x == n) ≡ b → (if b then Some 0 else one_more (place_in xs n)) ≡ None → (place_in xs n ≡ None → Contains xs n → ⊥) → ⊥
    of true is e rest = some_not_none 0 e
    of false is e rest = elim (Contains-cons_cases x xs n in') [
      | inl same ↦ false≢true (sym is ∙ eq-eqb x n same)
      | inr more ↦ rest (no_more (place_in xs n) e) more
    ]

not_zero : (k : ℕ) → (0 == suc k) ≡ false
not_zero k = grind arith

-- a slot has the first compound of one chain only where it has that of the other
both_first : (ps qs : List ℕ) (k : ℕ) → Contains (0 ∷ ps) k ⊎ Contains (0 ∷ qs) k → AreBothFirst (place_in (0 ∷ ps) k) (place_in (0 ∷ qs) k)
both_first ps qs zero used = tt
both_first ps qs (suc k) used =
    subst (λ b. AreBothFirst (if b then Some 0 else one_more (place_in ps (suc k))) (if b then Some 0 else one_more (place_in qs (suc k)))) (sym (not_zero k))
    (by (place_in ps (suc k)) (place_in qs (suc k)) refl refl)
  where
    behind : (xs : List ℕ) → Contains (0 ∷ xs) (suc k) → Contains xs (suc k)
    behind xs in' = elim (Contains-cons_cases 0 xs (suc k) in') [ inl same ↦ absurd (let e : 0 ≡ suc k = same in omega arith) | inr more ↦ more ]

    by : (o q : Option ℕ) → place_in ps (suc k) ≡ o → place_in qs (suc k) ≡ q → AreBothFirst (one_more o) (one_more q)
    by None None e f = elim used [ inl a ↦ none_there ps (suc k) e (behind ps a) | inr a ↦ none_there qs (suc k) f (behind qs a) ]
    by None (Some j) e f = tt
    by (Some i) None e f = tt
    by (Some i) (Some j) e f = tt

within : (slots : List ℕ) (k n : ℕ) → length slots ≡ n → Within n (place_in slots k)
within slots k n same = by (place_in slots k) refl
  where
    by : (o : Option ℕ) → place_in slots k ≡ o → Within n o
    by None e = tt
    by (Some i) e = let h = place_small slots k i e in omega arith

-- the group of a slot
pub group_there : (x y : SelectorParts) (shape : ShapeParts) (k : ℕ) → ValidShape x y shape → k ≤ length shape.steps →
    slice_get (groups x.chain y.chain) (group_in x y shape k) ≡ Some (simples_in x y shape k)
group_there x y shape k valid h =
    by x.chain shape.left y.chain shape.right (slots_first x.chain x.links shape.steps shape.left valid.left) (slots_first y.chain y.links shape.steps shape.right valid.right) (valid.used k h)
  where
    by : (xs : List (List Simple)) (ps : List ℕ) (ys : List (List Simple)) (qs : List ℕ) →
        (c : List Simple) × (cs : List (List Simple)) × (ps' : List ℕ) × (xs ≡ c ∷ cs) × (ps ≡ 0 ∷ ps') × (length ps' ≡ length cs) →
        (d : List Simple) × (ds : List (List Simple)) × (qs' : List ℕ) × (ys ≡ d ∷ ds) × (qs ≡ 0 ∷ qs') × (length qs' ≡ length ds) →
        Contains ps k ⊎ Contains qs k →
        slice_get (groups xs ys) (group_of (length xs - 1) (length ys - 1) (place_in ps k) (place_in qs k)) ≡ Some (simples_at xs ps k ++ simples_at ys qs k)
    by xs ps ys qs (c, cs, ps', is-x, is-p, same-x) (d, ds, qs', is-y, is-q, same-y) used =
        subst (λ l. slice_get (groups l ys) (group_of (length l - 1) (length ys - 1) (place_in ps k) (place_in qs k)) ≡ Some (simples_at l ps k ++ simples_at ys qs k)) (sym is-x)
        (subst (λ l. slice_get (groups (c ∷ cs) l) (group_of (length (c ∷ cs) - 1) (length l - 1) (place_in ps k) (place_in qs k)) ≡ Some (simples_at (c ∷ cs) ps k ++ simples_at l qs k)) (sym is-y)
        (subst (λ l. slice_get (groups (c ∷ cs) (d ∷ ds)) (group_of (length (c ∷ cs) - 1) (length (d ∷ ds) - 1) (place_in l k) (place_in qs k)) ≡ Some (simples_at (c ∷ cs) l k ++ simples_at (d ∷ ds) qs k)) (sym is-p)
        (subst (λ l. slice_get (groups (c ∷ cs) (d ∷ ds)) (group_of (length (c ∷ cs) - 1) (length (d ∷ ds) - 1) (place_in (0 ∷ ps') k) (place_in l k)) ≡ Some (simples_at (c ∷ cs) (0 ∷ ps') k ++ simples_at (d ∷ ds) l k)) (sym is-q)
        (ap (λ (n : ℕ). slice_get (groups (c ∷ cs) (d ∷ ds)) (group_of n (length (d ∷ ds) - 1) (place_in (0 ∷ ps') k) (place_in (0 ∷ qs') k))) (let e : length (c ∷ cs) - 1 ≡ length cs = omega arith in e)
        ∙ ap (λ (n : ℕ). slice_get (groups (c ∷ cs) (d ∷ ds)) (group_of (length cs) n (place_in (0 ∷ ps') k) (place_in (0 ∷ qs') k))) (let e : length (d ∷ ds) - 1 ≡ length ds = omega arith in e)
        ∙ group_is c d cs ds (place_in (0 ∷ ps') k) (place_in (0 ∷ qs') k)
        (both_first ps' qs' k (subst (λ l. Contains l k ⊎ Contains (0 ∷ qs') k) is-p (subst (λ l. Contains ps k ⊎ Contains l k) is-q used)))
        (within (0 ∷ ps') k (suc (length cs)) (ap suc same-x)) (within (0 ∷ qs') k (suc (length ds)) (ap suc same-y))
        ∙ ap Some (ap (λ l. l ++ compound (d ∷ ds) (place_in (0 ∷ qs') k)) (sym (at_place (c ∷ cs) (0 ∷ ps') k (ap suc same-x))) ∙ ap (λ l. simples_at (c ∷ cs) (0 ∷ ps') k ++ l) (sym (at_place (d ∷ ds) (0 ∷ qs') k (ap suc same-y))))))))

-- the fit of a group
fit_of : (fs : List (Option FeatureParts)) (gs : List (List Simple)) (i : ℕ) (g : List Simple) → AreFits fs gs → slice_get gs i ≡ Some g → (f : Option FeatureParts) × (slice_get fs i ≡ Some f) × IsFit (Ok f) g
fit_of [] [] i g fit e = absurd (let bad : None ≡ Some g = e in cc)
fit_of [] (h ∷ gs) i g fit e = absurd fit
fit_of (f ∷ fs) [] i g fit e = absurd fit
fit_of (f ∷ fs) (h ∷ gs) zero g (fit, more) e = (f, refl, subst (IsFit (Ok f)) (let q : h ≡ g = cc in q) fit)
fit_of (f ∷ fs) (h ∷ gs) (suc i) g (fit, more) e = fit_of fs gs i g more e

-- the features of a slot
pub fit_there : (t : TableParts) (x y : SelectorParts) (shape : ShapeParts) (k : ℕ) → IsTable t x y → ValidShape x y shape → k ≤ length shape.steps →
    (f : FeatureParts) × (slice_get t.fits (group_in x y shape k) ≡ Some (Some f)) × AreFeatures f (simples_in x y shape k)
fit_there t x y shape k table valid h = by (fit_of t.fits (groups x.chain y.chain) group (simples_in x y shape k) table.fits (group_there x y shape k valid h))
  where
    group : ℕ
    group = group_of (length x.chain - 1) (length y.chain - 1) (place_in shape.left k) (place_in shape.right k)

    by : (f : Option FeatureParts) × (slice_get t.fits group ≡ Some f) × IsFit (Ok f) (simples_in x y shape k) → (f : FeatureParts) × (slice_get t.fits group ≡ Some (Some f)) × AreFeatures f (simples_in x y shape k)
    by (Some f, is, fit) = (f, is, fit.1)
    by (None, is, fit) = absurd (fit.1 (valid.features k h))

-- there is a first compound
pub few_others : (x y : SelectorParts) (shape : ShapeParts) → ValidShape x y shape → (1 ≤ length x.chain) × (1 ≤ length y.chain) × (length shape.left ≡ length x.chain) × (length shape.right ≡ length y.chain)
few_others x y shape valid =
    let left = slots_length x.chain x.links shape.steps shape.left valid.left in
    let right = slots_length y.chain y.links shape.steps shape.right valid.right in
    let a = slots_first x.chain x.links shape.steps shape.left valid.left in
    let b = slots_first y.chain y.links shape.steps shape.right valid.right in
    let la = ap length a.3 in let lb = ap length b.3 in
    (omega arith, omega arith, left, right)

-- the same, as it is read
pub fit_at : (t : TableParts) (x y : SelectorParts) (shape : ShapeParts) (k : ℕ) (d : Option FeatureParts) → IsTable t x y → ValidShape x y shape → k ≤ length shape.steps →
    (group_in x y shape k < length t.fits)
    × ((f : FeatureParts) × (get_or t.fits (group_in x y shape k) d ≡ Some f) × AreFeatures f (simples_in x y shape k))
fit_at t x y shape k d table valid h =
    let there = fit_there t x y shape k table valid h in (
      slice_get_within t.fits (group_in x y shape k) (Some there.0) there.1,
      (there.0, get_or_from_slice_get t.fits (group_in x y shape k) (Some there.0) d there.1, there.2),
    )

-- what is read there
pub is_the : (fits read : List (Option FeatureParts)) (k n : ℕ) (o : Option FeatureParts) (f g : FeatureParts) → read ≡ fits → k ≡ n → o ≡ get_or read k o → get_or fits n o ≡ Some f → o ≡ Some g → f ≡ g
is_the fits read k n o f g e i at is some =
    let q : Some f ≡ Some g = sym is ∙ ap (λ (m : ℕ). get_or fits m o) (sym i) ∙ ap (λ l. get_or l k o) (sym e) ∙ sym at ∙ some in
    let r : f ≡ g = cc in r

pub none_is_no : (fits read : List (Option FeatureParts)) (k n : ℕ) (o : Option FeatureParts) (f : FeatureParts) → read ≡ fits → k ≡ n → o ≡ get_or read k o → get_or fits n o ≡ Some f → o ≡ None → ⊥
none_is_no fits read k n o f e i at is none =
    let q : Some f ≡ None = sym is ∙ ap (λ (m : ℕ). get_or fits m o) (sym i) ∙ ap (λ l. get_or l k o) (sym e) ∙ sym at ∙ none in
    cc
