-- The last pairs of a sheet ascend by their places.
use Rattle.std.proofs.Common.{◌≡◌, ℕ, zero, suc, ◌<◌, ◌≤◌, Bool, true, false, not, List, [], ◌∷◌, ◌++◌, map, Some, None, refl, subst, arith}
use Rattle.std.specs.Prelude.{slice_get, if◌then◌else◌}
use Rattle.std.specs.List.{AllByRecursion, filter, flat_map}
use Rattle.std.proofs.lemmas.Bool.{cond_both}
use Rattle.std.proofs.lemmas.Bool.Decides.{nat_tests}
use Rattle.cascade_laws.proofs.ForCallers.{some-same}
use Rattle.css_model.specs.declared.sheet.Decl.{Decl}
use Rattle.css_model.specs.declared.sheet.DeclItem.{DeclItem}
use Rattle.css_model.specs.declared.sheet.Item.{Item}
use Rattle.css_model.specs.declared.sheet.Item.TheVariants.{Rule, KeptRule, KeptBlock}
use Rattle.css_model.specs.declared.sheet.SelItem.{SelItem}
use Rattle.css_model.specs.Documents.SelectorParts.{SelectorParts}
use Rattle.list_facts.proofs.Elements.{all_filter, all_with}
use Rattle.order_index.specs.Others.{Later, Rise}
use Rattle.order_laws.specs.Members.{has_decl, same_selector}
use Rattle.order_laws.specs.Places.{PlacedPair, first_selectors, has_pair, last_decls, last_pairs_from, pairs_of, placed}

-- ---- The order

by_item : (p q : PlacedPair) → p.place.item < q.place.item → Later p q
by_item p q h = grind (arith, nat_tests)

by_selector : (p q : PlacedPair) → p.place.item ≡ q.place.item → p.place.selector < q.place.selector → Later p q
by_selector p q e h = grind (arith, nat_tests)

by_decl : (p q : PlacedPair) → p.place.item ≡ q.place.item → p.place.selector ≡ q.place.selector → p.place.decl < q.place.decl → Later p q
by_decl p q e f h = grind (arith, nat_tests)

-- ---- Lists that rise

all_kept : {X : Type 0} (P : X → Type 0) (f : X → Bool) (xs : List X) → AllByRecursion P xs → AllByRecursion P (filter f xs)
all_kept P f xs h = all_with (λ x. P x × (f x ≡ true)) P (λ x g. g.0) (filter f xs) (all_filter P f xs h)

pub rise_filter : (f : PlacedPair → Bool) (ps : List PlacedPair) → Rise ps → Rise (filter f ps)
rise_filter f [] rise = tt
rise_filter f (p ∷ ps) rise =
    cond_both (f p) (p ∷ filter f ps) (filter f ps) Rise (λ is. (all_kept (Later p) f ps rise.0, rise_filter f ps rise.1)) (λ is. rise_filter f ps rise.1)

all_both : {X : Type 0} (P : X → Type 0) (xs ys : List X) → AllByRecursion P xs → AllByRecursion P ys → AllByRecursion P (xs ++ ys)
all_both P [] ys h g = g
all_both P (x ∷ xs) ys h g = (h.0, all_both P xs ys h.1 g)

rise_both : (ps qs : List PlacedPair) → Rise ps → Rise qs → AllByRecursion (λ p. AllByRecursion (Later p) qs) ps → Rise (ps ++ qs)
rise_both [] qs rise more all = more
rise_both (p ∷ ps) qs rise more all = (all_both (Later p) ps qs rise.0 all.0, rise_both ps qs rise.1 more all.1)

at_is : (P : PlacedPair → Type 0) (ps : List PlacedPair) (i : ℕ) (p : PlacedPair) → AllByRecursion P ps → slice_get ps i ≡ Some p → P p
at_is P [] i p all at = absurd (let e : None ≡ Some p = at in cc)
at_is P (q ∷ ps) zero p all at = subst P (some-same at) all.0
at_is P (q ∷ ps) (suc i) p all at = at_is P ps i p all.1 at

pub rise_at : (ps : List PlacedPair) → Rise ps → (i j : ℕ) (p q : PlacedPair) → i < j → slice_get ps i ≡ Some p → slice_get ps j ≡ Some q → Later p q
rise_at [] rise i j p q less p_at q_at = absurd (let e : None ≡ Some p = p_at in cc)
rise_at (r ∷ ps) rise i zero p q less p_at q_at = absurd (omega (arith, less))
rise_at (r ∷ ps) rise zero (suc j) p q less p_at q_at = subst (λ (x : PlacedPair). Later x q) (some-same p_at) (at_is (Later r) ps j q rise.0 q_at)
rise_at (r ∷ ps) rise (suc i) (suc j) p q less p_at q_at = rise_at ps rise.1 i j p q (omega (arith, less)) p_at q_at

-- ---- Parts of rules

-- the numbers ascend from this one on
abbrev Up : {X : Type 0} → ℕ → List (ℕ × X) → Type 0
Up n [] = Unit {0}
Up n (x ∷ xs) = (n ≤ x.0) × Up (suc x.0) xs

up_lower : {X : Type 0} (m n : ℕ) (xs : List (ℕ × X)) → m ≤ n → Up n xs → Up m xs
up_lower m n [] less up = tt
up_lower m n (x ∷ xs) less up = let low = up.0 in (omega (arith, less, low), up.1)

up_filter : {X : Type 0} (f : ℕ × X → Bool) (n : ℕ) (xs : List (ℕ × X)) → Up n xs → Up n (filter f xs)
up_filter f n [] up = tt
up_filter f n (x ∷ xs) up =
    cond_both (f x) (x ∷ filter f xs) (filter f xs) (Up n) (λ is. (up.0, up_filter f (suc x.0) xs up.1))
    (λ is. let low = up.0 in up_lower n (suc x.0) (filter f xs) (omega (arith, low)) (up_filter f (suc x.0) xs up.1))

selectors_up : (n : ℕ) (ss : List SelItem) → Up n (first_selectors n ss)
selectors_up n [] = tt
selectors_up n (s ∷ ss) = (omega arith, up_filter (λ t. not (same_selector t.1 s.selector)) (suc n) (first_selectors (suc n) ss) (selectors_up (suc n) ss))

decls_up : (n : ℕ) (ds : List DeclItem) → Up n (last_decls n ds)
decls_up n [] = tt
decls_up n (d ∷ ds) =
    cond_both (has_decl ds d.decl) (last_decls (suc n) ds) ((n, d.decl) ∷ last_decls (suc n) ds) (Up n)
    (λ again. up_lower n (suc n) (last_decls (suc n) ds) (omega arith) (decls_up (suc n) ds)) (λ last. (omega arith, decls_up (suc n) ds))

-- ---- Pairs of rules

-- the pairs of a selector are later than one of it with an earlier declaration
of_selector : (n : ℕ) (s : ℕ × SelectorParts) (d : ℕ × Decl) (k : ℕ) (ds : List (ℕ × Decl)) → d.0 < k → Up k ds → AllByRecursion (Later (placed n s d)) (map (placed n s) ds)
of_selector n s d k [] less up = tt
of_selector n s d k (e ∷ ds) less up =
    let low = up.0 in
    (by_decl (placed n s d) (placed n s e) refl refl (omega (arith, less, low)), of_selector n s d (suc e.0) ds (omega (arith, less, low)) up.1)

selector_rises : (n : ℕ) (s : ℕ × SelectorParts) (k : ℕ) (ds : List (ℕ × Decl)) → Up k ds → Rise (map (placed n s) ds)
selector_rises n s k [] up = tt
selector_rises n s k (d ∷ ds) up = (of_selector n s d (suc d.0) ds (omega arith) up.1, selector_rises n s (suc d.0) ds up.1)

-- those of later selectors are later than a pair
of_placed : (n : ℕ) (p : PlacedPair) (t : ℕ × SelectorParts) (ds : List (ℕ × Decl)) (rest : List PlacedPair) → p.place.item ≡ n → p.place.selector < t.0 → AllByRecursion (Later p) rest → AllByRecursion (Later p) (map (placed n t) ds ++ rest)
of_placed n p t [] rest e less all = all
of_placed n p t (d ∷ ds) rest e less all = (by_selector p (placed n t d) e less, of_placed n p t ds rest e less all)

of_products : (n : ℕ) (p : PlacedPair) (k : ℕ) (ss : List (ℕ × SelectorParts)) (ds : List (ℕ × Decl)) → p.place.item ≡ n → p.place.selector < k → Up k ss → AllByRecursion (Later p) (flat_map (λ s. map (placed n s) ds) ss)
of_products n p k [] ds e less up = tt
of_products n p k (t ∷ ss) ds e less up =
    let low = up.0 in
    of_placed n p t ds (flat_map (λ s. map (placed n s) ds) ss) e (omega (arith, less, low)) (of_products n p (suc t.0) ss ds e (omega (arith, less, low)) up.1)

each_of : (n : ℕ) (s : ℕ × SelectorParts) (ss : List (ℕ × SelectorParts)) (ds es : List (ℕ × Decl)) → Up (suc s.0) ss → AllByRecursion (λ p. AllByRecursion (Later p) (flat_map (λ t. map (placed n t) es) ss)) (map (placed n s) ds)
each_of n s ss [] es up = tt
each_of n s ss (d ∷ ds) es up = (of_products n (placed n s d) (suc s.0) ss es refl (omega arith) up, each_of n s ss ds es up)

products_rise : (n k l : ℕ) (ss : List (ℕ × SelectorParts)) (ds : List (ℕ × Decl)) → Up k ss → Up l ds → Rise (flat_map (λ s. map (placed n s) ds) ss)
products_rise n k l [] ds up downs = tt
products_rise n k l (s ∷ ss) ds up downs =
    rise_both (map (placed n s) ds) (flat_map (λ t. map (placed n t) ds) ss) (selector_rises n s l ds downs) (products_rise n (suc s.0) l ss ds up.1 downs) (each_of n s ss ds ds up.1)

pairs_rise : (n : ℕ) (item : Item) → Rise (pairs_of n item)
pairs_rise n (Rule r) = products_rise n 0 0 (first_selectors 0 r.selectors) (last_decls 0 r.decls) (selectors_up 0 r.selectors) (decls_up 0 r.decls)
pairs_rise n (KeptRule k) = tt
pairs_rise n (KeptBlock k) = tt

-- ---- Pairs of sheets

abbrev IsOf : ℕ → PlacedPair → Type 0
IsOf n q = q.place.item ≡ n

all_placed : (n : ℕ) (s : ℕ × SelectorParts) (ds : List (ℕ × Decl)) (rest : List PlacedPair) → AllByRecursion (IsOf n) rest → AllByRecursion (IsOf n) (map (placed n s) ds ++ rest)
all_placed n s [] rest all = all
all_placed n s (d ∷ ds) rest all = (refl, all_placed n s ds rest all)

all_products : (n : ℕ) (ds : List (ℕ × Decl)) (ss : List (ℕ × SelectorParts)) → AllByRecursion (IsOf n) (flat_map (λ s. map (placed n s) ds) ss)
all_products n ds [] = tt
all_products n ds (s ∷ ss) = all_placed n s ds (flat_map (λ s. map (placed n s) ds) ss) (all_products n ds ss)

all_of : (n : ℕ) (item : Item) → AllByRecursion (IsOf n) (pairs_of n item)
all_of n (Rule r) = all_products n (last_decls 0 r.decls) (first_selectors 0 r.selectors)
all_of n (KeptRule k) = tt
all_of n (KeptBlock k) = tt

abbrev IsFrom : ℕ → PlacedPair → Type 0
IsFrom n q = n ≤ q.place.item

pairs_from : (counts : ℕ → Bool) (n : ℕ) (items : List Item) → AllByRecursion (IsFrom n) (last_pairs_from counts n items)
pairs_from counts n [] = tt
pairs_from counts n (item ∷ items) = which (pairs_from counts (suc n) items) (counts n)
  where
    later : List PlacedPair
    later = last_pairs_from counts (suc n) items

    own : AllByRecursion (IsFrom n) (filter (λ p. not (has_pair later p.pair)) (pairs_of n item))
    own = all_kept (IsFrom n) (λ p. not (has_pair later p.pair)) (pairs_of n item) (all_with (IsOf n) (IsFrom n) (λ q h. omega (arith, h)) (pairs_of n item) (all_of n item))

    lower : AllByRecursion (IsFrom (suc n)) later → AllByRecursion (IsFrom n) later
    lower behind = all_with (IsFrom (suc n)) (IsFrom n) (λ q h. omega (arith, h)) later behind

    which : AllByRecursion (IsFrom (suc n)) later → (b : Bool) → AllByRecursion (IsFrom n) (if b then filter (λ p. not (has_pair later p.pair)) (pairs_of n item) ++ later else later)
    which behind true = all_both (IsFrom n) (filter (λ p. not (has_pair later p.pair)) (pairs_of n item)) later own (lower behind)
    which behind false = lower behind

pub last_rise : (counts : ℕ → Bool) (n : ℕ) (items : List Item) → Rise (last_pairs_from counts n items)
last_rise counts n [] = tt
last_rise counts n (item ∷ items) = which (last_rise counts (suc n) items) (counts n)
  where
    later : List PlacedPair
    later = last_pairs_from counts (suc n) items

    own : List PlacedPair
    own = filter (λ p. not (has_pair later p.pair)) (pairs_of n item)

    own_of : AllByRecursion (IsOf n) own
    own_of = all_kept (IsOf n) (λ p. not (has_pair later p.pair)) (pairs_of n item) (all_of n item)

    behind : (p : PlacedPair) → IsOf n p → AllByRecursion (Later p) later
    behind p is = all_with (IsFrom (suc n)) (Later p) (λ q h. by_item p q (omega (arith, h, is))) later (pairs_from counts (suc n) items)

    which : Rise later → (b : Bool) → Rise (if b then own ++ later else later)
    which rise true = rise_both own later (rise_filter (λ p. not (has_pair later p.pair)) (pairs_of n item) (pairs_rise n item)) rise (all_with (IsOf n) (λ p. AllByRecursion (Later p) later) behind own own_of)
    which rise false = rise
