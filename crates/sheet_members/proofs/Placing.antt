-- The first places of labels in a table.
use Rattle.std.proofs.Common.{◌≡◌, ◌<◌, ◌≤◌, ℕ, zero, suc, ◌+◌, ◌-◌, Bool, true, false, cond, not, List, [], ◌∷◌, ◌++◌, length, get_or, take, Option, Some, None, is_some, refl, sym, ap, ap₂, subst, ◌∙◌, arith}
use Rattle.std.specs.Prelude.{◌||◌, slice_get}
use Rattle.std.specs.List.{enumerate_from, filter, filter_map, find, list_any}
use Rattle.std.specs.Option.{option_map, option_or}
use Rattle.std.proofs.lemmas.Bool.{false≢true, false_from_ne_true}
use Rattle.std.proofs.lemmas.List.Folds.{find-append}
use Rattle.sheet_members.specs.Compared.{Common, Compared, common_of, compared_of, has_member, twin_in}
use Rattle.sheet_members.specs.Labels.{Label, same_label}
use Rattle.sheet_members.specs.Members.{Member}
use Rattle.sheet_members.specs.Tables.{ArePlaces}
use Rattle.sheet_members.proofs.Repeats.{front_next}
use Rattle.sheet_members.specs.SameLabels.{label_decides}

abbrev pub first_of : ℕ × Member → ℕ
first_of x = x.0

-- the members with their places, the last one apart
enumerate_append : (n : ℕ) (xs : List Member) (y : Member) → enumerate_from n (xs ++ y ∷ []) ≡ enumerate_from n xs ++ (n + length xs, y) ∷ []
enumerate_append n [] y = ap (λ (k : ℕ). (k, y) ∷ []) (omega arith)
enumerate_append n (x ∷ xs) y =
    ap (λ (es : List (ℕ × Member)). (n, x) ∷ es) (enumerate_append (n + 1) xs y ∙ ap (λ (k : ℕ). enumerate_from (n + 1) xs ++ (k, y) ∷ []) (omega arith))

abbrev is_of : Label → ℕ × Member → Bool
is_of l x = same_label x.1.label l

pub no_places : (places : Label → Option ℕ) → ((q : Label) → places q ≡ None) → ArePlaces [] places
no_places places none q = none q

-- what is found among some members and one more
find_more : (before : List Member) (m : Member) (l : Label) →
    find (is_of l) (enumerate_from 0 (before ++ m ∷ [])) ≡ option_or (find (is_of l) (enumerate_from 0 before)) (cond (same_label m.label l) (Some (length before, m)) None)
find_more before m l =
    ap (find (is_of l)) (enumerate_append 0 before m ∙ ap (λ (k : ℕ). enumerate_from 0 before ++ (k, m) ∷ []) (let same : 0 + length before ≡ length before = omega arith in same))
    ∙ find-append (is_of l) (enumerate_from 0 before) ((length before, m) ∷ [])

places_same : (o : Option (ℕ × Member)) (b : Bool) (n : ℕ) (m : Member) → (b ≡ true → is_some o ≡ true) → option_map first_of o ≡ option_map first_of (option_or o (cond b (Some (n, m)) None))
places_same (Some x) b n m h = refl
places_same None true n m h = absurd (false≢true (h refl))
places_same None false n m h = refl

places_new : (o : Option (ℕ × Member)) (b : Bool) (n : ℕ) (m : Member) → (b ≡ true → is_some o ≡ false) →
    cond b (Some n) (option_map first_of o) ≡ option_map first_of (option_or o (cond b (Some (n, m)) None))
places_new (Some x) true n m h = absurd (false≢true (sym (h refl)))
places_new (Some x) false n m h = refl
places_new None true n m h = refl
places_new None false n m h = refl

mapped_some : (o : Option (ℕ × Member)) → is_some (option_map first_of o) ≡ is_some o
mapped_some None = refl
mapped_some (Some x) = refl

-- a table in which a label has its place already
pub places_with_old : (before : List Member) (places : Label → Option ℕ) (m : Member) → ArePlaces before places → is_some (places m.label) ≡ true → ArePlaces (before ++ m ∷ []) places
places_with_old before places m are there l =
    are l ∙ places_same (find (is_of l) (enumerate_from 0 before)) (same_label m.label l) (length before) m
    (λ same. let equal : m.label ≡ l = (label_decides m.label l).0 same in
    sym (mapped_some (find (is_of l) (enumerate_from 0 before))) ∙ ap is_some (sym (are l)) ∙ ap (λ (k : Label). is_some (places k)) (sym equal) ∙ there)
    ∙ ap (option_map first_of) (sym (find_more before m l))

-- a table in which it gets one
pub places_with : (before : List Member) (old new : Label → Option ℕ) (m : Member) (place : ℕ) → place ≡ length before → ArePlaces before old → is_some (old m.label) ≡ false →
    ((q : Label) → new q ≡ cond (same_label m.label q) (Some place) (old q)) → ArePlaces (before ++ m ∷ []) new
places_with before old new m place at are none updates l =
    updates l
    ∙ ap₂ (λ (n : ℕ) (o : Option ℕ). cond (same_label m.label l) (Some n) o) at (are l)
    ∙ places_new (find (is_of l) (enumerate_from 0 before)) (same_label m.label l) (length before) m
    (λ same. let equal : m.label ≡ l = (label_decides m.label l).0 same in
    sym (mapped_some (find (is_of l) (enumerate_from 0 before))) ∙ ap is_some (sym (are l)) ∙ ap (λ (k : Label). is_some (old k)) (sym equal) ∙ none)
    ∙ ap (option_map first_of) (sym (find_more before m l))

-- ---- What is found

some_any : (l : Label) (n : ℕ) (ms : List Member) → is_some (find (is_of l) (enumerate_from n ms)) ≡ list_any (λ m. same_label m.label l) ms
some_any l n [] = refl
some_any l n (m ∷ ms) = which (same_label m.label l) (some_any l (n + 1) ms)
  where
    which : (b : Bool) → is_some (find (is_of l) (enumerate_from (n + 1) ms)) ≡ list_any (λ x. same_label x.label l) ms →
        is_some (cond b (Some (n, m)) (find (is_of l) (enumerate_from (n + 1) ms))) ≡ (b || list_any (λ x. same_label x.label l) ms)
    which true h = refl
    which false h = h

pub has_twin : (others : List Member) (l : Label) (place : Option ℕ) → place ≡ option_map first_of (twin_in others l) → is_some place ≡ has_member others l
has_twin others l place is = ap is_some is ∙ mapped_some (twin_in others l) ∙ some_any l 0 others

-- a member that is found is at its place
found_at : (l : Label) (n : ℕ) (ms : List Member) (x : ℕ × Member) → find (is_of l) (enumerate_from n ms) ≡ Some x → (n ≤ x.0) × (slice_get ms (x.0 - n) ≡ Some x.1)
found_at l n [] x h = absurd (let none : ⊥ = cc in none)
found_at l n (m ∷ ms) x h = which (same_label m.label l) refl (λ g. found_at l (n + 1) ms x g)
  where
    which : (b : Bool) → same_label m.label l ≡ b → (find (is_of l) (enumerate_from (n + 1) ms) ≡ Some x → (n + 1 ≤ x.0) × (slice_get ms (x.0 - (n + 1)) ≡ Some x.1)) →
        (n ≤ x.0) × (slice_get (m ∷ ms) (x.0 - n) ≡ Some x.1)
    which true e rest =
        let is : (n, m) ≡ x = let found : Some (n, m) ≡ Some x = ap (λ (b : Bool). cond b (Some (n, m)) (find (is_of l) (enumerate_from (n + 1) ms))) (sym e) ∙ h in cc in
        subst (λ (y : ℕ × Member). (n ≤ y.0) × (slice_get (m ∷ ms) (y.0 - n) ≡ Some y.1)) is (omega arith, ap (slice_get (m ∷ ms)) (let none : n - n ≡ 0 = omega arith in none))
    which false e rest =
        let more = rest (ap (λ (b : Bool). cond b (Some (n, m)) (find (is_of l) (enumerate_from (n + 1) ms))) (sym e) ∙ h) in
        let up = more.0 in
        let step : x.0 - n ≡ suc (x.0 - (n + 1)) = omega (arith, up) in
        (omega (arith, up), ap (slice_get (m ∷ ms)) step ∙ more.1)

-- a member as a common one, by the place of its label
pub common_there : (others : List Member) (m yours : Member) (there : ℕ) → Some there ≡ option_map first_of (twin_in others m.label) → Some yours ≡ slice_get others there →
    Some (record { mine = m; yours = yours; there = there }) ≡ common_of others m
common_there others m yours there place at = which (twin_in others m.label) refl place
  where
    which : (o : Option (ℕ × Member)) → twin_in others m.label ≡ o → Some there ≡ option_map first_of o → Some (record { mine = m; yours = yours; there = there }) ≡ common_of others m
    which None e h = absurd (let none : ⊥ = cc in none)
    which (Some x) e h =
        let same : there ≡ x.0 = cc in
        let found = (found_at m.label 0 others x e).1 in
        let is : Some yours ≡ Some x.1 = at ∙ ap (slice_get others) (same ∙ omega arith) ∙ found in
        let twin : yours ≡ x.1 = cc in
        ap₂ (λ (y : Member) (n : ℕ). Some (record { mine = m; yours = y; there = n })) twin same ∙ ap (option_map (λ (z : ℕ × Member). record { mine = m; yours = z.1; there = z.0 })) (sym e)

pub common_nowhere : (others : List Member) (m : Member) → None ≡ option_map first_of (twin_in others m.label) → None ≡ common_of others m
common_nowhere others m place = which (twin_in others m.label) refl place
  where
    which : (o : Option (ℕ × Member)) → twin_in others m.label ≡ o → None ≡ option_map first_of o → None ≡ common_of others m
    which None e h = ap (option_map (λ (z : ℕ × Member). record { mine = m; yours = z.1; there = z.0 })) (sym e)
    which (Some x) e h = absurd (let none : ⊥ = cc in none)

-- no member is at a place that is found
pub never_nowhere : (others : List Member) (m : Member) (there : ℕ) → Some there ≡ option_map first_of (twin_in others m.label) → None ≡ slice_get others there → None ≡ common_of others m
never_nowhere others m there place at = which (twin_in others m.label) refl place
  where
    which : (o : Option (ℕ × Member)) → twin_in others m.label ≡ o → Some there ≡ option_map first_of o → None ≡ common_of others m
    which None e h = absurd (let none : ⊥ = cc in none)
    which (Some x) e h =
        let same : there ≡ x.0 = cc in
        let found = (found_at m.label 0 others x e).1 in
        let is : None ≡ Some x.1 = at ∙ ap (slice_get others) (same ∙ omega arith) ∙ found in
        absurd (let none : ⊥ = cc in none)

pub places_next : (ms : List Member) (i : ℕ) (m : Member) → i < length ms → m ≡ get_or ms i m → (places : Label → Option ℕ) → ArePlaces (take i ms ++ m ∷ []) places → ArePlaces (take (i + 1) ms) places
places_next ms i m within is places h = subst (λ (xs : List Member). ArePlaces xs places) (front_next ms i m within is) h

abbrev pub the_parts : List Common → List Member → List Member → Compared
the_parts commons missing extra = record { commons = commons; missing = missing; extra = extra }

-- what is compared, by tables of both lists
pub compared_is : (ms ns mine yours : List Member) (commons : List Common) (missing extra : List Member) → mine ≡ ms → yours ≡ ns → commons ≡ filter_map (common_of yours) ms →
    missing ≡ filter (λ m. not (has_member yours m.label)) ms → extra ≡ filter (λ n. not (has_member mine n.label)) ns →
    the_parts commons missing extra ≡ compared_of ms ns
compared_is ms ns mine yours commons missing extra is_mine is_yours is_commons is_missing is_extra =
    ap (λ (cs : List Common). the_parts cs missing extra) (is_commons ∙ ap (λ (xs : List Member). filter_map (common_of xs) ms) is_yours)
    ∙ ap (λ (xs : List Member). the_parts (filter_map (common_of ns) ms) xs extra) (is_missing ∙ ap (λ (xs : List Member). filter (λ m. not (has_member xs m.label)) ms) is_yours)
    ∙ ap (λ (xs : List Member). the_parts (filter_map (common_of ns) ms) (filter (λ m. not (has_member ns m.label)) ms) xs)
    (is_extra ∙ ap (λ (xs : List Member). filter (λ n. not (has_member xs n.label)) ns) is_mine)
