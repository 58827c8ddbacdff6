-- How many pairs rules have, where a selector that a rule repeats counts once.
use Rattle.std.proofs.Common.{◌≡◌, ◌⊎◌, ℕ, zero, suc, ◌+◌, ◌*◌, ◌≤◌, Bool, true, not, List, [], ◌∷◌, ◌++◌, length, map, refl, ap, subst, inl, inr, ◌∙◌, arith}
use Rattle.std.specs.List.{Contains, filter, remove}
use Rattle.std.proofs.Math.Nat.{mul-le-mul_right}
use Rattle.std.proofs.lemmas.Bool.{cond_both}
use Rattle.std.proofs.lemmas.List.{length-append, length-map, map-append}
use Rattle.std.proofs.lemmas.List.Elements.{Contains-append_left, Contains-append_right, Contains-append_cases}
use Rattle.std.proofs.lemmas.List.Filters.{length-filter_both}
use Rattle.list_facts.proofs.Members.{Contains-here, Contains-there, Contains-cons_cases}
use Rattle.css_model.specs.declared.sheet.Decl.{Decl}
use Rattle.css_model.specs.declared.sheet.DeclItem.{DeclItem}
use Rattle.css_model.specs.declared.sheet.SelItem.{SelItem}
use Rattle.css_model.specs.Documents.SelectorParts.{SelectorParts}
use Rattle.css_model.specs.Sheets.RuleParts.{RuleParts}
use Rattle.order_laws.proofs.ForCallers.{decls, sels, has_decl_is}
use Rattle.order_laws.specs.Members.{has_decl, has_selector}
use Rattle.step_laws.proofs.ForCallers.{in_common}
use Rattle.step_laws.specs.RuleParting.{both_selectors, common_decls, without_decls}
use Rattle.plan_laws.proofs.Limit.Once.{no_longer, once_in, in_once, each_is_once, last_is_once}
use Rattle.plan_laws.specs.Limit.PairLimit.{each_once}

-- ---- Selectors

abbrev pub count : List SelItem → ℕ
count ss = length (each_once ss)

sels_count : (ss : List SelItem) → length (sels (each_once ss)) ≡ count ss
sels_count ss = length-map (each_once ss) (λ s. s.selector)

-- selectors that are all among others count no more than these
pub among_counts : (ss ts : List SelItem) → ((s : SelectorParts) → Contains (sels ss) s → Contains (sels ts) s) → count ss ≤ count ts
among_counts ss ts among =
    let a : length (sels (each_once ss)) ≤ length (sels (each_once ts)) =
    no_longer (sels (each_once ss)) (sels (each_once ts)) (each_is_once ss) (λ s h. in_once ts s (among s (once_in ss s h))) in
    omega (arith, a, sels_count ss, sels_count ts)

filter_in : {X Y : Type 0} (f : X → Y) (p : X → Bool) (xs : List X) (y : Y) → Contains (map f (filter p xs)) y → Contains (map f xs) y
filter_in f p [] y = λ h. h
filter_in f p (x ∷ xs) y = cond_both (p x) (x ∷ filter p xs) (filter p xs) (λ zs. Contains (map f zs) y → Contains (map f (x ∷ xs)) y)
    (λ kept h. which (filter_in f p xs y) (Contains-cons_cases (f x) (map f (filter p xs)) y h))
    (λ gone h. Contains-there (f x) (map f xs) y (filter_in f p xs y h))
  where
    which : (Contains (map f (filter p xs)) y → Contains (map f xs) y) → (f x ≡ y) ⊎ Contains (map f (filter p xs)) y → Contains (map f (x ∷ xs)) y
    which ih (inl e) = subst (Contains (map f (x ∷ xs))) e (Contains-here (f x) (map f xs))
    which ih (inr c) = Contains-there (f x) (map f xs) y (ih c)

-- the selectors of two rules count no more than those of each together
pub both_count : (u l : RuleParts) → count (both_selectors u l) ≤ count u.selectors + count l.selectors
both_count u l =
    let more : List SelItem = filter (λ s. not (has_selector u.selectors s.selector)) l.selectors in
    let a : length (sels (each_once (both_selectors u l))) ≤ length (sels (each_once u.selectors) ++ sels (each_once l.selectors)) =
    no_longer (sels (each_once (both_selectors u l))) (sels (each_once u.selectors) ++ sels (each_once l.selectors)) (each_is_once (both_selectors u l))
    (λ s h. which s (Contains-append_cases (sels u.selectors) (sels more) s (subst (λ xs. Contains xs s) (map-append (λ x. x.selector) u.selectors more) (once_in (both_selectors u l) s h)))) in
    let b : length (sels (each_once u.selectors) ++ sels (each_once l.selectors)) ≡ length (sels (each_once u.selectors)) + length (sels (each_once l.selectors)) =
    length-append (sels (each_once u.selectors)) (sels (each_once l.selectors)) in
    omega (arith, a, b, sels_count (both_selectors u l), sels_count u.selectors, sels_count l.selectors)
  where
    which : (s : SelectorParts) → Contains (sels u.selectors) s ⊎ Contains (sels (filter (λ x. not (has_selector u.selectors x.selector)) l.selectors)) s →
        Contains (sels (each_once u.selectors) ++ sels (each_once l.selectors)) s
    which s (inl h) = Contains-append_left (sels (each_once u.selectors)) (sels (each_once l.selectors)) s (in_once u.selectors s h)
    which s (inr h) = Contains-append_right (sels (each_once u.selectors)) (sels (each_once l.selectors)) s
        (in_once l.selectors s (filter_in (λ x. x.selector) (λ x. not (has_selector u.selectors x.selector)) l.selectors s h))

pub removed_in : {X Y : Type 0} (f : X → Y) (xs : List X) (i : ℕ) (y : Y) → Contains (map f (remove xs i)) y → Contains (map f xs) y
removed_in f [] zero y h = h
removed_in f [] (suc i) y h = h
removed_in f (x ∷ xs) zero y h = Contains-there (f x) (map f xs) y h
removed_in f (x ∷ xs) (suc i) y h = which (removed_in f xs i y) (Contains-cons_cases (f x) (map f (remove xs i)) y h)
  where
    which : (Contains (map f (remove xs i)) y → Contains (map f xs) y) → (f x ≡ y) ⊎ Contains (map f (remove xs i)) y → Contains (map f (x ∷ xs)) y
    which ih (inl e) = subst (Contains (map f (x ∷ xs))) e (Contains-here (f x) (map f xs))
    which ih (inr c) = Contains-there (f x) (map f xs) y (ih c)

pub removed_count : (ss : List SelItem) (i : ℕ) → count (remove ss i) ≤ count ss
removed_count ss i = among_counts (remove ss i) ss (λ s h. removed_in (λ x. x.selector) ss i s h)

-- ---- Declarations

pub removed_length : {X : Type 0} (xs : List X) (i : ℕ) → length (remove xs i) ≤ length xs
removed_length [] zero = omega arith
removed_length [] (suc i) = omega arith
removed_length (x ∷ xs) zero = omega arith
removed_length (x ∷ xs) (suc i) = let ih : length (remove xs i) ≤ length xs = removed_length xs i in
    let e : suc (length (remove xs i)) ≤ suc (length xs) = omega (arith, ih) in e

passes_in : (p : Decl → Bool) (ds : List DeclItem) (d : Decl) → p d ≡ true → Contains (decls ds) d → Contains (decls (filter (λ x. p x.decl) ds)) d
passes_in p [] d k h = h
passes_in p (x ∷ ds) d k h = which (passes_in p ds d k) (Contains-cons_cases x.decl (decls ds) d h)
  where
    which : (Contains (decls ds) d → Contains (decls (filter (λ x. p x.decl) ds)) d) → (x.decl ≡ d) ⊎ Contains (decls ds) d → Contains (decls (filter (λ x. p x.decl) (x ∷ ds))) d
    which ih (inl e) =
        cond_both (p x.decl) (x ∷ filter (λ x. p x.decl) ds) (filter (λ x. p x.decl) ds) (λ ys. Contains (decls ys) d)
        (λ kept. subst (Contains (decls (x ∷ filter (λ x. p x.decl) ds))) e (Contains-here x.decl (decls (filter (λ x. p x.decl) ds))))
        (λ gone. absurd (let a : p x.decl ≡ true = ap p e ∙ k in cc))
    which ih (inr g) =
        cond_both (p x.decl) (x ∷ filter (λ x. p x.decl) ds) (filter (λ x. p x.decl) ds) (λ ys. Contains (decls ys) d)
        (λ kept. Contains-there x.decl (decls (filter (λ x. p x.decl) ds)) d (ih g))
        (λ gone. ih g)

-- common declarations, and what is left of a rule without them, are no more than the rule's
common_fit : (u l r : RuleParts) → ((d : Decl) → Contains (decls (common_decls u l)) d → Contains (decls r.decls) d) →
    length (without_decls (common_decls u l) r).decls + length (common_decls u l) ≤ length r.decls
common_fit u l r among =
    let common : List DeclItem = common_decls u l in
    let a : length (filter (λ d. has_decl common d.decl) r.decls) + length (filter (λ d. not (has_decl common d.decl)) r.decls) ≡ length r.decls =
    length-filter_both (λ d. has_decl common d.decl) (λ d. not (has_decl common d.decl)) (λ d. refl) r.decls in
    let b : length (decls common) ≤ length (decls (filter (λ d. has_decl common d.decl) r.decls)) =
    no_longer (decls common) (decls (filter (λ d. has_decl common d.decl) r.decls)) (last_is_once (filter (λ d. has_decl u.decls d.decl) l.decls))
    (λ d h. passes_in (has_decl common) r.decls d ((has_decl_is common d).1 h) (among d h)) in
    omega (arith, a, b, length-map common (λ d. d.decl), length-map (filter (λ d. has_decl common d.decl) r.decls) (λ d. d.decl))

pub upper_fits : (u l : RuleParts) → length (without_decls (common_decls u l) u).decls + length (common_decls u l) ≤ length u.decls
upper_fits u l = common_fit u l u (λ d h. (in_common u l d h).0)

pub lower_fits : (u l : RuleParts) → length (without_decls (common_decls u l) l).decls + length (common_decls u l) ≤ length l.decls
lower_fits u l = common_fit u l l (λ d h. (in_common u l d h).1)

-- ---- Products

pub times_sum : (n a b : ℕ) → n * (a + b) ≡ n * a + n * b
times_sum n a b = omega arith

sum_times : (a b n : ℕ) → (a + b) * n ≡ a * n + b * n
sum_times a b n = omega arith

pub more_times : (a b n m : ℕ) → a ≤ b → n ≤ m → a * n ≤ b * m
more_times a b n m h k =
    let f : a * n ≤ b * n = mul-le-mul_right n h in
    let g : n * b ≤ m * b = mul-le-mul_right b k in
    let e : n * b ≡ b * n = omega arith in
    let e' : m * b ≡ b * m = omega arith in
    omega (arith, f, g, e, e')

-- what a share makes of two rules has no more pairs than they
pub shared_sum : (u l s above below common us ls : ℕ) → s ≤ u + l → above + common ≤ us → below + common ≤ ls →
    u * above + (s * common + l * below) ≤ u * us + l * ls
shared_sum u l s above below common us ls h k m =
    let a : s * common ≤ u * common + l * common = let t : s * common ≤ (u + l) * common = mul-le-mul_right common h in omega (arith, t, sum_times u l common) in
    let b : u * above + u * common ≤ u * us = let t : u * (above + common) ≤ u * us = more_times u u (above + common) us (omega arith) k in omega (arith, t, times_sum u above common) in
    let c : l * below + l * common ≤ l * ls = let t : l * (below + common) ≤ l * ls = more_times l l (below + common) ls (omega arith) m in omega (arith, t, times_sum l below common) in
    omega (arith, a, b, c)
