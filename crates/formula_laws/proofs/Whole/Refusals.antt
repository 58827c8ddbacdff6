-- What is asked beside the numbers is decided rightly.
use Rattle.std.proofs.Common.{Bool, List, None, Option, Some, [], ap, arith, false, inl, inr, length, not, refl, subst, suc, sym, true, zero, ℕ, ◌&&◌, ◌<◌, ◌||◌, ◌∙◌, ◌∷◌, ◌≡◌, ◌≢◌, ◌≤◌, ◌⊎◌}
use Rattle.std.proofs.lemmas.Bool.{and_from, and_parts, eq-eqb, eqb-true, false≢true}
use Rattle.std.specs.Cmp.Lexicographic.{bytes_decides}
use Rattle.std.specs.List.{filter_map, list_any}
use Rattle.std.specs.Prelude.{Contains, ◌==◌}
use Rattle.formula_laws.proofs.Whole.Conditions.{IdsFit, AllowedMeans, OwnIdsFit}
use Rattle.formula_laws.specs.Allowed.{SuitingIsDecided, all_below, allowed_by, apart_in, asks_empty, empty_fits, ids_fit, own_ids_fit, share_id}
use Rattle.formula_laws.specs.Path.{same_bool}
use Rattle.css_model.specs.Documents.Matching.{same_pseudo}
use Rattle.css_model.specs.Documents.SelectorParts.{SelectorParts}
use Rattle.css_model.specs.Lists.{same_text}
use Rattle.css_model.specs.declared.selector.Pseudo.{Pseudo}
use Rattle.css_model.specs.declared.selector.Pseudo.TheVariants.{After, Before, FirstLetter, FirstLine}
use Rattle.css_model.specs.declared.selector.Simple.{Simple}
use Rattle.grid_laws.specs.Grid.{Lays, has_left, has_right}
use Rattle.grid_laws.specs.Solved.{node_above, node_simples, nth_compound}
use Rattle.list_facts.proofs.Members.{Contains-cons_cases, Contains-here, Contains-nil, Contains-there}
use Rattle.slot_plan.specs.ValidShape.{EmptyFits, asked_id, is_empty_test}

any_has : {X : Type 0} (p : X → Bool) (xs : List X) → list_any p xs ≡ true → (v : X) × Contains xs v × (p v ≡ true)
any_has p [] h = absurd (false≢true h)
any_has {X} p (w ∷ ws) h = split (p w) refl h (λ more. any_has p ws more)
  where
    split : (b : Bool) → p w ≡ b → (b || list_any p ws) ≡ true → (list_any p ws ≡ true → (v : X) × Contains ws v × (p v ≡ true)) → (v : X) × Contains (w ∷ ws) v × (p v ≡ true)
    split true e h rest = (w, Contains-here w ws, e)
    split false e h rest = let r = rest h in (r.0, Contains-there w ws r.0 r.1, r.2)

has_any : {X : Type 0} (p : X → Bool) (xs : List X) (v : X) → Contains xs v → p v ≡ true → list_any p xs ≡ true
has_any p [] v h e = absurd (Contains-nil v h)
has_any p (w ∷ ws) v h e = elim (Contains-cons_cases w ws v h) [
  | inl is ↦ ap (λ b. b || list_any p ws) (ap p is ∙ e)
  | inr more ↦ ap (λ b. p w || b) (has_any p ws v more e) ∙ or_true (p w)
]
  where
    or_true : (b : Bool) → (b || true) ≡ true
    or_true true = refl
    or_true false = refl

-- `:empty`
asks_means : (negated : Bool) (simples : List Simple) → asks_empty negated simples ≡ true → (s : Simple) × Contains simples s × (is_empty_test s.test ≡ true) × (s.negated ≡ negated)
asks_means negated simples h =
    let r = any_has (λ s. is_empty_test s.test && same_bool s.negated negated) simples h in
    let p = and_parts (is_empty_test (r.0).test) (same_bool (r.0).negated negated) r.2 in
    (r.0, r.1, p.0, same (r.0).negated negated p.1)
  where
    same : (a b : Bool) → same_bool a b ≡ true → a ≡ b
    same true true e = refl
    same true false e = sym e
    same false true e = e
    same false false e = refl

asks_back : (negated : Bool) (simples : List Simple) (s : Simple) → Contains simples s → is_empty_test s.test ≡ true → s.negated ≡ negated → asks_empty negated simples ≡ true
asks_back negated simples s h e is = has_any (λ s. is_empty_test s.test && same_bool s.negated negated) simples s h (and_from (is_empty_test s.test) (same_bool s.negated negated) e (same s.negated negated is))
  where
    same : (a b : Bool) → a ≡ b → same_bool a b ≡ true
    same true true e = refl
    same true false e = sym e
    same false true e = e
    same false false e = refl

empties_means : (parent : Bool) (simples : List Simple) → empty_fits parent simples ≡ true → EmptyFits parent simples
empties_means parent simples h s c e n =
    let p = split (asks_empty false simples) parent (asks_empty true simples) (asks_back false simples s c e n) h in
    (p.0, λ t d f. not_asked t d f t.negated refl p.1)
  where
    split : (a b c : Bool) → a ≡ true → (not a || (not b && not c)) ≡ true → (b ≡ false) × (c ≡ false)
    split true false false e h = (refl, refl)
    split true true c e h = absurd (false≢true h)
    split true false true e h = absurd (false≢true h)
    split false b c e h = absurd (false≢true e)

    not_asked : (t : Simple) → Contains simples t → is_empty_test t.test ≡ true → (b : Bool) → t.negated ≡ b → asks_empty true simples ≡ false → t.negated ≡ false
    not_asked t d f true is none = absurd (false≢true (sym none ∙ asks_back true simples t d f is))
    not_asked t d f false is none = is

empties_back : (parent : Bool) (simples : List Simple) → EmptyFits parent simples → empty_fits parent simples ≡ true
empties_back parent simples fits = by (asks_empty false simples) (asks_empty true simples) parent refl refl refl
  where
    by : (a c b : Bool) → asks_empty false simples ≡ a → asks_empty true simples ≡ c → parent ≡ b → (not a || (not b && not c)) ≡ true
    by false c b ea ec eb = refl
    by true false false ea ec eb = refl
    by true c true ea ec eb = let r = asks_means false simples ea in absurd (false≢true (sym ((fits r.0 r.1 r.2 r.3).0) ∙ eb))
    by true true false ea ec eb = let r = asks_means false simples ea in let t = asks_means true simples ec in absurd (false≢true (sym ((fits r.0 r.1 r.2 r.3).1 t.0 t.1 t.2) ∙ t.3))

-- ids
share_means : (c d : List Simple) → share_id c d ≡ true → (id : List ℕ) × Contains (filter_map asked_id c) id × Contains (filter_map asked_id d) id
share_means c d h =
    let r = any_has (λ a. list_any (λ b. same_text a b) (filter_map asked_id d)) (filter_map asked_id c) h in
    let t = any_has (λ b. same_text r.0 b) (filter_map asked_id d) r.2 in
    (r.0, r.1, subst (λ v. Contains (filter_map asked_id d) v) (sym ((bytes_decides r.0 t.0).0 t.2)) t.1)

share_back : (c d : List Simple) (id : List ℕ) → Contains (filter_map asked_id c) id → Contains (filter_map asked_id d) id → share_id c d ≡ true
share_back c d id h k = has_any (λ a. list_any (λ b. same_text a b) (filter_map asked_id d)) (filter_map asked_id c) id h (has_any (λ b. same_text id b) (filter_map asked_id d) id k ((bytes_decides id id).1 refl))

all_means : (n : ℕ) (p : ℕ → Bool) → all_below n p ≡ true → (k : ℕ) → k < n → p k ≡ true
all_means zero p h k less = absurd (omega arith)
all_means (suc n) p h k less =
    let parts = and_parts (all_below n p) (p n) h in
    elim (last_or k n less) [ inl below ↦ all_means n p parts.0 k below | inr is ↦ ap p is ∙ parts.1 ]
  where
    last_or : (k n : ℕ) → k < suc n → (k < n) ⊎ (k ≡ n)
    last_or k n h = grind arith

all_back : (n : ℕ) (p : ℕ → Bool) → ((k : ℕ) → k < n → p k ≡ true) → all_below n p ≡ true
all_back zero p h = refl
all_back (suc n) p h = and_from (all_below n p) (p n) (all_back n p (λ k less. h k (omega arith))) (h n (omega arith))

or_means : (a b : Bool) → (not a || b) ≡ true → a ≡ true → b ≡ true
or_means true b h e = h
or_means false b h e = absurd (false≢true e)

or_back : (a b : Bool) → (a ≡ true → b ≡ true) → (not a || b) ≡ true
or_back true b h = h refl
or_back false b h = refl

-- a compound that is apart from those of a chain
apart_means : (c : List Simple) (chain : List (List Simple)) (n : ℕ) (beside : Bool) (k : ℕ) → apart_in c chain n beside k ≡ true → (i : ℕ) (id : List ℕ) → i < n →
    Contains (filter_map asked_id c) id → Contains (filter_map asked_id (nth_compound chain i)) id → (beside ≡ true) × (i ≡ k)
apart_means c chain n beside k h i id less hc hd =
    split (beside && (i == k)) (share_id c (nth_compound chain i)) refl (share_back c (nth_compound chain i) id hc hd) (all_means n (λ i. (beside && (i == k)) || not (share_id c (nth_compound chain i))) h i less)
  where
    split : (a b : Bool) → (beside && (i == k)) ≡ a → b ≡ true → (a || not b) ≡ true → (beside ≡ true) × (i ≡ k)
    split true b e s t = let p = and_parts beside (i == k) e in (p.0, eqb-true i k p.1)
    split false true e s t = absurd (false≢true t)
    split false false e s t = absurd (false≢true s)

apart_back : (c : List Simple) (chain : List (List Simple)) (n : ℕ) (beside : Bool) (k : ℕ) →
    ((i : ℕ) (id : List ℕ) → i < n → Contains (filter_map asked_id c) id → Contains (filter_map asked_id (nth_compound chain i)) id → (beside ≡ true) × (i ≡ k)) → apart_in c chain n beside k ≡ true
apart_back c chain n beside k each = all_back n (λ i. (beside && (i == k)) || not (share_id c (nth_compound chain i))) (λ i less. split i less (share_id c (nth_compound chain i)) refl)
  where
    or_true : (b : Bool) → (b || true) ≡ true
    or_true true = refl
    or_true false = refl

    split : (i : ℕ) → i < n → (b : Bool) → share_id c (nth_compound chain i) ≡ b → ((beside && (i == k)) || not b) ≡ true
    split i less false s = or_true (beside && (i == k))
    split i less true s =
        let t = share_means c (nth_compound chain i) s in
        let r = each i t.0 less t.1 t.2 in
        ap (λ b. b || false) (and_from beside (i == k) r.0 (eq-eqb i k r.1))

ids_means : (x y : SelectorParts) (k : Lays) (i' j' : ℕ) → ids_fit x y k i' j' ≡ true → IdsFit x y k i' j'
ids_means x y k i' j' h i j id hi hj cx cy =
    let p = and_parts (not (has_left k) || apart_in (nth_compound x.chain i') y.chain (suc (length y.links)) (has_right k) j') (not (has_right k) || apart_in (nth_compound y.chain j') x.chain (suc (length x.links)) (has_left k) i') h in (
      λ t e. let r = apart_means (nth_compound x.chain i') y.chain (suc (length y.links)) (has_right k) j' (or_means (has_left k) (apart_in (nth_compound x.chain i') y.chain (suc (length y.links)) (has_right k) j') p.0 t) j id (omega arith)
          (subst (λ (a : ℕ). Contains (filter_map asked_id (nth_compound x.chain a)) id) (sym e) cx) cy in (r.0, sym r.1),
      λ t e. let r = apart_means (nth_compound y.chain j') x.chain (suc (length x.links)) (has_left k) i' (or_means (has_right k) (apart_in (nth_compound y.chain j') x.chain (suc (length x.links)) (has_left k) i') p.1 t) i id (omega arith)
          (subst (λ (a : ℕ). Contains (filter_map asked_id (nth_compound y.chain a)) id) (sym e) cy) cx in (r.0, sym r.1),
    )

ids_back : (x y : SelectorParts) (k : Lays) (i' j' : ℕ) → i' ≤ length x.links → j' ≤ length y.links → IdsFit x y k i' j' → ids_fit x y k i' j' ≡ true
ids_back x y k i' j' hi' hj' fits =
    and_from (not (has_left k) || apart_in (nth_compound x.chain i') y.chain (suc (length y.links)) (has_right k) j') (not (has_right k) || apart_in (nth_compound y.chain j') x.chain (suc (length x.links)) (has_left k) i')
    (or_back (has_left k) (apart_in (nth_compound x.chain i') y.chain (suc (length y.links)) (has_right k) j') (λ t.
    apart_back (nth_compound x.chain i') y.chain (suc (length y.links)) (has_right k) j' (λ j id less cx cy. let r = (fits i' j id hi' (omega arith) cx cy).0 t refl in (r.0, sym r.1))))
    (or_back (has_right k) (apart_in (nth_compound y.chain j') x.chain (suc (length x.links)) (has_left k) i') (λ t.
    apart_back (nth_compound y.chain j') x.chain (suc (length x.links)) (has_left k) i' (λ i id less cy cx. let r = (fits i j' id (omega arith) hj' cx cy).1 t refl in (r.0, sym r.1))))

own_means : (x : SelectorParts) → own_ids_fit x ≡ true → OwnIdsFit x
own_means x h i j id hi hj apart cx cy =
    let row = all_means (suc (length x.links)) (λ i. apart_in (nth_compound x.chain i) x.chain (suc (length x.links)) true i) h i (omega arith) in
    let r = apart_means (nth_compound x.chain i) x.chain (suc (length x.links)) true i row j id (omega arith) cx cy in
    apart (sym r.1)

own_back : (x : SelectorParts) → OwnIdsFit x → own_ids_fit x ≡ true
own_back x fits = all_back (suc (length x.links)) (λ i. apart_in (nth_compound x.chain i) x.chain (suc (length x.links)) true i) (λ i hi.
    apart_back (nth_compound x.chain i) x.chain (suc (length x.links)) true i (λ j id hj cx cy. (refl, split i j (j == i) refl (λ differ. fits i j id (omega arith) (omega arith) differ cx cy))))
  where
    split : (i j : ℕ) (b : Bool) → (j == i) ≡ b → (i ≢ j → ⊥) → j ≡ i
    split i j true e h = eqb-true j i e
    split i j false e h = absurd (h (λ is. false≢true (sym e ∙ eq-eqb j i (sym is))))

-- a number for each
abbrev pub pseudo_code : Option Pseudo → ℕ
pseudo_code None = 0
pseudo_code (Some FirstLine) = 1
pseudo_code (Some FirstLetter) = 2
pseudo_code (Some Before) = 3
pseudo_code (Some After) = 4

-- pseudo-elements
abbrev pub coded : ℕ → Option Pseudo
coded zero = None
coded (suc zero) = Some FirstLine
coded (suc (suc zero)) = Some FirstLetter
coded (suc (suc (suc zero))) = Some Before
coded (suc (suc (suc (suc n)))) = Some After

decoded : (p : Option Pseudo) → coded (pseudo_code p) ≡ p
decoded None = refl
decoded (Some FirstLine) = refl
decoded (Some FirstLetter) = refl
decoded (Some Before) = refl
decoded (Some After) = refl

-- pseudo-elements are the same exactly where their numbers are
same_code : (p q : Option Pseudo) → same_pseudo p q ≡ (pseudo_code p == pseudo_code q)
same_code None None = refl
same_code None (Some FirstLine) = refl
same_code None (Some FirstLetter) = refl
same_code None (Some Before) = refl
same_code None (Some After) = refl
same_code (Some FirstLine) None = refl
same_code (Some FirstLine) (Some FirstLine) = refl
same_code (Some FirstLine) (Some FirstLetter) = refl
same_code (Some FirstLine) (Some Before) = refl
same_code (Some FirstLine) (Some After) = refl
same_code (Some FirstLetter) None = refl
same_code (Some FirstLetter) (Some FirstLine) = refl
same_code (Some FirstLetter) (Some FirstLetter) = refl
same_code (Some FirstLetter) (Some Before) = refl
same_code (Some FirstLetter) (Some After) = refl
same_code (Some Before) None = refl
same_code (Some Before) (Some FirstLine) = refl
same_code (Some Before) (Some FirstLetter) = refl
same_code (Some Before) (Some Before) = refl
same_code (Some Before) (Some After) = refl
same_code (Some After) None = refl
same_code (Some After) (Some FirstLine) = refl
same_code (Some After) (Some FirstLetter) = refl
same_code (Some After) (Some Before) = refl
same_code (Some After) (Some After) = refl

pub allowed_means : (suits : Lays → ℕ → ℕ → Bool) (x y : SelectorParts) → SuitingIsDecided suits x y → AllowedMeans x y (allowed_by suits x y)
allowed_means suits x y decides = record {
  empties = λ k i j hi hj. (empties_means (node_above x y k i j) (node_simples x y k i j), empties_back (node_above x y k i j) (node_simples x y k i j));
  features = λ k i j hi hj. decides k i j hi hj;
  ids = λ k i j hi hj. (ids_means x y k i j, ids_back x y k i j hi hj);
  whole = (
    λ h. let p = and_parts (own_ids_fit x) (own_ids_fit y && (same_pseudo x.pseudo y.pseudo)) h in
        let q = and_parts (own_ids_fit y) (same_pseudo x.pseudo y.pseudo) p.1 in
        (own_means x p.0, own_means y q.0, sym (decoded x.pseudo) ∙ ap coded (eqb-true (pseudo_code x.pseudo) (pseudo_code y.pseudo) (sym (same_code x.pseudo y.pseudo) ∙ q.1)) ∙ decoded y.pseudo),
    λ h. and_from (own_ids_fit x) (own_ids_fit y && (same_pseudo x.pseudo y.pseudo)) (own_back x h.0)
        (and_from (own_ids_fit y) (same_pseudo x.pseudo y.pseudo) (own_back y h.1) (same_code x.pseudo y.pseudo ∙ eq-eqb (pseudo_code x.pseudo) (pseudo_code y.pseudo) (ap pseudo_code h.2))),
  );
}
