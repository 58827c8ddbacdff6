-- The pairs of one rule, and the order of its declarations.
use Rattle.std.proofs.Common.{◌≡◌, ◌↔◌, ◌⊎◌, ℕ, zero, suc, ◌<◌, ◌≤◌, Bool, true, false, List, [], ◌∷◌, ◌++◌, map, Some, None, refl, sym, ap, ◌∙◌, subst, inl, inr, arith}
use Rattle.std.specs.Prelude.{slice_get}
use Rattle.std.specs.List.{Contains, filter}
use Rattle.std.proofs.lemmas.Bool.{false≢true, cond_both, or_cases, or_left, or_right, and_parts, and_from}
use Rattle.std.proofs.lemmas.List.Elements.{Contains-append_left, Contains-append_right, Contains-append_cases}
use Rattle.cascade_laws.proofs.ForCallers.{some-same, rule-same}
use Rattle.list_facts.proofs.Members.{Contains-here, Contains-there, Contains-nil, Contains-cons_cases, Contains-filter, Contains-filtered}
use Rattle.css_model.proofs.ForCallers.{decl_decides, selector_decides}
use Rattle.css_model.specs.contracts.selector.SelectorPartialEq.TheImpl as selector
use Rattle.css_model.specs.contracts.sheet.DeclPartialEq.TheImpl as decl
use Rattle.css_model.specs.declared.sheet.Decl.{Decl}
use Rattle.css_model.specs.declared.sheet.DeclItem.{DeclItem}
use Rattle.css_model.specs.declared.sheet.Item.TheVariants.{Rule}
use Rattle.css_model.specs.declared.sheet.SelItem.{SelItem}
use Rattle.css_model.specs.Cascade.Winner.{Place, IsLater}
use Rattle.css_model.specs.Cascade.Order.{Pair, IsPairAt, HasPair, IsLast, IsBefore}
use Rattle.css_model.specs.Sheets.RuleParts.{RuleParts}
use Rattle.css_model.specs.Documents.SelectorParts.{SelectorParts}
use Rattle.css_model.specs.Sheets.StyleRule.{selectors_of}
use Rattle.order_laws.specs.Members.{has_decl, has_selector}
use Rattle.order_laws.specs.Edits.{Moved, is_moved}
use Rattle.order_laws.proofs.LastPlaces.{LastIn, NoneIn, last_decl}

abbrev place : ℕ → ℕ → Place
place item position = record { item = item; position = position }

-- ---- The pairs of a rule

abbrev pub decls : List DeclItem → List Decl
decls ds = map (λ d. d.decl) ds

abbrev pub sels : List SelItem → List SelectorParts
sels ss = map (λ s. s.selector) ss

abbrev pub InRule : RuleParts → Pair → Type 0
InRule r p = Contains (selectors_of r) p.selector × Contains (decls r.decls) p.decl

pub decl_in : (ds : List DeclItem) (k : ℕ) (x : DeclItem) → slice_get ds k ≡ Some x → Contains (decls ds) x.decl
decl_in [] k x at = absurd (let e : None ≡ Some x = at in cc)
decl_in (y ∷ ds) zero x at = subst (λ (z : DeclItem). Contains (decls (y ∷ ds)) z.decl) (some-same at) (Contains-here y.decl (decls ds))
decl_in (y ∷ ds) (suc k) x at = Contains-there y.decl (decls ds) x.decl (decl_in ds k x at)

pub in_decl : (ds : List DeclItem) (d : Decl) → Contains (decls ds) d → (k : ℕ) × (x : DeclItem) × (slice_get ds k ≡ Some x) × (x.decl ≡ d)
in_decl [] d h = absurd (Contains-nil d h)
in_decl (y ∷ ds) d h = which (Contains-cons_cases y.decl (decls ds) d h) (in_decl ds d)
  where
    which : (y.decl ≡ d) ⊎ Contains (decls ds) d → (Contains (decls ds) d → (k : ℕ) × (x : DeclItem) × (slice_get ds k ≡ Some x) × (x.decl ≡ d)) → (k : ℕ) × (x : DeclItem) × (slice_get (y ∷ ds) k ≡ Some x) × (x.decl ≡ d)
    which (inl e) rest = (0, y, refl, e)
    which (inr g) rest = let w : (k : ℕ) × (x : DeclItem) × (slice_get ds k ≡ Some x) × (x.decl ≡ d) = rest g in (suc w.0, w.1, w.2, w.3)

-- a pair stands in a sheet of one rule
at_one : (r : RuleParts) (p : Pair) (n k : ℕ) → IsPairAt (Rule r ∷ []) p (place n k) → (n ≡ 0) × Contains (selectors_of r) p.selector × ((x : DeclItem) × (slice_get r.decls k ≡ Some x) × (x.decl ≡ p.decl))
at_one r p (suc n) k h = absurd (let e : None ≡ Some (Rule h.rule) = h.rule_at in cc)
at_one r p zero k h =
    let same : h.rule ≡ r = sym (rule-same (some-same h.rule_at)) in
    (refl, subst (λ (q : RuleParts). Contains (selectors_of q) p.selector) same h.selector_in, (h.decl, subst (λ (q : RuleParts). slice_get q.decls k ≡ Some h.decl) same h.decl_at, h.decl_is))

one_at : (r : RuleParts) (p : Pair) (k : ℕ) (x : DeclItem) → Contains (selectors_of r) p.selector → slice_get r.decls k ≡ Some x → x.decl ≡ p.decl → IsPairAt (Rule r ∷ []) p (place 0 k)
one_at r p k x has at is = record { rule = r; decl = x; rule_at = refl; selector_in = has; decl_at = at; decl_is = is }

pub has_rule : (r : RuleParts) (p : Pair) → HasPair (Rule r ∷ []) p ↔ InRule r p
has_rule r p = (there, back)
  where
    there : HasPair (Rule r ∷ []) p → InRule r p
    there h =
        let w : (h.0.item ≡ 0) × Contains (selectors_of r) p.selector × ((x : DeclItem) × (slice_get r.decls h.0.position ≡ Some x) × (x.decl ≡ p.decl)) = at_one r p h.0.item h.0.position h.1 in
        (w.1, subst (λ (d : Decl). Contains (decls r.decls) d) w.2.2 (decl_in r.decls h.0.position w.2.0 w.2.1))

    back : InRule r p → HasPair (Rule r ∷ []) p
    back h = let w : (k : ℕ) × (x : DeclItem) × (slice_get r.decls k ≡ Some x) × (x.decl ≡ p.decl) = in_decl r.decls p.decl h.1 in (place 0 w.0, one_at r p w.0 w.1 h.0 w.2 w.3)

-- ---- The order of the last places of two declarations in a list

abbrev pub DeclBefore : List Decl → Decl → Decl → Type 0
DeclBefore [] d f = ⊥
DeclBefore (x ∷ xs) d f = DeclBefore xs d f ⊎ ((x ≡ d) × (Contains xs d → ⊥) × Contains xs f)

abbrev Lasts : List DeclItem → Decl → Decl → Type 0
Lasts ds d f = (i : ℕ) × (j : ℕ) × LastIn ds d i × LastIn ds f j × (i < j)

last_behind : (x : DeclItem) (ds : List DeclItem) (d : Decl) (i : ℕ) → LastIn (x ∷ ds) d (suc i) → LastIn ds d i
last_behind x ds d i l = record { item = l.item; at = l.at; is = l.is; last = λ j y at e. let h : suc j ≤ suc i = l.last (suc j) y at e in omega arith }

pub behind_last : (x : DeclItem) (ds : List DeclItem) (d : Decl) (i : ℕ) → LastIn ds d i → LastIn (x ∷ ds) d (suc i)
behind_last x ds d i l = record { item = l.item; at = l.at; is = l.is; last = bound }
  where
    bound : (j : ℕ) (y : DeclItem) → slice_get (x ∷ ds) j ≡ Some y → y.decl ≡ d → j ≤ suc i
    bound zero y at e = omega arith
    bound (suc j) y at e = let h : j ≤ i = l.last j y at e in omega arith

last_has : (ds : List DeclItem) (d : Decl) (i : ℕ) → LastIn ds d i → Contains (decls ds) d
last_has ds d i l = subst (λ (z : Decl). Contains (decls ds) z) l.is (decl_in ds i l.item l.at)

lasts_in_order : (ds : List DeclItem) (d f : Decl) (i j : ℕ) → LastIn ds d i → LastIn ds f j → i < j → DeclBefore (decls ds) d f
lasts_in_order [] d f i j l m less = let e : None ≡ Some l.item = l.at in absurd cc
lasts_in_order (x ∷ ds) d f i zero l m less = absurd (omega arith)
lasts_in_order (x ∷ ds) d f zero (suc j) l m less = inr (ap (λ (z : DeclItem). z.decl) (some-same l.at) ∙ l.is, none, last_has ds f j (last_behind x ds f j m))
  where
    none : Contains (decls ds) d → ⊥
    none h =
        let w : (k : ℕ) × (y : DeclItem) × (slice_get ds k ≡ Some y) × (y.decl ≡ d) = in_decl ds d h in
        let b : suc w.0 ≤ 0 = l.last (suc w.0) w.1 w.2 w.3 in
        absurd (omega arith)
lasts_in_order (x ∷ ds) d f (suc i) (suc j) l m less = inl (lasts_in_order ds d f i j (last_behind x ds d i l) (last_behind x ds f j m) (omega arith))

order_of_lasts : (ds : List DeclItem) (d f : Decl) → DeclBefore (decls ds) d f → Lasts ds d f
order_of_lasts [] d f h = absurd h
order_of_lasts (x ∷ ds) d f (inl h) = let w : Lasts ds d f = order_of_lasts ds d f h in (suc w.0, suc w.1, behind_last x ds d w.0 w.2, behind_last x ds f w.1 w.3, omega (arith, w.4))
order_of_lasts (x ∷ ds) d f (inr (e, none, has)) = which (last_decl ds f)
  where
    first : (j : ℕ) (y : DeclItem) → slice_get (x ∷ ds) j ≡ Some y → y.decl ≡ d → j ≤ 0
    first zero y at g = omega arith
    first (suc j) y at g = absurd (none (subst (λ (z : Decl). Contains (decls ds) z) g (decl_in ds j y at)))

    which : ((j : ℕ) × LastIn ds f j) ⊎ NoneIn ds f → Lasts (x ∷ ds) d f
    which (inl l) = (0, suc l.0, record { item = x; at = refl; is = e; last = first }, behind_last x ds f l.0 l.1, omega arith)
    which (inr no_f) = let w : (k : ℕ) × (y : DeclItem) × (slice_get ds k ≡ Some y) × (y.decl ≡ f) = in_decl ds f has in absurd (no_f w.0 w.1 w.2 w.3)

-- the order of two pairs in one rule
pub before_rule : (r : RuleParts) (p q : Pair) → IsBefore (Rule r ∷ []) p q ↔ (InRule r p × InRule r q × DeclBefore (decls r.decls) p.decl q.decl)
before_rule r p q = (there, back)
  where
    last_in : (s : Pair) (at : Place) → IsLast (Rule r ∷ []) s at → (at.item ≡ 0) × LastIn r.decls s.decl at.position
    last_in s at l =
        let w : (at.item ≡ 0) × Contains (selectors_of r) s.selector × ((x : DeclItem) × (slice_get r.decls at.position ≡ Some x) × (x.decl ≡ s.decl)) = at_one r s at.item at.position l.stands in
        (w.0, record { item = w.2.0; at = w.2.1; is = w.2.2; last = λ j y y_at y_is. bound w.0 j (one_at r s j y w.1 y_at y_is) })
      where
        bound : at.item ≡ 0 → (j : ℕ) → IsPairAt (Rule r ∷ []) s (place 0 j) → j ≤ at.position
        bound zeroth j h = which_bound (less j at.position)
          where
            less : (a b : ℕ) → (a ≤ b) ⊎ (b < a)
            less zero b = inl (omega arith)
            less (suc a) zero = inr (omega arith)
            less (suc a) (suc b) = next (less a b)
              where
                next : (a ≤ b) ⊎ (b < a) → (suc a ≤ suc b) ⊎ (suc b < suc a)
                next (inl h) = inl (omega arith)
                next (inr h) = inr (omega arith)

            which_bound : (j ≤ at.position) ⊎ (at.position < j) → j ≤ at.position
            which_bound (inl h) = h
            which_bound (inr later) = absurd (l.last (place 0 j) h (inr (sym zeroth, later)))

    there : IsBefore (Rule r ∷ []) p q → InRule r p × InRule r q × DeclBefore (decls r.decls) p.decl q.decl
    there b =
        let l : (b.place.item ≡ 0) × LastIn r.decls p.decl b.place.position = last_in p b.place b.first in
        let m : (b.later.item ≡ 0) × LastIn r.decls q.decl b.later.position = last_in q b.later b.second in
        ((has_rule r p).0 (b.place, b.first.stands), (has_rule r q).0 (b.later, b.second.stands), lasts_in_order r.decls p.decl q.decl b.place.position b.later.position l.1 m.1 (order l.0 m.0 b.before))
      where
        order : b.place.item ≡ 0 → b.later.item ≡ 0 → IsLater b.later b.place → b.place.position < b.later.position
        order e g (inl h) = absurd (omega (arith, e, g, h))
        order e g (inr h) = h.1

    last_at : (s : Pair) (i : ℕ) → Contains (selectors_of r) s.selector → LastIn r.decls s.decl i → IsLast (Rule r ∷ []) s (place 0 i)
    last_at s i has l = record { stands = one_at r s i l.item has l.at l.is; last = λ other h. later other.item other.position h }
      where
        later : (n k : ℕ) → IsPairAt (Rule r ∷ []) s (place n k) → IsLater (place n k) (place 0 i) → ⊥
        later n k h g =
            let w : (n ≡ 0) × Contains (selectors_of r) s.selector × ((x : DeclItem) × (slice_get r.decls k ≡ Some x) × (x.decl ≡ s.decl)) = at_one r s n k h in
            let b : k ≤ i = l.last k w.2.0 w.2.1 w.2.2 in
            which w.0 b g
          where
            which : n ≡ 0 → k ≤ i → IsLater (place n k) (place 0 i) → ⊥
            which e b (inl h) = absurd (omega arith)
            which e b (inr h) = absurd (omega (arith, h.1))

    back : InRule r p × InRule r q × DeclBefore (decls r.decls) p.decl q.decl → IsBefore (Rule r ∷ []) p q
    back (hp, hq, order) =
        let w : Lasts r.decls p.decl q.decl = order_of_lasts r.decls p.decl q.decl order in
        record { place = place 0 w.0; later = place 0 w.1; first = last_at p w.0 hp.0 w.2; second = last_at q w.1 hq.0 w.3; before = inr (refl, w.4) }

-- ---- The order in longer and shorter lists

pub before_front : (more xs : List Decl) (d f : Decl) → Contains xs d → DeclBefore (more ++ xs) d f ↔ DeclBefore xs d f
before_front [] xs d f has = (λ h. h, λ h. h)
before_front (x ∷ more) xs d f has = let ih : DeclBefore (more ++ xs) d f ↔ DeclBefore xs d f = before_front more xs d f has in (there ih, λ h. inl (ih.1 h))
  where
    there : DeclBefore (more ++ xs) d f ↔ DeclBefore xs d f → DeclBefore (more ++ xs) d f ⊎ ((x ≡ d) × (Contains (more ++ xs) d → ⊥) × Contains (more ++ xs) f) → DeclBefore xs d f
    there ih (inl h) = ih.0 h
    there ih (inr (e, none, g)) = absurd (none (Contains-append_right more xs d has))

before_has : (xs : List Decl) (d f : Decl) → DeclBefore xs d f → Contains xs d × Contains xs f
before_has [] d f h = absurd h
before_has (x ∷ xs) d f (inl h) = let w : Contains xs d × Contains xs f = before_has xs d f h in (Contains-there x xs d w.0, Contains-there x xs f w.1)
before_has (x ∷ xs) d f (inr (e, none, g)) = (subst (λ (z : Decl). Contains (x ∷ xs) z) e (Contains-here x xs), Contains-there x xs f g)

pub before_back : (xs more : List Decl) (d f : Decl) → (Contains more d → ⊥) → (Contains more f → ⊥) → DeclBefore (xs ++ more) d f ↔ DeclBefore xs d f
before_back [] more d f no_d no_f = (λ h. no_d (before_has more d f h).0, λ h. absurd h)
before_back (x ∷ xs) more d f no_d no_f = let ih : DeclBefore (xs ++ more) d f ↔ DeclBefore xs d f = before_back xs more d f no_d no_f in (there ih, back ih)
  where
    only : (g : Decl) → (Contains more g → ⊥) → Contains xs g ⊎ Contains more g → Contains xs g
    only g lacks (inl h) = h
    only g lacks (inr h) = absurd (lacks h)

    there : DeclBefore (xs ++ more) d f ↔ DeclBefore xs d f → DeclBefore (xs ++ more) d f ⊎ ((x ≡ d) × (Contains (xs ++ more) d → ⊥) × Contains (xs ++ more) f) → DeclBefore xs d f ⊎ ((x ≡ d) × (Contains xs d → ⊥) × Contains xs f)
    there ih (inl h) = inl (ih.0 h)
    there ih (inr (e, none, g)) = inr (e, λ h. none (Contains-append_left xs more d h), only f no_f (Contains-append_cases xs more f g))

    back : DeclBefore (xs ++ more) d f ↔ DeclBefore xs d f → DeclBefore xs d f ⊎ ((x ≡ d) × (Contains xs d → ⊥) × Contains xs f) → DeclBefore (xs ++ more) d f ⊎ ((x ≡ d) × (Contains (xs ++ more) d → ⊥) × Contains (xs ++ more) f)
    back ih (inl h) = inl (ih.1 h)
    back ih (inr (e, none, g)) = inr (e, λ h. none (only d no_d (Contains-append_cases xs more d h)), Contains-append_left xs more f g)

pub before_filter : (keep : Decl → Bool) (xs : List Decl) (d f : Decl) → keep d ≡ true → keep f ≡ true → DeclBefore (filter keep xs) d f ↔ DeclBefore xs d f
before_filter keep [] d f kd kf = (λ h. h, λ h. h)
before_filter keep (x ∷ xs) d f kd kf =
    let ih : DeclBefore (filter keep xs) d f ↔ DeclBefore xs d f = before_filter keep xs d f kd kf in
    cond_both (keep x) (x ∷ filter keep xs) (filter keep xs) (λ ys. DeclBefore ys d f ↔ DeclBefore (x ∷ xs) d f)
    (λ kept. (there ih, back ih))
    (λ gone. (λ h. inl (ih.0 h), dropped ih gone))
  where
    there : DeclBefore (filter keep xs) d f ↔ DeclBefore xs d f → DeclBefore (filter keep xs) d f ⊎ ((x ≡ d) × (Contains (filter keep xs) d → ⊥) × Contains (filter keep xs) f) → DeclBefore xs d f ⊎ ((x ≡ d) × (Contains xs d → ⊥) × Contains xs f)
    there ih (inl h) = inl (ih.0 h)
    there ih (inr (e, none, g)) = inr (e, λ h. none (Contains-filtered keep xs d h kd), (Contains-filter keep xs f g).0)

    back : DeclBefore (filter keep xs) d f ↔ DeclBefore xs d f → DeclBefore xs d f ⊎ ((x ≡ d) × (Contains xs d → ⊥) × Contains xs f) → DeclBefore (filter keep xs) d f ⊎ ((x ≡ d) × (Contains (filter keep xs) d → ⊥) × Contains (filter keep xs) f)
    back ih (inl h) = inl (ih.1 h)
    back ih (inr (e, none, g)) = inr (e, λ h. none (Contains-filter keep xs d h).0, Contains-filtered keep xs f g kf)

    dropped : DeclBefore (filter keep xs) d f ↔ DeclBefore xs d f → keep x ≡ false → DeclBefore xs d f ⊎ ((x ≡ d) × (Contains xs d → ⊥) × Contains xs f) → DeclBefore (filter keep xs) d f
    dropped ih gone (inl h) = ih.1 h
    dropped ih gone (inr (e, none, g)) = absurd (false≢true (sym gone ∙ ap keep e ∙ kd))

-- ---- The tests

pub has_decl_is : (ds : List DeclItem) (d : Decl) → (has_decl ds d ≡ true) ↔ Contains (decls ds) d
has_decl_is [] d = (λ h. absurd (false≢true h), λ h. absurd (Contains-nil d h))
has_decl_is (x ∷ ds) d = (λ h. there (has_decl_is ds d).0 (or_cases ((decl.ghosts).eq x.decl d) (has_decl ds d) h), λ h. back (has_decl_is ds d).1 (Contains-cons_cases x.decl (decls ds) d h))
  where
    there : (has_decl ds d ≡ true → Contains (decls ds) d) → ((decl.ghosts).eq x.decl d ≡ true) ⊎ (has_decl ds d ≡ true) → Contains (decls (x ∷ ds)) d
    there ih (inl e) = subst (λ (z : Decl). Contains (decls (x ∷ ds)) z) ((decl_decides x.decl d).0 e) (Contains-here x.decl (decls ds))
    there ih (inr h) = Contains-there x.decl (decls ds) d (ih h)

    back : (Contains (decls ds) d → has_decl ds d ≡ true) → (x.decl ≡ d) ⊎ Contains (decls ds) d → has_decl (x ∷ ds) d ≡ true
    back ih (inl e) = or_left ((decl.ghosts).eq x.decl d) (has_decl ds d) ((decl_decides x.decl d).1 e)
    back ih (inr h) = or_right ((decl.ghosts).eq x.decl d) (has_decl ds d) (ih h)

pub has_selector_is : (ss : List SelItem) (s : SelectorParts) → (has_selector ss s ≡ true) ↔ Contains (sels ss) s
has_selector_is [] s = (λ h. absurd (false≢true h), λ h. absurd (Contains-nil s h))
has_selector_is (x ∷ ss) s = (λ h. there (has_selector_is ss s).0 (or_cases ((selector.ghosts).eq x.selector s) (has_selector ss s) h), λ h. back (has_selector_is ss s).1 (Contains-cons_cases x.selector (sels ss) s h))
  where
    there : (has_selector ss s ≡ true → Contains (sels ss) s) → ((selector.ghosts).eq x.selector s ≡ true) ⊎ (has_selector ss s ≡ true) → Contains (sels (x ∷ ss)) s
    there ih (inl e) = subst (λ (z : SelectorParts). Contains (sels (x ∷ ss)) z) ((selector_decides x.selector s).0 e) (Contains-here x.selector (sels ss))
    there ih (inr h) = Contains-there x.selector (sels ss) s (ih h)

    back : (Contains (sels ss) s → has_selector ss s ≡ true) → (x.selector ≡ s) ⊎ Contains (sels ss) s → has_selector (x ∷ ss) s ≡ true
    back ih (inl e) = or_left ((selector.ghosts).eq x.selector s) (has_selector ss s) ((selector_decides x.selector s).1 e)
    back ih (inr h) = or_right ((selector.ghosts).eq x.selector s) (has_selector ss s) (ih h)

pub moved_is : (m : Moved) (p : Pair) → (is_moved m p ≡ true) ↔ (Contains (sels m.selectors) p.selector × Contains (decls m.decls) p.decl)
moved_is m p = (
  λ h. let w : (has_selector m.selectors p.selector ≡ true) × (has_decl m.decls p.decl ≡ true) = and_parts (has_selector m.selectors p.selector) (has_decl m.decls p.decl) h in ((has_selector_is m.selectors p.selector).0 w.0, (has_decl_is m.decls p.decl).0 w.1),
  λ h. and_from (has_selector m.selectors p.selector) (has_decl m.decls p.decl) ((has_selector_is m.selectors p.selector).1 h.0) ((has_decl_is m.decls p.decl).1 h.1),
)
