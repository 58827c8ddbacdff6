-- The entries of lists of order keys.
use Rattle.std.proofs.Common.{◌≡◌, ◌↔◌, ◌⊎◌, inl, inr, ℕ, Bool, true, false, cond, List, [], ◌∷◌, map, Option, Some, None, nat_eq, refl, sym, ap, ap₂, subst, ◌∙◌, true≢false, eq-eqb}
use Rattle.std.specs.Cmp.{nat_eq_equiv}
use Rattle.std.specs.List.{Contains, IsDistinct}
use Rattle.std.specs.Map.{keys_of, lookup}
use Rattle.std.proofs.lemmas.Map.Views.{Contains-from_lookup, exact_unsigned_eq, lookup-from_Contains}
use Rattle.list_facts.proofs.Members.{Contains-cons_cases, Contains-here, Contains-nil}
use Rattle.rule_tables.specs.declared.entries.Entry.{Entry}
use Rattle.rule_tables.specs.Entries.{Puts, TakesOut, entries_of, entry}
use Rattle.rule_tables.proofs.EntrySets.{mapped, unmapped}
use Rattle.rule_tables.proofs.Standing.{in_flat, of_flat}

abbrev pub Lists : Type 0
Lists = List (ℕ × List ℕ)

abbrev shown : ℕ × List ℕ → List Entry
shown under = map (entry under.0) under.1

in_lists : (lists : Lists) (digest order_key : ℕ) (order_keys : List ℕ) → Contains lists (digest, order_keys) → Contains order_keys order_key → Contains (entries_of lists) (entry digest order_key)
in_lists lists digest order_key order_keys h k = in_flat shown lists (digest, order_keys) (entry digest order_key) h (mapped (entry digest) order_keys order_key k)

of_lists : (lists : Lists) (digest order_key : ℕ) → Contains (entries_of lists) (entry digest order_key) → (order_keys : List ℕ) × Contains lists (digest, order_keys) × Contains order_keys order_key
of_lists lists digest order_key h =
    let u : (under : ℕ × List ℕ) × Contains lists under × Contains (shown under) (entry digest order_key) = of_flat shown lists (entry digest order_key) h in
    let v : (x : ℕ) × Contains u.0.1 x × (entry u.0.0 x ≡ entry digest order_key) = unmapped (entry u.0.0) u.0.1 (entry digest order_key) u.2 in
    (u.0.1, subst (λ (n : ℕ). Contains lists (n, u.0.1)) (ap (λ (e : Entry). e.digest) v.2) u.1, subst (Contains u.0.1) (ap (λ (e : Entry). e.order_key) v.2) v.1)

-- an order key is among those that a look-up finds
abbrev pub IsAmong : Option (List ℕ) → ℕ → Type 0
IsAmong None order_key = ⊥
IsAmong (Some order_keys) order_key = Contains order_keys order_key

pub listed : (lists : Lists) → IsDistinct nat_eq (keys_of lists) → (digest order_key : ℕ) → Contains (entries_of lists) (entry digest order_key) ↔ IsAmong (lookup (nat_eq digest) lists) order_key
listed lists distinct digest order_key = (there, back (lookup (nat_eq digest) lists) refl)
  where
    there : Contains (entries_of lists) (entry digest order_key) → IsAmong (lookup (nat_eq digest) lists) order_key
    there h =
        let u : (order_keys : List ℕ) × Contains lists (digest, order_keys) × Contains order_keys order_key = of_lists lists digest order_key h in
        subst (λ (o : Option (List ℕ)). IsAmong o order_key) (sym (lookup-from_Contains nat_eq_equiv digest u.0 lists distinct u.1)) u.2

    back : (o : Option (List ℕ)) → lookup (nat_eq digest) lists ≡ o → IsAmong o order_key → Contains (entries_of lists) (entry digest order_key)
    back None e h = absurd h
    back (Some order_keys) e h = in_lists lists digest order_key order_keys (Contains-from_lookup exact_unsigned_eq digest order_keys lists e) h

-- ---- Changes under one digest

-- at one digest the order keys that are, and all others as they were
abbrev pub ChangesAt : ℕ → Option (List ℕ) → Lists → Lists → Type 0
ChangesAt digest is old new = (q : ℕ) → lookup (nat_eq q) new ≡ cond (nat_eq digest q) is (lookup (nat_eq q) old)

one_entry : (digest order_key : ℕ) (e : Entry) → Contains (entry digest order_key ∷ []) e → (digest ≡ e.digest) × Contains (order_key ∷ []) e.order_key
one_entry digest order_key e h = elim (Contains-cons_cases (entry digest order_key) [] e h) [
  | inl is ↦ (ap (λ (x : Entry). x.digest) is, subst (λ (n : ℕ). Contains (n ∷ []) e.order_key) (sym (ap (λ (x : Entry). x.order_key) is)) (Contains-here e.order_key []))
  | inr n ↦ absurd (Contains-nil e n)
]

entry_one : (digest order_key : ℕ) (e : Entry) → digest ≡ e.digest → Contains (order_key ∷ []) e.order_key → Contains (entry digest order_key ∷ []) e
entry_one digest order_key e is h = elim (Contains-cons_cases order_key [] e.order_key h) [
  | inl same ↦ subst (λ (x : Entry). Contains (x ∷ []) e) (sym (ap₂ entry is same)) (Contains-here e [])
  | inr n ↦ absurd (Contains-nil e.order_key n)
]

module _ (old new : Lists) (old_distinct : IsDistinct nat_eq (keys_of old)) (new_distinct : IsDistinct nat_eq (keys_of new)) (digest order_key : ℕ) (was is : Option (List ℕ))
    (before : lookup (nat_eq digest) old ≡ was) (changes : ChangesAt digest is old new) where
  -- what holds of an entry, by whether it stands under this digest
  by_digest : (R : Type 0 → Type 0 → Type 0 → Type 0) → ((A B C D E F : Type 0) → A ↔ B → C ↔ D → E ↔ F → R B D F → R A C E) →
      ((m : ℕ) → R (IsAmong is m) (IsAmong was m) (Contains (order_key ∷ []) m)) → ((A : Type 0) → R A A ⊥) →
      (e : Entry) → R (Contains (entries_of new) e) (Contains (entries_of old) e) (Contains (entry digest order_key ∷ []) e)
  by_digest R alike here other e = by (nat_eq digest e.digest) refl
    where
      new_is : Contains (entries_of new) e ↔ IsAmong (lookup (nat_eq e.digest) new) e.order_key
      new_is = listed new new_distinct e.digest e.order_key

      old_is : Contains (entries_of old) e ↔ IsAmong (lookup (nat_eq e.digest) old) e.order_key
      old_is = listed old old_distinct e.digest e.order_key

      by : (b : Bool) → nat_eq digest e.digest ≡ b → R (Contains (entries_of new) e) (Contains (entries_of old) e) (Contains (entry digest order_key ∷ []) e)
      by true is_same =
          let same : digest ≡ e.digest = exact_unsigned_eq digest e.digest is_same in
          let new_found : lookup (nat_eq e.digest) new ≡ is = changes e.digest ∙ ap (λ (b : Bool). cond b is (lookup (nat_eq e.digest) old)) is_same in
          let old_found : lookup (nat_eq e.digest) old ≡ was = ap (λ (n : ℕ). lookup (nat_eq n) old) (sym same) ∙ before in
          alike _ _ _ _ _ _ (subst (λ (o : Option (List ℕ)). Contains (entries_of new) e ↔ IsAmong o e.order_key) new_found new_is)
          (subst (λ (o : Option (List ℕ)). Contains (entries_of old) e ↔ IsAmong o e.order_key) old_found old_is)
          (λ h. (one_entry digest order_key e h).1, entry_one digest order_key e same) (here e.order_key)
      by false apart =
          let found : lookup (nat_eq e.digest) new ≡ lookup (nat_eq e.digest) old = changes e.digest ∙ ap (λ (b : Bool). cond b is (lookup (nat_eq e.digest) old)) apart in
          alike _ _ _ _ _ _ (subst (λ (o : Option (List ℕ)). Contains (entries_of new) e ↔ IsAmong o e.order_key) found new_is) old_is
          (λ h. true≢false (sym (eq-eqb digest e.digest (one_entry digest order_key e h).0) ∙ apart), λ h. absurd h) (other (IsAmong (lookup (nat_eq e.digest) old) e.order_key))

  pub puts_at : ((m : ℕ) → IsAmong is m ↔ (IsAmong was m ⊎ Contains (order_key ∷ []) m)) → Puts (entries_of old) (entry digest order_key ∷ []) (entries_of new)
  puts_at here = by_digest (λ A C E. A ↔ (C ⊎ E)) alike here (λ A. (λ a. inl a, λ h. elim h [ inl a ↦ a | inr n ↦ absurd n ]))
    where
      alike : (A B C D E F : Type 0) → A ↔ B → C ↔ D → E ↔ F → B ↔ (D ⊎ F) → A ↔ (C ⊎ E)
      alike A B C D E F ab cd ef bdf = (
        λ a. elim (bdf.0 (ab.0 a)) [ inl d ↦ inl (cd.1 d) | inr f ↦ inr (ef.1 f) ],
        λ h. elim h [ inl c ↦ ab.1 (bdf.1 (inl (cd.0 c))) | inr e ↦ ab.1 (bdf.1 (inr (ef.0 e))) ],
      )

  pub takes_at : ((m : ℕ) → IsAmong is m ↔ (IsAmong was m × ¬ Contains (order_key ∷ []) m)) → TakesOut (entries_of old) (entry digest order_key ∷ []) (entries_of new)
  takes_at here = by_digest (λ A C E. A ↔ (C × ¬ E)) alike here (λ A. (λ a. (a, λ n. n), λ h. h.0))
    where
      alike : (A B C D E F : Type 0) → A ↔ B → C ↔ D → E ↔ F → B ↔ (D × ¬ F) → A ↔ (C × ¬ E)
      alike A B C D E F ab cd ef bdf = (
        λ a. let h : D × ¬ F = bdf.0 (ab.0 a) in (cd.1 h.0, λ e. h.1 (ef.0 e)),
        λ h. ab.1 (bdf.1 (cd.0 h.0, λ f. h.1 (ef.1 f))),
      )

pub takes_none : (lists : Lists) → IsDistinct nat_eq (keys_of lists) → (digest order_key : ℕ) → lookup (nat_eq digest) lists ≡ None → TakesOut (entries_of lists) (entry digest order_key ∷ []) (entries_of lists)
takes_none lists distinct digest order_key none e = (λ h. (h, λ k. other h k), λ h. h.0)
  where
    other : Contains (entries_of lists) e → Contains (entry digest order_key ∷ []) e → ⊥
    other h k = elim (Contains-cons_cases (entry digest order_key) [] e k) [
      | inl is ↦ subst (λ (o : Option (List ℕ)). IsAmong o order_key) none ((listed lists distinct digest order_key).0 (subst (Contains (entries_of lists)) (sym is) h))
      | inr n ↦ Contains-nil e n
    ]

pub one_among : (order_key : ℕ) (order_keys : List ℕ) → order_keys ≡ order_key ∷ [] → (m : ℕ) → IsAmong (Some order_keys) m ↔ (IsAmong None m ⊎ Contains (order_key ∷ []) m)
one_among order_key order_keys is m = (λ h. inr (subst (λ (ls : List ℕ). Contains ls m) is h), λ h. elim h [ inl n ↦ absurd n | inr k ↦ subst (λ (ls : List ℕ). Contains ls m) (sym is) k ])

pub none_among : (order_keys old : List ℕ) (order_key : ℕ) → order_keys ≡ [] → TakesOut old (order_key ∷ []) order_keys → (m : ℕ) → IsAmong None m ↔ (IsAmong (Some old) m × ¬ Contains (order_key ∷ []) m)
none_among order_keys old order_key is takes m = (λ h. absurd h, λ h. Contains-nil m (subst (λ (ls : List ℕ). Contains ls m) is ((takes m).1 h)))

pub cond_twice : {X : Type 0} (b : Bool) (x y z : X) → cond b x (cond b y z) ≡ cond b x z
cond_twice true x y z = refl
cond_twice false x y z = refl

pub found_under : (lists : Lists) → IsDistinct nat_eq (keys_of lists) → (entries : List Entry) → entries_of lists ≡ entries → (digest : ℕ) (found : Option (List ℕ)) → found ≡ lookup (nat_eq digest) lists →
    (order_key : ℕ) → IsAmong found order_key ↔ Contains entries (entry digest order_key)
found_under lists distinct entries is digest found looked order_key =
    subst (λ (o : Option (List ℕ)). IsAmong o order_key ↔ Contains entries (entry digest order_key)) (sym looked)
    (subst (λ (es : List Entry). IsAmong (lookup (nat_eq digest) lists) order_key ↔ Contains es (entry digest order_key)) is ((listed lists distinct digest order_key).1, (listed lists distinct digest order_key).0))
