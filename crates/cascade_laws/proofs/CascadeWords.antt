-- The order of the cascade, and what is understood, in words.
use Rattle.std.proofs.Common.{◌≡◌, ◌⊎◌, ℕ, ◌<◌, Bool, true, false, List, [], ◌∷◌, ◌&&◌, refl, sym, ap, ap₂, subst, inl, inr, arith}
use Rattle.std.specs.Prelude.{if◌then◌else◌}
use Rattle.std.specs.List.{Contains}
use Rattle.std.specs.Cmp.Lexicographic.{bytes_decides}
use Rattle.std.proofs.lemmas.Bool.{or_cases, and_parts, and_from, or_left, or_right, false≢true}
use Rattle.list_facts.proofs.Members.{Contains-here, Contains-there, Contains-nil, Contains-cons_cases}
use Rattle.cascade_laws.proofs.Ranking.{exceeds-cases, exceeds-less, exceeds-same}
use Rattle.css_model.specs.declared.selector.Specificity.{Specificity}
use Rattle.css_model.specs.Cascade.Winner.{Place, AppliedDeclaration, exceeds, outranks, Understood, is_understood}
use Rattle.css_model.specs.Lists.{same_text}
use Rattle.cascade_laws.specs.Winning.{IsMoreSpecific, Outranks}
use Rattle.css_model.specs.Cascade.Winner.{IsLater}

-- importance as a number
abbrev importance : Bool → ℕ
importance b = if b then 1 else 0

number_less : (x y : Bool) → importance y < importance x → (x ≡ true) × (y ≡ false)
number_less true true h = absurd (omega arith)
number_less true false h = (refl, refl)
number_less false true h = absurd (omega arith)
number_less false false h = absurd (omega arith)

number_same : (x y : Bool) → importance x ≡ importance y → x ≡ y
number_same true true h = refl
number_same true false h = absurd (omega arith)
number_same false true h = absurd (omega arith)
number_same false false h = refl

less_number : (x y : Bool) → x ≡ true → y ≡ false → importance y < importance x
less_number true true h g = absurd (false≢true (sym g))
less_number true false h g = omega arith
less_number false y h g = absurd (false≢true h)

same_number : (x y : Bool) → x ≡ y → importance x ≡ importance y
same_number x y h = ap importance h

later-exceeds : (p q : Place) → IsLater p q → exceeds (p.item ∷ p.position ∷ []) (q.item ∷ q.position ∷ []) ≡ true
later-exceeds p q (inl h) = exceeds-less p.item q.item (p.position ∷ []) (q.position ∷ []) h
later-exceeds p q (inr h) = exceeds-same p.item q.item (p.position ∷ []) (q.position ∷ []) h.0 (exceeds-less p.position q.position [] [] h.1)

exceeds-later : (p q : Place) → exceeds (p.item ∷ p.position ∷ []) (q.item ∷ q.position ∷ []) ≡ true → IsLater p q
exceeds-later p q h = first (exceeds-cases p.item q.item (p.position ∷ []) (q.position ∷ []) h)
  where
    second : p.item ≡ q.item → (q.position < p.position) ⊎ ((p.position ≡ q.position) × (false ≡ true)) → IsLater p q
    second i (inl l) = inr (i, l)
    second i (inr l) = absurd (false≢true l.1)

    first : (q.item < p.item) ⊎ ((p.item ≡ q.item) × (exceeds (p.position ∷ []) (q.position ∷ []) ≡ true)) → IsLater p q
    first (inl l) = inl l
    first (inr l) = second l.0 (exceeds-cases p.position q.position [] [] l.1)

-- the specificity's counts, and then the rest
abbrev FirstCounts : Specificity → Specificity → List ℕ → List ℕ → Type 0
FirstCounts s t xs ys = ((t.a < s.a) ⊎ ((s.a ≡ t.a) × (t.b < s.b)) ⊎ ((s.a ≡ t.a) × (s.b ≡ t.b) × (t.c < s.c))) ⊎ ((s ≡ t) × (exceeds xs ys ≡ true))

counted-exceeds : (s t : Specificity) (xs ys : List ℕ) → FirstCounts s t xs ys →
    exceeds (s.a ∷ s.b ∷ s.c ∷ xs) (t.a ∷ t.b ∷ t.c ∷ ys) ≡ true
counted-exceeds s t xs ys (inl (inl h)) = exceeds-less s.a t.a (s.b ∷ s.c ∷ xs) (t.b ∷ t.c ∷ ys) h
counted-exceeds s t xs ys (inl (inr (inl h))) = exceeds-same s.a t.a (s.b ∷ s.c ∷ xs) (t.b ∷ t.c ∷ ys) h.0 (exceeds-less s.b t.b (s.c ∷ xs) (t.c ∷ ys) h.1)
counted-exceeds s t xs ys (inl (inr (inr h))) = exceeds-same s.a t.a (s.b ∷ s.c ∷ xs) (t.b ∷ t.c ∷ ys) h.0 (exceeds-same s.b t.b (s.c ∷ xs) (t.c ∷ ys) h.1 (exceeds-less s.c t.c xs ys h.2))
counted-exceeds s t xs ys (inr h) =
    exceeds-same s.a t.a (s.b ∷ s.c ∷ xs) (t.b ∷ t.c ∷ ys) (ap (λ (r : Specificity). r.a) h.0)
    (exceeds-same s.b t.b (s.c ∷ xs) (t.c ∷ ys) (ap (λ (r : Specificity). r.b) h.0) (exceeds-same s.c t.c xs ys (ap (λ (r : Specificity). r.c) h.0) h.1))

same_counts : (s t : Specificity) → s.a ≡ t.a → s.b ≡ t.b → s.c ≡ t.c → s ≡ t
same_counts s t a b c = ap₂ (λ (n : ℕ) (u : Specificity). record { a = n; b = u.b; c = u.c }) a (ap₂ (λ (m k : ℕ). record { a = t.a; b = m; c = k }) b c)

exceeds-counted : (s t : Specificity) (xs ys : List ℕ) → exceeds (s.a ∷ s.b ∷ s.c ∷ xs) (t.a ∷ t.b ∷ t.c ∷ ys) ≡ true → FirstCounts s t xs ys
exceeds-counted s t xs ys h = first (exceeds-cases s.a t.a (s.b ∷ s.c ∷ xs) (t.b ∷ t.c ∷ ys) h)
  where
    third : s.a ≡ t.a → s.b ≡ t.b → (t.c < s.c) ⊎ ((s.c ≡ t.c) × (exceeds xs ys ≡ true)) → FirstCounts s t xs ys
    third a b (inl l) = inl (inr (inr (a, b, l)))
    third a b (inr l) = inr (same_counts s t a b l.0, l.1)

    second : s.a ≡ t.a → (t.b < s.b) ⊎ ((s.b ≡ t.b) × (exceeds (s.c ∷ xs) (t.c ∷ ys) ≡ true)) → FirstCounts s t xs ys
    second a (inl l) = inl (inr (inl (a, l)))
    second a (inr l) = third a l.0 (exceeds-cases s.c t.c xs ys l.1)

    first : (t.a < s.a) ⊎ ((s.a ≡ t.a) × (exceeds (s.b ∷ s.c ∷ xs) (t.b ∷ t.c ∷ ys) ≡ true)) → FirstCounts s t xs ys
    first (inl l) = inl (inl l)
    first (inr l) = second l.0 (exceeds-cases s.b t.b (s.c ∷ xs) (t.c ∷ ys) l.1)

-- the numbers behind importance
abbrev counts : AppliedDeclaration → List ℕ
counts g = g.specificity.a ∷ g.specificity.b ∷ g.specificity.c ∷ g.place.item ∷ g.place.position ∷ []

-- the two halves of the law `OutrankingIsDecided`
pub outranks-words : (e f : AppliedDeclaration) → outranks e f ≡ true → Outranks e f
outranks-words e f h = first (exceeds-cases (importance e.decl.important) (importance f.decl.important) (counts e) (counts f) h)
  where
    second : e.decl.important ≡ f.decl.important → IsMoreSpecific e f ⊎ ((e.specificity ≡ f.specificity) × (exceeds (e.place.item ∷ e.place.position ∷ []) (f.place.item ∷ f.place.position ∷ []) ≡ true)) → Outranks e f
    second i (inl l) = inr (inl (i, l))
    second i (inr l) = inr (inr (i, l.0, exceeds-later e.place f.place l.1))

    first : (importance f.decl.important < importance e.decl.important) ⊎ ((importance e.decl.important ≡ importance f.decl.important) × (exceeds (counts e) (counts f) ≡ true)) → Outranks e f
    first (inl l) = inl (number_less e.decl.important f.decl.important l)
    first (inr l) = second (number_same e.decl.important f.decl.important l.0) (exceeds-counted e.specificity f.specificity (e.place.item ∷ e.place.position ∷ []) (f.place.item ∷ f.place.position ∷ []) l.1)

pub words-outranks : (e f : AppliedDeclaration) → Outranks e f → outranks e f ≡ true
words-outranks e f (inl h) = exceeds-less (importance e.decl.important) (importance f.decl.important) (counts e) (counts f) (less_number e.decl.important f.decl.important h.0 h.1)
words-outranks e f (inr (inl h)) = exceeds-same (importance e.decl.important) (importance f.decl.important) (counts e) (counts f) (same_number e.decl.important f.decl.important h.0)
    (counted-exceeds e.specificity f.specificity (e.place.item ∷ e.place.position ∷ []) (f.place.item ∷ f.place.position ∷ []) (inl h.1))
words-outranks e f (inr (inr h)) = exceeds-same (importance e.decl.important) (importance f.decl.important) (counts e) (counts f) (same_number e.decl.important f.decl.important h.0)
    (counted-exceeds e.specificity f.specificity (e.place.item ∷ e.place.position ∷ []) (f.place.item ∷ f.place.position ∷ []) (inr (h.1, later-exceeds e.place f.place h.2)))

-- an entry's name and value
abbrev named : AppliedDeclaration → Understood
named e = record { name = e.decl.name; value = e.decl.value }

-- the two halves of the law `UnderstandingIsDecided`
pub understood-listed : (us : List Understood) (e : AppliedDeclaration) → is_understood us e ≡ true → Contains us (record { name = e.decl.name; value = e.decl.value })
understood-listed [] e h = absurd (false≢true h)
understood-listed (u ∷ us) e h = cases (or_cases (same_text u.name e.decl.name && same_text u.value e.decl.value) (is_understood us e) h) (understood-listed us e)
  where
    found : (same_text u.name e.decl.name ≡ true) × (same_text u.value e.decl.value ≡ true) → Contains (u ∷ us) (named e)
    found h = subst (λ v. Contains (u ∷ us) v)
        (ap₂ (λ (n m : List ℕ). record { name = n; value = m }) ((bytes_decides u.name e.decl.name).0 h.0) ((bytes_decides u.value e.decl.value).0 h.1))
        (Contains-here u us)

    cases : ((same_text u.name e.decl.name && same_text u.value e.decl.value) ≡ true) ⊎ (is_understood us e ≡ true) → (is_understood us e ≡ true → Contains us (named e)) → Contains (u ∷ us) (named e)
    cases (inl g) rest = found (and_parts (same_text u.name e.decl.name) (same_text u.value e.decl.value) g)
    cases (inr g) rest = Contains-there u us (named e) (rest g)

pub listed-understood : (us : List Understood) (e : AppliedDeclaration) → Contains us (record { name = e.decl.name; value = e.decl.value }) → is_understood us e ≡ true
listed-understood [] e h = absurd (Contains-nil (record { name = e.decl.name; value = e.decl.value }) h)
listed-understood (u ∷ us) e h = cases (Contains-cons_cases u us (record { name = e.decl.name; value = e.decl.value }) h) (listed-understood us e)
  where
    cases : (u ≡ record { name = e.decl.name; value = e.decl.value }) ⊎ Contains us (record { name = e.decl.name; value = e.decl.value }) → (Contains us (record { name = e.decl.name; value = e.decl.value }) → is_understood us e ≡ true) → is_understood (u ∷ us) e ≡ true
    cases (inl g) rest = or_left (same_text u.name e.decl.name && same_text u.value e.decl.value) (is_understood us e)
        (and_from (same_text u.name e.decl.name) (same_text u.value e.decl.value)
        ((bytes_decides u.name e.decl.name).1 (ap (λ (v : Understood). v.name) g)) ((bytes_decides u.value e.decl.value).1 (ap (λ (v : Understood). v.value) g)))
    cases (inr g) rest = or_right (same_text u.name e.decl.name && same_text u.value e.decl.value) (is_understood us e) (rest g)
