-- Numbered members have different labels, and numbering them again changes nothing.
use Rattle.std.proofs.Common.{◌≡◌, ◌⊎◌, ℕ, zero, suc, ◌+◌, ◌<◌, ◌≤◌, Bool, true, false, cond, List, [], ◌∷◌, ◌++◌, map, Some, None, refl, sym, ap, ap₂, ◌∙◌, subst, arith}
use Rattle.std.specs.Prelude.{if◌then◌else◌, ◌==◌, slice_get}
use Rattle.std.specs.List.{AllByRecursion, Contains, count_by}
use Rattle.std.specs.Cmp.{unsigned_Decides}
use Rattle.std.proofs.lemmas.Bool.{false≢true, true≢false, false_from_ne_true}
use Rattle.std.proofs.lemmas.List.Elements.{All-contains, All-from_recursion}
use Rattle.std.proofs.lemmas.List.Sums.{sum_by-cons}
use Rattle.cascade_laws.proofs.ForCallers.{some-same}
use Rattle.list_facts.proofs.Members.{Contains-here, Contains-there}
use Rattle.sheet_members.specs.Labels.{Label, label_of, label_with, same_label}
use Rattle.sheet_members.specs.Members.{Member, member_of, numbered, numbered_one, with_number}
use Rattle.sheet_members.specs.Occurrences.{Kept, Occurrence, Paired, Part}
use Rattle.sheet_members.specs.SameLabels.{label_decides}

-- no two of these members have one label
abbrev pub Distinct : List Member → Type 0
Distinct [] = Unit {0}
Distinct (m ∷ ms) = AllByRecursion (λ (x : Member). same_label x.label m.label ≡ false) ms × Distinct ms

-- ---- Counting

-- how many times more, if it is counted
abbrev pub more_if : Bool → ℕ → ℕ
more_if b n = if b then suc n else n

count_step : (l : Label) (x : Label) (xs : List Label) → count_by (same_label l) (x ∷ xs) ≡ more_if (same_label l x) (count_by (same_label l) xs)
count_step l x xs = sum_by-cons (λ (y : Label). cond (same_label l y) 1 0) x xs ∙ which (same_label l x) (count_by (same_label l) xs)
  where
    which : (b : Bool) (n : ℕ) → cond b 1 0 + n ≡ more_if b n
    which true n = omega arith
    which false n = omega arith

pub count_last : (l x : Label) (xs : List Label) → count_by (same_label l) (xs ++ x ∷ []) ≡ more_if (same_label l x) (count_by (same_label l) xs)
count_last l x [] = count_step l x []
count_last l x (y ∷ xs) =
    count_step l y (xs ++ x ∷ []) ∙ ap (more_if (same_label l y)) (count_last l x xs) ∙ swapped (same_label l y) (same_label l x) (count_by (same_label l) xs) ∙ ap (more_if (same_label l x)) (sym (count_step l y xs))
  where
    swapped : (b c : Bool) (n : ℕ) → more_if b (more_if c n) ≡ more_if c (more_if b n)
    swapped true true n = refl
    swapped true false n = refl
    swapped false true n = refl
    swapped false false n = refl

no_less : (l x : Label) (xs : List Label) → count_by (same_label l) xs ≤ count_by (same_label l) (xs ++ x ∷ [])
no_less l x xs = subst (λ (n : ℕ). count_by (same_label l) xs ≤ n) (sym (count_last l x xs)) (which (same_label l x))
  where
    which : (b : Bool) → count_by (same_label l) xs ≤ more_if b (count_by (same_label l) xs)
    which true = omega arith
    which false = omega arith

one_more : (l : Label) (xs : List Label) → count_by (same_label l) xs < count_by (same_label l) (xs ++ l ∷ [])
one_more l xs =
    subst (λ (n : ℕ). count_by (same_label l) xs < n) (sym (count_last l l xs ∙ ap (λ (b : Bool). more_if b (count_by (same_label l) xs)) ((label_decides l l).1 refl))) (omega arith)

-- ---- Numbers

zero_number : (c : ℕ) → (if c == 0 then 0 else c) ≡ c
zero_number zero = refl
zero_number (suc c) =
    ap (λ (b : Bool). if b then 0 else suc c) (false_from_ne_true (suc c == 0) (λ h. let e : suc c ≡ 0 = (unsigned_Decides (suc c) 0).0 h in absurd (omega (arith, e))))

-- with a number the labels of parts are as different as without, or their numbers differ
label_without : Label → Label
label_without l = record { head = l.head; rule = l.rule; changed = l.changed; selector = l.selector; name = l.name; important = l.important; text = l.text; number = 0 }

pub base_same : (l l' : Label) (c c' : ℕ) → l.number ≡ 0 → l'.number ≡ 0 → with_number c l ≡ with_number c' l' → (l ≡ l') × (c ≡ c')
unfolding label_without
base_same l l' c c' z z' same = (
  ap (λ (n : ℕ). record { head = l.head; rule = l.rule; changed = l.changed; selector = l.selector; name = l.name; important = l.important; text = l.text; number = n }) z
      ∙ ap label_without same
      ∙ ap (λ (n : ℕ). record { head = l'.head; rule = l'.rule; changed = l'.changed; selector = l'.selector; name = l'.name; important = l'.important; text = l'.text; number = n }) (sym z'),
  sym (zero_number c) ∙ ap (λ (n : ℕ). if c == 0 then n else c) (sym z) ∙ ap (λ (x : Label). x.number) same ∙ ap (λ (n : ℕ). if c' == 0 then n else c') z' ∙ zero_number c',
)

pub number_of_part : (o : Occurrence) (q : Part) → o.part ≡ q → (label_of o).number ≡ 0
number_of_part o (Paired s d) e = ap (λ (r : Part). (label_with o.layer.head r false o.text).number) e
number_of_part o (Kept item) e = ap (λ (r : Part). (label_with o.layer.head r false o.text).number) e

-- the label of a member is one of a part, with a number of at least as many as are behind these
record IsNumbered (before : List Label) (m : Member) : Type 0 where
  base : Label
  number : ℕ
  plain : base.number ≡ 0
  label : m.label ≡ with_number number base
  least : count_by (same_label base) before ≤ number

weaker : (before : List Label) (x : Label) (m : Member) → IsNumbered (before ++ x ∷ []) m → IsNumbered before m
weaker before x m n = record { base = n.base; number = n.number; plain = n.plain; label = n.label; least = let a = no_less n.base x before in let b = n.least in omega (arith, a, b) }

all_weaker : (before : List Label) (x : Label) (ms : List Member) → AllByRecursion (IsNumbered (before ++ x ∷ [])) ms → AllByRecursion (IsNumbered before) ms
all_weaker before x [] all = tt
all_weaker before x (m ∷ ms) all = (weaker before x m all.0, all_weaker before x ms all.1)

all_numbered : (before : List Label) (os : List Occurrence) → AllByRecursion (IsNumbered before) (numbered before (map member_of os))
all_numbered before [] = tt
all_numbered before (o ∷ os) = (
  record { base = label_of o; number = count_by (same_label (label_of o)) before; plain = number_of_part o o.part refl; label = refl; least = omega arith },
  all_weaker before (label_of o) (numbered (before ++ label_of o ∷ []) (map member_of os)) (all_numbered (before ++ label_of o ∷ []) os),
)

first_other : (before : List Label) (o : Occurrence) (m : Member) → IsNumbered (before ++ label_of o ∷ []) m → same_label m.label (numbered_one before (member_of o)).label ≡ false
first_other before o m n =
    false_from_ne_true (same_label m.label (numbered_one before (member_of o)).label) (λ same.
    let e : with_number n.number n.base ≡ with_number (count_by (same_label (label_of o)) before) (label_of o) = sym n.label ∙ (label_decides m.label (numbered_one before (member_of o)).label).0 same in
    let w = base_same n.base (label_of o) n.number (count_by (same_label (label_of o)) before) n.plain (number_of_part o o.part refl) e in
    let a : count_by (same_label (label_of o)) before < count_by (same_label (label_of o)) (before ++ label_of o ∷ []) = one_more (label_of o) before in
    let b : count_by (same_label (label_of o)) (before ++ label_of o ∷ []) ≤ n.number = subst (λ (l : Label). count_by (same_label l) (before ++ label_of o ∷ []) ≤ n.number) w.0 n.least in
    let c : n.number ≡ count_by (same_label (label_of o)) before = w.1 in
    absurd (omega (arith, a, b, c)))

pub numbered_distinct : (before : List Label) (os : List Occurrence) → Distinct (numbered before (map member_of os))
numbered_distinct before [] = tt
numbered_distinct before (o ∷ os) = (others (numbered (before ++ label_of o ∷ []) (map member_of os)) (all_numbered (before ++ label_of o ∷ []) os), numbered_distinct (before ++ label_of o ∷ []) os)
  where
    others : (ms : List Member) → AllByRecursion (IsNumbered (before ++ label_of o ∷ [])) ms → AllByRecursion (λ (x : Member). same_label x.label (numbered_one before (member_of o)).label ≡ false) ms
    others [] all = tt
    others (m ∷ ms) all = (first_other before o m all.0, others ms all.1)

-- ---- Numbered again

none_counted : (l : Label) (xs : List Label) → AllByRecursion (λ (x : Label). same_label l x ≡ false) xs → count_by (same_label l) xs ≡ 0
none_counted l [] all = refl
none_counted l (x ∷ xs) all = count_step l x xs ∙ ap (λ (b : Bool). more_if b (count_by (same_label l) xs)) all.0 ∙ none_counted l xs all.1

-- the labels of members are none of these
abbrev AreOthers : List Label → List Member → Type 0
AreOthers before ms = AllByRecursion (λ (m : Member). AllByRecursion (λ (x : Label). same_label m.label x ≡ false) before) ms

one_behind : (l x : Label) (before : List Label) → AllByRecursion (λ (y : Label). same_label l y ≡ false) before → same_label l x ≡ false → AllByRecursion (λ (y : Label). same_label l y ≡ false) (before ++ x ∷ [])
one_behind l x [] all h = (h, tt)
one_behind l x (y ∷ before) all h = (all.0, one_behind l x before all.1 h)

all_behind : (x : Label) (before : List Label) (ms : List Member) → AreOthers before ms → AllByRecursion (λ (m : Member). same_label m.label x ≡ false) ms → AreOthers (before ++ x ∷ []) ms
all_behind x before [] others all = tt
all_behind x before (m ∷ ms) others all = (one_behind m.label x before others.0 all.0, all_behind x before ms others.1 all.1)

numbered_behind : (before : List Label) (ms : List Member) → AreOthers before ms → Distinct ms → numbered before ms ≡ ms
numbered_behind before [] others distinct = refl
numbered_behind before (m ∷ ms) others distinct =
    ap₂ (λ (x : Member) (xs : List Member). x ∷ xs)
    (ap (λ (n : ℕ). record { occurrence = m.occurrence; label = with_number n m.label }) (none_counted m.label before others.0))
    (numbered_behind (before ++ m.label ∷ []) ms (all_behind m.label before ms others.1 distinct.0) distinct.1)

all_others : (ms : List Member) → AreOthers [] ms
all_others [] = tt
all_others (m ∷ ms) = (tt, all_others ms)

pub numbered_again : (ms : List Member) → Distinct ms → numbered [] ms ≡ ms
numbered_again ms distinct = numbered_behind [] ms (all_others ms) distinct

-- ---- One place for each label

slice_has : (ms : List Member) (i : ℕ) (m : Member) → slice_get ms i ≡ Some m → Contains ms m
slice_has [] i m at = absurd (let e : None ≡ Some m = at in cc)
slice_has (x ∷ ms) zero m at = subst (λ (y : Member). Contains (x ∷ ms) y) (some-same at) (Contains-here x ms)
slice_has (x ∷ ms) (suc i) m at = Contains-there x ms m (slice_has ms i m at)

apart : (x : Member) (ms : List Member) → AllByRecursion (λ (y : Member). same_label y.label x.label ≡ false) ms → (n : Member) → Contains ms n → n.label ≡ x.label → ⊥
apart x ms all n among same =
    true≢false (sym ((label_decides n.label x.label).1 same)
    ∙ All-contains (λ (y : Member). same_label y.label x.label ≡ false) ms n (All-from_recursion (λ (y : Member). same_label y.label x.label ≡ false) ms all) among)

pub one_place : (ms : List Member) → Distinct ms → (i j : ℕ) (m n : Member) → slice_get ms i ≡ Some m → slice_get ms j ≡ Some n → m.label ≡ n.label → i ≡ j
one_place [] distinct i j m n at at' same = absurd (let e : None ≡ Some m = at in cc)
one_place (x ∷ ms) distinct zero zero m n at at' same = refl
one_place (x ∷ ms) distinct zero (suc j) m n at at' same =
    absurd (apart x ms distinct.0 n (slice_has ms j n at') (sym same ∙ ap (λ (y : Member). y.label) (sym (some-same at))))
one_place (x ∷ ms) distinct (suc i) zero m n at at' same =
    absurd (apart x ms distinct.0 m (slice_has ms i m at) (same ∙ ap (λ (y : Member). y.label) (sym (some-same at'))))
one_place (x ∷ ms) distinct (suc i) (suc j) m n at at' same = ap suc (one_place ms distinct.1 i j m n at at' same)
