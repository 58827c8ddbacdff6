-- What is known of two sheets of which neither lacks a member of the other.
use Rattle.std.proofs.Common.{◌≡◌, ◌⊎◌, inl, inr, ℕ, zero, suc, ◌+◌, ◌<◌, Bool, true, false, not, List, [], ◌∷◌, ◌++◌, map, Option, Some, None, option_map, refl, sym, ap, ap₂, ◌∙◌, subst, arith}
use Rattle.std.specs.Prelude.{if◌then◌else◌, ◌||◌, find, slice_get}
use Rattle.std.specs.List.{Contains, cons_option, enumerate_from, filter, filter_map, list_any}
use Rattle.std.proofs.lemmas.Bool.{false≢true, true≢false}
use Rattle.std.proofs.lemmas.List.Elements.{All-contains, Contains-append_left, Contains-append_right}
use Rattle.cascade_laws.proofs.ForCallers.{some-same}
use Rattle.list_facts.proofs.Members.{Contains-here, Contains-there, Contains-nil, Contains-cons_cases, Contains-filtered, none-filter}
use Rattle.order_laws.proofs.ForCallers.{any_from, map_has}
use Rattle.sheet_members.specs.Compared.{Common, Compared, all_marked, changed, common_of, compared_of, has_member, marked}
use Rattle.sheet_members.specs.Labels.{Label, key_of, label_with, same_label}
use Rattle.sheet_members.specs.Members.{Member, numbered, numbered_one}
use Rattle.sheet_members.specs.Occurrences.{Kept, Occurrence, Paired, Part}
use Rattle.turned_members.specs.Turned.{couple, is_turned, turned, turned_with}
use Rattle.diff_laws.proofs.Distinct.{Distinct, numbered_again}
use Rattle.sheet_members.specs.SameLabels.{label_decides}

-- ---- The first with a label

-- a twin: its place among members, from this number on
pub record IsTwin (others : List Member) (label : Label) (x : ℕ × Member) (n : ℕ) : Type 0 where
  pub index : ℕ
  pub number : x.0 ≡ n + index
  pub at : slice_get others index ≡ Some x.1
  pub same : (x.1).label ≡ label

twin_from : (n : ℕ) (others : List Member) (label : Label) → list_any (λ (m : Member). same_label m.label label) others ≡ true →
    (x : ℕ × Member) × (find (λ (y : ℕ × Member). same_label y.1.label label) (enumerate_from n others) ≡ Some x) × IsTwin others label x n
twin_from n [] label has = absurd (false≢true has)
twin_from n (o ∷ others) label has = which (same_label o.label label) refl has (λ g. twin_from (n + 1) others label g)
  where
    which : (b : Bool) → same_label o.label label ≡ b → list_any (λ (m : Member). same_label m.label label) (o ∷ others) ≡ true →
        (list_any (λ (m : Member). same_label m.label label) others ≡ true → (x : ℕ × Member) × (find (λ (y : ℕ × Member). same_label y.1.label label) (enumerate_from (n + 1) others) ≡ Some x) × IsTwin others label x (n + 1)) →
        (x : ℕ × Member) × (find (λ (y : ℕ × Member). same_label y.1.label label) (enumerate_from n (o ∷ others)) ≡ Some x) × IsTwin (o ∷ others) label x n
    which true is has rest = (
      (n, o),
      ap (λ (b : Bool). if b then Some (n, o) else find (λ (y : ℕ × Member). same_label y.1.label label) (enumerate_from (n + 1) others)) is,
      record { index = 0; number = omega arith; at = refl; same = (label_decides o.label label).0 is },
    )
    which false is has rest =
        let w = rest (ap (λ (b : Bool). b || list_any (λ (m : Member). same_label m.label label) others) (sym is) ∙ has) in (
          w.0,
          ap (λ (b : Bool). if b then Some (n, o) else find (λ (y : ℕ × Member). same_label y.1.label label) (enumerate_from (n + 1) others)) is ∙ w.1,
          record { index = suc (w.2).index; number = let e = (w.2).number in omega (arith, e); at = (w.2).at; same = (w.2).same },
        )

-- a common member of a member
pub record HasTwin (others : List Member) (m : Member) : Type 0 where
  pub common : Common
  pub is : common_of others m ≡ Some common
  pub mine : common.mine ≡ m
  pub there : slice_get others common.there ≡ Some common.yours
  pub same : common.yours.label ≡ m.label

pub has_twin : (others : List Member) (m : Member) → has_member others m.label ≡ true → HasTwin others m
has_twin others m has =
    let w = twin_from 0 others m.label has in
    let number : (w.0).0 ≡ (w.2).index = (let e = (w.2).number in omega (arith, e)) in
    record {
      common = record { mine = m; yours = (w.0).1; there = (w.0).0 };
      is = ap (option_map (λ (x : ℕ × Member). record { mine = m; yours = x.1; there = x.0 })) w.1;
      mine = refl;
      there = ap (slice_get others) number ∙ (w.2).at;
      same = (w.2).same;
    }

-- ---- Lists of what a test gives

map_step : {X Y : Type 0} (f : X → Option Y) (x : X) (xs : List X) (y : Y) → f x ≡ Some y → filter_map f (x ∷ xs) ≡ y ∷ filter_map f xs
map_step f x xs y is = ap (λ o. cons_option o (filter_map f xs)) is

filter_map_has : {X Y : Type 0} (f : X → Option Y) (xs : List X) (x : X) (y : Y) → Contains xs x → f x ≡ Some y → Contains (filter_map f xs) y
filter_map_has f [] x y among is = absurd (Contains-nil x among)
filter_map_has {X = X} {Y = Y} f (z ∷ xs) x y among is = which (Contains-cons_cases z xs x among) (λ g. filter_map_has f xs x y g is)
  where
    which : (z ≡ x) ⊎ Contains xs x → (Contains xs x → Contains (filter_map f xs) y) → Contains (filter_map f (z ∷ xs)) y
    which (inl same) rest = subst (λ (ys : List Y). Contains ys y) (sym (map_step f z xs y (ap f same ∙ is))) (Contains-here y (filter_map f xs))
    which (inr g) rest = behind (f z) refl (rest g)
      where
        behind : (o : Option Y) → f z ≡ o → Contains (filter_map f xs) y → Contains (filter_map f (z ∷ xs)) y
        behind None e h = subst (λ (ys : List Y). Contains ys y) (sym (ap (λ o. cons_option o (filter_map f xs)) e)) h
        behind (Some w) e h = subst (λ (ys : List Y). Contains ys y) (sym (map_step f z xs w e)) (Contains-there w (filter_map f xs) y h)

-- ---- None is changed, missing or extra

key_changed : (o : Occurrence) (q : Part) → o.part ≡ q → (key_of o).changed ≡ true
key_changed o (Paired s d) e = ap (λ (r : Part). (label_with o.layer.head r true o.front).changed) e
key_changed o (Kept item) e = ap (λ (r : Part). (label_with o.layer.head r true o.front).changed) e

numbered_has : (before : List Label) (xs : List Member) (x : Member) → Contains xs x → (y : Member) × Contains (numbered before xs) y × (y.label.changed ≡ x.label.changed)
numbered_has before [] x among = absurd (Contains-nil x among)
numbered_has before (z ∷ xs) x among = which (Contains-cons_cases z xs x among) (λ g. numbered_has (before ++ z.label ∷ []) xs x g)
  where
    which : (z ≡ x) ⊎ Contains xs x → (Contains xs x → (y : Member) × Contains (numbered (before ++ z.label ∷ []) xs) y × (y.label.changed ≡ x.label.changed)) →
        (y : Member) × Contains (numbered before (z ∷ xs)) y × (y.label.changed ≡ x.label.changed)
    which (inl same) rest = (numbered_one before z, Contains-here (numbered_one before z) (numbered (before ++ z.label ∷ []) xs), ap (λ (m : Member). m.label.changed) same)
    which (inr g) rest = let w = rest g in (w.0, Contains-there (numbered_one before z) (numbered (before ++ z.label ∷ []) xs) w.0 w.1, w.2)

marked_changed : (others : List Member) (m : Member) → has_member others m.label ≡ false → (marked others m).label.changed ≡ true
marked_changed others m lacks =
    ap (λ (b : Bool). (if b then m else record { occurrence = m.occurrence; label = key_of m.occurrence }).label.changed) lacks ∙ key_changed m.occurrence m.occurrence.part refl

-- one that is lacking is changed
lacking : (others ms : List Member) (m : Member) → Contains ms m → has_member others m.label ≡ false → (y : Member) × Contains (all_marked others ms) y × (y.label.changed ≡ true)
lacking others ms m among lacks =
    let w = numbered_has [] (map (marked others) ms) (marked others m) (map_has (marked others) ms m among) in
    (w.0, w.1, w.2 ∙ marked_changed others m lacks)

not_false : (b : Bool) → not b ≡ false → b ≡ true
not_false true h = refl
not_false false h = absurd (true≢false h)

module _ (ms ns : List Member) where
  -- none of those that are left is changed
  none_changed : (compared_of ms ns).missing ≡ [] → changed (compared_of ms ns) ≡ [] → (y : Member) → Contains ms y → y.label.changed ≡ true → ⊥
  none_changed missing none y among is =
      let has : has_member ns y.label ≡ true = not_false (has_member ns y.label) (All-contains (λ (m : Member). not (has_member ns m.label) ≡ false) ms y (none-filter (λ (m : Member). not (has_member ns m.label)) ms missing) among) in
      let t : HasTwin ns y = has_twin ns y has in
      let c : Contains (filter_map (common_of ns) ms) t.common = filter_map_has (common_of ns) ms y t.common among t.is in
      let f : t.common.mine.label.changed ≡ false = All-contains (λ (x : Common). x.mine.label.changed ≡ false) (filter_map (common_of ns) ms) t.common (none-filter (λ (x : Common). x.mine.label.changed) (filter_map (common_of ns) ms) none) c in
      true≢false (sym is ∙ ap (λ (x : Member). x.label.changed) (sym t.mine) ∙ f)

  none_changed_there : (compared_of ms ns).missing ≡ [] → (compared_of ms ns).extra ≡ [] → changed (compared_of ms ns) ≡ [] → (z : Member) → Contains ns z → z.label.changed ≡ true → ⊥
  none_changed_there missing extra none z among is =
      let has : has_member ms z.label ≡ true = not_false (has_member ms z.label) (All-contains (λ (m : Member). not (has_member ms m.label) ≡ false) ns z (none-filter (λ (m : Member). not (has_member ms m.label)) ns extra) among) in
      let w = any_from (λ (m : Member). same_label m.label z.label) ms has in
      none_changed missing none w.0 w.1 (ap (λ (l : Label). l.changed) ((label_decides (w.0).label z.label).0 w.2) ∙ is)

-- ---- So nothing is marked

has_all : (others ms : List Member) → ((y : Member) → Contains (all_marked others ms) y → y.label.changed ≡ true → ⊥) → (m : Member) → Contains ms m → has_member others m.label ≡ true
has_all others ms none m among = which (has_member others m.label) refl
  where
    which : (b : Bool) → has_member others m.label ≡ b → has_member others m.label ≡ true
    which true e = e
    which false e = let w = lacking others ms m among e in absurd (none w.0 w.1 w.2)

pub unmarked : (others ms : List Member) → ((m : Member) → Contains ms m → has_member others m.label ≡ true) → map (marked others) ms ≡ ms
unmarked others [] has = refl
unmarked others (m ∷ ms) has =
    ap₂ (λ (x : Member) (xs : List Member). x ∷ xs) (ap (λ (b : Bool). if b then m else record { occurrence = m.occurrence; label = key_of m.occurrence }) (has m (Contains-here m ms)))
    (unmarked others ms (λ x among. has x (Contains-there m ms x among)))

pub record AreTheSame (ms ns : List Member) (c : Compared) : Type 0 where
  pub to : (m : Member) → Contains ms m → has_member ns m.label ≡ true
  pub from : (n : Member) → Contains ns n → has_member ms n.label ≡ true
  pub commons : c.commons ≡ filter_map (common_of ns) ms

pub are_the_same : (ms ns : List Member) → Distinct ms → Distinct ns → (c : Compared) → c ≡ compared_of (all_marked ns ms) (all_marked ms ns) → c.missing ≡ [] → c.extra ≡ [] → changed c ≡ [] → AreTheSame ms ns c
are_the_same ms ns distinct distinct' c is missing extra none = record {
  to = to;
  from = from;
  commons = ap (λ (x : Compared). x.commons) is ∙ ap₂ (λ (xs ys : List Member). filter_map (common_of ys) xs)
      (ap (numbered []) (unmarked ns ms to) ∙ numbered_again ms distinct) (ap (numbered []) (unmarked ms ns from) ∙ numbered_again ns distinct');
}
  where
    missing_there : (compared_of (all_marked ns ms) (all_marked ms ns)).missing ≡ []
    missing_there = ap (λ (x : Compared). x.missing) (sym is) ∙ missing

    extra_there : (compared_of (all_marked ns ms) (all_marked ms ns)).extra ≡ []
    extra_there = ap (λ (x : Compared). x.extra) (sym is) ∙ extra

    none_there : changed (compared_of (all_marked ns ms) (all_marked ms ns)) ≡ []
    none_there = ap changed (sym is) ∙ none

    to : (m : Member) → Contains ms m → has_member ns m.label ≡ true
    to = has_all ns ms (none_changed (all_marked ns ms) (all_marked ms ns) missing_there none_there)

    from : (n : Member) → Contains ns n → has_member ms n.label ≡ true
    from = has_all ms ns (none_changed_there (all_marked ns ms) (all_marked ms ns) missing_there extra_there none_there)

-- ---- Couples that are turned

slice_has : (ms : List Member) (i : ℕ) (m : Member) → slice_get ms i ≡ Some m → Contains ms m
slice_has [] i m at = absurd (let e : None ≡ Some m = at in cc)
slice_has (x ∷ ms) zero m at = subst (λ (y : Member). Contains (x ∷ ms) y) (some-same at) (Contains-here x ms)
slice_has (x ∷ ms) (suc i) m at = Contains-there x ms m (slice_has ms i m at)

pub turned_has : (ns ms : List Member) (k i : ℕ) (m1 m2 : Member) (c d : Common) → slice_get ms k ≡ Some m1 → slice_get ms i ≡ Some m2 → k < i →
    common_of ns m1 ≡ Some c → common_of ns m2 ≡ Some d → is_turned c d ≡ true → Contains (turned (filter_map (common_of ns) ms)) (couple c d)
turned_has ns [] k i m1 m2 c d at at' before is is' turns = absurd (let e : None ≡ Some m1 = at in cc)
turned_has ns (x ∷ ms) k zero m1 m2 c d at at' before is is' turns = absurd (omega (arith, before))
turned_has ns (x ∷ ms) zero (suc i) m1 m2 c d at at' before is is' turns =
    let first : common_of ns x ≡ Some c = ap (common_of ns) (some-same at) ∙ is in
    let there : Contains (filter_map (common_of ns) ms) d = filter_map_has (common_of ns) ms m2 d (slice_has ms i m2 at') is' in
    subst (λ (cs : List Common). Contains (turned cs) (couple c d)) (sym (map_step (common_of ns) x ms c first))
    (Contains-append_left (turned_with c (filter_map (common_of ns) ms)) (turned (filter_map (common_of ns) ms)) (couple c d)
    (map_has (couple c) (filter (is_turned c) (filter_map (common_of ns) ms)) d (Contains-filtered (is_turned c) (filter_map (common_of ns) ms) d there turns)))
turned_has ns (x ∷ ms) (suc k) (suc i) m1 m2 c d at at' before is is' turns = which (common_of ns x) refl (turned_has ns ms k i m1 m2 c d at at' (omega (arith, before)) is is' turns)
  where
    which : (o : Option Common) → common_of ns x ≡ o → Contains (turned (filter_map (common_of ns) ms)) (couple c d) → Contains (turned (filter_map (common_of ns) (x ∷ ms))) (couple c d)
    which None e h = subst (λ (cs : List Common). Contains (turned cs) (couple c d)) (sym (ap (λ o. cons_option o (filter_map (common_of ns) ms)) e)) h
    which (Some y) e h =
        subst (λ (cs : List Common). Contains (turned cs) (couple c d)) (sym (map_step (common_of ns) x ms y e))
        (Contains-append_right (turned_with y (filter_map (common_of ns) ms)) (turned (filter_map (common_of ns) ms)) (couple c d) h)
