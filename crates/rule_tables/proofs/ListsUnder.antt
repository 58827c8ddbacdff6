-- Lists of the order keys under the digests of declarations, and what these declarations weigh.
use Rattle.std.proofs.Common.{◌≡◌, ◌⊎◌, ◌↔◌, inl, inr, ℕ, ◌+◌, ◌≤◌, Bool, true, false, cond, List, [], ◌∷◌, ◌++◌, length, refl, sym, ap, subst, ◌∙◌, arith}
use Rattle.std.specs.List.{Contains}
use Rattle.std.specs.List.Sorted.{IsStrictlyIncreasing}
use Rattle.std.proofs.lemmas.Bool.{cases_lt, false≢true}
use Rattle.css_model.specs.declared.sheet.Decl.{Decl}
use Rattle.css_model.specs.declared.sheet.DeclItem.{DeclItem}
use Rattle.list_facts.proofs.Members.{Contains-cons_cases, Contains-here, Contains-nil, Contains-there}
use Rattle.order_laws.proofs.ForCallers.{has_decl_is}
use Rattle.order_laws.specs.Members.{has_decl, has_number}
use Rattle.rule_tables.proofs.EntrySets.{mapped, unmapped}
use Rattle.rule_tables.proofs.Reached.{has_is, none_ascend, pushed_ascend, puts_one, total_pushed}
use Rattle.rule_tables.proofs.Standing.{in_flat}
use Rattle.rule_tables.specs.Ahead.{AllAscend, IsAhead, PutsList, Reached, Reaches, total_at}
use Rattle.rule_tables.specs.declared.ahead.Common.{Common}
use Rattle.rule_tables.specs.declared.entries.Entry.{Entry}
use Rattle.rule_tables.specs.Digests.{decl_digest}
use Rattle.rule_tables.specs.Entries.{HaveSameMembers, entry}
use Rattle.rule_tables.specs.Tables.{AreEntered, AreListsUnder, Cover, IsListUnder, IsUnderOne, OrderKeyed, PutsUnderOne, TableParts, count_of, decl_digests, entries_by_decl, sum_of, weight_of}

-- ---- Lists of their own

-- the lists of these declarations are put to those of a start
pub record AreListsBehind (entries : List Entry) (decls : List DeclItem) (weights : List ℕ) (start final : List Reached) : Type 0 where
  pub under : (k : ℕ) → IsAhead final k ↔ (IsAhead start k ⊎ IsUnderOne entries (decl_digests decls) k)
  pub ascend : AllAscend start → AllAscend final
  pub count : (k : ℕ) (passes : Decl → Bool) → AreEntered entries k passes → total_at (λ c. c.count) start k + count_of passes decls ≤ total_at (λ c. c.count) final k
  pub weight : (k : ℕ) (passes : Decl → Bool) → AreEntered entries k passes → total_at (λ c. c.weight) start k + weight_of passes decls weights ≤ total_at (λ c. c.weight) final k

-- a declaration that passes is among those of its list
counted : (passes has : Bool) (n : ℕ) → (passes ≡ true → has ≡ true) → cond passes n 0 ≤ cond has n 0
counted true true n h = omega arith
counted true false n h = absurd (false≢true (h refl))
counted false has n h = omega arith

module _ (entries : List Entry) (d : DeclItem) (decls : List DeclItem) (w : ℕ) (weights : List ℕ) (l : Reached) (start final : List Reached) (list : IsListUnder entries d.decl w l) (next : AreListsBehind entries decls weights (start ++ l ∷ []) final) where
  puts : PutsList start l (start ++ l ∷ [])
  puts = puts_one start (start ++ l ∷ []) l refl

  has_list : (k : ℕ) (passes : Decl → Bool) → AreEntered entries k passes → passes d.decl ≡ true → has_number l.order_keys k ≡ true
  has_list k passes entered e = (has_is l.order_keys k).1 ((list.under k).1 (entered d.decl e))

  one_total : (f : Common → ℕ) (n k : ℕ) (passes : Decl → Bool) → AreEntered entries k passes → f l.common ≡ n → total_at f start k + cond (passes d.decl) n 0 ≤ total_at f (start ++ l ∷ []) k
  one_total f n k passes entered is =
      let pushed : total_at f (start ++ l ∷ []) k ≡ total_at f start k + cond (has_number l.order_keys k) (f l.common) 0 = total_pushed f start l k in
      let same : cond (has_number l.order_keys k) (f l.common) 0 ≡ cond (has_number l.order_keys k) n 0 = ap (λ (m : ℕ). cond (has_number l.order_keys k) m 0) is in
      let less : cond (passes d.decl) n 0 ≤ cond (has_number l.order_keys k) n 0 = counted (passes d.decl) (has_number l.order_keys k) n (has_list k passes entered) in
      omega (arith, pushed, same, less)

  behind_cons : AreListsBehind entries (d ∷ decls) (w ∷ weights) start final
  behind_cons = record {
    under = λ k. (there k, back k);
    ascend = λ all. next.ascend (pushed_ascend start l all list.ascends);
    count = λ k passes entered. (let one = one_total (λ c. c.count) 1 k passes entered (ap (λ (c : Common). c.count) list.common) in let rest = next.count k passes entered in omega (arith, one, rest));
    weight = λ k passes entered. (let one = one_total (λ c. c.weight) w k passes entered (ap (λ (c : Common). c.weight) list.common) in let rest = next.weight k passes entered in omega (arith, one, rest));
  }
    where
      there : (k : ℕ) → IsAhead final k → IsAhead start k ⊎ IsUnderOne entries (decl_digests (d ∷ decls)) k
      there k h = elim ((next.under k).0 h) [
        | inl g ↦ elim ((puts.ahead k).0 g) [ inl m ↦ inl m | inr m ↦ inr (decl_digest d.decl, Contains-here (decl_digest d.decl) (decl_digests decls), (list.under k).0 m) ]
        | inr g ↦ inr (g.0, Contains-there (decl_digest d.decl) (decl_digests decls) g.0 g.1, g.2)
      ]

      from_one : (k n : ℕ) → Contains entries (entry n k) → (decl_digest d.decl ≡ n) ⊎ Contains (decl_digests decls) n → IsAhead final k
      from_one k n there (inl e) = (next.under k).1 (inl ((puts.ahead k).1 (inr ((list.under k).1 (subst (λ (m : ℕ). Contains entries (entry m k)) (sym e) there)))))
      from_one k n there (inr g) = (next.under k).1 (inr (n, g, there))

      back : (k : ℕ) → IsAhead start k ⊎ IsUnderOne entries (decl_digests (d ∷ decls)) k → IsAhead final k
      back k (inl h) = (next.under k).1 (inl ((puts.ahead k).1 (inl h)))
      back k (inr h) = from_one k h.0 h.2 (Contains-cons_cases (decl_digest d.decl) (decl_digests decls) h.0 h.1)

pub behind_next : (entries : List Entry) (rest behind : List DeclItem) (d : DeclItem) (weights weights_behind : List ℕ) (w : ℕ) (l : Reached) (start pushed final : List Reached) → rest ≡ d ∷ behind → weights ≡ w ∷ weights_behind →
    IsListUnder entries d.decl w l → pushed ≡ start ++ l ∷ [] → AreListsBehind entries behind weights_behind pushed final → AreListsBehind entries rest weights start final
behind_next entries rest behind d weights weights_behind w l start pushed final is weights_is list pushed_is next =
    subst (λ (ds : List DeclItem). AreListsBehind entries ds weights start final) (sym is)
    (subst (λ (ws : List ℕ). AreListsBehind entries (d ∷ behind) ws start final) (sym weights_is)
    (behind_cons entries d behind w weights_behind l start final list (subst (λ (ls : List Reached). AreListsBehind entries behind weights_behind ls final) pushed_is next)))

behind_none : (entries : List Entry) (weights : List ℕ) (start : List Reached) → AreListsBehind entries [] weights start start
behind_none entries weights start = record {
  under = λ k. ((λ h. inl h), back k);
  ascend = λ all. all;
  count = λ k passes entered. omega arith;
  weight = λ k passes entered. omega arith;
}
  where
    back : (k : ℕ) → IsAhead start k ⊎ IsUnderOne entries [] k → IsAhead start k
    back k (inl h) = h
    back k (inr h) = absurd (Contains-nil h.0 h.1)

pub behind_end : (entries : List Entry) (rest : List DeclItem) (weights : List ℕ) (start : List Reached) → rest ≡ [] → AreListsBehind entries rest weights start start
behind_end entries rest weights start is = subst (λ (ds : List DeclItem). AreListsBehind entries ds weights start start) (sym is) (behind_none entries weights start)

pub behind_all : (entries : List Entry) (decls : List DeclItem) (weights : List ℕ) (start final : List Reached) → start ≡ [] → AreListsBehind entries decls weights start final → AreListsUnder entries decls weights final
behind_all entries decls weights start final none all = by (subst (λ (ls : List Reached). AreListsBehind entries decls weights ls final) none all)
  where
    by : AreListsBehind entries decls weights [] final → AreListsUnder entries decls weights final
    by lists = record {
      under = λ k. ((λ h. there k ((lists.under k).0 h)), λ h. (lists.under k).1 (inr h));
      ascend = lists.ascend none_ascend;
      count = λ k passes entered m small least. (let h = lists.count k passes entered in omega (arith, h, least));
      weight = λ k passes entered m small least. (let h = lists.weight k passes entered in omega (arith, h, least));
    }
      where
        there : (k : ℕ) → IsAhead [] k ⊎ IsUnderOne entries (decl_digests decls) k → IsUnderOne entries (decl_digests decls) k
        there k (inl h) = absurd (Contains-nil h.0 h.1)
        there k (inr h) = h

-- ---- One list

pub sum_next : (final total next first : ℕ) (rest behind : List ℕ) → rest ≡ first ∷ behind → Reaches next (total + first) → Reaches final (next + sum_of behind) → Reaches final (total + sum_of rest)
sum_next final total next first rest behind is one all m small least = elim (cases_lt (total + first) m) [
  | inl less ↦ (let h : total + first ≤ next = one (total + first) (omega (arith, less, small)) (omega arith) in all m small (omega (arith, h, least, e)))
  | inr most ↦ (let h : m ≤ next = one m small most in all m small (omega (arith, h)))
]
  where
    e : sum_of rest ≡ first + sum_of behind
    e = ap sum_of is

pub sum_end : (total : ℕ) (rest : List ℕ) → rest ≡ [] → Reaches total (total + sum_of rest)
sum_end total rest is m small least = let e : sum_of rest ≡ 0 = ap sum_of is in omega (arith, least, e)

few_passes : (passes : Decl → Bool) (decls : List DeclItem) → count_of passes decls ≤ length decls
few_passes passes [] = omega arith
few_passes passes (d ∷ decls) = which (passes d.decl) (few_passes passes decls)
  where
    which : (b : Bool) → count_of passes decls ≤ length decls → cond b 1 0 + count_of passes decls ≤ length (d ∷ decls)
    which true h = omega (arith, h)
    which false h = omega (arith, h)

light_passes : (passes : Decl → Bool) (decls : List DeclItem) (weights : List ℕ) → weight_of passes decls weights ≤ sum_of weights
light_passes passes [] weights = omega arith
light_passes passes (d ∷ decls) [] = omega arith
light_passes passes (d ∷ decls) (w ∷ weights) = which (passes d.decl) (light_passes passes decls weights)
  where
    which : (b : Bool) → weight_of passes decls weights ≤ sum_of weights → cond b w 0 + weight_of passes decls weights ≤ w + sum_of weights
    which true h = omega (arith, h)
    which false h = omega (arith, h)

module _ (passes : Decl → Bool) where
  abbrev NonePasses : List DeclItem → Type 0
  NonePasses decls = (d : DeclItem) → Contains decls d → passes d.decl ≡ true → ⊥

  none_counted : (decls : List DeclItem) → NonePasses decls → count_of passes decls ≡ 0
  none_counted [] none = refl
  none_counted (d ∷ decls) none = which (passes d.decl) refl (none_counted decls (λ e h. none e (Contains-there d decls e h)))
    where
      which : (b : Bool) → passes d.decl ≡ b → count_of passes decls ≡ 0 → cond b 1 0 + count_of passes decls ≡ 0
      which true e rest = absurd (none d (Contains-here d decls) e)
      which false e rest = omega (arith, rest)

  none_weighed : (decls : List DeclItem) (weights : List ℕ) → NonePasses decls → weight_of passes decls weights ≡ 0
  none_weighed [] weights none = refl
  none_weighed (d ∷ decls) [] none = refl
  none_weighed (d ∷ decls) (w ∷ weights) none = which (passes d.decl) refl (none_weighed decls weights (λ e h. none e (Contains-there d decls e h)))
    where
      which : (b : Bool) → passes d.decl ≡ b → weight_of passes decls weights ≡ 0 → cond b w 0 + weight_of passes decls weights ≡ 0
      which true e rest = absurd (none d (Contains-here d decls) e)
      which false e rest = omega (arith, rest)

module _ (entries : List Entry) (decls : List DeclItem) (weights found list : List ℕ) (start : List ℕ) (none : start ≡ []) (puts : PutsUnderOne entries (decl_digests decls) start found) (same : HaveSameMembers list found)
    (ascends : IsStrictlyIncreasing list) (count weight : ℕ) (count_is : count ≡ length decls) (weighs : Reaches weight (sum_of weights)) where
  abbrev one : Reached
  one = record { order_keys = list; common = record { count = count; weight = weight } }

  in_list : (k : ℕ) → Contains list k ↔ IsUnderOne entries (decl_digests decls) k
  in_list k = ((λ h. there ((puts k).0 ((same k).0 h))), λ h. (same k).1 ((puts k).1 (inr h)))
    where
      there : Contains start k ⊎ IsUnderOne entries (decl_digests decls) k → IsUnderOne entries (decl_digests decls) k
      there (inl h) = absurd (Contains-nil k (subst (λ (ks : List ℕ). Contains ks k) none h))
      there (inr h) = h

  none_passes : (k : ℕ) (passes : Decl → Bool) → AreEntered entries k passes → has_number list k ≡ false → NonePasses passes decls
  none_passes k passes entered lacks d inside e =
      let digest : Contains (decl_digests decls) (decl_digest d.decl) = mapped (λ (x : DeclItem). decl_digest x.decl) decls d inside in
      let there : Contains list k = (in_list k).1 (decl_digest d.decl, digest, entered d.decl e) in
      false≢true (sym lacks ∙ (has_is list k).1 there)

  counts : (k : ℕ) (passes : Decl → Bool) → AreEntered entries k passes → (b : Bool) → has_number list k ≡ b → Reaches (cond b count 0 + 0) (count_of passes decls)
  counts k passes entered true e m small least = let h = few_passes passes decls in omega (arith, h, least, count_is)
  counts k passes entered false e m small least = let z = none_counted passes decls (none_passes k passes entered e) in omega (arith, z, least)

  weighs_all : (k : ℕ) (passes : Decl → Bool) → AreEntered entries k passes → (b : Bool) → has_number list k ≡ b → Reaches (cond b weight 0 + 0) (weight_of passes decls weights)
  weighs_all k passes entered true e m small least = let h = light_passes passes decls weights in let w : m ≤ weight = weighs m small (omega (arith, h, least)) in omega (arith, w)
  weighs_all k passes entered false e m small least = let z = none_weighed passes decls weights (none_passes k passes entered e) in omega (arith, z, least)

  pub one_under : (lists : List Reached) → lists ≡ one ∷ [] → AreListsUnder entries decls weights lists
  one_under lists is = subst (AreListsUnder entries decls weights) (sym is) (record {
    under = λ k. ((λ h. there k h.0 h.2 (Contains-cons_cases one [] h.0 h.1)), λ h. (one, Contains-here one [], (in_list k).1 h));
    ascend = λ l h. elim (Contains-cons_cases one [] l h) [ inl e ↦ subst (λ (x : Reached). IsStrictlyIncreasing x.order_keys) e ascends | inr n ↦ absurd (Contains-nil l n) ];
    count = λ k passes entered. counts k passes entered (has_number list k) refl;
    weight = λ k passes entered. weighs_all k passes entered (has_number list k) refl;
  })
    where
      there : (k : ℕ) (l : Reached) → Contains l.order_keys k → (one ≡ l) ⊎ Contains [] l → IsUnderOne entries (decl_digests decls) k
      there k l h (inl e) = (in_list k).0 (subst (λ (x : Reached). Contains x.order_keys k) (sym e) h)
      there k l h (inr n) = absurd (Contains-nil l n)

-- ---- The declarations that another rule has

pub are_entered : (t : TableParts) (rules : List OrderKeyed) (x : OrderKeyed) → Cover t rules → Contains rules x → AreEntered t.decls x.order_key (has_decl x.rule.decls)
are_entered t rules x cover among d has =
    let w : (y : DeclItem) × Contains x.rule.decls y × (y.decl ≡ d) = unmapped (λ (y : DeclItem). y.decl) x.rule.decls d ((has_decl_is x.rule.decls d).0 has) in
    let e : Contains (entries_by_decl x) (entry (decl_digest w.0.decl) x.order_key) = mapped (λ (y : DeclItem). entry (decl_digest y.decl) x.order_key) x.rule.decls w.0 w.1 in
    subst (λ (n : ℕ). Contains t.decls (entry n x.order_key)) (ap decl_digest w.2)
    (cover.decls (entry (decl_digest w.0.decl) x.order_key) (in_flat entries_by_decl rules x (entry (decl_digest w.0.decl) x.order_key) among e))
