-- Which order keys are found for a rule.
use Rattle.std.proofs.Common.{◌≡◌, ◌↔◌, ◌⊎◌, inl, inr, ℕ, List, [], ◌∷◌, map, sym, ap, subst, ◌∙◌}
use Rattle.std.specs.List.{Contains, flat_map}
use Rattle.css_model.specs.declared.sheet.Decl.{Decl}
use Rattle.css_model.specs.Documents.SelectorParts.{SelectorParts}
use Rattle.css_model.specs.declared.sheet.DeclItem.{DeclItem}
use Rattle.css_model.specs.declared.sheet.SelItem.{SelItem}
use Rattle.css_model.specs.Sheets.RuleParts.{RuleParts}
use Rattle.css_model.specs.Sheets.StyleRule.{HaveSameSelectors, selectors_of}
use Rattle.list_facts.proofs.Members.{Contains-cons_cases, Contains-here, Contains-nil, Contains-there}
use Rattle.rule_tables.specs.declared.entries.Entry.{Entry}
use Rattle.rule_tables.specs.Digests.{selector_digest, decl_digest}
use Rattle.rule_tables.specs.Entries.{HaveSameMembers, Puts, PutsUnder, entry}
use Rattle.rule_tables.specs.Tables.{CanBePartners, Cover, IsUnderEach, IsUnderOne, IsUnderPart, OrderKeyed, PutsShared, PutsUnderOne, TableParts, decl_digests, entries_by_selector, selector_digests}
use Rattle.rule_tables.specs.Tables.{by_selectors, by_decl}
use Rattle.step_laws.specs.Steps.{decls_of}
use Rattle.rule_tables.proofs.EntrySets.{mapped, unmapped}
use Rattle.rule_tables.proofs.Standing.{in_flat}

-- ---- By one selector, and by declarations

-- these order keys stand under the digest
abbrev pub IsUnder : List Entry → ℕ → List ℕ → Type 0
IsUnder entries digest order_keys = (order_key : ℕ) → Contains order_keys order_key ↔ Contains entries (entry digest order_key)

-- these order keys stand under the digest of one of the selectors
abbrev pub IsOfOne : List Entry → List SelItem → List ℕ → Type 0
IsOfOne entries selectors order_keys = (s : SelItem) × Contains selectors s × IsUnder entries (selector_digest s.selector) order_keys

pub is_under_as : (entries : List Entry) (order_keys : List ℕ) {digest other : ℕ} → digest ≡ other → IsUnder entries digest order_keys → IsUnder entries other order_keys
is_under_as entries order_keys same under = subst (λ (n : ℕ). IsUnder entries n order_keys) same under

pub either : {X : Type 0} (P : X → Type 0) (a b c : X) → (c ≡ a) ⊎ (c ≡ b) → P a → P b → P c
either P a b c (inl e) p q = subst P (sym e) p
either P a b c (inr e) p q = subst P (sym e) q

pub only_own : (order_keys : List ℕ) (own : ℕ) → (order_keys ≡ []) ⊎ (order_keys ≡ own ∷ []) → (order_key : ℕ) → Contains order_keys order_key → order_key ≡ own
only_own order_keys own (inl e) order_key h = absurd (Contains-nil order_key (subst (λ (ls : List ℕ). Contains ls order_key) e h))
only_own order_keys own (inr e) order_key h = elim (Contains-cons_cases own [] order_key (subst (λ (ls : List ℕ). Contains ls order_key) e h)) [ inl same ↦ sym same | inr n ↦ absurd (Contains-nil order_key n) ]

pub shared_by_one : (entries : List Entry) (selectors : List SelItem) (order_keys : List ℕ) → IsOfOne entries selectors order_keys → PutsShared entries (selector_digests selectors) [] order_keys
shared_by_one entries selectors order_keys (s, among, under) =
    let digest : Contains (selector_digests selectors) (selector_digest s.selector) = mapped (λ (x : SelItem). selector_digest x.selector) selectors s among in
    record {
      keeps = λ order_key h. absurd (Contains-nil order_key h);
      shared = λ order_key h. (under order_key).1 (h.1 (selector_digest s.selector) digest);
      only = λ order_key h. inr (selector_digest s.selector, digest, (under order_key).0 h);
    }

-- behind others
pub shared_behind : (entries : List Entry) (digests old order_keys new : List ℕ) → PutsShared entries digests [] order_keys → Puts old order_keys new → PutsShared entries digests old new
shared_behind entries digests old order_keys new shared puts = record {
  keeps = λ order_key h. (puts order_key).1 (inl h);
  shared = λ order_key h. (puts order_key).1 (inr (shared.shared order_key h));
  only = λ order_key h. elim ((puts order_key).0 h) [ inl k ↦ inl k | inr k ↦ elim (shared.only order_key k) [ inl n ↦ absurd (Contains-nil order_key n) | inr m ↦ inr m ] ];
}

pub under_behind : (entries : List Entry) (digest : ℕ) (old order_keys new : List ℕ) → IsUnder entries digest order_keys → Puts old order_keys new → PutsUnder entries digest old new
under_behind entries digest old order_keys new under puts order_key = (λ h. there ((puts order_key).0 h), λ h. (puts order_key).1 (back h))
  where
    there : Contains old order_key ⊎ Contains order_keys order_key → Contains old order_key ⊎ Contains entries (entry digest order_key)
    there (inl h) = inl h
    there (inr h) = inr ((under order_key).0 h)

    back : Contains old order_key ⊎ Contains entries (entry digest order_key) → Contains old order_key ⊎ Contains order_keys order_key
    back (inl h) = inl h
    back (inr h) = inr ((under order_key).1 h)

one_step : (entries : List Entry) (digest : ℕ) (digests : List ℕ) (a b c : List ℕ) → PutsUnder entries digest a b → PutsUnderOne entries digests b c → PutsUnderOne entries (digest ∷ digests) a c
one_step entries digest digests a b c f g order_key = (λ h. there ((g order_key).0 h), λ h. (g order_key).1 (back h))
  where
    there : Contains b order_key ⊎ IsUnderOne entries digests order_key → Contains a order_key ⊎ IsUnderOne entries (digest ∷ digests) order_key
    there (inl h) = elim ((f order_key).0 h) [ inl k ↦ inl k | inr k ↦ inr (digest, Contains-here digest digests, k) ]
    there (inr h) = inr (h.0, Contains-there digest digests h.0 h.1, h.2)

    back : Contains a order_key ⊎ IsUnderOne entries (digest ∷ digests) order_key → Contains b order_key ⊎ IsUnderOne entries digests order_key
    back (inl h) = inl ((f order_key).1 (inl h))
    back (inr h) = elim (Contains-cons_cases digest digests h.0 h.1) [
      | inl e ↦ inl ((f order_key).1 (inr (subst (λ (d : ℕ). Contains entries (entry d order_key)) (sym e) h.2)))
      | inr r ↦ inr (h.0, r, h.2)
    ]

pub digests_step : (entries : List Entry) (rest behind : List ℕ) (first : ℕ) → rest ≡ first ∷ behind → (a b c : List ℕ) → PutsUnder entries first a b →
    PutsUnderOne entries behind b c → PutsUnderOne entries rest a c
digests_step entries rest behind first is a b c f g = subst (λ (ds : List ℕ). PutsUnderOne entries ds a c) (sym is) (one_step entries first behind a b c f g)

none_under : (entries : List Entry) (a : List ℕ) → PutsUnderOne entries [] a a
none_under entries a order_key = (λ h. inl h, back)
  where
    back : Contains a order_key ⊎ IsUnderOne entries [] order_key → Contains a order_key
    back (inl h) = h
    back (inr h) = absurd (Contains-nil h.0 h.1)

pub digests_end : (entries : List Entry) (rest : List ℕ) → rest ≡ [] → (a : List ℕ) → PutsUnderOne entries rest a a
digests_end entries rest is a = subst (λ (ds : List ℕ). PutsUnderOne entries ds a a) (sym is) (none_under entries a)

-- of the digests of parts, the first one is done with
module _ {S : Type 0} (digest : S → ℕ) (entries : List Entry) (P : ℕ → Type 0) where
  pub digest_done : (rest behind : List S) (first : S) → rest ≡ first ∷ behind → ((order_key : ℕ) → Contains entries (entry (digest first) order_key) → P order_key) →
      (order_key : ℕ) → IsUnderOne entries (map digest rest) order_key → P order_key ⊎ IsUnderOne entries (map digest behind) order_key
  digest_done rest behind first is done order_key h = by (subst (λ (xs : List S). IsUnderOne entries (map digest xs) order_key) is h)
    where
      by : IsUnderOne entries (digest first ∷ map digest behind) order_key → P order_key ⊎ IsUnderOne entries (map digest behind) order_key
      by (d, among, there) = elim (Contains-cons_cases (digest first) (map digest behind) d among) [
        | inl e ↦ inl (done order_key (subst (λ (n : ℕ). Contains entries (entry n order_key)) (sym e) there))
        | inr r ↦ inr (d, r, there)
      ]

  pub all_done : (rest : List S) → rest ≡ [] → (order_key : ℕ) → P order_key ⊎ IsUnderOne entries (map digest rest) order_key → P order_key
  all_done rest is order_key (inl p) = p
  all_done rest is order_key (inr h) = absurd (Contains-nil h.0 (subst (λ (xs : List S). Contains (map digest xs) h.0) is h.1))

pub under_all_alike : {S : Type 0} (digest : S → ℕ) (entries : List Entry) (parts behind : List S) (first : S) → parts ≡ first ∷ behind → (order_keys : List ℕ) → IsUnder entries (digest first) order_keys →
    ((order_key : ℕ) → IsUnderOne entries (map digest behind) order_key → Contains order_keys order_key) → PutsUnderOne entries (map digest parts) [] order_keys
under_all_alike {S} digest entries parts behind first is order_keys under alike order_key = (
  λ h. inr (subst (λ (xs : List S). IsUnderOne entries (map digest xs) order_key) (sym is) (digest first, Contains-here (digest first) (map digest behind), (under order_key).0 h)),
  back,
)
  where
    back : Contains [] order_key ⊎ IsUnderOne entries (map digest parts) order_key → Contains order_keys order_key
    back (inl h) = absurd (Contains-nil order_key h)
    back (inr h) = elim (digest_done digest entries (Contains order_keys) parts behind first is (λ m k. (under m).1 k) order_key h) [ inl k ↦ k | inr k ↦ alike order_key k ]

-- the same digests in another order, or more than once
pub under_the_same : (entries : List Entry) (once digests : List ℕ) → HaveSameMembers once digests → (a b : List ℕ) → PutsUnderOne entries once a b → PutsUnderOne entries digests a b
under_the_same entries once digests same a b puts order_key = (λ h. there ((puts order_key).0 h), λ h. (puts order_key).1 (back h))
  where
    there : Contains a order_key ⊎ IsUnderOne entries once order_key → Contains a order_key ⊎ IsUnderOne entries digests order_key
    there (inl h) = inl h
    there (inr h) = inr (h.0, (same h.0).0 h.1, h.2)

    back : Contains a order_key ⊎ IsUnderOne entries digests order_key → Contains a order_key ⊎ IsUnderOne entries once order_key
    back (inl h) = inl h
    back (inr h) = inr (h.0, (same h.0).1 h.1, h.2)

pub under_in_order : (entries : List Entry) (digests old found list : List ℕ) → old ≡ [] → PutsUnderOne entries digests old found → HaveSameMembers list found → PutsUnderOne entries digests [] list
under_in_order entries digests old found list none puts same order_key = (
  λ h. subst (λ (ls : List ℕ). Contains ls order_key ⊎ IsUnderOne entries digests order_key) none ((puts order_key).0 ((same order_key).0 h)),
  λ h. (same order_key).1 ((puts order_key).1 (subst (λ (ls : List ℕ). Contains ls order_key ⊎ IsUnderOne entries digests order_key) (sym none) h)),
)

-- ---- All partners are found, and no order key that stands under no digest of a part

by_each : (t : TableParts) (rules : List OrderKeyed) (r : RuleParts) (x : OrderKeyed) → Cover t rules → Contains rules x → HaveSameSelectors r x.rule →
    (digest : ℕ) → Contains (selector_digests r.selectors) digest → Contains t.selectors (entry digest x.order_key)
by_each t rules r x stand in_list same digest h =
    let i : (s : SelItem) × Contains r.selectors s × (selector_digest s.selector ≡ digest) = unmapped (λ (s : SelItem). selector_digest s.selector) r.selectors digest h in
    let there : Contains (selectors_of x.rule) i.0.selector = (same i.0.selector).0 (mapped (λ (s : SelItem). s.selector) r.selectors i.0 i.1) in
    let j : (s : SelItem) × Contains x.rule.selectors s × (s.selector ≡ i.0.selector) = unmapped (λ (s : SelItem). s.selector) x.rule.selectors i.0.selector there in
    let e : Contains (entries_by_selector x) (entry (selector_digest j.0.selector) x.order_key) = mapped (λ (s : SelItem). entry (selector_digest s.selector) x.order_key) x.rule.selectors j.0 j.1 in
    subst (λ (d : ℕ). Contains t.selectors (entry d x.order_key)) (ap selector_digest j.2 ∙ i.2)
    (stand.selectors (entry (selector_digest j.0.selector) x.order_key) (in_flat entries_by_selector rules x (entry (selector_digest j.0.selector) x.order_key) in_list e))

under_each : (t : TableParts) (rules : List OrderKeyed) (r : RuleParts) (x : OrderKeyed) → Cover t rules → Contains rules x → (s : SelectorParts) → Contains (selectors_of r) s → HaveSameSelectors r x.rule →
    IsUnderEach t.selectors (selector_digests r.selectors) x.order_key
under_each t rules r x cover among s has same =
    let i : (y : SelItem) × Contains r.selectors y × (y.selector ≡ s) = unmapped (λ (y : SelItem). y.selector) r.selectors s has in
    ((selector_digest i.0.selector, mapped (λ (y : SelItem). selector_digest y.selector) r.selectors i.0 i.1), by_each t rules r x cover among same)

-- the digest of a part of both rules
module _ {S X : Type 0} (part : S → X) (digest : X → ℕ) (parts : RuleParts → List S) (keys : List Entry) (rules : List OrderKeyed)
    (covers : (e : Entry) → Contains (flat_map (λ (x : OrderKeyed). map (λ (y : S). entry (digest (part y)) x.order_key) (parts x.rule)) rules) e → Contains keys e) where
  under_part : (r : RuleParts) (x : OrderKeyed) → Contains rules x → (p : X) → Contains (map part (parts r)) p → Contains (map part (parts x.rule)) p →
      IsUnderOne keys (map (λ (y : S). digest (part y)) (parts r)) x.order_key
  under_part r x among p in_rule in_other =
      let i : (y : S) × Contains (parts r) y × (part y ≡ p) = unmapped part (parts r) p in_rule in
      let j : (y : S) × Contains (parts x.rule) y × (part y ≡ p) = unmapped part (parts x.rule) p in_other in
      let e : Contains (map (λ (y : S). entry (digest (part y)) x.order_key) (parts x.rule)) (entry (digest (part j.0)) x.order_key) = mapped (λ (y : S). entry (digest (part y)) x.order_key) (parts x.rule) j.0 j.1 in
      let k : Contains keys (entry (digest (part j.0)) x.order_key) =
      covers (entry (digest (part j.0)) x.order_key) (in_flat (λ (z : OrderKeyed). map (λ (y : S). entry (digest (part y)) z.order_key) (parts z.rule)) rules x (entry (digest (part j.0)) x.order_key) among e) in
      (digest (part i.0), mapped (λ (y : S). digest (part y)) (parts r) i.0 i.1, subst (λ (n : ℕ). Contains keys (entry n x.order_key)) (ap digest (j.2 ∙ sym i.2)) k)

under_decl_of : (t : TableParts) (rules : List OrderKeyed) (r : RuleParts) (x : OrderKeyed) → Cover t rules → Contains rules x → (d : Decl) → Contains (decls_of r) d → Contains (decls_of x.rule) d →
    IsUnderOne t.decls (decl_digests r.decls) x.order_key
under_decl_of t rules r x cover among d in_rule in_other = under_part (λ (y : DeclItem). y.decl) decl_digest (λ q. q.decls) t.decls rules cover.decls r x among d in_rule in_other

under_selector_of : (t : TableParts) (rules : List OrderKeyed) (r : RuleParts) (x : OrderKeyed) → Cover t rules → Contains rules x → (s : SelectorParts) → Contains (selectors_of r) s → Contains (selectors_of x.rule) s →
    IsUnderOne t.selectors (selector_digests r.selectors) x.order_key
under_selector_of t rules r x cover among s in_rule in_other = under_part (λ (y : SelItem). y.selector) selector_digest (λ q. q.selectors) t.selectors rules cover.selectors r x among s in_rule in_other

partners_found : (t : TableParts) (r : RuleParts) (none some found : List ℕ) → PutsShared t.selectors (selector_digests r.selectors) none some → PutsUnderOne t.decls (decl_digests r.decls) some found →
    (rules : List OrderKeyed) (x : OrderKeyed) → Cover t rules → Contains rules x → CanBePartners r x.rule → Contains found x.order_key
partners_found t r none some found shared under rules x cover among (by_selectors s has same) = (under x.order_key).1 (inl (shared.shared x.order_key (under_each t rules r x cover among s has same)))
partners_found t r none some found shared under rules x cover among (by_decl d has_r has_x) = (under x.order_key).1 (inr (under_decl_of t rules r x cover among d has_r has_x))

pub only_such : (t : TableParts) (r : RuleParts) (none some found : List ℕ) → none ≡ [] → PutsShared t.selectors (selector_digests r.selectors) none some → PutsUnderOne t.decls (decl_digests r.decls) some found →
    (order_key : ℕ) → Contains found order_key → IsUnderPart t r order_key
only_such t r none some found empty shared under order_key h = by ((under order_key).0 h)
  where
    by : Contains some order_key ⊎ IsUnderOne t.decls (decl_digests r.decls) order_key → IsUnderPart t r order_key
    by (inl k) = elim (shared.only order_key k) [ inl m ↦ absurd (Contains-nil order_key (subst (λ (ls : List ℕ). Contains ls order_key) empty m)) | inr m ↦ inl m ]
    by (inr k) = inr k

-- ---- As the code has the parts

module _ (t : TableParts) (r : RuleParts) (a b : List Entry) (ss : List SelItem) (ds : List DeclItem)
    (is_a : a ≡ t.selectors) (is_b : b ≡ t.decls) (is_ss : ss ≡ r.selectors) (is_ds : ds ≡ r.decls) (none some found list : List ℕ) (same : HaveSameMembers list found) where
  shared_there : PutsShared a (selector_digests ss) none some → PutsShared t.selectors (selector_digests r.selectors) none some
  shared_there h = subst (λ (o : List Entry). PutsShared o (selector_digests r.selectors) none some) is_a (subst (λ (zs : List SelItem). PutsShared a (selector_digests zs) none some) is_ss h)

  under_there : PutsUnderOne b (decl_digests ds) some found → PutsUnderOne t.decls (decl_digests r.decls) some found
  under_there h = subst (λ (o : List Entry). PutsUnderOne o (decl_digests r.decls) some found) is_b (subst (λ (zs : List DeclItem). PutsUnderOne b (decl_digests zs) some found) is_ds h)

  pub all_listed : PutsShared a (selector_digests ss) none some → PutsUnderOne b (decl_digests ds) some found →
      (rules : List OrderKeyed) (x : OrderKeyed) → Cover t rules → Contains rules x → CanBePartners r x.rule → Contains list x.order_key
  all_listed shared under rules x stand in_list can =
      (same x.order_key).1 (partners_found t r none some found (shared_there shared) (under_there under) rules x stand in_list can)

  pub only_listed : none ≡ [] → PutsShared a (selector_digests ss) none some → PutsUnderOne b (decl_digests ds) some found → (order_key : ℕ) → Contains list order_key → IsUnderPart t r order_key
  only_listed empty shared under order_key h = only_such t r none some found empty (shared_there shared) (under_there under) order_key ((same order_key).0 h)

module _ (t : TableParts) (r : RuleParts) (a : List Entry) (ss : List SelItem) (is_a : a ≡ t.selectors) (is_ss : ss ≡ r.selectors) (rules : List OrderKeyed) (x : OrderKeyed) (cover : Cover t rules) (among : Contains rules x) where
  pub selectors_in_code : (s : SelectorParts) → Contains (selectors_of r) s → HaveSameSelectors r x.rule → IsUnderEach a (selector_digests ss) x.order_key
  selectors_in_code s has same =
      subst (λ (es : List Entry). IsUnderEach es (selector_digests ss) x.order_key) (sym is_a)
      (subst (λ (zs : List SelItem). IsUnderEach t.selectors (selector_digests zs) x.order_key) (sym is_ss) (under_each t rules r x cover among s has same))

  pub selector_in_code : (s : SelectorParts) → Contains (selectors_of r) s → Contains (selectors_of x.rule) s → IsUnderOne a (selector_digests ss) x.order_key
  selector_in_code s in_rule in_other =
      subst (λ (es : List Entry). IsUnderOne es (selector_digests ss) x.order_key) (sym is_a)
      (subst (λ (zs : List SelItem). IsUnderOne t.selectors (selector_digests zs) x.order_key) (sym is_ss) (under_selector_of t rules r x cover among s in_rule in_other))

pub decl_in_code : (t : TableParts) (r : RuleParts) (a : List Entry) (ds : List DeclItem) → a ≡ t.decls → ds ≡ r.decls → (rules : List OrderKeyed) (x : OrderKeyed) → Cover t rules → Contains rules x →
    (d : Decl) → Contains (decls_of r) d → Contains (decls_of x.rule) d → IsUnderOne a (decl_digests ds) x.order_key
decl_in_code t r a ds is_a is_ds rules x cover among d in_rule in_other =
    subst (λ (es : List Entry). IsUnderOne es (decl_digests ds) x.order_key) (sym is_a)
    (subst (λ (zs : List DeclItem). IsUnderOne t.decls (decl_digests zs) x.order_key) (sym is_ds) (under_decl_of t rules r x cover among d in_rule in_other))

-- what stands under a digest of the parts that the code has stands under one of the rule's
pub of_selectors : (t : TableParts) (r : RuleParts) (a : List Entry) (ss : List SelItem) → a ≡ t.selectors → ss ≡ r.selectors → (order_key : ℕ) → Contains [] order_key ⊎ IsUnderOne a (selector_digests ss) order_key →
    IsUnderOne t.selectors (selector_digests r.selectors) order_key
of_selectors t r a ss is_a is_ss order_key (inl h) = absurd (Contains-nil order_key h)
of_selectors t r a ss is_a is_ss order_key (inr h) =
    subst (λ (es : List Entry). IsUnderOne es (selector_digests r.selectors) order_key) is_a (subst (λ (zs : List SelItem). IsUnderOne a (selector_digests zs) order_key) is_ss h)

pub of_decls : (t : TableParts) (r : RuleParts) (a : List Entry) (ds : List DeclItem) → a ≡ t.decls → ds ≡ r.decls → (order_key : ℕ) → Contains [] order_key ⊎ IsUnderOne a (decl_digests ds) order_key →
    IsUnderOne t.decls (decl_digests r.decls) order_key
of_decls t r a ds is_a is_ds order_key (inl h) = absurd (Contains-nil order_key h)
of_decls t r a ds is_a is_ds order_key (inr h) = subst (λ (es : List Entry). IsUnderOne es (decl_digests r.decls) order_key) is_a (subst (λ (zs : List DeclItem). IsUnderOne a (decl_digests zs) order_key) is_ds h)
