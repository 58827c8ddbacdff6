-- What is listed as applied is what applies, in words.
use Rattle.std.proofs.Common.{◌≡◌, ◌⊎◌, ℕ, zero, suc, ◌+◌, Bool, true, List, [], ◌∷◌, ◌++◌, map, Some, None, refl, sym, ap, ap₂, ◌∙◌, subst, inl, inr, arith}
use Rattle.std.specs.Prelude.{slice_get}
use Rattle.std.specs.List.{Contains}
use Rattle.std.proofs.lemmas.Bool.{false≢true}
use Rattle.std.proofs.lemmas.List.Elements.{Contains-append_left, Contains-append_right, Contains-append_cases}
use Rattle.cascade_laws.proofs.MatchingWords.{matches-words, words-match}
use Rattle.list_facts.proofs.Members.{Contains-here, Contains-there, Contains-nil, Contains-cons_cases, Contains-filter, Contains-filtered}
use Rattle.css_model.specs.declared.selector.Specificity.{Specificity}
use Rattle.css_model.specs.declared.sheet.Decl.{Decl}
use Rattle.css_model.specs.declared.sheet.DeclItem.{DeclItem}
use Rattle.css_model.specs.declared.sheet.Item.{Item}
use Rattle.css_model.specs.declared.sheet.Item.TheVariants.{Rule, KeptRule, KeptBlock}
use Rattle.css_model.specs.declared.sheet.SelItem.{SelItem}
use Rattle.css_model.specs.Cascade.Winner.{Declared, Place, AppliedDeclaration, applied_by_decl, applied_by_decls, applied_by_kept, matching_of, applied_from, applied}
use Rattle.css_model.specs.Documents.Document.{Document, Target}
use Rattle.css_model.specs.Sheets.KeptItems.{is_kept, kept_before}
use Rattle.cascade_laws.specs.Winning.{AppliesByRule, AppliesByKept}
use Rattle.css_model.specs.Documents.Matching.{matches}
use Rattle.css_model.specs.Sheets.RuleParts.{RuleParts}
use Rattle.css_model.specs.Documents.SelectorParts.{SelectorParts}
use Rattle.css_model.specs.Documents.Specificity.{specificity_of}
use Rattle.css_model.specs.Sheets.Items.{items}
use Rattle.css_model.specs.Text.Kept.{kept}

-- ---- The selectors of a rule that match

mapped : (ss : List SelItem) (s : SelectorParts) → Contains (map (λ x. x.selector) ss) s → (x : SelItem) × Contains ss x × (x.selector ≡ s)
mapped [] s h = absurd (Contains-nil s h)
mapped (x ∷ ss) s h = cases (Contains-cons_cases x.selector (map (λ y. y.selector) ss) s h) (mapped ss s)
  where
    cases : (x.selector ≡ s) ⊎ Contains (map (λ y. y.selector) ss) s → (Contains (map (λ y. y.selector) ss) s → (y : SelItem) × Contains ss y × (y.selector ≡ s)) → (y : SelItem) × Contains (x ∷ ss) y × (y.selector ≡ s)
    cases (inl e) rest = (x, Contains-here x ss, e)
    cases (inr g) rest = let w : (y : SelItem) × Contains ss y × (y.selector ≡ s) = rest g in (w.0, Contains-there x ss w.0 w.1, w.2)

in_map : (ss : List SelItem) (x : SelItem) → Contains ss x → Contains (map (λ y. y.selector) ss) x.selector
in_map [] x h = absurd (Contains-nil x h)
in_map (y ∷ ss) x h = cases (Contains-cons_cases y ss x h) (in_map ss x)
  where
    cases : (y ≡ x) ⊎ Contains ss x → (Contains ss x → Contains (map (λ z. z.selector) ss) x.selector) → Contains (map (λ z. z.selector) (y ∷ ss)) x.selector
    cases (inl e) rest = subst (λ (z : SelItem). Contains (map (λ w. w.selector) (y ∷ ss)) z.selector) e (Contains-here y.selector (map (λ z. z.selector) ss))
    cases (inr g) rest = Contains-there y.selector (map (λ z. z.selector) ss) x.selector (rest g)

-- ---- What equal values are made of

pub some-same : {A : Type 0} {x y : A} → Some x ≡ Some y → x ≡ y
some-same h = cc

pub rule-same : {r s : RuleParts} → Rule r ≡ Rule s → r ≡ s
rule-same h = cc

-- ---- The entries of one declaration, of a rule's declarations and of a kept item

same_entry : (e : AppliedDeclaration) (d : Decl) (s : Specificity) (p : Place) → e.decl ≡ d → e.specificity ≡ s → e.place ≡ p → record { decl = d; specificity = s; place = p } ≡ e
same_entry e d s p dh sh ph =
    ap (λ (x : Decl). record { decl = x; specificity = s; place = p }) (sym dh)
    ∙ ap₂ (λ (t : Specificity) (q : Place). record { decl = e.decl; specificity = t; place = q }) (sym sh) (sym ph)

same_place : (p : Place) (i k : ℕ) → p.item ≡ i → p.position ≡ k → p ≡ record { item = i; position = k }
same_place p i k ih kh = ap₂ (λ (n m : ℕ). record { item = n; position = m }) ih kh

pub one-words : (matching : List SelectorParts) (p : Place) (d : Decl) (e : AppliedDeclaration) → Contains (applied_by_decl matching p d) e → (s : SelectorParts) × Contains matching s × (e.decl ≡ d) × (e.specificity ≡ specificity_of s) × (e.place ≡ p)
one-words [] p d e h = absurd (Contains-nil e h)
one-words (s ∷ matching) p d e h = cases (Contains-cons_cases (record { decl = d; specificity = specificity_of s; place = p }) (applied_by_decl matching p d) e h) (one-words matching p d e)
  where
    cases : (record { decl = d; specificity = specificity_of s; place = p } ≡ e) ⊎ Contains (applied_by_decl matching p d) e →
        (Contains (applied_by_decl matching p d) e → (t : SelectorParts) × Contains matching t × (e.decl ≡ d) × (e.specificity ≡ specificity_of t) × (e.place ≡ p)) →
        (t : SelectorParts) × Contains (s ∷ matching) t × (e.decl ≡ d) × (e.specificity ≡ specificity_of t) × (e.place ≡ p)
    cases (inl g) rest = (s, Contains-here s matching, ap (λ (x : AppliedDeclaration). x.decl) (sym g), ap (λ (x : AppliedDeclaration). x.specificity) (sym g), ap (λ (x : AppliedDeclaration). x.place) (sym g))
    cases (inr g) rest =
        let w : (t : SelectorParts) × Contains matching t × (e.decl ≡ d) × (e.specificity ≡ specificity_of t) × (e.place ≡ p) = rest g in
        (w.0, Contains-there s matching w.0 w.1, w.2, w.3, w.4)

pub words-one : (matching : List SelectorParts) (p : Place) (d : Decl) (e : AppliedDeclaration) (s : SelectorParts) → Contains matching s → e.decl ≡ d → e.specificity ≡ specificity_of s → e.place ≡ p → Contains (applied_by_decl matching p d) e
words-one [] p d e s h dh sh ph = absurd (Contains-nil s h)
words-one (t ∷ matching) p d e s h dh sh ph = cases (Contains-cons_cases t matching s h) (λ g. words-one matching p d e s g dh sh ph)
  where
    cases : (t ≡ s) ⊎ Contains matching s → (Contains matching s → Contains (applied_by_decl matching p d) e) → Contains (applied_by_decl (t ∷ matching) p d) e
    cases (inl g) rest = subst (λ (x : AppliedDeclaration). Contains (applied_by_decl (t ∷ matching) p d) x)
        (same_entry e d (specificity_of t) p dh (sh ∙ ap specificity_of (sym g)) ph) (Contains-here (record { decl = d; specificity = specificity_of t; place = p }) (applied_by_decl matching p d))
    cases (inr g) rest = Contains-there (record { decl = d; specificity = specificity_of t; place = p }) (applied_by_decl matching p d) e (rest g)

-- an entry of a rule's declarations
abbrev ByDecl : List SelectorParts → ℕ → List DeclItem → ℕ → AppliedDeclaration → Type 0
ByDecl matching item decls k e = (e.place.item ≡ item) × (d : DeclItem) × (slice_get decls k ≡ Some d) × (s : SelectorParts) × Contains matching s × (e.decl ≡ d.decl) × (e.specificity ≡ specificity_of s)

decls-words : (matching : List SelectorParts) (item position : ℕ) (decls : List DeclItem) (e : AppliedDeclaration) → Contains (applied_by_decls matching item position decls) e → (k : ℕ) × (e.place.position ≡ position + k) × ByDecl matching item decls k e
decls-words matching item position [] e h = absurd (Contains-nil e h)
decls-words matching item position (d ∷ decls) e h =
    cases (Contains-append_cases (applied_by_decl matching (record { item = item; position = position }) d.decl) (applied_by_decls matching item (suc position) decls) e h) (decls-words matching item (suc position) decls e)
  where
    cases : Contains (applied_by_decl matching (record { item = item; position = position }) d.decl) e ⊎ Contains (applied_by_decls matching item (suc position) decls) e →
        (Contains (applied_by_decls matching item (suc position) decls) e → (k : ℕ) × (e.place.position ≡ suc position + k) × ByDecl matching item decls k e) →
        (k : ℕ) × (e.place.position ≡ position + k) × ByDecl matching item (d ∷ decls) k e
    cases (inl g) rest =
        let w : (s : SelectorParts) × Contains matching s × (e.decl ≡ d.decl) × (e.specificity ≡ specificity_of s) × (e.place ≡ record { item = item; position = position }) =
        one-words matching (record { item = item; position = position }) d.decl e g in
        let at : e.place.position ≡ position = ap (λ (p : Place). p.position) w.4 in
        (0, omega arith, (ap (λ (p : Place). p.item) w.4, d, refl, w.0, w.1, w.2, w.3))
    cases (inr g) rest =
        let w : (k : ℕ) × (e.place.position ≡ suc position + k) × ByDecl matching item decls k e = rest g in
        (suc w.0, omega arith, w.2)

words-decls : (matching : List SelectorParts) (item position : ℕ) (decls : List DeclItem) (e : AppliedDeclaration) (k : ℕ) → e.place.position ≡ position + k → ByDecl matching item decls k e → Contains (applied_by_decls matching item position decls) e
words-decls matching item position [] e k at w = absurd (let h : None ≡ Some w.1 = w.2 in cc)
words-decls matching item position (d ∷ decls) e zero at w =
    let same : d ≡ w.1 = some-same w.2 in
    Contains-append_left (applied_by_decl matching (record { item = item; position = position }) d.decl) (applied_by_decls matching item (suc position) decls) e
    (words-one matching (record { item = item; position = position }) d.decl e w.3 w.4 (w.5 ∙ ap (λ (x : DeclItem). x.decl) (sym same)) w.6
    (same_place e.place item position w.0 (omega arith)))
words-decls matching item position (d ∷ decls) e (suc k) at w =
    Contains-append_right (applied_by_decl matching (record { item = item; position = position }) d.decl) (applied_by_decls matching item (suc position) decls) e
    (words-decls matching item (suc position) decls e k (omega arith) w)

-- an entry of a kept item
abbrev ByMeaning : ℕ → List Declared → ℕ → AppliedDeclaration → Type 0
ByMeaning item meaning k e = (e.place.item ≡ item) × (x : Declared) × (slice_get meaning k ≡ Some x) × (e.decl ≡ x.decl) × (e.specificity ≡ x.specificity)

kept-words : (item position : ℕ) (meaning : List Declared) (e : AppliedDeclaration) → Contains (applied_by_kept item position meaning) e → (k : ℕ) × (e.place.position ≡ position + k) × ByMeaning item meaning k e
kept-words item position [] e h = absurd (Contains-nil e h)
kept-words item position (m ∷ meaning) e h =
    cases (Contains-cons_cases (record { decl = m.decl; specificity = m.specificity; place = record { item = item; position = position } }) (applied_by_kept item (suc position) meaning) e h) (kept-words item (suc position) meaning e)
  where
    cases : (record { decl = m.decl; specificity = m.specificity; place = record { item = item; position = position } } ≡ e) ⊎ Contains (applied_by_kept item (suc position) meaning) e →
        (Contains (applied_by_kept item (suc position) meaning) e → (k : ℕ) × (e.place.position ≡ suc position + k) × ByMeaning item meaning k e) →
        (k : ℕ) × (e.place.position ≡ position + k) × ByMeaning item (m ∷ meaning) k e
    cases (inl g) rest =
        let at : e.place.position ≡ position = ap (λ (x : AppliedDeclaration). x.place.position) (sym g) in
        (0, omega arith, (ap (λ (x : AppliedDeclaration). x.place.item) (sym g), m, refl, ap (λ (x : AppliedDeclaration). x.decl) (sym g), ap (λ (x : AppliedDeclaration). x.specificity) (sym g)))
    cases (inr g) rest =
        let w : (k : ℕ) × (e.place.position ≡ suc position + k) × ByMeaning item meaning k e = rest g in
        (suc w.0, omega arith, w.2)

words-kept : (item position : ℕ) (meaning : List Declared) (e : AppliedDeclaration) (k : ℕ) → e.place.position ≡ position + k → ByMeaning item meaning k e → Contains (applied_by_kept item position meaning) e
words-kept item position [] e k at w = absurd (let h : None ≡ Some w.1 = w.2 in cc)
words-kept item position (m ∷ meaning) e zero at w =
    let same : m ≡ w.1 = some-same w.2 in
    subst (λ (x : AppliedDeclaration). Contains (applied_by_kept item position (m ∷ meaning)) x)
    (same_entry e m.decl m.specificity (record { item = item; position = position }) (w.3 ∙ ap (λ (x : Declared). x.decl) (sym same)) (w.4 ∙ ap (λ (x : Declared). x.specificity) (sym same))
    (same_place e.place item position w.0 (omega arith)))
    (Contains-here (record { decl = m.decl; specificity = m.specificity; place = record { item = item; position = position } }) (applied_by_kept item (suc position) meaning))
words-kept item position (m ∷ meaning) e (suc k) at w =
    Contains-there (record { decl = m.decl; specificity = m.specificity; place = record { item = item; position = position } }) (applied_by_kept item (suc position) meaning) e
    (words-kept item (suc position) meaning e k (omega arith) w)

-- ---- The items

abbrev RuleAt : (SelectorParts → Bool) → List Item → ℕ → AppliedDeclaration → Type 0
RuleAt matched items i e = (rule : RuleParts) × (slice_get items i ≡ Some (Rule rule)) × (d : DeclItem) × (slice_get rule.decls e.place.position ≡ Some d) × (s : SelectorParts) × Contains (matching_of matched rule) s × (e.decl ≡ d.decl) × (e.specificity ≡ specificity_of s)

abbrev KeptAt : List (List Declared) → List Item → ℕ → AppliedDeclaration → Type 0
KeptAt meanings items i e = (item : Item) × (slice_get items i ≡ Some item) × (is_kept item ≡ true) × (m : List Declared) × (slice_get meanings (kept_before i items) ≡ Some m) × (x : Declared) × (slice_get m e.place.position ≡ Some x) × (e.decl ≡ x.decl) × (e.specificity ≡ x.specificity)

abbrev AtItem : (SelectorParts → Bool) → List (List Declared) → List Item → ℕ → AppliedDeclaration → Type 0
AtItem matched meanings items n e = (i : ℕ) × (e.place.item ≡ n + i) × (RuleAt matched items i e ⊎ KeptAt meanings items i e)

-- an entry of the first item, a rule or a kept one
rule_first : (matched : SelectorParts → Bool) (meanings : List (List Declared)) (rule : RuleParts) (items : List Item) (n : ℕ) (e : AppliedDeclaration) → Contains (applied_by_decls (matching_of matched rule) n 0 rule.decls) e → AtItem matched meanings (Rule rule ∷ items) n e
rule_first matched meanings rule items n e h =
    let w : (k : ℕ) × (e.place.position ≡ 0 + k) × ByDecl (matching_of matched rule) n rule.decls k e = decls-words (matching_of matched rule) n 0 rule.decls e h in
    let k_is : w.0 ≡ e.place.position = omega arith in
    (0, omega arith, inl (rule, refl, w.2.1, subst (λ (k : ℕ). slice_get rule.decls k ≡ Some w.2.1) k_is w.2.2, w.2.3, w.2.4, w.2.5, w.2.6))

kept_first : (matched : SelectorParts → Bool) (m : List Declared) (meanings : List (List Declared)) (item : Item) (items : List Item) (n : ℕ) (e : AppliedDeclaration) → is_kept item ≡ true → Contains (applied_by_kept n 0 m) e → AtItem matched (m ∷ meanings) (item ∷ items) n e
kept_first matched m meanings item items n e kept h =
    let w : (k : ℕ) × (e.place.position ≡ 0 + k) × ByMeaning n m k e = kept-words n 0 m e h in
    let k_is : w.0 ≡ e.place.position = omega arith in
    (0, omega arith, inr (item, refl, kept, m, refl, w.2.1, subst (λ (k : ℕ). slice_get m k ≡ Some w.2.1) k_is w.2.2, w.2.3, w.2.4))

-- an entry of a later item
later_rule : (matched : SelectorParts → Bool) (meanings : List (List Declared)) (rule : RuleParts) (items : List Item) (n : ℕ) (e : AppliedDeclaration) → AtItem matched meanings items (suc n) e → AtItem matched meanings (Rule rule ∷ items) n e
later_rule matched meanings rule items n e w = (suc w.0, omega arith, w.2)

later_kept_rule : (matched : SelectorParts → Bool) (m : List Declared) (meanings : List (List Declared)) (kept : _) (items : List Item) (n : ℕ) (e : AppliedDeclaration) → AtItem matched meanings items (suc n) e → AtItem matched (m ∷ meanings) (KeptRule kept ∷ items) n e
later_kept_rule matched m meanings kept items n e w = (suc w.0, omega arith, w.2)

later_kept_block : (matched : SelectorParts → Bool) (m : List Declared) (meanings : List (List Declared)) (piece : _) (items : List Item) (n : ℕ) (e : AppliedDeclaration) → AtItem matched meanings items (suc n) e → AtItem matched (m ∷ meanings) (KeptBlock piece ∷ items) n e
later_kept_block matched m meanings piece items n e w = (suc w.0, omega arith, w.2)

unlisted : (matched : SelectorParts → Bool) (item : Item) (items : List Item) (n : ℕ) (e : AppliedDeclaration) → AtItem matched [] items (suc n) e → AtItem matched [] (item ∷ items) n e
unlisted matched item items n e (i, at, inl w) = (suc i, omega arith, inl w)
unlisted matched item items n e (i, at, inr w) = absurd (let h : None ≡ Some w.3 = w.4 in cc)

either : {A B C : Type 0} → A ⊎ B → (A → C) → (B → C) → C
either (inl a) f g = f a
either (inr b) f g = g b

items-words : (matched : SelectorParts → Bool) (n : ℕ) (meanings : List (List Declared)) (items : List Item) (e : AppliedDeclaration) → Contains (applied_from matched n meanings items) e → AtItem matched meanings items n e
items-words matched n meanings [] e h = absurd (Contains-nil e h)
items-words matched n meanings (Rule rule ∷ items) e h =
    either (Contains-append_cases (applied_by_decls (matching_of matched rule) n 0 rule.decls) (applied_from matched (suc n) meanings items) e h)
    (rule_first matched meanings rule items n e) (λ g. later_rule matched meanings rule items n e (items-words matched (suc n) meanings items e g))
items-words matched n [] (KeptRule kept ∷ items) e h = unlisted matched (KeptRule kept) items n e (items-words matched (suc n) [] items e h)
items-words matched n (m ∷ meanings) (KeptRule kept ∷ items) e h =
    either (Contains-append_cases (applied_by_kept n 0 m) (applied_from matched (suc n) meanings items) e h)
    (kept_first matched m meanings (KeptRule kept) items n e refl) (λ g. later_kept_rule matched m meanings kept items n e (items-words matched (suc n) meanings items e g))
items-words matched n [] (KeptBlock piece ∷ items) e h = unlisted matched (KeptBlock piece) items n e (items-words matched (suc n) [] items e h)
items-words matched n (m ∷ meanings) (KeptBlock piece ∷ items) e h =
    either (Contains-append_cases (applied_by_kept n 0 m) (applied_from matched (suc n) meanings items) e h)
    (kept_first matched m meanings (KeptBlock piece) items n e refl) (λ g. later_kept_block matched m meanings piece items n e (items-words matched (suc n) meanings items e g))

-- back: a rule at a number
words-rules : (matched : SelectorParts → Bool) (n : ℕ) (meanings : List (List Declared)) (items : List Item) (e : AppliedDeclaration) (i : ℕ) → e.place.item ≡ n + i → RuleAt matched items i e → Contains (applied_from matched n meanings items) e
words-rules matched n meanings [] e i at w = absurd (let h : None ≡ Some (Rule w.0) = w.1 in cc)
words-rules matched n meanings (Rule rule ∷ items) e zero at w =
    let same : rule ≡ w.0 = rule-same (some-same w.1) in
    Contains-append_left (applied_by_decls (matching_of matched rule) n 0 rule.decls) (applied_from matched (suc n) meanings items) e
    (words-decls (matching_of matched rule) n 0 rule.decls e e.place.position (omega arith)
    (subst (λ (r : RuleParts). ByDecl (matching_of matched r) n r.decls e.place.position e) (sym same) (omega arith, w.2, w.3, w.4, w.5, w.6, w.7)))
words-rules matched n meanings (Rule rule ∷ items) e (suc i) at w =
    Contains-append_right (applied_by_decls (matching_of matched rule) n 0 rule.decls) (applied_from matched (suc n) meanings items) e (words-rules matched (suc n) meanings items e i (omega arith) w)
words-rules matched n meanings (KeptRule kept ∷ items) e zero at w = absurd (let h : Some (KeptRule kept) ≡ Some (Rule w.0) = w.1 in cc)
words-rules matched n [] (KeptRule kept ∷ items) e (suc i) at w = words-rules matched (suc n) [] items e i (omega arith) w
words-rules matched n (m ∷ meanings) (KeptRule kept ∷ items) e (suc i) at w =
    Contains-append_right (applied_by_kept n 0 m) (applied_from matched (suc n) meanings items) e (words-rules matched (suc n) meanings items e i (omega arith) w)
words-rules matched n meanings (KeptBlock piece ∷ items) e zero at w = absurd (let h : Some (KeptBlock piece) ≡ Some (Rule w.0) = w.1 in cc)
words-rules matched n [] (KeptBlock piece ∷ items) e (suc i) at w = words-rules matched (suc n) [] items e i (omega arith) w
words-rules matched n (m ∷ meanings) (KeptBlock piece ∷ items) e (suc i) at w =
    Contains-append_right (applied_by_kept n 0 m) (applied_from matched (suc n) meanings items) e (words-rules matched (suc n) meanings items e i (omega arith) w)

-- a kept item at a number
first_meaning : (matched : SelectorParts → Bool) (n : ℕ) (m : List Declared) (rest : List AppliedDeclaration) (e : AppliedDeclaration) → e.place.item ≡ n + 0 → (m' : List Declared) → m ≡ m' → (x : Declared) → slice_get m' e.place.position ≡ Some x → e.decl ≡ x.decl → e.specificity ≡ x.specificity →
    Contains (applied_by_kept n 0 m ++ rest) e
first_meaning matched n m rest e at m' same x found dh sh =
    Contains-append_left (applied_by_kept n 0 m) rest e
    (words-kept n 0 m e e.place.position (omega arith) (omega arith, x, subst (λ (l : List Declared). slice_get l e.place.position ≡ Some x) (sym same) found, dh, sh))

words-kepts : (matched : SelectorParts → Bool) (n : ℕ) (meanings : List (List Declared)) (items : List Item) (e : AppliedDeclaration) (i : ℕ) → e.place.item ≡ n + i → KeptAt meanings items i e → Contains (applied_from matched n meanings items) e
words-kepts matched n meanings [] e i at w = absurd (let h : None ≡ Some w.0 = w.1 in cc)
words-kepts matched n meanings (Rule rule ∷ items) e zero at w = absurd (false≢true (ap is_kept (some-same w.1) ∙ w.2))
words-kepts matched n meanings (Rule rule ∷ items) e (suc i) at w =
    Contains-append_right (applied_by_decls (matching_of matched rule) n 0 rule.decls) (applied_from matched (suc n) meanings items) e (words-kepts matched (suc n) meanings items e i (omega arith) w)
words-kepts matched n [] (KeptRule kept ∷ items) e i at w = absurd (let h : None ≡ Some w.3 = w.4 in cc)
words-kepts matched n (m ∷ meanings) (KeptRule kept ∷ items) e zero at w =
    first_meaning matched n m (applied_from matched (suc n) meanings items) e at w.3 (some-same w.4) w.5 w.6 w.7 w.8
words-kepts matched n (m ∷ meanings) (KeptRule kept ∷ items) e (suc i) at w =
    Contains-append_right (applied_by_kept n 0 m) (applied_from matched (suc n) meanings items) e (words-kepts matched (suc n) meanings items e i (omega arith) w)
words-kepts matched n [] (KeptBlock piece ∷ items) e i at w = absurd (let h : None ≡ Some w.3 = w.4 in cc)
words-kepts matched n (m ∷ meanings) (KeptBlock piece ∷ items) e zero at w =
    first_meaning matched n m (applied_from matched (suc n) meanings items) e at w.3 (some-same w.4) w.5 w.6 w.7 w.8
words-kepts matched n (m ∷ meanings) (KeptBlock piece ∷ items) e (suc i) at w =
    Contains-append_right (applied_by_kept n 0 m) (applied_from matched (suc n) meanings items) e (words-kepts matched (suc n) meanings items e i (omega arith) w)

-- ---- The two halves of the law `AppliedIsWhatApplies`

pub applied-words : (doc : Document) (target : Target) (meanings : List (List Declared)) (items : List Item) (e : AppliedDeclaration) → Contains (applied doc target meanings items) e → AppliesByRule doc target items e ⊎ AppliesByKept meanings items e
applied-words doc target meanings items e h = at (items-words (matches doc target) 0 meanings items e h)
  where
    by_rule : (i : ℕ) → i ≡ e.place.item → RuleAt (matches doc target) items i e → AppliesByRule doc target items e
    by_rule i i_is w =
        let chosen : Contains (map (λ x. x.selector) w.0.selectors) w.4 × (matches doc target w.4 ≡ true) = Contains-filter (matches doc target) (map (λ x. x.selector) w.0.selectors) w.4 w.5 in
        let from : (x : SelItem) × Contains w.0.selectors x × (x.selector ≡ w.4) = mapped w.0.selectors w.4 chosen.0 in
        record {
          rule = w.0;
          decl = w.2;
          selector = from.0;
          rule_at = subst (λ (k : ℕ). slice_get items k ≡ Some (Rule w.0)) i_is w.1;
          decl_at = w.3;
          selector_in = from.1;
          matching = matches-words doc target from.0.selector (ap (matches doc target) from.2 ∙ chosen.1);
          decl_is = w.6;
          specificity_is = w.7 ∙ ap specificity_of (sym from.2);
        }

    by_kept : (i : ℕ) → i ≡ e.place.item → KeptAt meanings items i e → AppliesByKept meanings items e
    by_kept i i_is w = record {
      item = w.0;
      meaning = w.3;
      declared = w.5;
      item_at = subst (λ (k : ℕ). slice_get items k ≡ Some w.0) i_is w.1;
      kept = w.2;
      meaning_at = subst (λ (k : ℕ). slice_get meanings (kept_before k items) ≡ Some w.3) i_is w.4;
      declared_at = w.6;
      decl_is = w.7;
      specificity_is = w.8;
    }

    at : AtItem (matches doc target) meanings items 0 e → AppliesByRule doc target items e ⊎ AppliesByKept meanings items e
    at (i, i_is, inl w) = inl (by_rule i (omega arith) w)
    at (i, i_is, inr w) = inr (by_kept i (omega arith) w)

pub words-applied : (doc : Document) (target : Target) (meanings : List (List Declared)) (items : List Item) (e : AppliedDeclaration) → AppliesByRule doc target items e ⊎ AppliesByKept meanings items e → Contains (applied doc target meanings items) e
words-applied doc target meanings items e (inl w) =
    words-rules (matches doc target) 0 meanings items e e.place.item (omega arith) (
      w.rule,
      w.rule_at,
      w.decl,
      w.decl_at,
      w.selector.selector,
      Contains-filtered (matches doc target) (map (λ x. x.selector) w.rule.selectors) w.selector.selector (in_map w.rule.selectors w.selector w.selector_in) (words-match doc target w.selector.selector w.matching),
      w.decl_is,
      w.specificity_is,
    )
words-applied doc target meanings items e (inr w) =
    words-kepts (matches doc target) 0 meanings items e e.place.item (omega arith)
    (w.item, w.item_at, w.kept, w.meaning, w.meaning_at, w.declared, w.declared_at, w.decl_is, w.specificity_is)
