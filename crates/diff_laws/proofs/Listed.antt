-- What applies is listed by place. So the greatest of what passes a test is the best of it by weight, the last one of equal ones.
use Rattle.std.proofs.Common.{◌≡◌, ◌⊎◌, inl, inr, ℕ, suc, ◌≤◌, ◌<◌, Bool, true, false, List, [], ◌∷◌, ◌++◌, length, Option, Some, None, refl, sym, ap, ◌∙◌, subst, arith}
use Rattle.std.specs.Prelude.{if◌then◌else◌}
use Rattle.std.specs.List.{AllByRecursion, Contains, filter}
use Rattle.std.proofs.lemmas.Bool.Decides.{nat_tests}
use Rattle.std.proofs.lemmas.List.Elements.{All-contains, All-from_recursion}
use Rattle.css_model.specs.declared.sheet.DeclItem.{DeclItem}
use Rattle.css_model.specs.declared.sheet.Decl.{Decl}
use Rattle.css_model.specs.declared.sheet.Item.{Item}
use Rattle.css_model.specs.declared.sheet.Item.TheVariants.{Rule, KeptRule, KeptBlock}
use Rattle.css_model.specs.Cascade.Winner.{AppliedDeclaration, Declared, applied_by_decl, applied_by_decls, applied_by_kept, applied_from, exceeds, greater, greatest, matching_of, outranks}
use Rattle.css_model.specs.Documents.SelectorParts.{SelectorParts}
use Rattle.css_model.specs.Documents.Specificity.{specificity_of}
use Rattle.list_facts.proofs.Members.{Contains-here, Contains-there}

-- ---- Places that do not descend

-- the first is in an earlier item, or not behind the other one in the same item
abbrev pub IsNotPast : AppliedDeclaration → AppliedDeclaration → Type 0
IsNotPast e f = (e.place.item < f.place.item) ⊎ ((e.place.item ≡ f.place.item) × (e.place.position ≤ f.place.position))

abbrev pub Ascends : List AppliedDeclaration → Type 0
Ascends [] = Unit {0}
Ascends (e ∷ es) = AllByRecursion (IsNotPast e) es × Ascends es

-- entries of one item, from a position on, and entries from an item on
abbrev IsFrom : ℕ → ℕ → AppliedDeclaration → Type 0
IsFrom item position e = (e.place.item ≡ item) × (position ≤ e.place.position)

abbrev IsItemFrom : ℕ → AppliedDeclaration → Type 0
IsItemFrom item e = item ≤ e.place.item

all_weaker : (P Q : AppliedDeclaration → Type 0) → ((e : AppliedDeclaration) → P e → Q e) → (es : List AppliedDeclaration) → AllByRecursion P es → AllByRecursion Q es
all_weaker P Q weaker [] all = tt
all_weaker P Q weaker (e ∷ es) all = (weaker e all.0, all_weaker P Q weaker es all.1)

all_append : (P : AppliedDeclaration → Type 0) (es fs : List AppliedDeclaration) → AllByRecursion P es → AllByRecursion P fs → AllByRecursion P (es ++ fs)
all_append P [] fs all more = more
all_append P (e ∷ es) fs all more = (all.0, all_append P es fs all.1 more)

ascend_append : (P Q : AppliedDeclaration → Type 0) → ((e f : AppliedDeclaration) → P e → Q f → IsNotPast e f) → (es fs : List AppliedDeclaration) →
    Ascends es → Ascends fs → AllByRecursion P es → AllByRecursion Q fs → Ascends (es ++ fs)
ascend_append P Q before [] fs up more p q = more
ascend_append P Q before (e ∷ es) fs up more p q =
    (all_append (IsNotPast e) es fs up.0 (all_weaker Q (IsNotPast e) (λ f. before e f p.0) fs q), ascend_append P Q before es fs up.1 more p.1 q)

-- ---- Of one declaration

abbrev IsAt : ℕ → ℕ → AppliedDeclaration → Type 0
IsAt item position e = (e.place.item ≡ item) × (e.place.position ≡ position)

decl_at : (matching : List SelectorParts) (item position : ℕ) (d : Decl) → AllByRecursion (IsAt item position) (applied_by_decl matching (record { item = item; position = position }) d)
decl_at [] item position d = tt
decl_at (s ∷ matching) item position d = ((refl, refl), decl_at matching item position d)

decl_ascends : (matching : List SelectorParts) (item position : ℕ) (d : Decl) → Ascends (applied_by_decl matching (record { item = item; position = position }) d)
decl_ascends [] item position d = tt
decl_ascends (s ∷ matching) item position d =
    let e : AppliedDeclaration = record { decl = d; specificity = specificity_of s; place = record { item = item; position = position } } in
    (all_weaker (IsAt item position) (IsNotPast e) (λ f at. inr (sym at.0, let p = at.1 in omega (arith, p))) (applied_by_decl matching e.place d) (decl_at matching item position d), decl_ascends matching item position d)

-- ---- Of one item

at_from : (item position : ℕ) (e : AppliedDeclaration) → IsAt item position e → IsFrom item position e
at_from item position e at = (at.0, let p = at.1 in omega (arith, p))

from_less : (item position : ℕ) (e : AppliedDeclaration) → IsFrom item (suc position) e → IsFrom item position e
from_less item position e from = (from.0, let p = from.1 in omega (arith, p))

at_before : (item position : ℕ) (e f : AppliedDeclaration) → IsAt item position e → IsFrom item (suc position) f → IsNotPast e f
at_before item position e f at from = inr (at.0 ∙ sym from.0, let p = at.1 in let q = from.1 in omega (arith, p, q))

decls_from : (matching : List SelectorParts) (item position : ℕ) (decls : List DeclItem) → AllByRecursion (IsFrom item position) (applied_by_decls matching item position decls)
decls_from matching item position [] = tt
decls_from matching item position (d ∷ decls) =
    all_append (IsFrom item position) (applied_by_decl matching (record { item = item; position = position }) d.decl) (applied_by_decls matching item (suc position) decls)
    (all_weaker (IsAt item position) (IsFrom item position) (at_from item position) (applied_by_decl matching (record { item = item; position = position }) d.decl) (decl_at matching item position d.decl))
    (all_weaker (IsFrom item (suc position)) (IsFrom item position) (from_less item position) (applied_by_decls matching item (suc position) decls) (decls_from matching item (suc position) decls))

decls_ascend : (matching : List SelectorParts) (item position : ℕ) (decls : List DeclItem) → Ascends (applied_by_decls matching item position decls)
decls_ascend matching item position [] = tt
decls_ascend matching item position (d ∷ decls) =
    ascend_append (IsAt item position) (IsFrom item (suc position)) (at_before item position)
    (applied_by_decl matching (record { item = item; position = position }) d.decl) (applied_by_decls matching item (suc position) decls)
    (decl_ascends matching item position d.decl) (decls_ascend matching item (suc position) decls)
    (decl_at matching item position d.decl) (decls_from matching item (suc position) decls)

kept_from : (item position : ℕ) (m : List Declared) → AllByRecursion (IsFrom item position) (applied_by_kept item position m)
kept_from item position [] = tt
kept_from item position (d ∷ m) =
    ((refl, omega arith), all_weaker (IsFrom item (suc position)) (IsFrom item position) (from_less item position) (applied_by_kept item (suc position) m) (kept_from item (suc position) m))

kept_ascends : (item position : ℕ) (m : List Declared) → Ascends (applied_by_kept item position m)
kept_ascends item position [] = tt
kept_ascends item position (d ∷ m) =
    let e : AppliedDeclaration = record { decl = d.decl; specificity = d.specificity; place = record { item = item; position = position } } in
    (all_weaker (IsFrom item (suc position)) (IsNotPast e) (λ f from. at_before item position e f (refl, refl) from) (applied_by_kept item (suc position) m) (kept_from item (suc position) m), kept_ascends item (suc position) m)

-- ---- Of all items

item_before : (n : ℕ) (e f : AppliedDeclaration) → IsFrom n 0 e → IsItemFrom (suc n) f → IsNotPast e f
item_before n e f from later = inl (let i = from.0 in omega (arith, i, later))

with_item : (n : ℕ) (es fs : List AppliedDeclaration) → AllByRecursion (IsFrom n 0) es → AllByRecursion (IsItemFrom (suc n)) fs → AllByRecursion (IsItemFrom n) (es ++ fs)
with_item n es fs here later =
    all_append (IsItemFrom n) es fs (all_weaker (IsFrom n 0) (IsItemFrom n) (λ e from. let i = from.0 in omega (arith, i)) es here)
    (all_weaker (IsItemFrom (suc n)) (IsItemFrom n) (λ e from. omega (arith, from)) fs later)

behind_item : (n : ℕ) (fs : List AppliedDeclaration) → AllByRecursion (IsItemFrom (suc n)) fs → AllByRecursion (IsItemFrom n) fs
behind_item n fs later = all_weaker (IsItemFrom (suc n)) (IsItemFrom n) (λ e from. omega (arith, from)) fs later

items_from : (matched : SelectorParts → Bool) (n : ℕ) (meanings : List (List Declared)) (items : List Item) → AllByRecursion (IsItemFrom n) (applied_from matched n meanings items)
items_from matched n meanings [] = tt
items_from matched n meanings (Rule r ∷ items) =
    with_item n (applied_by_decls (matching_of matched r) n 0 r.decls) (applied_from matched (suc n) meanings items) (decls_from (matching_of matched r) n 0 r.decls) (items_from matched (suc n) meanings items)
items_from matched n [] (KeptRule k ∷ items) = behind_item n (applied_from matched (suc n) [] items) (items_from matched (suc n) [] items)
items_from matched n (m ∷ meanings) (KeptRule k ∷ items) = with_item n (applied_by_kept n 0 m) (applied_from matched (suc n) meanings items) (kept_from n 0 m) (items_from matched (suc n) meanings items)
items_from matched n [] (KeptBlock piece ∷ items) = behind_item n (applied_from matched (suc n) [] items) (items_from matched (suc n) [] items)
items_from matched n (m ∷ meanings) (KeptBlock piece ∷ items) = with_item n (applied_by_kept n 0 m) (applied_from matched (suc n) meanings items) (kept_from n 0 m) (items_from matched (suc n) meanings items)

pub items_ascend : (matched : SelectorParts → Bool) (n : ℕ) (meanings : List (List Declared)) (items : List Item) → Ascends (applied_from matched n meanings items)
items_ascend matched n meanings [] = tt
items_ascend matched n meanings (Rule r ∷ items) =
    ascend_append (IsFrom n 0) (IsItemFrom (suc n)) (item_before n) (applied_by_decls (matching_of matched r) n 0 r.decls) (applied_from matched (suc n) meanings items)
    (decls_ascend (matching_of matched r) n 0 r.decls) (items_ascend matched (suc n) meanings items) (decls_from (matching_of matched r) n 0 r.decls) (items_from matched (suc n) meanings items)
items_ascend matched n [] (KeptRule k ∷ items) = items_ascend matched (suc n) [] items
items_ascend matched n (m ∷ meanings) (KeptRule k ∷ items) =
    ascend_append (IsFrom n 0) (IsItemFrom (suc n)) (item_before n) (applied_by_kept n 0 m) (applied_from matched (suc n) meanings items)
    (kept_ascends n 0 m) (items_ascend matched (suc n) meanings items) (kept_from n 0 m) (items_from matched (suc n) meanings items)
items_ascend matched n [] (KeptBlock piece ∷ items) = items_ascend matched (suc n) [] items
items_ascend matched n (m ∷ meanings) (KeptBlock piece ∷ items) =
    ascend_append (IsFrom n 0) (IsItemFrom (suc n)) (item_before n) (applied_by_kept n 0 m) (applied_from matched (suc n) meanings items)
    (kept_ascends n 0 m) (items_ascend matched (suc n) meanings items) (kept_from n 0 m) (items_from matched (suc n) meanings items)

-- ---- The greatest

filter_all : (P : AppliedDeclaration → Type 0) (p : AppliedDeclaration → Bool) (es : List AppliedDeclaration) → AllByRecursion P es → AllByRecursion P (filter p es)
filter_all P p [] all = tt
filter_all P p (e ∷ es) all = which (p e) (filter_all P p es all.1)
  where
    which : (b : Bool) → AllByRecursion P (filter p es) → AllByRecursion P (if b then e ∷ filter p es else filter p es)
    which true rest = (all.0, rest)
    which false rest = rest

pub filter_ascends : (p : AppliedDeclaration → Bool) (es : List AppliedDeclaration) → Ascends es → Ascends (filter p es)
filter_ascends p [] up = tt
filter_ascends p (e ∷ es) up = which (p e) (filter_ascends p es up.1)
  where
    which : (b : Bool) → Ascends (filter p es) → Ascends (if b then e ∷ filter p es else filter p es)
    which true rest = (filter_all (IsNotPast e) p es up.0, rest)
    which false rest = rest

-- what decides before places do
abbrev pub numbers : AppliedDeclaration → List ℕ
numbers e = (if e.decl.important then 1 else 0) ∷ e.specificity.a ∷ e.specificity.b ∷ e.specificity.c ∷ []

exceeds_front : (xs ys ps qs : List ℕ) → length xs ≡ length ys → exceeds ps qs ≡ false → exceeds (xs ++ ps) (ys ++ qs) ≡ exceeds xs ys
exceeds_front [] [] ps qs l h = h
exceeds_front [] (y ∷ ys) ps qs l h = absurd (omega arith)
exceeds_front (x ∷ xs) [] ps qs l h = absurd (omega arith)
exceeds_front (x ∷ xs) (y ∷ ys) ps qs l h = let ih : exceeds (xs ++ ps) (ys ++ qs) ≡ exceeds xs ys = exceeds_front xs ys ps qs (omega arith) h in rw ih

place_below : (i j p q : ℕ) → (i < j) ⊎ ((i ≡ j) × (p ≤ q)) → exceeds (i ∷ p ∷ []) (j ∷ q ∷ []) ≡ false
place_below i j p q h = grind (arith, nat_tests)

pub outranks_by_numbers : (e f : AppliedDeclaration) → IsNotPast e f → outranks e f ≡ exceeds (numbers e) (numbers f)
outranks_by_numbers e f h =
    exceeds_front (numbers e) (numbers f) (e.place.item ∷ e.place.position ∷ []) (f.place.item ∷ f.place.position ∷ []) refl (place_below e.place.item f.place.item e.place.position f.place.position h)

greatest_among : (es : List AppliedDeclaration) (f : AppliedDeclaration) → greatest es ≡ Some f → Contains es f
greatest_among [] f is = absurd (let e : None ≡ Some f = is in cc)
greatest_among (e ∷ es) f is = which (greatest es) refl is (λ g. greatest_among es f g)
  where
    which : (o : Option AppliedDeclaration) → greatest es ≡ o → greater e o ≡ Some f → (greatest es ≡ Some f → Contains es f) → Contains (e ∷ es) f
    which None none is rest = subst (λ (g : AppliedDeclaration). Contains (e ∷ es) g) (let same : e ≡ f = (let h : Some e ≡ Some f = is in cc) in same) (Contains-here e es)
    which (Some g) some is rest = sided (outranks e g) is
      where
        sided : (b : Bool) → (if b then Some e else Some g) ≡ Some f → Contains (e ∷ es) f
        sided true is = subst (λ (x : AppliedDeclaration). Contains (e ∷ es) x) (let same : e ≡ f = (let h : Some e ≡ Some f = is in cc) in same) (Contains-here e es)
        sided false is = Contains-there e es f (rest (some ∙ is))

-- of what is listed by place the greatest is decided by these numbers, the later of equal ones
pub greater_is : (e : AppliedDeclaration) (es : List AppliedDeclaration) (f : AppliedDeclaration) → AllByRecursion (IsNotPast e) es → greatest es ≡ Some f →
    greater e (Some f) ≡ (if exceeds (numbers e) (numbers f) then Some e else Some f)
greater_is e es f before is =
    ap (λ (b : Bool). if b then Some e else Some f) (outranks_by_numbers e f (All-contains (IsNotPast e) es f (All-from_recursion (IsNotPast e) es before) (greatest_among es f is)))
