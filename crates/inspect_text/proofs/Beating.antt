-- Which entries one is beaten by, by what those before it set.
use Rattle.std.proofs.Common.{◌≡◌, ◌<◌, ℕ, zero, suc, Bool, true, false, cond, List, [], ◌∷◌, ◌++◌, length, get_or, take, Option, None, refl, sym, ap, ap₂, subst, ◌∙◌, arith}
use Rattle.std.specs.Prelude.{◌&&◌, ◌||◌}
use Rattle.std.specs.List.{AllByRecursion, list_any}
use Rattle.std.proofs.lemmas.List.Elements.{All-from_recursion, All-get_or}
use Rattle.std.proofs.lemmas.List.Folds.{list_any-append}
use Rattle.std.proofs.lemmas.List.Sorted.{list_any-IsPermutation}
use Rattle.css_model.specs.Lists.{same_text}
use Rattle.inspect_laws.specs.Entries.{Entry}
use Rattle.inspect_laws.specs.Groups.{is_all}
use Rattle.inspect_laws.specs.Order.{AreOrdered, outranks}
use Rattle.inspect_laws.specs.Words.{applies_with, has_lost, same_head, sets_of}
use Rattle.inspect_laws.proofs.ForCallers.{Descends, not_itself}
use Rattle.inspect_text.proofs.Descending.{one_way}
use Rattle.inspect_text.specs.Claims.{AreClaims, ClaimParts, claim_of, is_beaten, is_claimed, is_overridden, is_set_with, same_claim}

-- ---- Claims

pub no_claims : (keys : List ClaimParts) → keys ≡ [] → AreClaims [] keys
no_claims keys none claim = ap (list_any (same_claim claim)) none

or_false : (b c : Bool) → cond b true c ≡ (c || (b || false))
or_false true true = refl
or_false true false = refl
or_false false true = refl
or_false false false = refl

pub claims_with : (before : List Entry) (old new : List ClaimParts) (e : Entry) → AreClaims before old →
    ((q : ClaimParts) → list_any (same_claim q) new ≡ cond (same_claim (claim_of e) q) true (list_any (same_claim q) old)) → AreClaims (before ++ e ∷ []) new
claims_with before old new e are updates claim =
    updates claim
    ∙ ap (cond (same_claim (claim_of e) claim) true) (are claim)
    ∙ or_false (same_claim (claim_of e) claim) (is_claimed before claim)
    ∙ sym (list_any-append (λ f. same_claim (claim_of f) claim) before (e ∷ []))

-- ---- What is claimed

either : {X : Type 0} (p q : X → Bool) (xs : List X) → (list_any p xs || list_any q xs) ≡ list_any (λ x. p x || q x) xs
either p q [] = refl
either p q (x ∷ xs) = four (p x) (q x) (list_any p xs) (list_any q xs) ∙ ap (λ (b : Bool). (p x || q x) || b) (either p q xs)
  where
    four : (a b c d : Bool) → ((a || c) || (b || d)) ≡ ((a || b) || (c || d))
    four true b c d = refl
    four false true c d = which c
      where
        which : (c : Bool) → (c || true) ≡ true
        which true = refl
        which false = refl
    four false false c d = refl

alike : {X : Type 0} (p q : X → Bool) → ((x : X) → p x ≡ q x) → (xs : List X) → list_any p xs ≡ list_any q xs
alike p q same [] = refl
alike p q same (x ∷ xs) = ap₂ (λ (a b : Bool). a || b) (same x) (alike p q same xs)

both_heads : (a b c : Bool) → ((a && b) || (a && c)) ≡ (a && (b || c))
both_heads true b c = refl
both_heads false b c = refl

both_names : (a b c : Bool) → ((a && c) || (b && c)) ≡ ((a || b) && c)
both_names true true true = refl
both_names true true false = refl
both_names true false true = refl
both_names true false false = refl
both_names false b c = refl

pub set_by_claims : (before : List Entry) (keys : List ClaimParts) (name : List ℕ) (head : Option (List ℕ)) → AreClaims before keys →
    (list_any (same_claim (record { name = name; head = None })) keys || list_any (same_claim (record { name = name; head = head })) keys) ≡ is_set_with before name head
set_by_claims before keys name head are =
    ap₂ (λ (a b : Bool). a || b) (are (record { name = name; head = None })) (are (record { name = name; head = head }))
    ∙ either (λ f. same_text f.decl.name name && same_head f.head None) (λ f. same_text f.decl.name name && same_head f.head head) before
    ∙ alike (λ f. (same_text f.decl.name name && same_head f.head None) || (same_text f.decl.name name && same_head f.head head))
    (λ f. same_text f.decl.name name && (same_head f.head None || same_head f.head head)) (λ f. both_heads (same_text f.decl.name name) (same_head f.head None) (same_head f.head head)) before

pub beaten_by_claims : (before : List Entry) (e : Entry) → is_overridden before e.decl.name e.head ≡ is_beaten before e
beaten_by_claims before e =
    either (λ f. same_text f.decl.name e.decl.name && applies_with f e) (λ f. is_all f && applies_with f e) before
    ∙ alike (λ f. (same_text f.decl.name e.decl.name && applies_with f e) || (is_all f && applies_with f e)) (λ f. sets_of f e && applies_with f e)
    (λ f. both_names (same_text f.decl.name e.decl.name) (is_all f) (applies_with f e)) before

-- ---- Those before an entry are the greater ones

none_outranks : (e : Entry) (es : List Entry) → AllByRecursion (λ f. outranks e f ≡ true) es → list_any (λ f. outranks f e && (sets_of f e && applies_with f e)) es ≡ false
none_outranks e [] under = refl
none_outranks e (f ∷ es) under = ap₂ (λ (a b : Bool). (a && (sets_of f e && applies_with f e)) || b) (one_way e f under.0) (none_outranks e es under.1)

pub beaten_is_lost : (sorted : List Entry) → Descends sorted → (i : ℕ) (e : Entry) → i < length sorted → e ≡ get_or sorted i e → is_beaten (take i sorted) e ≡ has_lost sorted e
beaten_is_lost [] down i e within is = absurd (omega arith)
beaten_is_lost (x ∷ es) down zero e within is =
    sym (ap₂ (λ (a b : Bool). (a && (sets_of x e && applies_with x e)) || b) (ap (outranks x) is ∙ not_itself x)
    (none_outranks e es (subst (λ (y : Entry). AllByRecursion (λ f. outranks y f ≡ true) es) (sym is) down.0)))
beaten_is_lost (x ∷ es) down (suc i) e within is =
    let over : outranks x e ≡ true = subst (λ (y : Entry). outranks x y ≡ true) (sym is)
    (All-get_or (λ (f : Entry). outranks x f ≡ true) es i e (omega (arith, within)) (All-from_recursion (λ (f : Entry). outranks x f ≡ true) es down.0)) in
    ap₂ (λ (a b : Bool). a || b) (sym (ap (λ (b : Bool). b && (sets_of x e && applies_with x e)) over)) (beaten_is_lost es down.1 i e (omega (arith, within)) is)

-- it does not matter in which order the entries are
pub lost_among : (all sorted : List Entry) → AreOrdered all sorted → (e : Entry) → has_lost sorted e ≡ has_lost all e
lost_among all sorted order e = sym (list_any-IsPermutation (λ f. outranks f e && (sets_of f e && applies_with f e)) all sorted order.same)
