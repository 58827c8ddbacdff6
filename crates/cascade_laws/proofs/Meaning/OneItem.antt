-- The winner of one list of declarations: the best of what is understood of them, whatever their places.
use Rattle.std.proofs.Common.{◌≡◌, ◌≤◌, ℕ, suc, Bool, true, false, cond, List, [], ◌∷◌, ◌++◌, Option, Some, None, refl, sym, ap, ◌∙◌, subst, arith}
use Rattle.std.specs.Prelude.{nat_lt, ◌&&◌, ◌||◌, ◌==◌, if◌then◌else◌}
use Rattle.std.specs.Option.{option_map, MatchOption}
use Rattle.std.specs.List.{filter}
use Rattle.std.proofs.lemmas.Bool.Decides.{nat_tests}
use Rattle.std.proofs.lemmas.List.Elements.{filter-append}
use Rattle.cascade_laws.proofs.ForCallers.{exceeds-transitive, exceeds-not_transitive}
use Rattle.css_model.specs.Cascade.Winner.{Declared, AppliedDeclaration, applied_by_kept, exceeds, outranks, greater, greatest, Understood, is_understood, Winner, outcome}
use Rattle.cascade_laws.specs.Meaning.Meanings.{winner_of}

-- what decides between declarations before their places do
abbrev weight : Declared → List ℕ
weight d = (if d.decl.important then 1 else 0) ∷ d.specificity.a ∷ d.specificity.b ∷ d.specificity.c ∷ []

-- the better of two; of equal ones the second
abbrev pub better : Declared → Option Declared → Option Declared
better d None = Some d
better d (Some f) = if exceeds (weight d) (weight f) then Some d else Some f

abbrev pub best : List Declared → Option Declared
best [] = None
best (d ∷ ds) = better d (best ds)

-- ---- The best of lists one after the other

abbrev pub over : Option Declared → Option Declared → Option Declared
over None o = o
over (Some d) o = better d o

better-three : (w v u : Declared) → better w (better v (Some u)) ≡ over (better w (Some v)) (Some u)
better-three w v u = which (exceeds (weight w) (weight v)) (exceeds (weight v) (weight u)) refl refl
  where
    which : (a b : Bool) → exceeds (weight w) (weight v) ≡ a → exceeds (weight v) (weight u) ≡ b → better w (better v (Some u)) ≡ over (better w (Some v)) (Some u)
    which true true h g = let far : exceeds (weight w) (weight u) ≡ true = exceeds-transitive (weight w) (weight v) (weight u) h g in grind (arith, h, g, far)
    which true false h g = grind (arith, h, g)
    which false true h g = grind (arith, h, g)
    which false false h g = let far : exceeds (weight w) (weight u) ≡ false = exceeds-not_transitive (weight w) (weight v) (weight u) refl h g in grind (arith, h, g, far)

over-none : (o : Option Declared) → over o None ≡ o
over-none None = refl
over-none (Some d) = refl

better-over : (d : Declared) (o o' : Option Declared) → better d (over o o') ≡ over (better d o) o'
better-over d None o' = refl
better-over d (Some v) None = sym (over-none (better d (Some v)))
better-over d (Some v) (Some u) = better-three d v u

best-append : (ds es : List Declared) → best (ds ++ es) ≡ over (best ds) (best es)
best-append [] es = refl
best-append (d ∷ ds) es = ap (better d) (best-append ds es) ∙ better-over d (best ds) (best es)

-- ---- The best of what is understood

abbrev at : ℕ → Declared → AppliedDeclaration
at k d = record { decl = d.decl; specificity = d.specificity; place = record { item = 0; position = k } }

abbrev pub understood : List Understood → Declared → Bool
understood us d = is_understood us (at 0 d)

abbrev pub best_of : List Understood → List Declared → Option Declared
best_of us ds = best (filter (understood us) ds)

pub best_of-append : (us : List Understood) (ds es : List Declared) → best_of us (ds ++ es) ≡ over (best_of us ds) (best_of us es)
best_of-append us ds es = ap best (filter-append (understood us) ds es) ∙ best-append (filter (understood us) ds) (filter (understood us) es)

-- what wins by a declaration
abbrev pub won : Declared → Winner
won d = record { name = d.decl.name; value = d.decl.value; important = d.decl.important; specificity = d.specificity }

-- ---- The greatest of a list is its best

-- an entry of one item, at a position or behind it, is this declaration
record IsOf (k : ℕ) (e : AppliedDeclaration) (o : Option Declared) : Type 0 where
  item : e.place.item ≡ 0
  position : k ≤ e.place.position
  is : o ≡ Some (record { decl = e.decl; specificity = e.specificity })

abbrev AreOf : ℕ → Option AppliedDeclaration → Option Declared → Type 0
AreOf k g o = MatchOption g (o ≡ None) (λ e. IsOf k e o)

outranked : (k : ℕ) (d : Declared) (e : AppliedDeclaration) → e.place.item ≡ 0 → suc k ≤ e.place.position →
    outranks (at k d) e ≡ exceeds (weight d) (weight (record { decl = e.decl; specificity = e.specificity }))
outranked k d e item position =
    let tail : exceeds (0 ∷ k ∷ []) (e.place.item ∷ e.place.position ∷ []) ≡ false = grind (arith, nat_tests) in
    let f : ℕ = if d.decl.important then 1 else 0 in
    let g : ℕ = if e.decl.important then 1 else 0 in
    ap (λ (b : Bool). nat_lt g f || f == g && (nat_lt e.specificity.a d.specificity.a || d.specificity.a == e.specificity.a
    && (nat_lt e.specificity.b d.specificity.b || d.specificity.b == e.specificity.b && (nat_lt e.specificity.c d.specificity.c || d.specificity.c == e.specificity.c && b)))) tail

greater-is : (k : ℕ) (d : Declared) (g : Option AppliedDeclaration) (o : Option Declared) → AreOf (suc k) g o → AreOf k (greater (at k d) g) (better d o)
greater-is k d None o h = record { item = refl; position = omega arith; is = ap (better d) h }
greater-is k d (Some e) o h =
    let there : Declared = record { decl = e.decl; specificity = e.specificity } in
    subst (λ (p : Option Declared). AreOf k (greater (at k d) (Some e)) (better d p)) (sym h.is)
    (subst (λ (b : Bool). AreOf k (cond b (Some (at k d)) (Some e)) (better d (Some there))) (sym (outranked k d e h.item h.position)) (which (exceeds (weight d) (weight there))))
  where
    which : (b : Bool) → AreOf k (cond b (Some (at k d)) (Some e)) (cond b (Some d) (Some (record { decl = e.decl; specificity = e.specificity })))
    which true = record { item = refl; position = omega arith; is = refl }
    which false = record { item = h.item; position = omega (arith, h.position); is = refl }

lower : (k : ℕ) (g : Option AppliedDeclaration) (o : Option Declared) → AreOf (suc k) g o → AreOf k g o
lower k None o h = h
lower k (Some e) o h = record { item = h.item; position = omega (arith, h.position); is = h.is }

greatest-is : (us : List Understood) (k : ℕ) (ds : List Declared) → AreOf k (greatest (filter (is_understood us) (applied_by_kept 0 k ds))) (best_of us ds)
greatest-is us k [] = refl
greatest-is us k (d ∷ ds) = which (understood us d) (greatest-is us (suc k) ds)
  where
    which : (b : Bool) → AreOf (suc k) (greatest (filter (is_understood us) (applied_by_kept 0 (suc k) ds))) (best_of us ds) →
        AreOf k (greatest (cond b (at k d ∷ filter (is_understood us) (applied_by_kept 0 (suc k) ds)) (filter (is_understood us) (applied_by_kept 0 (suc k) ds))))
        (best (cond b (d ∷ filter (understood us) ds) (filter (understood us) ds)))
    which true h = greater-is k d (greatest (filter (is_understood us) (applied_by_kept 0 (suc k) ds))) (best_of us ds) h
    which false h = lower k (greatest (filter (is_understood us) (applied_by_kept 0 (suc k) ds))) (best_of us ds) h

pub winner_of-best : (us : List Understood) (ds : List Declared) → winner_of us ds ≡ option_map won (best_of us ds)
winner_of-best us ds = which (greatest (filter (is_understood us) (applied_by_kept 0 0 ds))) (best_of us ds) (greatest-is us 0 ds)
  where
    which : (g : Option AppliedDeclaration) (o : Option Declared) → AreOf 0 g o → option_map outcome g ≡ option_map won o
    which None o h = ap (option_map won) (sym h)
    which (Some e) o h = ap (option_map won) (sym h.is)
