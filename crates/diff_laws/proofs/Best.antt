-- The best of declarations by weight, the last one where several are equal; and lists of which each element gives some.
use Rattle.std.proofs.Common.{◌≡◌, ◌⊎◌, inl, inr, ℕ, Bool, true, false, List, [], ◌∷◌, ◌++◌, length, get_or, Option, Some, None, refl, sym, ap, ap₂, ◌∙◌, subst, arith}
use Rattle.std.specs.Prelude.{if◌then◌else◌}
use Rattle.std.specs.List.{Contains, flat_map}
use Rattle.std.proofs.lemmas.Bool.{false≢true, true≢false, false_from_ne_true}
use Rattle.cascade_laws.proofs.ForCallers.{some-same, exceeds-irreflexive, exceeds-transitive, exceeds-not_transitive}
use Rattle.std.proofs.lemmas.Bool.Decides.{nat_tests}
use Rattle.css_model.specs.declared.selector.Specificity.{Specificity}
use Rattle.css_model.specs.declared.sheet.Decl.{Decl}
use Rattle.css_model.specs.Cascade.Winner.{Declared, exceeds}
use Rattle.list_facts.proofs.Members.{Contains-here, Contains-there, Contains-nil, Contains-cons_cases}

-- what decides between declarations before their places do
abbrev pub weight : Declared → List ℕ
weight d = (if d.decl.important then 1 else 0) ∷ d.specificity.a ∷ d.specificity.b ∷ d.specificity.c ∷ []

even : (c d : Declared) → length (weight c) ≡ length (weight d)
even c d = refl

-- the better of two; of equal ones the second
abbrev pub better : Declared → Option Declared → Option Declared
better x None = Some x
better x (Some y) = if exceeds (weight x) (weight y) then Some x else Some y

abbrev pub best : List Declared → Option Declared
best [] = None
best (x ∷ xs) = better x (best xs)

abbrev pub over : Option Declared → Option Declared → Option Declared
over None o = o
over (Some x) o = better x o

-- ---- Lists one after the other

better_three : (w v u : Declared) → better w (better v (Some u)) ≡ over (better w (Some v)) (Some u)
better_three w v u = which (exceeds (weight w) (weight v)) (exceeds (weight v) (weight u)) refl refl
  where
    which : (a b : Bool) → exceeds (weight w) (weight v) ≡ a → exceeds (weight v) (weight u) ≡ b → better w (better v (Some u)) ≡ over (better w (Some v)) (Some u)
    which true true h g = let far : exceeds (weight w) (weight u) ≡ true = exceeds-transitive (weight w) (weight v) (weight u) h g in grind (arith, h, g, far)
    which true false h g = grind (arith, h, g)
    which false true h g = grind (arith, h, g)
    which false false h g = let far : exceeds (weight w) (weight u) ≡ false = exceeds-not_transitive (weight w) (weight v) (weight u) (even w v) h g in grind (arith, h, g, far)

over_none : (o : Option Declared) → over o None ≡ o
over_none None = refl
over_none (Some x) = refl

better_over : (x : Declared) (o o' : Option Declared) → better x (over o o') ≡ over (better x o) o'
better_over x None o' = refl
better_over x (Some v) None = sym (over_none (better x (Some v)))
better_over x (Some v) (Some u) = better_three x v u

pub best_append : (xs ys : List Declared) → best (xs ++ ys) ≡ over (best xs) (best ys)
best_append [] ys = refl
best_append (x ∷ xs) ys = ap (better x) (best_append xs ys) ∙ better_over x (best xs) (best ys)

-- ---- What elements give

module _ (O : Type 0) (gives : O → List Declared) where
  -- the best of what each of them gives
  abbrev pub best_each : List O → Option Declared
  best_each [] = None
  best_each (o ∷ os) = over (best (gives o)) (best_each os)

  pub best_flat : (os : List O) → best (flat_map gives os) ≡ best_each os
  best_flat [] = refl
  best_flat (o ∷ os) = best_append (gives o) (flat_map gives os) ∙ ap (over (best (gives o))) (best_flat os)

  -- the last one that gives the best, those before it, and those behind it
  pub record IsBestOf (os : List O) (x : Declared) : Type 0 where
    pub before : List O
    pub one : O
    pub behind : List O
    pub parts : os ≡ before ++ one ∷ behind
    pub given : best (gives one) ≡ Some x
    pub not_before : (o : O) (y : Declared) → Contains before o → best (gives o) ≡ Some y → exceeds (weight y) (weight x) ≡ false
    pub none_behind : (o : O) (y : Declared) → Contains behind o → best (gives o) ≡ Some y → exceeds (weight x) (weight y) ≡ true

  over_nothing : (o : Option Declared) (p : Option Declared) → over o p ≡ None → (o ≡ None) × (p ≡ None)
  over_nothing None p h = (refl, h)
  over_nothing (Some x) None h = absurd (let e : Some x ≡ None = h in cc)
  over_nothing (Some x) (Some y) h = absurd (which (exceeds (weight x) (weight y)) h)
    where
      which : (b : Bool) → (if b then Some x else Some y) ≡ None → ⊥
      which true e = cc
      which false e = cc

  -- where there is no best, none gives anything
  pub none_gives : (os : List O) → best_each os ≡ None → (o : O) → Contains os o → best (gives o) ≡ None
  none_gives [] none o among = absurd (Contains-nil o among)
  none_gives (p ∷ os) none o among = which (over_nothing (best (gives p)) (best_each os) none) (Contains-cons_cases p os o among) (λ h g. none_gives os h o g)
    where
      which : (best (gives p) ≡ None) × (best_each os ≡ None) → (p ≡ o) ⊎ Contains os o → (best_each os ≡ None → Contains os o → best (gives o) ≡ None) → best (gives o) ≡ None
      which w (inl e) rest = subst (λ (q : O). best (gives q) ≡ None) e w.0
      which w (inr g) rest = rest w.1 g

  pub nothing_best : (os : List O) → ((o : O) → Contains os o → best (gives o) ≡ None) → best_each os ≡ None
  nothing_best [] none = refl
  nothing_best (p ∷ os) none = ap (λ (b : Option Declared). over b (best_each os)) (none p (Contains-here p os)) ∙ nothing_best os (λ o g. none o (Contains-there p os o g))

  -- x is no less than what is no more than it
  not_less : (x y z : Declared) → exceeds (weight x) (weight y) ≡ true → exceeds (weight z) (weight y) ≡ false → exceeds (weight x) (weight z) ≡ true
  not_less x y z more under = which (exceeds (weight x) (weight z)) refl
    where
      which : (b : Bool) → exceeds (weight x) (weight z) ≡ b → exceeds (weight x) (weight z) ≡ true
      which true h = h
      which false h = absurd (true≢false (sym more ∙ exceeds-not_transitive (weight x) (weight z) (weight y) (even x z) h under))

  all_behind : (os : List O) (x y : Declared) → IsBestOf os y → exceeds (weight x) (weight y) ≡ true → (o : O) (z : Declared) → Contains os o → best (gives o) ≡ Some z → exceeds (weight x) (weight z) ≡ true
  all_behind os x y w more o z among given = sided (in_parts w.before w.one w.behind o (subst (λ (ps : List O). Contains ps o) w.parts among))
    where
      in_parts : (before : List O) (one : O) (behind : List O) (o : O) → Contains (before ++ one ∷ behind) o → Contains before o ⊎ (one ≡ o) ⊎ Contains behind o
      in_parts [] one behind o among = inr (Contains-cons_cases one behind o among)
      in_parts (p ∷ before) one behind o among = first (Contains-cons_cases p (before ++ one ∷ behind) o among) (λ g. in_parts before one behind o g)
        where
          further : Contains before o ⊎ (one ≡ o) ⊎ Contains behind o → Contains (p ∷ before) o ⊎ (one ≡ o) ⊎ Contains behind o
          further (inl g) = inl (Contains-there p before o g)
          further (inr g) = inr g

          first : (p ≡ o) ⊎ Contains (before ++ one ∷ behind) o → (Contains (before ++ one ∷ behind) o → Contains before o ⊎ (one ≡ o) ⊎ Contains behind o) → Contains (p ∷ before) o ⊎ (one ≡ o) ⊎ Contains behind o
          first (inl e) rest = inl (subst (λ (q : O). Contains (p ∷ before) q) e (Contains-here p before))
          first (inr g) rest = further (rest g)

      sided : Contains w.before o ⊎ (w.one ≡ o) ⊎ Contains w.behind o → exceeds (weight x) (weight z) ≡ true
      sided (inl g) = not_less x y z more (w.not_before o z g given)
      sided (inr (inl e)) = ap (λ (v : Declared). exceeds (weight x) (weight v)) (some-same (sym given ∙ ap (λ (q : O). best (gives q)) (sym e) ∙ w.given)) ∙ more
      sided (inr (inr g)) = exceeds-transitive (weight x) (weight y) (weight z) more (w.none_behind o z g given)

  pub best_is : (os : List O) (x : Declared) → best_each os ≡ Some x → IsBestOf os x
  best_is [] x is = absurd (let e : None ≡ Some x = is in cc)
  best_is (p ∷ os) x is = which (best (gives p)) (best_each os) refl refl is (λ y. best_is os y)
    where
      kept : (y : Declared) → IsBestOf os y → ((z : Declared) → best (gives p) ≡ Some z → exceeds (weight z) (weight y) ≡ false) → IsBestOf (p ∷ os) y
      kept y w under = record {
        before = p ∷ w.before;
        one = w.one;
        behind = w.behind;
        parts = ap (λ (ps : List O). p ∷ ps) w.parts;
        given = w.given;
        not_before = λ o z among given. first o z given (Contains-cons_cases p w.before o among);
        none_behind = w.none_behind;
      }
        where
          first : (o : O) (z : Declared) → best (gives o) ≡ Some z → (p ≡ o) ⊎ Contains w.before o → exceeds (weight z) (weight y) ≡ false
          first o z given (inl e) = under z (ap (λ (q : O). best (gives q)) e ∙ given)
          first o z given (inr g) = w.not_before o z g given

      which : (b c : Option Declared) → best (gives p) ≡ b → best_each os ≡ c → over b c ≡ Some x → ((y : Declared) → best_each os ≡ Some y → IsBestOf os y) → IsBestOf (p ∷ os) x
      which None c e f is rest = kept x (rest x (f ∙ is)) (λ z given. absurd (let g : None ≡ Some z = sym e ∙ given in cc))
      which (Some y) None e f is rest = record {
        before = [];
        one = p;
        behind = os;
        parts = refl;
        given = e ∙ is;
        not_before = λ o z among given. absurd (Contains-nil o among);
        none_behind = λ o z among given. absurd (let g : None ≡ Some z = sym (none_gives os f o among) ∙ given in cc);
      }
      which (Some y) (Some u) e f is rest = sided (exceeds (weight y) (weight u)) refl is
        where
          sided : (b : Bool) → exceeds (weight y) (weight u) ≡ b → (if b then Some y else Some u) ≡ Some x → IsBestOf (p ∷ os) x
          sided true more is = record {
            before = [];
            one = p;
            behind = os;
            parts = refl;
            given = e ∙ is;
            not_before = λ o z among given. absurd (Contains-nil o among);
            none_behind = λ o z among given. subst (λ (v : Declared). exceeds (weight v) (weight z) ≡ true) (some-same is) (all_behind os y u (rest u f) more o z among given);
          }
          sided false under is = subst (λ (v : Declared). IsBestOf (p ∷ os) v) (some-same is)
              (kept u (rest u f) (λ z given. subst (λ (v : Declared). exceeds (weight v) (weight u) ≡ false) (some-same (sym e ∙ given)) under))

-- ---- The best among a list

pub best_among : (xs : List Declared) (x : Declared) → best xs ≡ Some x → Contains xs x
best_among [] x is = absurd (let e : None ≡ Some x = is in cc)
best_among (y ∷ xs) x is = which (best xs) refl is (λ z. best_among xs z)
  where
    which : (o : Option Declared) → best xs ≡ o → better y o ≡ Some x → ((z : Declared) → best xs ≡ Some z → Contains xs z) → Contains (y ∷ xs) x
    which None e is rest = subst (λ (z : Declared). Contains (y ∷ xs) z) (some-same is) (Contains-here y xs)
    which (Some u) e is rest = sided (exceeds (weight y) (weight u)) is
      where
        sided : (b : Bool) → (if b then Some y else Some u) ≡ Some x → Contains (y ∷ xs) x
        sided true is = subst (λ (z : Declared). Contains (y ∷ xs) z) (some-same is) (Contains-here y xs)
        sided false is = subst (λ (z : Declared). Contains (y ∷ xs) z) (some-same is) (Contains-there y xs u (rest u e))

best_none : (xs : List Declared) (y : Declared) → best xs ≡ None → Contains xs y → ⊥
best_none [] y none among = Contains-nil y among
best_none (z ∷ xs) y none among = which (best xs) none
  where
    which : (o : Option Declared) → better z o ≡ None → ⊥
    which None e = cc
    which (Some u) e = sided (exceeds (weight z) (weight u)) e
      where
        sided : (b : Bool) → (if b then Some z else Some u) ≡ None → ⊥
        sided true e = cc
        sided false e = cc

pub best_top : (xs : List Declared) (x y : Declared) → best xs ≡ Some x → Contains xs y → exceeds (weight y) (weight x) ≡ false
best_top [] x y is among = absurd (Contains-nil y among)
best_top (z ∷ xs) x y is among = which (best xs) refl is (Contains-cons_cases z xs y among) (λ u e g. best_top xs u y e g)
  where
    which : (o : Option Declared) → best xs ≡ o → better z o ≡ Some x → (z ≡ y) ⊎ Contains xs y → ((u : Declared) → best xs ≡ Some u → Contains xs y → exceeds (weight y) (weight u) ≡ false) → exceeds (weight y) (weight x) ≡ false
    which None e is (inl same) rest = ap (λ (v : Declared). exceeds (weight v) (weight x)) (sym same ∙ some-same is) ∙ exceeds-irreflexive (weight x)
    which None e is (inr g) rest = absurd (best_none xs y e g)
    which (Some u) e is side rest = sided (exceeds (weight z) (weight u)) refl is side
      where
        sided : (b : Bool) → exceeds (weight z) (weight u) ≡ b → (if b then Some z else Some u) ≡ Some x → (z ≡ y) ⊎ Contains xs y → exceeds (weight y) (weight x) ≡ false
        sided true more is (inl same) = ap (λ (v : Declared). exceeds (weight v) (weight x)) (sym same ∙ some-same is) ∙ exceeds-irreflexive (weight x)
        sided true more is (inr g) =
            subst (λ (v : Declared). exceeds (weight y) (weight v) ≡ false) (some-same is)
            (false_from_ne_true (exceeds (weight y) (weight z)) (λ over. true≢false (sym (exceeds-transitive (weight y) (weight z) (weight u) over more) ∙ rest u e g)))
        sided false under is (inl same) = subst (λ (v : Declared). exceeds (weight y) (weight v) ≡ false) (some-same is) (subst (λ (v : Declared). exceeds (weight v) (weight u) ≡ false) same under)
        sided false under is (inr g) = subst (λ (v : Declared). exceeds (weight y) (weight v) ≡ false) (some-same is) (rest u e g)

pub over_three : (o p q : Option Declared) → over o (over p q) ≡ over (over o p) q
over_three None p q = refl
over_three (Some x) p q = better_over x p q

pub over_none_last : (o : Option Declared) → over o None ≡ o
over_none_last o = over_none o

-- what is among those behind it does not count
pub absorbed : (xs ys : List Declared) → ((x : Declared) → Contains xs x → Contains ys x) → over (best xs) (best ys) ≡ best ys
absorbed xs ys inside = which (best xs) (best ys) refl refl
  where
    which : (o p : Option Declared) → best xs ≡ o → best ys ≡ p → over o p ≡ p
    which None p e f = refl
    which (Some x) None e f = absurd (best_none ys x f (inside x (best_among xs x e)))
    which (Some x) (Some y) e f = sided (exceeds (weight x) (weight y)) (best_top ys y x f (inside x (best_among xs x e)))
      where
        sided : (b : Bool) → b ≡ false → (if b then Some x else Some y) ≡ Some y
        sided true h = absurd (true≢false h)
        sided false h = refl

-- nor does what is among those before it, where those that weigh the same are one
pub repeated_before : (xs ys : List Declared) → ((y : Declared) → Contains ys y → Contains xs y) →
    ((x y : Declared) → Contains xs x → Contains xs y → exceeds (weight x) (weight y) ≡ false → exceeds (weight y) (weight x) ≡ false → x ≡ y) → over (best xs) (best ys) ≡ best xs
repeated_before xs ys inside one = which (best xs) (best ys) refl refl
  where
    which : (o p : Option Declared) → best xs ≡ o → best ys ≡ p → over o p ≡ o
    which o None e f = over_none o
    which None (Some y) e f = absurd (best_none xs y e (inside y (best_among ys y f)))
    which (Some x) (Some y) e f =
        let among : Contains xs y = inside y (best_among ys y f) in
        sided (exceeds (weight x) (weight y)) (λ under. one x y (best_among xs x e) among under (best_top xs x y e among))
      where
        sided : (b : Bool) → (b ≡ false → x ≡ y) → (if b then Some x else Some y) ≡ Some x
        sided true same = refl
        sided false same = ap Some (sym (same refl))

-- ---- Those that weigh the same

neither : (xs ys : List ℕ) → length xs ≡ length ys → exceeds xs ys ≡ false → exceeds ys xs ≡ false → xs ≡ ys
neither [] [] l h g = refl
neither [] (y ∷ ys) l h g = absurd (omega arith)
neither (x ∷ xs) [] l h g = absurd (omega arith)
neither (x ∷ xs) (y ∷ ys) l h g =
    let e : x ≡ y = grind (arith, nat_tests) in
    let h' : exceeds xs ys ≡ false = grind (arith, nat_tests) in
    let g' : exceeds ys xs ≡ false = grind (arith, nat_tests) in
    ap₂ (λ (n : ℕ) (ns : List ℕ). n ∷ ns) e (neither xs ys (omega arith) h' g')

same_counts : (s t : Specificity) → s.a ≡ t.a → s.b ≡ t.b → s.c ≡ t.c → s ≡ t
same_counts s t a b c = ap₂ (λ (n : ℕ) (u : Specificity). record { a = n; b = u.b; c = u.c }) a (ap₂ (λ (m k : ℕ). record { a = t.a; b = m; c = k }) b c)

abbrev bit : Bool → ℕ
bit b = if b then 1 else 0

same_bit : (b c : Bool) → bit b ≡ bit c → b ≡ c
same_bit true true h = refl
same_bit false false h = refl
same_bit true false h = absurd (omega (arith, h))
same_bit false true h = absurd (omega (arith, h))

-- two of which neither exceeds the other have equal importance and equal specificity
pub level : (x y : Declared) → exceeds (weight x) (weight y) ≡ false → exceeds (weight y) (weight x) ≡ false → (x.decl.important ≡ y.decl.important) × (x.specificity ≡ y.specificity)
level x y h g =
    let e : weight x ≡ weight y = neither (weight x) (weight y) refl h g in (
      same_bit x.decl.important y.decl.important (ap (λ (ns : List ℕ). get_or ns 0 0) e),
      same_counts x.specificity y.specificity (ap (λ (ns : List ℕ). get_or ns 1 0) e) (ap (λ (ns : List ℕ). get_or ns 2 0) e) (ap (λ (ns : List ℕ). get_or ns 3 0) e),
    )

pub level_one : (x y : Declared) → x.decl ≡ y.decl → exceeds (weight x) (weight y) ≡ false → exceeds (weight y) (weight x) ≡ false → x ≡ y
level_one x y same h g = ap₂ (λ (d : Decl) (s : Specificity). record { decl = d; specificity = s }) same (level x y h g).1
