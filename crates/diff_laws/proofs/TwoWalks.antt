-- Two lists that give the same, in another order: where the order of those that decide does not matter, they have the same best.
use Rattle.std.proofs.Common.{◌≡◌, ◌⊎◌, inl, inr, true, false, List, [], ◌∷◌, ◌++◌, Option, Some, None, refl, sym, ap, ◌∙◌, subst}
use Rattle.std.specs.List.{AllByRecursion, Contains, filter}
use Rattle.std.proofs.lemmas.Bool.{true≢false, false_from_ne_true}
use Rattle.std.proofs.lemmas.List.Elements.{All-contains, All-from_recursion}
use Rattle.cascade_laws.proofs.ForCallers.{some-same, exceeds-irreflexive, exceeds-transitive}
use Rattle.css_model.specs.Cascade.Winner.{Declared, Understood, exceeds}
use Rattle.list_facts.proofs.Members.{Contains-here, Contains-there, Contains-nil, Contains-cons_cases}
use Rattle.diff_laws.proofs.Best.{IsBestOf, best, best_each, best_is, none_gives, nothing_best, weight}
use Rattle.diff_laws.proofs.Choice.{best_of, known}

module _ (O : Type 0) (NotPast : O → O → Type 0) (itself : (o : O) → NotPast o o) where
  -- each is not past those behind it
  abbrev pub Ascends : List O → Type 0
  Ascends [] = Unit {0}
  Ascends (o ∷ os) = AllByRecursion (NotPast o) os × Ascends os

  module _ (gives : O → List Declared) where
    -- one that gives the best: what others give is no more, and those that give as much are not past it
    pub record IsTop (os : List O) (x : Declared) : Type 0 where
      pub one : O
      pub among : Contains os one
      pub given : best (gives one) ≡ Some x
      pub no_more : (o : O) (y : Declared) → Contains os o → best (gives o) ≡ Some y → exceeds (weight y) (weight x) ≡ false
      pub last : (o : O) (y : Declared) → Contains os o → best (gives o) ≡ Some y → exceeds (weight x) (weight y) ≡ false → NotPast o one

    in_parts : (before : List O) (one : O) (behind : List O) (o : O) → Contains (before ++ one ∷ behind) o → Contains before o ⊎ (one ≡ o) ⊎ Contains behind o
    in_parts [] one behind o among = inr (Contains-cons_cases one behind o among)
    in_parts (p ∷ before) one behind o among = first (Contains-cons_cases p (before ++ one ∷ behind) o among) (λ g. in_parts before one behind o g)
      where
        further : Contains before o ⊎ (one ≡ o) ⊎ Contains behind o → Contains (p ∷ before) o ⊎ (one ≡ o) ⊎ Contains behind o
        further (inl g) = inl (Contains-there p before o g)
        further (inr g) = inr g

        first : (p ≡ o) ⊎ Contains (before ++ one ∷ behind) o → (Contains (before ++ one ∷ behind) o → Contains before o ⊎ (one ≡ o) ⊎ Contains behind o) → Contains (p ∷ before) o ⊎ (one ≡ o) ⊎ Contains behind o
        first (inl e) rest = inl (subst (λ (q : O). Contains (p ∷ before) q) e (Contains-here p before))
        first (inr g) rest = further (rest g)

    middle_among : (before : List O) (one : O) (behind : List O) → Contains (before ++ one ∷ behind) one
    middle_among [] one behind = Contains-here one behind
    middle_among (p ∷ before) one behind = Contains-there p (before ++ one ∷ behind) one (middle_among before one behind)

    before_middle : (before : List O) (one : O) (behind : List O) (o : O) → Ascends (before ++ one ∷ behind) → Contains before o → NotPast o one
    before_middle [] one behind o up among = absurd (Contains-nil o among)
    before_middle (p ∷ before) one behind o up among = which (Contains-cons_cases p before o among) (λ g. before_middle before one behind o up.1 g)
      where
        which : (p ≡ o) ⊎ Contains before o → (Contains before o → NotPast o one) → NotPast o one
        which (inl e) rest =
            subst (λ (q : O). NotPast q one) e
            (All-contains (NotPast p) (before ++ one ∷ behind) one (All-from_recursion (NotPast p) (before ++ one ∷ behind) up.0) (middle_among before one behind))
        which (inr g) rest = rest g

    is_top : (os : List O) (x : Declared) → Ascends os → IsBestOf O gives os x → IsTop os x
    is_top os x up w = record {
      one = w.one;
      among = subst (λ (ps : List O). Contains ps w.one) (sym w.parts) (middle_among w.before w.one w.behind);
      given = w.given;
      no_more = λ o y among given. least o y given (sides o among);
      last = λ o y among given as_much. not_past o y given as_much (sides o among);
    }
      where
        sides : (o : O) → Contains os o → Contains w.before o ⊎ (w.one ≡ o) ⊎ Contains w.behind o
        sides o among = in_parts w.before w.one w.behind o (subst (λ (ps : List O). Contains ps o) w.parts among)

        least : (o : O) (y : Declared) → best (gives o) ≡ Some y → Contains w.before o ⊎ (w.one ≡ o) ⊎ Contains w.behind o → exceeds (weight y) (weight x) ≡ false
        least o y given (inl g) = w.not_before o y g given
        least o y given (inr (inl e)) =
            ap (λ (v : Declared). exceeds (weight v) (weight x)) (some-same (sym given ∙ ap (λ (q : O). best (gives q)) (sym e) ∙ w.given)) ∙ exceeds-irreflexive (weight x)
        least o y given (inr (inr g)) =
            false_from_ne_true (exceeds (weight y) (weight x)) (λ over.
            true≢false (sym (exceeds-transitive (weight x) (weight y) (weight x) (w.none_behind o y g given) over) ∙ exceeds-irreflexive (weight x)))

        not_past : (o : O) (y : Declared) → best (gives o) ≡ Some y → exceeds (weight x) (weight y) ≡ false → Contains w.before o ⊎ (w.one ≡ o) ⊎ Contains w.behind o → NotPast o w.one
        not_past o y given as_much (inl g) = before_middle w.before w.one w.behind o (subst Ascends w.parts up) g
        not_past o y given as_much (inr (inl e)) = subst (λ (q : O). NotPast q w.one) e (itself w.one)
        not_past o y given as_much (inr (inr g)) = absurd (true≢false (sym (w.none_behind o y g given) ∙ as_much))

  -- What a first and a second list have in common: each of the one gives what one of the other does. And where the best of both are given by
  -- two of which each is the last one in its list, with all that give the same as the other, they are one.
  module _ (gives : O → List Declared) (os os' : List O) where
    -- those that give what one of two does are not past one
    abbrev pub IsLast : List O → O → O → O → Type 0
    IsLast ps o p q = (r : O) → Contains ps r → (gives r ≡ gives p) ⊎ (gives r ≡ gives q) → NotPast r o

    abbrev pub HasAlike : List O → List O → Type 0
    HasAlike ps qs = (p : O) → Contains ps p → (q : O) × Contains qs q × (gives q ≡ gives p)

    abbrev pub AreSettled : List Understood → Type 0
    AreSettled us = (o o' : O) (x x' : Declared) → Contains os o → Contains os' o' → best (filter (known us) (gives o)) ≡ Some x → best (filter (known us) (gives o')) ≡ Some x' →
        exceeds (weight x) (weight x') ≡ false → exceeds (weight x') (weight x) ≡ false → IsLast os o o o' → IsLast os' o' o o' → x ≡ x'

    module _ (us : List Understood) (up : Ascends os) (up' : Ascends os') (to : HasAlike os os') (from : HasAlike os' os) (settled : AreSettled us) where
      abbrev chosen : O → List Declared
      chosen o = filter (known us) (gives o)

      none_there : (ps qs : List O) → HasAlike qs ps → best_each O chosen ps ≡ None → best_each O chosen qs ≡ None
      none_there ps qs alike none =
          nothing_best O chosen qs (λ q among. let w = alike q among in
          ap (λ (ds : List Declared). best (filter (known us) ds)) (sym w.2) ∙ none_gives O chosen ps none w.0 w.1)

      one_best : (x x' : Declared) → IsTop chosen os x → IsTop chosen os' x' → x ≡ x'
      one_best x x' a b = settled a.one b.one x x' a.among b.among a.given b.given first second last last'
        where
          same : (p q : O) → gives p ≡ gives q → (y : Declared) → best (chosen q) ≡ Some y → best (chosen p) ≡ Some y
          same p q alike y given = ap (λ (ds : List Declared). best (filter (known us) ds)) alike ∙ given

          second : exceeds (weight x') (weight x) ≡ false
          second = let w = from b.one b.among in a.no_more w.0 x' w.1 (same w.0 b.one w.2 x' b.given)

          first : exceeds (weight x) (weight x') ≡ false
          first = let w = to a.one a.among in b.no_more w.0 x w.1 (same w.0 a.one w.2 x a.given)

          last : IsLast os a.one a.one b.one
          last r among (inl alike) = a.last r x among (same r a.one alike x a.given) (exceeds-irreflexive (weight x))
          last r among (inr alike) = a.last r x' among (same r b.one alike x' b.given) first

          last' : IsLast os' b.one a.one b.one
          last' r among (inl alike) = b.last r x among (same r a.one alike x a.given) second
          last' r among (inr alike) = b.last r x' among (same r b.one alike x' b.given) (exceeds-irreflexive (weight x'))

      pub one_choice : best_of O us gives os ≡ best_of O us gives os'
      one_choice = which (best_each O chosen os) (best_each O chosen os') refl refl
        where
          which : (b b' : Option Declared) → best_each O chosen os ≡ b → best_each O chosen os' ≡ b' → b ≡ b'
          which None None is is' = refl
          which None (Some x') is is' = sym (none_there os os' from is) ∙ is'
          which (Some x) None is is' = sym is ∙ none_there os' os to is'
          which (Some x) (Some x') is is' = ap Some (one_best x x' (is_top chosen os x up (best_is O chosen os x is)) (is_top chosen os' x' up' (best_is O chosen os' x' is')))
