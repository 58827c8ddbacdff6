-- What the last item that has one of two pairs tells of their order.
use Rattle.std.proofs.Common.{◌≡◌, ◌↔◌, ◌⊎◌, Bool, true, false, List, [], ◌∷◌, ◌++◌, refl, sym, ap, ◌∙◌, subst, inl, inr, append_assoc}
use Rattle.std.proofs.lemmas.Bool.{false≢true}
use Rattle.css_model.specs.Cascade.Order.{Pair, HasPair, IsBefore}
use Rattle.css_model.specs.declared.sheet.Item.{Item}
use Rattle.order_laws.proofs.ForCallers.{has_append, BeforeInTwo, before_in_two}
use Rattle.window_order.specs.declared.order.Found.{Found}
use Rattle.window_order.specs.declared.order.Found.TheVariants.{Before, NotBefore, Second, Neither}
use Rattle.window_order.specs.Found.{IsFound, IsFoundLast, IsSecond}

-- ---- Of one item

-- it has the first pair
pub first_there : (above : List Item) (last : Item) (p q : Pair) → HasPair (last ∷ []) p → IsBefore (above ++ last ∷ []) p q ↔ IsBefore (last ∷ []) p q
first_there above last p q has = (λ b. there ((before_in_two above (last ∷ []) p q).0 b), λ b. (before_in_two above (last ∷ []) p q).1 (inl b))
  where
    there : BeforeInTwo above (last ∷ []) p q → IsBefore (last ∷ []) p q
    there (inl b) = b
    there (inr (inl h)) = absurd (h.1 has)
    there (inr (inr h)) = absurd (h.0 has)

pub last_before : (above : List Item) (last : Item) (p q : Pair) → IsBefore (last ∷ []) p q → IsBefore (above ++ last ∷ []) p q
last_before above last p q b = (before_in_two above (last ∷ []) p q).1 (inl b)

pub last_not_before : (above : List Item) (last : Item) (p q : Pair) → HasPair (last ∷ []) p → (IsBefore (last ∷ []) p q → ⊥) → HasPair (above ++ last ∷ []) p × (IsBefore (above ++ last ∷ []) p q → ⊥)
last_not_before above last p q has not = ((has_append above (last ∷ []) p).1 (inr has), λ b. not ((first_there above last p q has).0 b))

pub last_second : (above : List Item) (last : Item) (p q : Pair) → (HasPair (last ∷ []) p → ⊥) → HasPair (last ∷ []) q → IsSecond (above ++ last ∷ []) above p q
last_second above last p q none has = record { rest = last ∷ []; parts = refl; none = none; second = has }

-- ---- Of some items

-- items of which the ones behind have neither pair
pub record AreAbove (items rest : List Item) (p q : Pair) : Type 0 where
  pub behind : List Item
  pub parts : items ≡ rest ++ behind
  pub first : HasPair behind p → ⊥
  pub second : HasPair behind q → ⊥

pub nothing : (p : Pair) → HasPair [] p → ⊥
nothing p h = let e = h.1.rule_at in cc

pub above_all : (items : List Item) (p q : Pair) → AreAbove items items p q
above_all items p q = record { behind = []; parts = append_nil items; first = nothing p; second = nothing q }
  where
    append_nil : (xs : List Item) → xs ≡ xs ++ []
    append_nil [] = refl
    append_nil (x ∷ xs) = ap (λ ys. x ∷ ys) (append_nil xs)

pub in_neither : (xs ys : List Item) (p : Pair) → (HasPair xs p → ⊥) → (HasPair ys p → ⊥) → HasPair (xs ++ ys) p → ⊥
in_neither xs ys p f g h = which ((has_append xs ys p).0 h)
  where
    which : HasPair xs p ⊎ HasPair ys p → ⊥
    which (inl a) = f a
    which (inr a) = g a

pub one_less : (items rest above : List Item) (last : Item) (p q : Pair) → rest ≡ above ++ last ∷ [] → AreAbove items rest p q → IsFoundLast above last p q Neither → AreAbove items above p q
one_less items rest above last p q cut a none = record {
  behind = last ∷ a.behind;
  parts = a.parts ∙ ap (λ xs. xs ++ a.behind) cut ∙ append_assoc above (last ∷ []) a.behind;
  first = in_neither (last ∷ []) a.behind p none.0 a.first;
  second = in_neither (last ∷ []) a.behind q none.1 a.second;
}

-- the order by items whose last ones have neither
pub before_above : (rest behind : List Item) (p q : Pair) → (HasPair behind p → ⊥) → (HasPair behind q → ⊥) → IsBefore (rest ++ behind) p q ↔ IsBefore rest p q
before_above rest behind p q f g = (λ b. there ((before_in_two rest behind p q).0 b), λ b. (before_in_two rest behind p q).1 (inr (inr (f, g, b))))
  where
    there : BeforeInTwo rest behind p q → IsBefore rest p q
    there (inl b) = absurd (f (b.place, b.first.stands))
    there (inr (inl h)) = absurd (g h.2)
    there (inr (inr h)) = h.2

pub found_above : (items rest : List Item) (p q : Pair) (f : Found) → AreAbove items rest p q → IsFound rest p q f → IsFound items p q f
found_above items rest p q Before a h = subst (λ xs. IsBefore xs p q) (sym a.parts) ((before_above rest a.behind p q a.first a.second).1 h)
found_above items rest p q NotBefore a h = (
  subst (λ xs. HasPair xs p) (sym a.parts) ((has_append rest a.behind p).1 (inl h.0)),
  λ b. h.1 ((before_above rest a.behind p q a.first a.second).0 (subst (λ xs. IsBefore xs p q) a.parts b)),
)
found_above items rest p q (Second above) a h = record {
  rest = h.rest ++ a.behind;
  parts = a.parts ∙ ap (λ xs. xs ++ a.behind) h.parts ∙ append_assoc above.now h.rest a.behind;
  none = in_neither h.rest a.behind p h.none a.first;
  second = (has_append h.rest a.behind q).1 (inl h.second);
}
found_above items rest p q Neither a h = (
  λ b. in_neither rest a.behind p h.0 a.first (subst (λ xs. HasPair xs p) a.parts b),
  λ b. in_neither rest a.behind q h.1 a.second (subst (λ xs. HasPair xs q) a.parts b),
)

-- what the last one of the rest tells, if it has one of the pairs
pub found_here : (items rest above : List Item) (last : Item) (p q : Pair) (f : Found) → rest ≡ above ++ last ∷ [] → AreAbove items rest p q → (f ≡ Neither → ⊥) → IsFoundLast above last p q f → IsFound items p q f
found_here items rest above last p q f cut a some h = found_above items rest p q f a (subst (λ xs. IsFound xs p q f) (sym cut) (is f some h))
  where
    is : (f : Found) → (f ≡ Neither → ⊥) → IsFoundLast above last p q f → IsFound (above ++ last ∷ []) p q f
    is Before some h = h
    is NotBefore some h = h
    is (Second over) some h = h
    is Neither some h = absurd (some refl)

pub found_none : (items rest : List Item) (p q : Pair) → rest ≡ [] → AreAbove items rest p q → IsFound items p q Neither
found_none items rest p q e a = found_above items rest p q Neither a (subst (λ xs. (HasPair xs p → ⊥) × (HasPair xs q → ⊥)) (sym e) (nothing p, nothing q))

-- ---- What it tells of more items

pub second_in : (xs items above : List Item) (p q : Pair) → IsSecond items above p q → IsBefore (xs ++ items) p q ↔ (HasPair xs p ⊎ HasPair above p)
second_in xs items above p q s = (λ b. there (subst (λ ys. IsBefore ys p q) whole b), λ h. subst (λ ys. IsBefore ys p q) (sym whole) (back h))
  where
    whole : xs ++ items ≡ (xs ++ above) ++ s.rest
    whole = ap (λ ys. xs ++ ys) s.parts ∙ sym (append_assoc xs above s.rest)

    split : BeforeInTwo (xs ++ above) s.rest p q → HasPair xs p ⊎ HasPair above p
    split (inl b) = absurd (s.none (b.place, b.first.stands))
    split (inr (inl h)) = (has_append xs above p).0 h.0
    split (inr (inr h)) = absurd (h.1 s.second)

    there : IsBefore ((xs ++ above) ++ s.rest) p q → HasPair xs p ⊎ HasPair above p
    there b = split ((before_in_two (xs ++ above) s.rest p q).0 b)

    back : HasPair xs p ⊎ HasPair above p → IsBefore ((xs ++ above) ++ s.rest) p q
    back h = (before_in_two (xs ++ above) s.rest p q).1 (inr (inl ((has_append xs above p).1 h, s.none, s.second)))

pub not_before_in : (xs items : List Item) (p q : Pair) → HasPair items p × (IsBefore items p q → ⊥) → IsBefore (xs ++ items) p q → ⊥
not_before_in xs items p q h b = which ((before_in_two xs items p q).0 b)
  where
    which : BeforeInTwo xs items p q → ⊥
    which (inl c) = h.1 c
    which (inr (inl c)) = c.1 h.0
    which (inr (inr c)) = c.0 h.0

pub before_in : (xs items : List Item) (p q : Pair) → IsBefore items p q → IsBefore (xs ++ items) p q
before_in xs items p q b = (before_in_two xs items p q).1 (inl b)

pub neither_in : (xs items : List Item) (p q : Pair) → (HasPair items p → ⊥) × (HasPair items q → ⊥) → IsBefore (xs ++ items) p q ↔ IsBefore xs p q
neither_in xs items p q h = before_above xs items p q h.0 h.1

-- ---- Answers

pub yes : {P : Type 0} → P → (true ≡ true → P) × (P → true ≡ true)
yes {P} h = (λ e. h, λ g. refl)

pub no : {P : Type 0} → (P → ⊥) → (false ≡ true → P) × (P → false ≡ true)
no {P} h = (λ e. absurd (false≢true e), λ g. absurd (h g))

-- a test by another fact that says the same
pub told_as : {P Q : Type 0} (b : Bool) → (b ≡ true) ↔ P → Q ↔ P → (b ≡ true) ↔ Q
told_as {P} {Q} b f g = (λ e. g.1 (f.0 e), λ h. f.1 (g.0 h))

pub second_alone : (items above : List Item) (p q : Pair) → IsSecond items above p q → IsBefore items p q ↔ HasPair above p
second_alone items above p q s = (λ b. there ((second_in [] items above p q s).0 b), λ h. (second_in [] items above p q s).1 (inr h))
  where
    there : HasPair [] p ⊎ HasPair above p → HasPair above p
    there (inl h) = absurd (nothing p h)
    there (inr h) = h
