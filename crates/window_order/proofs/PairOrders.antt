-- How two pairs stand in items, and what the parts at the ends of a window tell of their order.
use Rattle.std.proofs.Common.{◌≡◌, ◌↔◌, ◌⊎◌, Bool, true, false, not, List, ◌++◌, refl, sym, ◌∙◌, subst, inl, inr}
use Rattle.std.specs.Bool.{beq}
use Rattle.std.proofs.lemmas.Bool.{false≢true, not-true, not_from_false, false_from_ne_true}
use Rattle.css_model.specs.Cascade.Order.{Pair, HasPair, IsBefore}
use Rattle.css_model.specs.declared.sheet.Item.{Item}
use Rattle.order_laws.proofs.ForCallers.{has_append, before_in_two}
use Rattle.order_laws.specs.Reversing.{Differ}
use Rattle.window_order.proofs.LastFound.{before_in, in_neither, neither_in, no, not_before_in, second_alone, yes}
use Rattle.window_order.specs.Found.{IsSecond}
use Rattle.window_order.specs.Orders.{AreAlwaysSame, AreEnds, IsOrder, comes_before, first_alone, is_before, joined, second_below}
use Rattle.window_order.specs.declared.ends.PairEnds.{PairEnds}
use Rattle.window_order.specs.declared.order.PairOrder.{PairOrder}
use Rattle.window_order.specs.declared.order.PairOrder.TheVariants.{Before, NotBefore, Second, Neither}

-- ---- In some items

-- the second pair alone stands in the last one that has one of them
pub second_is : (items above : List Item) (p q : Pair) (b : Bool) → IsSecond items above p q → (b ≡ true) ↔ HasPair above p → IsOrder items p q (second_below b)
second_is items above p q true s told = (second_alone items above p q s).1 (told.0 refl)
second_is items above p q false s told = (λ h. none ((has_append above s.rest p).0 (subst (λ xs. HasPair xs p) s.parts h)), subst (λ xs. HasPair xs q) (sym s.parts) ((has_append above s.rest q).1 (inr s.second)))
  where
    none : HasPair above p ⊎ HasPair s.rest p → ⊥
    none (inl h) = false≢true (told.1 h)
    none (inr h) = s.none h

-- the second pair does not stand in them
pub first_alone_is : (items : List Item) (p q : Pair) (b : Bool) → (HasPair items q → ⊥) → (b ≡ true) ↔ HasPair items p → IsOrder items p q (first_alone b)
first_alone_is items p q true none told = (told.0 refl, λ b. none (b.later, b.second.stands))
first_alone_is items p q false none told = (λ h. false≢true (told.1 h), none)

-- the items have one order: so it does not matter that it is not looked for
pub no_order : (items : List Item) (p q : Pair) → ((order : PairOrder) → IsOrder items p q order → ⊥) → ⊥
no_order items p q f = f Neither (none, λ h. f Second (none, h))
  where
    none : HasPair items p → ⊥
    none h = f NotBefore (h, f Before)

-- ---- In two parts

across : (xs ys : List Item) (p q : Pair) → HasPair xs p → (HasPair ys p → ⊥) × HasPair ys q → IsBefore (xs ++ ys) p q
across xs ys p q has g = (before_in_two xs ys p q).1 (inr (inl (has, g.0, g.1)))

pub joined_is : (xs ys : List Item) (p q : Pair) (a b : PairOrder) → IsOrder xs p q a → IsOrder ys p q b → IsOrder (xs ++ ys) p q (joined a b)
joined_is xs ys p q a Before h g = before_in xs ys p q g
joined_is xs ys p q a NotBefore h g = ((has_append xs ys p).1 (inr g.0), not_before_in xs ys p q g)
joined_is xs ys p q Before Second h g = across xs ys p q (h.place, h.first.stands) g
joined_is xs ys p q NotBefore Second h g = across xs ys p q h.0 g
joined_is xs ys p q Second Second h g = (in_neither xs ys p h.0 g.0, (has_append xs ys q).1 (inr g.1))
joined_is xs ys p q Neither Second h g = (in_neither xs ys p h.0 g.0, (has_append xs ys q).1 (inr g.1))
joined_is xs ys p q Before Neither h g = (neither_in xs ys p q g).1 h
joined_is xs ys p q NotBefore Neither h g = ((has_append xs ys p).1 (inl h.0), λ b. h.1 ((neither_in xs ys p q g).0 b))
joined_is xs ys p q Second Neither h g = (in_neither xs ys p h.0 g.0, (has_append xs ys q).1 (inl h.1))
joined_is xs ys p q Neither Neither h g = (in_neither xs ys p h.0 g.0, in_neither xs ys q h.1 g.1)

before_is : (items : List Item) (p q : Pair) (order : PairOrder) → IsOrder items p q order → (is_before order ≡ true) ↔ IsBefore items p q
before_is items p q Before h = yes h
before_is items p q NotBefore h = no h.1
before_is items p q Second h = no (λ b. h.0 (b.place, b.first.stands))
before_is items p q Neither h = no (λ b. h.0 (b.place, b.first.stands))

-- ---- In three parts

pub before_with : (first middle last : List Item) (p q : Pair) (ends : PairEnds) (between : PairOrder) → AreEnds first last p q ends → IsOrder middle p q between → (comes_before ends between ≡ true) ↔ IsBefore (first ++ (middle ++ last)) p q
before_with first middle last p q ends between at is =
    before_is (first ++ (middle ++ last)) p q (joined ends.above (joined between ends.below))
    (joined_is first (middle ++ last) p q ends.above (joined between ends.below) at.0 (joined_is middle last p q between ends.below is at.1))

-- ---- Before and after

equal : (a b : Bool) → beq a b ≡ true → a ≡ b
equal true true e = refl
equal true false e = absurd (false≢true e)
equal false true e = absurd (false≢true e)
equal false false e = refl

-- facts with equal tests do not differ
pub none_differ : {P Q : Type 0} (a b : Bool) → a ≡ b → (a ≡ true) ↔ P → (b ≡ true) ↔ Q → Differ P Q → ⊥
none_differ {P} {Q} a b e f g (inl h) = h.1 (g.0 (sym e ∙ f.1 h.0))
none_differ {P} {Q} a b e f g (inr h) = h.0 (f.0 (e ∙ g.1 h.1))

-- facts differ where their tests do
pub differ_is : {P Q : Type 0} (a b : Bool) → (a ≡ true) ↔ P → (b ≡ true) ↔ Q → (not (beq a b) ≡ true) ↔ Differ P Q
differ_is {P} {Q} a b f g = (λ e. there a b f g (not-true (beq a b) e), λ d. not_from_false (beq a b) (false_from_ne_true (beq a b) (λ e. none_differ a b (equal a b e) f g d)))
  where
    there : (a b : Bool) → (a ≡ true) ↔ P → (b ≡ true) ↔ Q → beq a b ≡ false → Differ P Q
    there true true f g e = absurd (false≢true (sym e))
    there true false f g e = inl (f.0 refl, λ h. false≢true (g.1 h))
    there false true f g e = inr (λ h. false≢true (f.1 h), g.0 refl)
    there false false f g e = absurd (false≢true (sym e))

-- a test by an equal one
pub tested : {P : Type 0} (a b : Bool) → a ≡ b → (b ≡ true) ↔ P → (a ≡ true) ↔ P
tested {P} a b e f = (λ h. f.0 (sym e ∙ h), λ h. e ∙ f.1 h)

-- it need not be known what stands between, where the parts at the ends tell
pub never_other : (first middle last first' last' : List Item) (p q : Pair) (old new : PairEnds) → AreAlwaysSame old new → AreEnds first last p q old → AreEnds first' last' p q new →
    Differ (IsBefore (first ++ (middle ++ last)) p q) (IsBefore (first' ++ (middle ++ last')) p q) → ⊥
never_other first middle last first' last' p q old new same at at' d = no_order middle p q (λ between is.
    none_differ (comes_before old between) (comes_before new between) (equal (comes_before old between) (comes_before new between) (same between))
    (before_with first middle last p q old between at is) (before_with first' middle last' p q new between at' is) d)
