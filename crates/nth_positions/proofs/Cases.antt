-- Which way a test went, and what an option is.
use Rattle.std.proofs.Common.{◌≡◌, ◌⊎◌, inl, inr, Bool, true, false, cond, refl, ◌&&◌, ◌||◌}
use Rattle.std.specs.Prelude.{Some, None}

pub chosen : {A : Type 0} (b : Bool) (x y z : A) → cond b x y ≡ z → ((b ≡ true) × (x ≡ z)) ⊎ ((b ≡ false) × (y ≡ z))
chosen true x y z e = inl (refl, e)
chosen false x y z e = inr (refl, e)

pub both_are : (a b : Bool) → (a && b) ≡ true → (a ≡ true) × (b ≡ true)
both_are true true h = (refl, refl)
both_are true false h = (refl, h)
both_are false b h = cc

pub one_is : (a b : Bool) → (a || b) ≡ true → (a ≡ true) ⊎ (b ≡ true)
one_is true b h = inl refl
one_is false b h = inr h

pub same_some : {A : Type 0} {x y : A} → Some x ≡ Some y → x ≡ y
same_some e = cc

pub none_is_no_some : {A : Type 0} {x : A} → None ≡ Some x → ⊥
none_is_no_some e = cc

pub neither_is : (a b : Bool) → (a || b) ≡ false → (a ≡ false) × (b ≡ false)
neither_is true b h = cc
neither_is false b h = (refl, h)

pub not_with_false : {A : Type 0} (b : Bool) (x y : A) → cond (b && false) x y ≡ y
not_with_false true x y = refl
not_with_false false x y = refl
