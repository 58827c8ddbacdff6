-- What a refusal tells, if there is one.
use Rattle.std.proofs.Common.{◌≡◌, ◌&&◌, Bool, true, false, cond, Result, Ok, Err, refl}
use Rattle.std.proofs.lemmas.Bool.{false≢true}
use Rattle.css_model.specs.declared.reason.Reason.{Reason}

abbrev pub Tells : {A : Type 0} → (Reason → Type 0) → Result A Reason → Type 0
Tells P (Ok x) = Unit {0}
Tells P (Err reason) = P reason

pub either : {A : Type 0} (P : Reason → Type 0) (b : Bool) (r t : Result A Reason) → (b ≡ true → Tells P r) → (b ≡ false → Tells P t) → Tells P (cond b r t)
either P true r t first second = first refl
either P false r t first second = second refl

pub passed_on : {A : Type 0} (P Q : Reason → Type 0) (r : Result A Reason) → Tells P r → ((reason : Reason) → P reason → Q reason) → Tells Q r
passed_on P Q (Ok x) told on = tt
passed_on P Q (Err reason) told on = on reason told

pub first_of : (a b : Bool) → (a && b) ≡ true → a ≡ true
first_of true b h = refl
first_of false b h = absurd (false≢true h)

pub second_of : (a b : Bool) → (a && b) ≡ true → b ≡ true
second_of true b h = h
second_of false b h = absurd (false≢true h)

pub second_fails : (a b : Bool) → a ≡ true → (a && b) ≡ false → b ≡ false
second_fails true b is h = h
second_fails false b is h = absurd (false≢true is)
