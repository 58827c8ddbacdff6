-- Facts of what a call returned, put together.
use Rattle.std.specs.Prelude.{Result, Ok, Err, IfOk, OnOk}

module _ {A E : Type 0} where
  pub ok_three : (r : Result A E) (P Q R S : A → Type 0) → ((a : A) → P a → Q a → R a → S a) → IfOk r P → IfOk r Q → IfOk r R → IfOk r S
  ok_three (Ok a) P Q R S f p q h = f a p q h
  ok_three (Err e) P Q R S f p q h = tt

  pub on_ok : (r : Result A E) (P Q : Type 0) → (P → Q) → OnOk r P → OnOk r Q
  on_ok (Ok a) P Q f p = f p
  on_ok (Err e) P Q f p = tt

  pub on_both : (r : Result A E) (P Q R : Type 0) → (P → Q → R) → OnOk r P → OnOk r Q → OnOk r R
  on_both (Ok a) P Q R f p q = f p q
  on_both (Err e) P Q R f p q = tt

  pub on_three : (r : Result A E) (P Q R S : Type 0) → (P → Q → R → S) → OnOk r P → OnOk r Q → OnOk r R → OnOk r S
  on_three (Ok a) P Q R S f p q h = f p q h
  on_three (Err e) P Q R S f p q h = tt

  pub on_four : (r : Result A E) (P Q R S T : Type 0) → (P → Q → R → S → T) → OnOk r P → OnOk r Q → OnOk r R → OnOk r S → OnOk r T
  on_four (Ok a) P Q R S T f p q h k = f p q h k
  on_four (Err e) P Q R S T f p q h k = tt
