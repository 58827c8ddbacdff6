-- What holds of a result.
use Rattle.std.specs.Prelude.{Result, Ok, Err, IfOk, OnOk}

pub ok_on : {A E : Type 0} (r : Result A E) (P Q : A → Type 0) → ((a : A) → P a → Q a) → IfOk r P → IfOk r Q
ok_on (Ok a) P Q on h = on a h
ok_on (Err e) P Q on h = h

pub if_fine : {A E P Q : Type 0} (r : Result A E) → (P → Q) → OnOk r P → OnOk r Q
if_fine (Ok a) on h = on h
if_fine (Err e) on h = h

pub if_both : {A E P Q R : Type 0} (r : Result A E) → (P → Q → R) → OnOk r P → OnOk r Q → OnOk r R
if_both (Ok a) on p q = on p q
if_both (Err e) on p q = p

pub on_fine : {A E P : Type 0} (r : Result A E) → P → OnOk r P
on_fine (Ok a) p = p
on_fine (Err e) p = tt

pub if_four : {A E P Q R S T : Type 0} (r : Result A E) → (P → Q → R → S → T) → OnOk r P → OnOk r Q → OnOk r R → OnOk r S → OnOk r T
if_four (Ok a) on p q r s = on p q r s
if_four (Err e) on p q r s = p
