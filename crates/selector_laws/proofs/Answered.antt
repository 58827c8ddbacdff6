-- What holds of an answer, if there is one.
use Rattle.std.proofs.Common.{◌≡◌, ℕ, Bool, true, false, cond, Option, Some, None, Result, Ok, Err, List, [], ◌∷◌, refl}
use Rattle.std.specs.List.{AllByRecursion}
use Rattle.css_model.specs.declared.reason.Reason.{Reason}
use Rattle.css_model.specs.Selectors.Tokens.{is_word, row_of}

abbrev pub Holds : {A : Type 0} → (A → Type 0) → Result A Reason → Type 0
Holds P (Ok x) = P x
Holds P (Err reason) = Unit {0}

pub either : {A : Type 0} (P : A → Type 0) (b : Bool) (r t : Result A Reason) → (b ≡ true → Holds P r) → (b ≡ false → Holds P t) → Holds P (cond b r t)
either P true r t first second = first refl
either P false r t first second = second refl

pub passed_on : {A : Type 0} (P Q : A → Type 0) (r : Result A Reason) → Holds P r → ((x : A) → P x → Q x) → Holds Q r
passed_on P Q (Ok x) holds on = on x holds
passed_on P Q (Err reason) holds on = tt

abbrev pub HoldsOfSome : {A : Type 0} → (A → Type 0) → Option A → Type 0
HoldsOfSome P (Some x) = P x
HoldsOfSome P None = Unit {0}

-- what stands in the row of a name is what stands in one of the rows
pub row_holds : {A : Type 0} (P : A → Type 0) (name : List ℕ) (rows : List (List ℕ × A)) → AllByRecursion (λ r. P r.1) rows → HoldsOfSome P (row_of name rows)
row_holds P name [] all = tt
row_holds {A = A} P name (r ∷ rows) all = cases (is_word r.0 name) (row_holds P name rows all.1)
  where
    cases : (b : Bool) → HoldsOfSome P (row_of name rows) → HoldsOfSome P (cond {A = Option A} b (Some r.1) (row_of name rows))
    cases true later = all.0
    cases false later = later
