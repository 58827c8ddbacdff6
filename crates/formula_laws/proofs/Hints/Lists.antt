-- What holds of all items of lists that are put together.
use Rattle.std.proofs.Common.{Bool, IsTrue, List, [], arith, false, map, refl, suc, true, zero, ℕ, ◌++◌, ◌<◌, ◌∷◌, ◌≡◌}
use Rattle.std.specs.List.{AllByRecursion, list_all}
use Rattle.cnf.proofs.ForCallers.{list_all-append-from}
use Rattle.formula_laws.specs.Path.{each_below, only_if}

pub all_of_both : {A : Type 0} (P : A → Type 0) (xs ys : List A) → AllByRecursion P xs → AllByRecursion P ys → AllByRecursion P (xs ++ ys)
all_of_both P [] ys hx hy = hy
all_of_both P (x ∷ xs) ys hx hy = (hx.0, all_of_both P xs ys hx.1 hy)

pub all_if : {A : Type 0} (P : A → Type 0) (b : Bool) (xs : List A) → (b ≡ true → AllByRecursion P xs) → AllByRecursion P (only_if b xs)
all_if P true xs h = h refl
all_if P false xs h = tt

pub all_each : {A : Type 0} (P : A → Type 0) (n : ℕ) (make : ℕ → List A) → ((k : ℕ) → k < n → AllByRecursion P (make k)) → AllByRecursion P (each_below n make)
all_each P zero make each = tt
all_each P (suc n) make each = all_of_both P (each_below n make) (make n) (all_each P n make (λ k less. each k (omega arith))) (each n (omega arith))

pub all_mapped : {A B : Type 0} (P : A → Type 0) (Q : B → Type 0) (f : A → B) → ((x : A) → P x → Q (f x)) → (xs : List A) → AllByRecursion P xs → AllByRecursion Q (map f xs)
all_mapped P Q f to [] h = tt
all_mapped P Q f to (x ∷ xs) h = (to x h.0, all_mapped P Q f to xs h.1)

-- the same of tests
pub passes_if : {A : Type 0} (p : A → Bool) (b : Bool) (xs : List A) → (b ≡ true → IsTrue (list_all p xs)) → IsTrue (list_all p (only_if b xs))
passes_if p true xs h = h refl
passes_if p false xs h = refl

pub passes_each : {A : Type 0} (p : A → Bool) (n : ℕ) (make : ℕ → List A) → ((k : ℕ) → k < n → IsTrue (list_all p (make k))) → IsTrue (list_all p (each_below n make))
passes_each p zero make each = refl
passes_each p (suc n) make each = list_all-append-from p (each_below n make) (make n) (passes_each p n make (λ k less. each k (omega arith))) (each n (omega arith))
