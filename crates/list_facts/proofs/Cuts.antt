-- Where a list is cut: at the first element that passes a test, and at each one.
use Rattle.std.proofs.Common.{◌≡◌, ℕ, suc, ◌+◌, Bool, true, false, not, List, [], ◌∷◌, ◌++◌, length, take, drop, refl, sym, ◌∙◌, ap, arith}
use Rattle.std.proofs.lemmas.Bool.{false≢true}
use Rattle.std.specs.Prelude.{◌||◌, if◌then◌else◌}
use Rattle.std.specs.List.{AllByRecursion, position_or_len, before_first, after_first, slice_split, onto_first, list_any}

-- no element passes
abbrev pub None_of : {A : Type 0} → (A → Bool) → List A → Type 0
None_of p xs = AllByRecursion (λ x. p x ≡ false) xs

abbrev at_front : Bool → ℕ → ℕ
at_front passes n = if not passes then 1 + n else 0

pub position_here : {A : Type 0} (p : A → Bool) (x : A) (xs : List A) → p x ≡ true → position_or_len p (x ∷ xs) ≡ 0
position_here p x xs is = ap (λ (b : Bool). at_front b (position_or_len p xs)) is

pub position_later : {A : Type 0} (p : A → Bool) (x : A) (xs : List A) → p x ≡ false → position_or_len p (x ∷ xs) ≡ suc (position_or_len p xs)
position_later p x xs is = ap (λ (b : Bool). at_front b (position_or_len p xs)) is ∙ omega arith

pub before_here : {A : Type 0} (p : A → Bool) (x : A) (xs : List A) → p x ≡ true → before_first p (x ∷ xs) ≡ []
before_here p x xs is = ap (λ (n : ℕ). take n (x ∷ xs)) (position_here p x xs is)

pub before_later : {A : Type 0} (p : A → Bool) (x : A) (xs : List A) → p x ≡ false → before_first p (x ∷ xs) ≡ x ∷ before_first p xs
before_later p x xs is = ap (λ (n : ℕ). take n (x ∷ xs)) (position_later p x xs is)

pub after_here : {A : Type 0} (p : A → Bool) (x : A) (xs : List A) → p x ≡ true → after_first p (x ∷ xs) ≡ xs
after_here p x xs is = ap (λ (n : ℕ). drop (n + 1) (x ∷ xs)) (position_here p x xs is)

pub after_later : {A : Type 0} (p : A → Bool) (x : A) (xs : List A) → p x ≡ false → after_first p (x ∷ xs) ≡ after_first p xs
after_later p x xs is =
    let n = position_or_len p xs in
    let k : suc n + 1 ≡ suc (n + 1) = omega arith in
    ap (λ (m : ℕ). drop (m + 1) (x ∷ xs)) (position_later p x xs is) ∙ ap (λ (m : ℕ). drop m (x ∷ xs)) k

-- what stands before the first one hangs on nothing behind it
pub before_some : {A : Type 0} (p : A → Bool) (xs more : List A) → list_any p xs ≡ true → before_first p (xs ++ more) ≡ before_first p xs
before_some p [] more some = absurd (false≢true some)
before_some p (x ∷ xs) more some = which (before_some p xs more) (p x) refl
  where
    which : (list_any p xs ≡ true → before_first p (xs ++ more) ≡ before_first p xs) → (b : Bool) → p x ≡ b → before_first p (x ∷ xs ++ more) ≡ before_first p (x ∷ xs)
    which again true is = before_here p x (xs ++ more) is ∙ sym (before_here p x xs is)
    which again false is =
        let later : list_any p xs ≡ true = ap (λ (b : Bool). b || list_any p xs) (sym is) ∙ some in
        before_later p x (xs ++ more) is ∙ ap (λ zs. x ∷ zs) (again later) ∙ sym (before_later p x xs is)

pub after_some : {A : Type 0} (p : A → Bool) (xs more : List A) → list_any p xs ≡ true → after_first p (xs ++ more) ≡ after_first p xs ++ more
after_some p [] more some = absurd (false≢true some)
after_some p (x ∷ xs) more some = which (after_some p xs more) (p x) refl
  where
    which : (list_any p xs ≡ true → after_first p (xs ++ more) ≡ after_first p xs ++ more) → (b : Bool) → p x ≡ b → after_first p (x ∷ xs ++ more) ≡ after_first p (x ∷ xs) ++ more
    which again true is = after_here p x (xs ++ more) is ∙ ap (λ zs. zs ++ more) (sym (after_here p x xs is))
    which again false is =
        let later : list_any p xs ≡ true = ap (λ (b : Bool). b || list_any p xs) (sym is) ∙ some in
        after_later p x (xs ++ more) is ∙ again later ∙ ap (λ zs. zs ++ more) (sym (after_later p x xs is))

-- an element that passes ends what stands before it
pub before_stop : {A : Type 0} (p : A → Bool) (xs : List A) (x : A) (more : List A) → p x ≡ true → before_first p (xs ++ x ∷ more) ≡ before_first p xs
before_stop p [] x more is = before_here p x more is
before_stop p (y ∷ ys) x more is = which (before_stop p ys x more is) (p y) refl
  where
    which : before_first p (ys ++ x ∷ more) ≡ before_first p ys → (b : Bool) → p y ≡ b → before_first p (y ∷ ys ++ x ∷ more) ≡ before_first p (y ∷ ys)
    which again true here = before_here p y (ys ++ x ∷ more) here ∙ sym (before_here p y ys here)
    which again false here = before_later p y (ys ++ x ∷ more) here ∙ ap (λ zs. y ∷ zs) again ∙ sym (before_later p y ys here)

pub before_none : {A : Type 0} (p : A → Bool) (xs : List A) → None_of p xs → before_first p xs ≡ xs
before_none p [] fail = refl
before_none p (x ∷ xs) fail = before_later p x xs fail.0 ∙ ap (λ zs. x ∷ zs) (before_none p xs fail.1)

pub before_at : {A : Type 0} (p : A → Bool) (xs : List A) (x : A) (more : List A) → None_of p xs → p x ≡ true → before_first p (xs ++ x ∷ more) ≡ xs
before_at p xs x more fail is = before_stop p xs x more is ∙ before_none p xs fail

pub after_at : {A : Type 0} (p : A → Bool) (xs : List A) (x : A) (more : List A) → None_of p xs → p x ≡ true → after_first p (xs ++ x ∷ more) ≡ more
after_at p [] x more fail is = after_here p x more is
after_at p (y ∷ ys) x more fail is = after_later p y (ys ++ x ∷ more) fail.0 ∙ after_at p ys x more fail.1 is

pub position_at : {A : Type 0} (p : A → Bool) (xs : List A) (x : A) (more : List A) → None_of p xs → p x ≡ true → position_or_len p (xs ++ x ∷ more) ≡ length xs
position_at p [] x more fail is = position_here p x more is
position_at p (y ∷ ys) x more fail is = position_later p y (ys ++ x ∷ more) fail.0 ∙ ap suc (position_at p ys x more fail.1 is)

pub none_append : {A : Type 0} (p : A → Bool) (xs ys : List A) → None_of p xs → None_of p ys → None_of p (xs ++ ys)
none_append p [] ys front behind = behind
none_append p (x ∷ xs) ys front behind = (front.0, none_append p xs ys front.1 behind)

pub split_none : {A : Type 0} (p : A → Bool) (xs : List A) → None_of p xs → slice_split p xs ≡ xs ∷ []
split_none p [] fail = refl
split_none p (x ∷ xs) fail =
    ap (λ (b : Bool). if b then [] ∷ slice_split p xs else onto_first x (slice_split p xs)) fail.0 ∙ ap (onto_first x) (split_none p xs fail.1)

pub split_at : {A : Type 0} (p : A → Bool) (xs : List A) (x : A) (more : List A) → None_of p xs → p x ≡ true → slice_split p (xs ++ x ∷ more) ≡ xs ∷ slice_split p more
split_at p [] x more fail is = ap (λ (b : Bool). if b then [] ∷ slice_split p more else onto_first x (slice_split p more)) is
split_at p (y ∷ ys) x more fail is =
    ap (λ (b : Bool). if b then [] ∷ slice_split p (ys ++ x ∷ more) else onto_first y (slice_split p (ys ++ x ∷ more))) fail.0
    ∙ ap (onto_first y) (split_at p ys x more fail.1 is)
