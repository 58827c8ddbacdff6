-- Lists of numbers, and lists whose members may be errors.
use Rattle.std.specs.Prelude.{ℕ, zero, suc, ◌==◌, ◌&&◌, Bool, true, false, List, [], ◌∷◌, Option, Some, None, Result, Ok, Err, nat_eq}
use Rattle.std.specs.Cmp.Lexicographic.{pointwise}

-- whether two texts are equal: names arrive decoded, and where HTML compares them without case, in
-- lower case (Selectors 3, section 3, leaves it to the document language)
abbrev pub same_text : List ℕ → List ℕ → Bool
same_text = pointwise nat_eq

-- whether a list has no member
abbrev pub is_empty : List ℕ → Bool
is_empty [] = true
is_empty (c ∷ cs) = false

-- whether a text begins with v
abbrev pub begins_with : List ℕ → List ℕ → Bool
begins_with text [] = true
begins_with [] (d ∷ v) = false
begins_with (c ∷ text) (d ∷ v) = c == d && begins_with text v

-- a number less one, and 0 of 0
abbrev pub less_one : ℕ → ℕ
less_one zero = 0
less_one (suc n) = n

-- whether there is a value
abbrev pub is_some : {A : Type 0} → Option A → Bool
is_some None = false
is_some (Some x) = true

-- the results of a list's members, or the first error among them
abbrev pub before_all : {A E : Type 0} → Result A E → Result (List A) E → Result (List A) E
before_all (Err e) rest = Err e
before_all (Ok x) (Err e) = Err e
before_all (Ok x) (Ok xs) = Ok (x ∷ xs)

abbrev pub all_of : {A B E : Type 0} → (A → Result B E) → List A → Result (List B) E
all_of f [] = Ok []
all_of f (x ∷ xs) = before_all (f x) (all_of f xs)
