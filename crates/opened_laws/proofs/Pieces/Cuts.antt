-- Rows that agree place by place, cut at one place.
use Rattle.std.proofs.Common.{◌≡◌, List, [], ◌∷◌, ◌++◌, length, arith}
use Rattle.std.specs.List.{AllZip}
use Rattle.list_facts.proofs.Zips.{AllLast}

-- Two rows of as many elements before others.
pub record AreCut {A B : Type 0} (R L : A → B → Type 0) (us : List A) (vs : List A) (cs : List B) (ds : List B) : Type 0 where
  pub front : AllZip R us cs
  pub behind : AllLast R L vs ds

pub cut_last : {A B : Type 0} (R L : A → B → Type 0) (us : List A) (b : A) (vs : List A) (cs : List B) (d : B) (ds : List B) → length us ≡ length cs →
    AllLast R L (us ++ b ∷ vs) (cs ++ d ∷ ds) → AreCut R L us (b ∷ vs) cs (d ∷ ds)
cut_last R L [] b vs [] d ds size z = record { front = tt; behind = z }
cut_last R L [] b vs (c ∷ cs) d ds size z = absurd (omega (arith, size))
cut_last R L (a ∷ us) b vs [] d ds size z = absurd (omega (arith, size))
cut_last R L (a ∷ []) b vs (c ∷ []) d ds size z = record { front = (z.0, tt); behind = z.1 }
cut_last R L (a ∷ []) b vs (c ∷ c' ∷ cs) d ds size z = absurd (omega (arith, size))
cut_last R L (a ∷ a' ∷ us) b vs (c ∷ []) d ds size z = absurd (omega (arith, size))
cut_last R L (a ∷ a' ∷ us) b vs (c ∷ c' ∷ cs) d ds size z =
    let rest = cut_last R L (a' ∷ us) b vs (c' ∷ cs) d ds (omega (arith, size)) z.1 in
    record { front = (z.0, rest.front); behind = rest.behind }

pub behind_front : {A B : Type 0} (R : A → B → Type 0) (us vs : List A) (cs ds : List B) → length us ≡ length cs → AllZip R (us ++ vs) (cs ++ ds) → AllZip R vs ds
behind_front R [] vs [] ds size z = z
behind_front R [] vs (c ∷ cs) ds size z = absurd (omega (arith, size))
behind_front R (a ∷ us) vs [] ds size z = absurd (omega (arith, size))
behind_front R (a ∷ us) vs (c ∷ cs) ds size z = behind_front R us vs cs ds (omega (arith, size)) z.1

-- what holds of the first two, whether they are the last ones or not
pub first_of_rows : {A B : Type 0} (R L Q : A → B → Type 0) → ((y : A) (x : B) → R y x → Q y x) → ((y : A) (x : B) → L y x → Q y x) → (y : A) (ys : List A) (x : B) (xs : List B) →
    AllLast R L (y ∷ ys) (x ∷ xs) → Q y x
first_of_rows R L Q r l y [] x [] z = l y x z
first_of_rows R L Q r l y [] x (x' ∷ xs) z = absurd z
first_of_rows R L Q r l y (y' ∷ ys) x [] z = absurd z
first_of_rows R L Q r l y (y' ∷ ys) x (x' ∷ xs) z = r y x z.0
