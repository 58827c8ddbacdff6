-- The parts of an item stand in it.
use Rattle.std.proofs.Common.{◌≡◌, ◌≢◌, subst, ℕ, Bool, true, false, List, [], ◌∷◌, ◌++◌, take, drop, refl, sym, ◌∙◌, ap, append_assoc}
use Rattle.std.proofs.lemmas.List.{take-append-drop}
use Rattle.std.specs.Prelude.{if◌then◌else◌}
use Rattle.std.specs.List.{AllByRecursion, before_first, slice_split, onto_first}
use Rattle.list_facts.proofs.Cuts.{None_of, before_here, before_later}
use Rattle.sheet_laws.proofs.Printed.Joins.{StandsIn, stands_front, stands_behind, stands_inside}
use Rattle.list_facts.proofs.Zips.{cons_not_empty}

-- what holds of each element of a list holds of those of a part of it
pub each_inside : {A : Type 0} (P : A → Type 0) (whole part : List A) → StandsIn whole part → AllByRecursion P whole → AllByRecursion P part
each_inside {A = A} P whole part inside each = upper part inside.behind (lower inside.front (part ++ inside.behind) (subst (AllByRecursion P) (inside.is ∙ append_assoc inside.front part inside.behind) each))
  where
    lower : (xs ys : List A) → AllByRecursion P (xs ++ ys) → AllByRecursion P ys
    lower [] ys each = each
    lower (x ∷ xs) ys each = lower xs ys each.1

    upper : (xs ys : List A) → AllByRecursion P (xs ++ ys) → AllByRecursion P xs
    upper [] ys each = tt
    upper (x ∷ xs) ys each = (each.0, upper xs ys each.1)

pub stands_taken : {A : Type 0} (n : ℕ) (xs : List A) → StandsIn xs (take n xs)
stands_taken n xs = subst (λ zs. StandsIn zs (take n xs)) (take-append-drop n xs) (stands_front (take n xs) (drop n xs))

pub stands_dropped : {A : Type 0} (n : ℕ) (xs : List A) → StandsIn xs (drop n xs)
stands_dropped n xs = subst (λ zs. StandsIn zs (drop n xs)) (take-append-drop n xs) (stands_behind (take n xs) (drop n xs))

pub none_before : {A : Type 0} (p : A → Bool) (xs : List A) → None_of p (before_first p xs)
none_before p [] = tt
none_before p (x ∷ xs) = which (p x) refl (none_before p xs)
  where
    which : (b : Bool) → p x ≡ b → None_of p (before_first p xs) → None_of p (before_first p (x ∷ xs))
    which true is later = subst (None_of p) (sym (before_here p x xs is)) tt
    which false is later = subst (None_of p) (sym (before_later p x xs is)) (is, later)

-- a part of a list without an element that passes
pub record IsPart {A : Type 0} (p : A → Bool) (whole part : List A) : Type 0 where
  pub stands : StandsIn whole part
  pub none : None_of p part

-- the first part stands at the front
record AreParts {A : Type 0} (p : A → Bool) (xs : List A) (parts : List (List A)) : Type 0 where
  first : List A
  others : List (List A)
  is : parts ≡ first ∷ others
  behind : List A
  whole : xs ≡ first ++ behind
  none : None_of p first
  each : AllByRecursion (IsPart p xs) others

wider_parts : {A : Type 0} (p : A → Bool) (outer inner : List A) → StandsIn outer inner → (parts : List (List A)) → AllByRecursion (IsPart p inner) parts → AllByRecursion (IsPart p outer) parts
wider_parts p outer inner inside [] each = tt
wider_parts p outer inner inside (part ∷ parts) each = (record { stands = stands_inside outer inner part inside each.0.stands; none = each.0.none }, wider_parts p outer inner inside parts each.1)

parts_stand : {A : Type 0} (p : A → Bool) (xs : List A) → AreParts p xs (slice_split p xs)
parts_stand p [] = record { first = []; others = []; is = refl; behind = []; whole = refl; none = tt; each = tt }
parts_stand p (x ∷ xs) = which (p x) refl (parts_stand p xs)
  where
    which : (b : Bool) → p x ≡ b → AreParts p xs (slice_split p xs) → AreParts p (x ∷ xs) (if b then [] ∷ slice_split p xs else onto_first x (slice_split p xs))
    which true is rest =
        record {
          first = [];
          others = slice_split p xs;
          is = refl;
          behind = x ∷ xs;
          whole = refl;
          none = tt;
          each = subst (AllByRecursion (IsPart p (x ∷ xs))) (sym rest.is)
              (wider_parts p (x ∷ xs) xs (stands_behind (x ∷ []) xs) (rest.first ∷ rest.others)
              (record { stands = subst (λ zs. StandsIn zs rest.first) (sym rest.whole) (stands_front rest.first rest.behind); none = rest.none }, rest.each));
        }
    which false is rest =
        record {
          first = x ∷ rest.first;
          others = rest.others;
          is = ap (onto_first x) rest.is;
          behind = rest.behind;
          whole = ap (λ zs. x ∷ zs) rest.whole;
          none = (is, rest.none);
          each = wider_parts p (x ∷ xs) xs (stands_behind (x ∷ []) xs) rest.others rest.each;
        }

-- Each part of a list that is cut stands in it, and there is one.
pub split_stands : {A : Type 0} (p : A → Bool) (xs : List A) → AllByRecursion (IsPart p xs) (slice_split p xs)
split_stands p xs =
    let all = parts_stand p xs in
    subst (AllByRecursion (IsPart p xs)) (sym all.is)
    (record { stands = subst (λ zs. StandsIn zs all.first) (sym all.whole) (stands_front all.first all.behind); none = all.none }, all.each)

pub split_some : {A : Type 0} (p : A → Bool) (xs : List A) → slice_split p xs ≢ []
split_some p xs e = let all = parts_stand p xs in absurd (cons_not_empty all.first all.others (sym all.is ∙ e))
