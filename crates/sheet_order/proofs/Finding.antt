-- The first places of pairs, put into a table one by one.
use Rattle.std.proofs.Common.{◌≡◌, Bool, true, false, List, [], ◌∷◌, ◌++◌, Option, Some, None, cond, is_some, refl, sym, ap, subst, ◌∙◌}
use Rattle.std.specs.Prelude.{◌||◌, if◌then◌else◌}
use Rattle.std.specs.List.{find, list_any}
use Rattle.std.specs.Option.{option_or}
use Rattle.std.proofs.lemmas.Bool.{false≢true}
use Rattle.std.proofs.lemmas.List.{append-nil, append_assoc}
use Rattle.std.proofs.lemmas.List.Folds.{find-append}
use Rattle.css_model.specs.Cascade.Order.{Pair}
use Rattle.indexmap.specs.IndexSet.{insert_key}
use Rattle.order_laws.specs.Members.{same_pair}
use Rattle.order_laws.specs.Places.{PlacedPair, has_pair}
use Rattle.sheet_order.specs.Keys.{inserted}
use Rattle.sheet_order.specs.Sameness.{pair_decides}

found_is : {X : Type 0} (f : X → Bool) (xs : List X) → is_some (find f xs) ≡ list_any f xs
found_is f [] = refl
found_is f (x ∷ xs) = which (f x) (found_is f xs)
  where
    which : (b : Bool) → is_some (find f xs) ≡ list_any f xs → is_some (cond b (Some x) (find f xs)) ≡ (b || list_any f xs)
    which true ih = refl
    which false ih = ih

or_found : {X : Type 0} (a b : Option X) → is_some a ≡ true → option_or a b ≡ a
or_found None b h = absurd (false≢true h)
or_found (Some x) b h = refl

or_nothing : {X : Type 0} (a : Option X) → option_or a None ≡ a
or_nothing None = refl
or_nothing (Some x) = refl

-- the first table has the first places of a list
abbrev AreFirsts : List PlacedPair → List PlacedPair → Type 0
AreFirsts firsts pairs = (p : Pair) → find (λ q. same_pair q.pair p) firsts ≡ find (λ q. same_pair q.pair p) pairs

first_next : (firsts pairs : List PlacedPair) (x : PlacedPair) → AreFirsts firsts pairs → AreFirsts (insert_key (λ p q. same_pair q.pair p.pair) firsts x) (pairs ++ x ∷ [])
first_next firsts pairs x are p = which (has_pair firsts x.pair) refl ∙ sym (find-append is pairs (x ∷ []))
  where
    is : PlacedPair → Bool
    is q = same_pair q.pair p

    there : has_pair firsts x.pair ≡ true → (b : Bool) → is x ≡ b → find is firsts ≡ option_or (find is pairs) (cond b (Some x) None)
    there e false same = are p ∙ sym (or_nothing (find is pairs))
    there e true same =
        let has : has_pair firsts p ≡ true = ap (has_pair firsts) (sym ((pair_decides x.pair p).0 same)) ∙ e in
        are p ∙ sym (or_found (find is pairs) (Some x) (ap is_some (sym (are p)) ∙ found_is is firsts ∙ has))

    which : (b : Bool) → has_pair firsts x.pair ≡ b → find is (if b then firsts else firsts ++ x ∷ []) ≡ option_or (find is pairs) (find is (x ∷ []))
    which true e = there e (is x) refl
    which false e = find-append is firsts (x ∷ []) ∙ ap (λ (o : Option PlacedPair). option_or o (find is (x ∷ []))) (are p)

all_firsts : (firsts pairs more : List PlacedPair) → AreFirsts firsts pairs → AreFirsts (inserted firsts more) (pairs ++ more)
all_firsts firsts pairs [] are = subst (AreFirsts firsts) (sym (append-nil pairs)) are
all_firsts firsts pairs (x ∷ more) are =
    subst (AreFirsts (inserted (insert_key (λ p q. same_pair q.pair p.pair) firsts x) more)) (append_assoc pairs (x ∷ []) more)
    (all_firsts (insert_key (λ p q. same_pair q.pair p.pair) firsts x) (pairs ++ x ∷ []) more (first_next firsts pairs x are))

-- what a table of pairs finds
found_first : (pairs : List PlacedPair) (p : Pair) → find (λ q. same_pair q.pair p) (inserted [] pairs) ≡ find (λ q. same_pair q.pair p) pairs
found_first pairs p = all_firsts [] [] pairs (λ q. refl) p

pub found_in : (firsts pairs seen : List PlacedPair) (p : Pair) (found : Option PlacedPair) → firsts ≡ inserted [] pairs → seen ≡ pairs →
    found ≡ find (λ q. same_pair q.pair p) firsts → found ≡ find (λ q. same_pair q.pair p) seen
found_in firsts pairs seen p found table list is =
    is ∙ ap (find (λ q. same_pair q.pair p)) table ∙ found_first pairs p ∙ ap (find (λ q. same_pair q.pair p)) (sym list)

-- and what it has
pub has_first : (pairs : List PlacedPair) (p : Pair) → has_pair (inserted [] pairs) p ≡ has_pair pairs p
has_first pairs p = sym (found_is (λ q. same_pair q.pair p) (inserted [] pairs)) ∙ ap is_some (found_first pairs p) ∙ found_is (λ q. same_pair q.pair p) pairs
