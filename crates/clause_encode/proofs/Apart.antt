-- Ids that two compounds ask for, one simple selector after the other.
use Rattle.std.proofs.Common.{Bool, List, None, Option, Some, [], ap, arith, false, inl, inr, length, refl, subst, suc, sym, true, zero, ℕ, ◌&&◌, ◌+◌, ◌<◌, ◌||◌, ◌∙◌, ◌∷◌, ◌≡◌, ◌⊎◌}
use Rattle.std.proofs.Math.Path.{fun_ext}
use Rattle.std.proofs.lemmas.Bool.{and_from}
use Rattle.std.specs.List.{cons_option, filter_map, list_any}
use Rattle.clause_encode.specs.Given.{share, some_passes}
use Rattle.css_model.specs.Documents.SelectorParts.{SelectorParts}
use Rattle.css_model.specs.Lists.{same_text}
use Rattle.css_model.specs.declared.selector.Simple.{Simple}
use Rattle.formula_laws.specs.Allowed.{all_below, apart_in, own_ids_fit, share_id}
use Rattle.grid_laws.specs.Solved.{nth_compound}
use Rattle.slot_plan.specs.ValidShape.{asked_id}

-- a test of what is given is one of what gives it
pub any_given : {X Y : Type 0} (p : Y → Bool) (give : X → Option Y) (xs : List X) → list_any p (filter_map give xs) ≡ list_any (λ x. some_passes p (give x)) xs
any_given p give [] = refl
any_given p give (x ∷ xs) = split (give x) (any_given p give xs)
  where
    split : (o : Option _) → list_any p (filter_map give xs) ≡ list_any (λ x. some_passes p (give x)) xs → list_any p (cons_option o (filter_map give xs)) ≡ (some_passes p o || list_any (λ x. some_passes p (give x)) xs)
    split None rest = rest
    split (Some y) rest = ap (λ b. p y || b) rest

pub shares : (c d : List Simple) → share c d ≡ share_id c d
shares c d =
    ap (λ p. list_any (λ s. some_passes p (asked_id s)) c) (fun_ext (λ v. sym (any_given (λ w. same_text v w) asked_id d)))
    ∙ sym (any_given (λ v. list_any (λ w. same_text v w) (filter_map asked_id d)) asked_id c)

-- one number more
pub all_more : (k : ℕ) (p : ℕ → Bool) → all_below k p ≡ true → p k ≡ true → all_below (k + 1) p ≡ true
all_more k p h e = ap (λ (n : ℕ). all_below n p) (let q : k + 1 ≡ suc k = omega arith in q) ∙ and_from (all_below k p) (p k) h e

-- one that does not pass
pub all_not : (n k : ℕ) (p : ℕ → Bool) → k < n → p k ≡ false → all_below n p ≡ false
all_not zero k p less e = absurd (omega arith)
all_not (suc n) k p less e = split (last k n less) (λ h. all_not n k p h e)
  where
    last : (k n : ℕ) → k < suc n → (k < n) ⊎ (k ≡ n)
    last k n h = grind arith

    and_false : (b : Bool) → (b && false) ≡ false
    and_false true = refl
    and_false false = refl

    split : (k < n) ⊎ (k ≡ n) → (k < n → all_below n p ≡ false) → all_below (suc n) p ≡ false
    split (inl h) rest = ap (λ b. b && p n) (rest h)
    split (inr is) rest = ap (λ b. all_below n p && b) (subst (λ (m : ℕ). p m ≡ false) is e) ∙ and_false (all_below n p)

pub ruleset apart_found = (all_more, all_not)

-- compounds of a whole selector
pub own_apart : (x : SelectorParts) → length x.chain ≡ suc (length x.links) → all_below (length x.chain) (λ i. apart_in (nth_compound x.chain i) x.chain (length x.chain) true i) ≡ own_ids_fit x
own_apart x e = ap (λ (n : ℕ). all_below n (λ i. apart_in (nth_compound x.chain i) x.chain n true i)) e
