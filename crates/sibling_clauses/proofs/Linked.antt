-- Combinators by their numbers.
use Rattle.std.proofs.Common.{Bool, List, [], ap, arith, false, get_or, length, refl, suc, true, zero, ℕ, ◌+◌, ◌-◌, ◌<◌, ◌∙◌, ◌∷◌, ◌≡◌, ◌≢◌, ◌≤◌}
use Rattle.std.specs.Prelude.{not, ◌&&◌}
use Rattle.formula_laws.specs.Counts.{left_follows, right_follows}
use Rattle.css_model.specs.declared.selector.Combinator.{Combinator}
use Rattle.formula_laws.specs.Path.{both_fit, left_fits, right_fits, same_bool}
use Rattle.grid_laws.specs.Grid.{goes_up, goes_up_at, waits, waits_at}
use Rattle.grid_laws.specs.Solved.{is_above}

pub up_first : (links : List Combinator) (k : ℕ) → k ≡ 0 → goes_up_at links k ≡ true
up_first links k e = ap (goes_up_at links) e

pub up_some : (links : List Combinator) (k : ℕ) (d : Combinator) → k ≢ 0 → k ≤ length links → goes_up_at links k ≡ goes_up (get_or links (k - 1) d)
up_some links zero d h less = absurd (h refl)
up_some links (suc k) d h less = at links k (omega arith) ∙ ap (λ (n : ℕ). goes_up (get_or links n d)) (let q : k ≡ suc k - 1 = omega arith in q)
  where
    at : (links : List Combinator) (k : ℕ) → k < length links → goes_up_at links (suc k) ≡ goes_up (get_or links k d)
    at [] k less = absurd (omega arith)
    at (l ∷ ls) zero less = refl
    at (l ∷ ls) (suc k) less = at ls k (omega arith)

pub up_none : (links : List Combinator) (k : ℕ) → k ≢ 0 → length links < k → goes_up_at links k ≡ false
up_none links zero h more = absurd (h refl)
up_none links (suc k) h more = at links k (omega arith)
  where
    at : (links : List Combinator) (k : ℕ) → length links ≤ k → goes_up_at links (suc k) ≡ false
    at [] k more = refl
    at (l ∷ ls) zero more = absurd (omega arith)
    at (l ∷ ls) (suc k) more = at ls k (omega arith)

pub waits_some : (links : List Combinator) (k : ℕ) (up : Bool) (d : Combinator) → k < length links → waits_at links k up ≡ waits (get_or links k d) up
waits_some [] k up d less = absurd (omega arith)
waits_some (l ∷ ls) zero up d less = refl
waits_some (l ∷ ls) (suc k) up d less = waits_some ls k up d (omega arith)

pub waits_none : (links : List Combinator) (k : ℕ) (up : Bool) → length links ≤ k → waits_at links k up ≡ true
waits_none [] k up more = refl
waits_none (l ∷ ls) zero up more = absurd (omega arith)
waits_none (l ∷ ls) (suc k) up more = waits_none ls k up (omega arith)

pub above_first : (links : List Combinator) (k : ℕ) → k ≡ 0 → is_above links k ≡ false
above_first links k e = ap (is_above links) e

pub above_later : (links : List Combinator) (k : ℕ) → k ≢ 0 → is_above links k ≡ goes_up_at links k
above_later links zero h = absurd (h refl)
above_later links (suc k) h = refl

pub ruleset links_read = (up_first, up_some, up_none, waits_some, waits_none, above_first, above_later)

pub left_first : (xl yl : List Combinator) (i j : ℕ) → i ≡ 0 → left_fits xl yl i j ≡ false
left_first xl yl i j e = ap (λ (k : ℕ). left_fits xl yl k j) e

pub left_later : (xl yl : List Combinator) (i j : ℕ) → i ≢ 0 → left_fits xl yl i j ≡ waits_at yl j (goes_up_at xl i)
left_later xl yl zero j h = absurd (h refl)
left_later xl yl (suc i) j h = refl

pub right_first : (xl yl : List Combinator) (i j : ℕ) → j ≡ 0 → right_fits xl yl i j ≡ false
right_first xl yl i j e = ap (λ (k : ℕ). right_fits xl yl i k) e

pub right_later : (xl yl : List Combinator) (i j : ℕ) → j ≢ 0 → right_fits xl yl i j ≡ waits_at xl i (goes_up_at yl j)
right_later xl yl i zero h = absurd (h refl)
right_later xl yl i (suc j) h = refl

pub both_first : (xl yl : List Combinator) (i j : ℕ) → i ≡ 0 → j ≡ 0 → both_fit xl yl i j ≡ true
both_first xl yl i j ei ej = ap (λ (k : ℕ). both_fit xl yl k j) ei ∙ ap (λ (k : ℕ). both_fit xl yl 0 k) ej

pub both_left_first : (xl yl : List Combinator) (i j : ℕ) → i ≡ 0 → j ≢ 0 → both_fit xl yl i j ≡ false
both_left_first xl yl i zero e h = absurd (h refl)
both_left_first xl yl i (suc j) e h = ap (λ (k : ℕ). both_fit xl yl k (suc j)) e

pub both_right_first : (xl yl : List Combinator) (i j : ℕ) → i ≢ 0 → j ≡ 0 → both_fit xl yl i j ≡ false
both_right_first xl yl zero j h e = absurd (h refl)
both_right_first xl yl (suc i) j h e = ap (λ (k : ℕ). both_fit xl yl (suc i) k) e

pub both_later : (xl yl : List Combinator) (i j : ℕ) → i ≢ 0 → j ≢ 0 → both_fit xl yl i j ≡ same_bool (goes_up_at xl i) (goes_up_at yl j)
both_later xl yl zero j h h' = absurd (h refl)
both_later xl yl (suc i) zero h h' = absurd (h' refl)
both_later xl yl (suc i) (suc j) h h' = refl

pub ruleset cells_read = (left_first, left_later, right_first, right_later, both_first, both_left_first, both_right_first, both_later)

pub left_follows_is : (xl yl : List Combinator) (i j : ℕ) → left_follows xl yl i j ≡ (not (goes_up_at xl (i + 1)) && (right_fits xl yl i j && left_fits xl yl (i + 1) j))
left_follows_is xl yl i j = ap (λ (k : ℕ). not (goes_up_at xl k) && (right_fits xl yl i j && left_fits xl yl k j)) (let e : suc i ≡ i + 1 = omega arith in e)

pub right_follows_is : (xl yl : List Combinator) (i j : ℕ) → right_follows xl yl i j ≡ (not (goes_up_at yl (j + 1)) && (left_fits xl yl i j && right_fits xl yl i (j + 1)))
right_follows_is xl yl i j = ap (λ (k : ℕ). not (goes_up_at yl k) && (left_fits xl yl i j && right_fits xl yl i k)) (let e : suc j ≡ j + 1 = omega arith in e)

pub ruleset follows_read = (left_follows_is, right_follows_is)
