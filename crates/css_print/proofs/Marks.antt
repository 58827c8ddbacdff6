-- When a text begins with a byte order mark.
use Rattle.std.proofs.Common.{ℕ, ◌+◌, ◌-◌, ◌≡◌, Bool, true, false, ◌&&◌, cond, List, [], ◌∷◌, min, refl, ap, arith}
use Rattle.std.specs.Prelude.{nat_eq}
use Rattle.std.specs.List.{starts_with}
use Rattle.css_model.specs.Text.Tokens.{byte_order_mark}
use Rattle.css_print.specs.declared.tally.Front.{Front}
use Rattle.css_print.specs.declared.tally.Front.TheVariants.{Nothing, One, Two, Mark, Other}
use Rattle.css_print.specs.Fronts.{longer, is_mark, is_settled, behind}

pub behind_settled : (front : Front) (text : List ℕ) → is_settled front ≡ true → behind front text ≡ front
behind_settled front [] settled = refl
behind_settled Mark (c ∷ cs) settled = behind_settled Mark cs refl
behind_settled Other (c ∷ cs) settled = behind_settled Other cs refl
behind_settled Nothing (c ∷ cs) settled = absurd (cc)
behind_settled One (c ∷ cs) settled = absurd (cc)
behind_settled Two (c ∷ cs) settled = absurd (cc)

other_behind : (cs : List ℕ) → is_mark (behind Other cs) ≡ false
other_behind cs = ap is_mark (behind_settled Other cs refl)

and_no : (b : Bool) → (b && false) ≡ false
and_no true = refl
and_no false = refl

third : (z : Bool) (cs : List ℕ) → is_mark (behind (cond z Mark Other) cs) ≡ (z && true)
third true cs = ap is_mark (behind_settled Mark cs refl)
third false cs = other_behind cs

second : (y : Bool) (c : ℕ) (cs : List ℕ) → is_mark (behind (longer (cond y Two Other) c) cs) ≡ (y && (nat_eq 0xBF c && true))
second true c cs = third (nat_eq 0xBF c) cs
second false c cs = other_behind cs

first : (x : Bool) (b c : ℕ) (cs : List ℕ) → is_mark (behind (longer (longer (cond x One Other) b) c) cs) ≡ (x && (nat_eq 0xBB b && (nat_eq 0xBF c && true)))
first true b c cs = second (nat_eq 0xBB b) c cs
first false b c cs = other_behind cs

one_byte : (x : Bool) → is_mark (cond x One Other) ≡ (x && false)
one_byte true = refl
one_byte false = refl

two_more : (y : Bool) → is_mark (cond y Two Other) ≡ (y && false)
two_more true = refl
two_more false = refl

two_bytes : (x : Bool) (b : ℕ) → is_mark (longer (cond x One Other) b) ≡ (x && (nat_eq 0xBB b && false))
two_bytes true b = two_more (nat_eq 0xBB b)
two_bytes false b = refl

pub mark_starts : (text : List ℕ) → is_mark (behind Nothing text) ≡ starts_with nat_eq text byte_order_mark
mark_starts [] = refl
mark_starts (a ∷ []) = one_byte (nat_eq 0xEF a)
mark_starts (a ∷ b ∷ []) = two_bytes (nat_eq 0xEF a) b
mark_starts (a ∷ b ∷ c ∷ cs) = first (nat_eq 0xEF a) b c cs

-- the lengths that are counted
pub counted : (most len : ℕ) → most - (most - len) ≡ min len most
counted most len = omega arith

pub counted_more : (most len : ℕ) → min (most - (most - len) + 1) most ≡ min (len + 1) most
counted_more most len = omega arith
