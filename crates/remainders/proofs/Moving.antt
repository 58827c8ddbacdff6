-- What numbers leave that are so far from another one.
use Rattle.std.proofs.Common.{ap, arith, suc, sym, ℕ, ◌%◌, ◌*◌, ◌+◌, ◌-◌, ◌/◌, ◌<◌, ◌∙◌, ◌≡◌}
use Rattle.std.proofs.Math.Nat.{add-mul-mod_self_right, div-add-mod, mul-add-mod_self_left}
use Rattle.remainders.specs.Remainders.{Leaves, moved}
use Rattle.remainders.specs.declared.remainder.Remainder.{Remainder}

-- a sum leaves what its parts do
rest_added : (s n x : ℕ) → (n + x) % s ≡ (n % s + x) % s
rest_added s n x =
    let d = div-add-mod n s in
    let parted : n + x ≡ s * (n / s) + (n % s + x) = omega arith in
    ap (λ (k : ℕ). k % s) parted ∙ mul-add-mod_self_left s (n / s) (n % s + x)

one_more_turn : (down t : ℕ) → down * (t + 1) ≡ down * t + down
one_more_turn down t = omega arith

-- taking `down` away is adding so many steps less one
less_is_more : (s down : ℕ) → 0 < s → down * s ≡ down * (s - 1) + down
less_is_more s down some = ap (λ (k : ℕ). down * k) (let e : s ≡ (s - 1) + 1 = omega arith in e) ∙ one_more_turn down (s - 1)

both_moved : (m n up down all less : ℕ) → m + down ≡ n + up → all ≡ less + down → m + all ≡ n + (up + less)
both_moved m n up down all less far turns = omega arith

in_turn : (a b c : ℕ) → a + (b + c) ≡ a + b + c
in_turn a b c = omega arith

pub moved_left : (n m up down : ℕ) (r : Remainder) → m + down ≡ n + up → Leaves n r → Leaves m (moved up down r)
moved_left n m up down r far left =
    let s = r.step in
    let turns = less_is_more s down left.0 in
    let whole = both_moved m n up down (down * s) (down * (s - 1)) far turns in
    let sum = in_turn r.rest up (down * (s - 1)) in
    (left.0, sym (add-mul-mod_self_right m down s) ∙ ap (λ (k : ℕ). k % s) whole ∙ rest_added s n (up + down * (s - 1)) ∙ ap (λ (k : ℕ). (k + (up + down * (s - 1))) % s) left.1 ∙ ap (λ (k : ℕ). k % s) sum)
