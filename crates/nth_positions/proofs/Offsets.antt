-- The threshold of a list, part by part.
use Rattle.std.proofs.Common.{◌≡◌, ℕ, ◌+◌, ◌<◌, ◌≤◌, max, List, length, get_or, take, refl, ap, ◌∙◌, arith}
use Rattle.std.specs.Prelude.{unsigned_abs, Contains}
use Rattle.std.proofs.lemmas.List.{take_more}
use Rattle.std.proofs.lemmas.List.Recursion.{max_push, max_bounds}
use Rattle.css_model.specs.declared.position.AnB.{AnB}
use Rattle.nth_positions.specs.Gaps.{greatest_offset, threshold_of}

pub threshold_more : (parts : List AnB) (i : ℕ) (d : AnB) → i < length parts → threshold_of (take (i + 1) parts) ≡ max (unsigned_abs (get_or parts i d).b) (threshold_of (take i parts))
threshold_more parts i d h =
    let e : greatest_offset (take (i + 1) parts) ≡ max (greatest_offset (take i parts)) (unsigned_abs (get_or parts i d).b) =
    ap greatest_offset (take_more parts i d h) ∙ max_push greatest_offset (λ x. unsigned_abs x.b) refl (λ _ _. refl) (take i parts) (get_or parts i d) in
    omega arith

-- no offset is greater than the threshold
pub offset_below : (parts : List AnB) (x : AnB) → Contains parts x → unsigned_abs x.b ≤ threshold_of parts
offset_below parts x (i, l, e) = (let h : unsigned_abs (get_or parts i x).b ≤ greatest_offset parts = max_bounds greatest_offset (λ y. unsigned_abs y.b) refl (λ _ _. refl) parts i x l in let s : unsigned_abs (get_or parts i x).b ≡ unsigned_abs x.b = ap (λ (y : AnB). unsigned_abs y.b) e in omega arith)
