-- Where the first hyphen stands, and what stands behind a vendor's word.
use Rattle.std.proofs.Common.{◌≡◌, ℕ, ◌+◌, ◌-◌, ◌<◌, ◌≤◌, Bool, true, false, List, [], ◌∷◌, length, take, drop, Some, None, refl, arith}
use Rattle.std.proofs.lemmas.Grind.{common_steps}
use Rattle.std.specs.List.{list_any, position_or_len}
use Rattle.css_model.specs.Cascade.Family.{is_hyphen, is_vendor}
use Rattle.related_props.specs.Parts.{behind_vendor}

-- an element that passes stands where the first one does
pub any_within : {X : Type 0} (p : X → Bool) (xs : List X) → position_or_len p xs < length xs → list_any p xs ≡ true
any_within p [] lt = absurd (omega arith)
any_within p (x ∷ xs) lt = grind (arith, common_steps, any_within p xs)

-- none does where there is no such place
pub none_within : {X : Type 0} (p : X → Bool) (xs : List X) → length xs ≤ position_or_len p xs → list_any p xs ≡ false
none_within p [] le = refl
none_within p (x ∷ xs) le = grind (arith, common_steps, none_within p xs)

part_to_end : (text : List ℕ) (i : ℕ) → take (length text - i) (drop i text) ≡ drop i text
part_to_end text i = grind (arith, common_steps)

-- a vendor's word before the first hyphen
pub behind_some : (rest : List ℕ) (end : ℕ) → end ≡ position_or_len is_hyphen rest → end < length rest → is_vendor (take end rest) ≡ true →
    Some (take (length rest - (end + 1)) (drop (end + 1) rest)) ≡ behind_vendor rest
behind_some rest end first lt vendor =
    let any : list_any is_hyphen rest ≡ true = any_within is_hyphen rest (omega arith) in
    let word : is_vendor (take (position_or_len is_hyphen rest) rest) ≡ true = rw (← first) vendor in
    rw (any, word, ← first, part_to_end rest (end + 1)) refl

pub behind_no_vendor : (rest : List ℕ) (end : ℕ) → end ≡ position_or_len is_hyphen rest → is_vendor (take end rest) ≡ false → None ≡ behind_vendor rest
behind_no_vendor rest end first fails =
    let word : is_vendor (take (position_or_len is_hyphen rest) rest) ≡ false = rw (← first) fails in
    grind (arith, word)

pub behind_no_hyphen : (rest : List ℕ) → length rest ≤ position_or_len is_hyphen rest → None ≡ behind_vendor rest
behind_no_hyphen rest le = rw (none_within is_hyphen rest le) refl
