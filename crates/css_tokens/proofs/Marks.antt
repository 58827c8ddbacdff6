-- A text that begins with a byte order mark.
use Rattle.std.proofs.Common.{ℕ, ◌≡◌, ◌≤◌, ◌&&◌, Bool, true, false, List, [], ◌∷◌, length, arith}
use Rattle.std.specs.Prelude.{nat_eq}
use Rattle.std.specs.List.{starts_with}
use Rattle.std.proofs.lemmas.Bool.{false≢true}
use Rattle.css_model.specs.Text.Tokens.{byte_order_mark}

not_mark : (a b : Bool) → (a && (b && false)) ≡ true → ⊥
not_mark true true h = false≢true h
not_mark true false h = false≢true h
not_mark false b h = false≢true h

-- it has the three bytes of the mark
pub mark_len : (source : List ℕ) → starts_with nat_eq source byte_order_mark ≡ true → 3 ≤ length source
mark_len [] h = absurd (false≢true h)
mark_len (c ∷ []) h = absurd (not_mark (nat_eq 0xEF c) true h)
mark_len (c ∷ d ∷ []) h = absurd (not_mark (nat_eq 0xEF c) (nat_eq 0xBB d) h)
mark_len (c ∷ d ∷ e ∷ cs) h = omega arith
