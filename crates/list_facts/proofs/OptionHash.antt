-- The hash of an `Option`: as those of its values, equal ones are hashed alike.
use Rattle.std.specs.Prelude.{◌≡◌, Bool, true, Option, Some, None, refl}
use Rattle.std.specs.Hash as fed
use Rattle.std.specs.Hash.{Alike, HashWrites}
use Rattle.std.specs.Option.{option_eq}
use Rattle.std.proofs.Common.{sym, ap, true≢false}

module _ {T : Type 0} {E : T → T → Bool} {F : T → HashWrites} (a : Alike E F) where
  fed_alike : (x y : Option T) → option_eq E x y ≡ true → fed.option F x ≡ fed.option F y
  fed_alike None None h = refl
  fed_alike None (Some y) h = absurd (true≢false (sym h))
  fed_alike (Some x) None h = absurd (true≢false (sym h))
  fed_alike (Some x) (Some y) h = ap (λ ws. fed.option (λ _. ws) (Some x)) (a.fed x y h)

  pub option_Alike : Alike (option_eq E) (fed.option F)
  option_Alike = record { fed = fed_alike }
