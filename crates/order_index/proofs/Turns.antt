-- Classes of entries that are looked at in turn.
use Rattle.std.proofs.Common.{◌≡◌, ℕ, ◌+◌, ◌<◌, false, List, subst}
use Rattle.std.specs.List.{Contains}
use Rattle.css_model.specs.Cascade.Winner.{exceeds}
use Rattle.order_index.proofs.InTurn.{first_of, one_more}
use Rattle.order_index.specs.InTurn.{PassBelow}
use Rattle.order_index.specs.Told.{Hinders, IsToldOf, Passes}
use Rattle.order_laws.specs.Reversed.{Reversal, sort_key}
use Rattle.overlap.specs.PairsParts.{Answered}
use Rattle.sheet_order.specs.declared.permitting.Allowed.{Allowed}
use Rattle.sheet_order.specs.declared.permitting.Allowed.TheVariants.{Free, Blocked}
use Rattle.step_laws.specs.declared.cause.BlockCause.{BlockCause}

module _ (old new : List Answered) (stay : (r : Reversal) → Passes old r → Passes new r) (entries : List Reversal) (C : ℕ → Reversal → Type 0) (n : ℕ) (pass : PassBelow (Passes old) entries C n) (a : Allowed) (told : IsToldOf new entries (C n) a) where
  -- the next class passes
  pub turn_passes : a ≡ Free → PassBelow (Passes new) entries C (n + 1)
  turn_passes is = one_more (Passes old) (Passes new) (Passes new) stay entries C n pass (subst (IsToldOf new entries (C n)) is told)

  -- the next class has the first that does not
  pub turn_blocks : (K : Reversal → Type 0) → ((s : Reversal) → Contains entries s → K s → (i : ℕ) × C i s) → ((i : ℕ) (r : Reversal) → C i r → K r) →
      ((i j : ℕ) (r s : Reversal) → i < j → C i r → C j s → exceeds (sort_key r) (sort_key s) ≡ false) → (cause : BlockCause) → a ≡ Blocked cause → IsToldOf new entries K (Blocked cause)
  turn_blocks K cover inside order cause is = first_of (Passes old) (Passes new) (Hinders new cause) stay entries C K cover inside order n pass (subst (IsToldOf new entries (C n)) is told)
