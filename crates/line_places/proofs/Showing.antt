-- What is shown has no control codes.
use Rattle.std.proofs.Common.{◌≡◌, ℕ, Bool, true, false, cond, List, [], ◌∷◌, length, map, refl, sym, ap, arith}
use Rattle.std.proofs.lemmas.List.{length-map}
use Rattle.std.specs.List.{AllByRecursion}
use Rattle.css_model.specs.Text.Characters.{space}
use Rattle.line_places.specs.Laws.{ShownHasNoControls}
use Rattle.line_places.specs.Shown.{is_control, shown, shown_byte}

byte_shown : (byte : ℕ) → is_control (shown_byte byte) ≡ false
byte_shown byte = which (is_control byte) refl
  where
    which : (b : Bool) → is_control byte ≡ b → is_control (cond b space byte) ≡ false
    which true is = refl
    which false is = is

none_left : (text : List ℕ) → AllByRecursion (λ byte. is_control byte ≡ false) (shown text)
none_left [] = tt
none_left (byte ∷ text) = (byte_shown byte, none_left text)

pub no_controls : ShownHasNoControls
no_controls text = (none_left text, length-map text shown_byte)
