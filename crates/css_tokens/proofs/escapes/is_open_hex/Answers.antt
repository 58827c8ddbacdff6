use Rattle.std.proofs.Common.{◌≡◌, ◌<◌, ◌≤◌, ◌⊎◌, inl, inr, false, sym, ◌∙◌, length, get_or, arith}
use Rattle.std.specs.Char.{is_ascii_hexdigit}
use Rattle.css_tokens.proofs.EscapeLemmas.{hex_end}
use Rattle.css_tokens.proofs.escapes.is_open_hex.Goals.{then-digits-test+then-i-text+else-is_ascii_hexdigit, then-digits-test+else-i-text, else-digits-test}
use Rattle.css_tokens.proofs.escapes.is_open_hex.Goals as goal

pub returns : goal.returns
returns c =
    let text = c.args.text.now in
    let i = c.digits.i in
    let ends : i < length text → (6 ≤ i) ⊎ (is_ascii_hexdigit (get_or text i 0) ≡ false) = λ (below : i < length text). elim c.digits-test.branch [
      | then-digits-test+then-i-text+else-is_ascii_hexdigit w ↦ inr (sym w.if-is_ascii_hexdigit.ensures.value)
      | then-digits-test+else-i-text w ↦ absurd (omega (arith, below, w.if-i-text))
      | else-digits-test w ↦ inl (omega (arith, w.digits-test))
    ] in
    hex_end i text c.digits.invariant.2 ends ∙ c.digits.invariant.0
