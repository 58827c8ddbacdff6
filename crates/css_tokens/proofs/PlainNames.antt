-- Names and strings that say their own bytes.
use Rattle.std.proofs.Common.{ℕ, zero, suc, ◌<◌, ◌≡◌, ◌&&◌, true, false, not, eqb, ltb, List, [], ◌∷◌, refl, ap, ◌∙◌, arith}
use Rattle.std.specs.List.{list_all}
use Rattle.std.specs.Str.{IsAscii, chars}
use Rattle.std.proofs.lemmas.Bool.{and_parts, not-true, ltb-true}
use Rattle.std.proofs.lemmas.Str.{IsUtf8-from_ascii, chars-IsAscii, utf8_lossy-IsUtf8}
use Rattle.css_model.specs.Text.Characters.{backslash}
use Rattle.css_model.specs.Text.Names.{code_points, decoded, unescaped}
use Rattle.css_tokens.specs.Said.{says_itself}

record SaysItself (c : ℕ) : Type 0 where
  pub some : eqb c 0 ≡ false
  pub plain : eqb c backslash ≡ false
  pub ascii : c < 128

says_shows : (c : ℕ) → says_itself c ≡ true → SaysItself c
says_shows c is =
    let all = and_parts (not (eqb c 0) && not (eqb c backslash)) (ltb c 128) is in
    let both = and_parts (not (eqb c 0)) (not (eqb c backslash)) all.0 in
    record { some = not-true (eqb c 0) both.0; plain = not-true (eqb c backslash) both.1; ascii = ltb-true c 128 all.1 }

first_plain : (c : ℕ) (cs : List ℕ) → SaysItself c → unescaped (c ∷ cs) ≡ c ∷ unescaped cs
first_plain c cs is =
    let plain : eqb c backslash ≡ false = is.plain in
    let some : eqb c 0 ≡ false = is.some in
    rw (plain, some) refl

plain_unescaped : (text : List ℕ) → list_all says_itself text ≡ true → unescaped text ≡ text
plain_unescaped [] all = refl
plain_unescaped (c ∷ cs) all =
    let parts = and_parts (says_itself c) (list_all says_itself cs) all in
    first_plain c cs (says_shows c parts.0) ∙ ap (λ (rest : List ℕ). c ∷ rest) (plain_unescaped cs parts.1)

plain_ascii : (text : List ℕ) → list_all says_itself text ≡ true → IsAscii text
plain_ascii [] all i = omega arith
plain_ascii (c ∷ cs) all zero = (says_shows c (and_parts (says_itself c) (list_all says_itself cs) all).0).ascii
plain_ascii (c ∷ cs) all (suc i) = plain_ascii cs (and_parts (says_itself c) (list_all says_itself cs) all).1 i

-- a text whose bytes all say themselves
pub plain_decoded : (text : List ℕ) → list_all says_itself text ≡ true → decoded text ≡ text
plain_decoded text all =
    let ascii = plain_ascii text all in
    ap code_points (plain_unescaped text all) ∙ ap chars (utf8_lossy-IsUtf8 text (IsUtf8-from_ascii text ascii)) ∙ chars-IsAscii text ascii
