-- The names of a text's terms are no longer than the text.
use Rattle.std.proofs.Common.{ℕ, zero, suc, ◌+◌, ◌*◌, ◌-◌, ◌≡◌, ◌≤◌, Bool, true, false, cond, Option, Some, None, List, [], ◌∷◌, map, length, drop, arith}
use Rattle.std.proofs.lemmas.List.{length-append, length-take, length-drop}
use Rattle.list_facts.proofs.Sums.{total}
use Rattle.css_model.specs.declared.token.Gap.{Gap}
use Rattle.css_model.specs.declared.token.TokenKind.{TokenKind}
use Rattle.css_model.specs.declared.token.TokenKind.TheVariants as kind
use Rattle.css_model.specs.Selectors.Terms.{depth_behind_term, more_of_term, terms, terms_from}
use Rattle.css_model.specs.Selectors.Tokens.{SelectorToken, name_in, selector_token}
use Rattle.css_model.specs.Text.Kept.{Solid}
use Rattle.css_model.specs.Text.Lexemes.{is_white_kind}
use Rattle.css_model.specs.Text.Names.{code_points}
use Rattle.css_model.specs.Text.Tokens.{Part, text_of}
use Rattle.token_laws.specs.Solids.{gap_before, solid_then, solids}
use Rattle.pair_laws.proofs.Profile.Decoded.{wide_name}
use Rattle.pair_laws.proofs.Profile.DerivedTests.{room}
use Rattle.pair_laws.proofs.Profile.Wide.{wide}

token_room : SelectorToken → ℕ
token_room x = wide (code_points x.name)

bytes_len : Solid → ℕ
bytes_len s = length s.bytes

name_short : (k : TokenKind) (bytes : List ℕ) → length (name_in k bytes) ≤ length bytes
name_short kind.Ident bytes = omega arith
name_short kind.Function bytes = let short = length-take (length bytes - 1) bytes in omega (arith, short)
name_short kind.IdHash bytes = let short = length-drop 1 bytes in omega (arith, short)
name_short kind.Str bytes = let short = length-take (length bytes - 2) (drop 1 bytes) in let shorter = length-drop 1 bytes in omega (arith, short, shorter)
name_short _ bytes = omega arith

token_short : (s : Solid) → 3 * token_room (selector_token s) ≤ bytes_len s
unfolding token_room bytes_len
token_short s =
    let said = wide_name (name_in s.kind s.bytes) in
    let short = name_short s.kind s.bytes in
    omega (arith, said, short)

tokens_short : (ss : List Solid) → 3 * total token_room (map selector_token ss) ≤ total bytes_len ss
tokens_short [] = omega arith
tokens_short (s ∷ ss) =
    let here = token_short s in
    let later = tokens_short ss in
    omega (arith, here, later)

terms_short : (depth left : ℕ) (xs : List SelectorToken) → total room (terms_from depth left xs) ≤ total token_room xs
unfolding token_room
terms_short depth left [] = omega arith
terms_short depth (suc left) (x ∷ xs) = let later = terms_short depth left xs in omega (arith, later)
terms_short depth zero (x ∷ xs) = let later = terms_short (depth_behind_term depth x) (more_of_term x xs) xs in omega (arith, later)

solid_short : (k : Option TokenKind) (bytes : List ℕ) (g : Gap) (more : List Solid) → total bytes_len (solid_then k bytes g more) ≤ length bytes + total bytes_len more
unfolding bytes_len
solid_short None bytes g more = omega arith
solid_short (Some k) bytes g more = by (is_white_kind k)
  where
    by : (b : Bool) → total bytes_len (cond b more (record { kind = k; bytes = bytes; gap = g } ∷ more)) ≤ length bytes + total bytes_len more
    by true = omega arith
    by false = omega arith

solids_short : (ps : List Part) → total bytes_len (solids ps) ≤ length (text_of ps)
solids_short [] = omega arith
solids_short (p ∷ ps) =
    let here = solid_short p.kind p.bytes (gap_before false ps) (solids ps) in
    let later = solids_short ps in
    let size : length (text_of (p ∷ ps)) ≡ length p.bytes + length (text_of ps) = length-append p.bytes (text_of ps) in
    omega (arith, here, later, size)

-- the terms of the parts of a text
pub terms_of_parts : (ps : List Part) → 3 * total room (terms (solids ps)) ≤ length (text_of ps)
terms_of_parts ps =
    let names = terms_short 0 0 (map selector_token (solids ps)) in
    let tokens = tokens_short (solids ps) in
    let text = solids_short ps in
    omega (arith, names, tokens, text)
