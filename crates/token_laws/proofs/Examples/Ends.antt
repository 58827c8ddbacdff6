-- Parts before other rests, by the lemmas on their ends.
use Rattle.std.proofs.Common.{ℕ, ◌≡◌, List, [], ◌∷◌, Some, None, refl, true≢false, arith}
use Rattle.css_model.specs.declared.token.TokenKind.TheVariants as kind
use Rattle.css_model.specs.Text.TokenAt.{part_at, done}
use Rattle.css_model.specs.Text.Tokens.{Part, text_of}
use Rattle.css_tokens.specs.Lexed.{IsLexed}
use Rattle.token_laws.specs.Alike.{EndsAlike}
use Rattle.token_laws.proofs.Ends.Rests.{ends_nil, ends_byte, ends_bang, ends_space, ends_feed, space_read, comment_read}
use Rattle.token_laws.proofs.Ends.Anywhere.{ends_anywhere, ends_sign, looks_called, sign_read}
use Rattle.token_laws.proofs.Ends.Rules.{part_again}

abbrev number : Part
number = record { kind = Some kind.Number; bytes = 49 ∷ [] }

abbrev space : Part
space = record { kind = Some kind.White; bytes = 32 ∷ [] }

abbrev comment : Part
comment = record { kind = None; bytes = 47 ∷ 42 ∷ 42 ∷ 47 ∷ [] }

abbrev sign : Part
sign = record { kind = Some (kind.Sign 59); bytes = 59 ∷ [] }

-- `1` before ` a`, and so before `/`, `;`, `!i`, a space or nothing
number_part : part_at (49 ∷ 32 ∷ 97 ∷ []) ≡ done kind.Number 1
number_part = refl

before : (rest : List ℕ) → EndsAlike number (32 ∷ 97 ∷ []) rest → part_at (49 ∷ rest) ≡ done kind.Number 1
before rest ends = part_again (49 ∷ []) (32 ∷ 97 ∷ []) rest (Some kind.Number) ends.alike ends.looks number_part

before_slash : (rest : List ℕ) → part_at (49 ∷ 47 ∷ rest) ≡ done kind.Number 1
before_slash rest = before (47 ∷ rest) (ends_byte number (32 ∷ 97 ∷ []) 47 rest refl refl refl)

before_semicolon : (rest : List ℕ) → part_at (49 ∷ 59 ∷ rest) ≡ done kind.Number 1
before_semicolon rest = before (59 ∷ rest) (ends_sign number (32 ∷ 97 ∷ []) 59 rest refl refl refl)

before_bang : (rest : List ℕ) → part_at (49 ∷ 33 ∷ 105 ∷ rest) ≡ done kind.Number 1
before_bang rest = before (33 ∷ 105 ∷ rest) (ends_bang number (32 ∷ 97 ∷ []) (105 ∷ rest) refl refl)

before_space : (rest : List ℕ) → part_at (49 ∷ 32 ∷ rest) ≡ done kind.Number 1
before_space rest = before (32 ∷ rest) (ends_space number (32 ∷ 97 ∷ []) rest refl (λ _. omega arith))

before_nothing : part_at (49 ∷ []) ≡ done kind.Number 1
before_nothing = before [] (ends_nil number (32 ∷ 97 ∷ []) refl)

-- `>` before anything
greater : (rest : List ℕ) → part_at (62 ∷ rest) ≡ done (kind.Delim 62) 1
greater rest =
    let p : Part = record { kind = Some (kind.Delim 62); bytes = 62 ∷ [] } in
    let ends = ends_anywhere p [] rest refl refl refl in
    part_again (62 ∷ []) [] rest (Some (kind.Delim 62)) ends.alike ends.looks refl

-- `f(` before anything, since its name is not `url`
called : (rest : List ℕ) → part_at (102 ∷ 40 ∷ rest) ≡ done kind.Function 2
called rest =
    let looks = looks_called (102 ∷ []) (41 ∷ []) rest refl in
    part_again (102 ∷ 40 ∷ []) (41 ∷ []) rest (Some kind.Function) (λ open_ended. absurd (true≢false open_ended)) looks refl

-- `\` before a line feed
lone : (rest : List ℕ) → part_at (92 ∷ 10 ∷ rest) ≡ done (kind.Delim 92) 1
lone rest =
    let p : Part = record { kind = Some (kind.Delim 92); bytes = 92 ∷ [] } in
    let ends = ends_feed p (10 ∷ []) rest refl in
    part_again (92 ∷ []) (10 ∷ []) (10 ∷ rest) (Some (kind.Delim 92)) ends.alike ends.looks refl

-- `1 /**/` before `;` and what is read behind it
row : (rest : List Part) → IsLexed rest → IsLexed (number ∷ space ∷ comment ∷ sign ∷ rest)
row rest lexed = (before_space (47 ∷ 42 ∷ 42 ∷ 47 ∷ 59 ∷ text_of rest), (space_read (47 ∷ 42 ∷ 42 ∷ 47 ∷ 59 ∷ text_of rest) refl, (comment_read (59 ∷ text_of rest), (sign_read (text_of rest) 59 refl, lexed))))
