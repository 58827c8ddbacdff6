-- The tokens of parts, apart from where they stand.
use Rattle.std.proofs.Common.{◌≡◌, ℕ, suc, ◌+◌, ◌-◌, Bool, true, false, cond, if◌then◌else◌, List, [], ◌∷◌, ◌++◌, map, length, take, drop, Option, Some, None, refl, sym, ◌∙◌, ap, subst, arith}
use Rattle.std.proofs.lemmas.List.{append_assoc, length-append}
use Rattle.std.proofs.lemmas.Bool.{false≢true}
use Rattle.std.proofs.Math.Seq.{take-append_seam, drop-append_seam}
use Rattle.css_model.specs.declared.sheet.Piece.{Piece}
use Rattle.css_model.specs.declared.token.Bracket.{Bracket}
use Rattle.css_model.specs.declared.token.Gap.{Gap}
use Rattle.css_model.specs.declared.token.Gap.TheVariants as gap
use Rattle.css_model.specs.declared.token.Lexeme.{Lexeme}
use Rattle.css_model.specs.declared.token.Token.{Token}
use Rattle.css_model.specs.declared.token.TokenKind.{TokenKind}
use Rattle.css_model.specs.declared.token.TokenKind.TheVariants as kind
use Rattle.css_model.specs.Text.Lexemes.{after, closer_of, gap_of, is_sign_of, is_white_kind, lexeme, lexemes_in, opened}
use Rattle.css_model.specs.Text.Source.{text_at}
use Rattle.css_model.specs.Text.Tokens.{Part, is_comment, text_of, token_then, tokens_at}
use Rattle.sheet_laws.proofs.ForCallers.{Shown, shown}

-- what stands before these parts, where `comment` says that a comment ends there
abbrev pub gap_then : Option TokenKind → Bool → Gap → Gap
gap_then None comment more = more
gap_then (Some k) comment more = if is_white_kind k then gap.White else if comment then gap.Comments else gap.Nothing

abbrev pub gap_behind : Bool → List Part → Gap
gap_behind comment [] = gap.Nothing
gap_behind comment (p ∷ ps) = gap_then p.kind comment (gap_behind true ps)

-- the signs that close the open brackets, the innermost first, behind a token
abbrev pub closes_first : TokenKind → List ℕ → Bool
closes_first k [] = false
closes_first k (c ∷ cs) = is_sign_of c k

abbrev pub opened_by : Option ℕ → List ℕ → List ℕ
opened_by None cs = cs
opened_by (Some c) cs = c ∷ cs

abbrev pub closers_after : TokenKind → List ℕ → List ℕ
closers_after k cs = if closes_first k cs then drop 1 cs else opened_by (closer_of k) cs

abbrev pub closers_behind : Option TokenKind → List ℕ → List ℕ
closers_behind None cs = cs
closers_behind (Some k) cs = closers_after k cs

abbrev pub shown_then : Option TokenKind → List ℕ → Gap → ℕ → List Shown → List Shown
shown_then None bytes gap level more = more
shown_then (Some k) bytes gap level more =
    if is_white_kind k then more else record { kind = k; bytes = bytes; gap = gap; level = level } ∷ more

-- the tokens of parts that stand inside brackets that these signs close
abbrev pub shown_parts : List ℕ → List Part → List Shown
shown_parts cs [] = []
shown_parts cs (p ∷ ps) = shown_then p.kind p.bytes (gap_behind false ps) (length cs) (shown_parts (closers_behind p.kind cs) ps)

abbrev pub closers_of : List Bracket → List ℕ
closers_of brackets = map (λ b. b.closer) brackets

pub gap-same : (at : ℕ) (comment : Bool) (ps : List Part) → gap_of (tokens_at at comment ps) ≡ gap_behind comment ps
gap-same at comment [] = refl
gap-same at comment (p ∷ ps) = which p.kind (gap-same (at + length p.bytes) true ps)
  where
    which : (k : Option TokenKind) → gap_of (tokens_at (at + length p.bytes) true ps) ≡ gap_behind true ps
        → gap_of (token_then k at (length p.bytes) comment (tokens_at (at + length p.bytes) (is_comment k) ps)) ≡ gap_then k comment (gap_behind true ps)
    which None later = later
    which (Some k) later = refl

pub closers-same : (k : TokenKind) (span : Piece) (comment : Bool) (brackets : List Bracket)
    → closers_of (after (record { kind = k; span = span; comment_before = comment }) brackets) ≡ closers_after k (closers_of brackets)
closers-same k span comment [] = at (closer_of k)
  where
    at : (c : Option ℕ) → closers_of (opened span.start c []) ≡ opened_by c []
    at None = refl
    at (Some c) = refl
closers-same k span comment (b ∷ brackets) = at (is_sign_of b.closer k) (closer_of k)
  where
    at : (shut : Bool) (c : Option ℕ) → closers_of (cond shut brackets (opened span.start c (b ∷ brackets))) ≡ cond shut (closers_of brackets) (opened_by c (b.closer ∷ closers_of brackets))
    at true c = refl
    at false None = refl
    at false (Some c) = refl

pub length-closers : (brackets : List Bracket) → length (closers_of brackets) ≡ length brackets
length-closers [] = refl
length-closers (b ∷ brackets) = ap suc (length-closers brackets)

-- a piece of a text that stands between two others
pub text-between : (front bytes rest : List ℕ) → text_at (front ++ (bytes ++ rest)) (record { start = length front; «end» = length front + length bytes }) ≡ bytes
text-between front bytes rest =
    let size : length front + length bytes - length front ≡ length bytes = omega arith in
    ap (λ (n : ℕ). take n (drop (length front) (front ++ (bytes ++ rest)))) size
    ∙ ap (λ (xs : List ℕ). take (length bytes) xs) (drop-append_seam front (bytes ++ rest))
    ∙ take-append_seam bytes rest

pub white-stays : (k : TokenKind) → is_white_kind k ≡ true → (cs : List ℕ) → closers_after k cs ≡ cs
white-stays kind.White is [] = refl
white-stays kind.White is (c ∷ cs) = refl
white-stays _ is cs = absurd (false≢true is)

chosen : {A : Type 0} (b : Bool) (x y x' y' : List A) → (b ≡ true → x ≡ x') → (b ≡ false → y ≡ y') → cond b x y ≡ cond b x' y'
chosen true x y x' y' f g = f refl
chosen false x y x' y' f g = g refl

-- one token, and those behind it
token-shown : (text front bytes : List ℕ) (k : TokenKind) (ps : List Part) (comment : Bool) (brackets : List Bracket) → text ≡ front ++ (bytes ++ text_of ps)
    → ((bs : List Bracket) → map (shown text) (lexemes_in bs (tokens_at (length front + length bytes) false ps)) ≡ shown_parts (closers_of bs) ps)
    → map (shown text) (lexemes_in brackets (token_then (Some k) (length front) (length bytes) comment (tokens_at (length front + length bytes) false ps)))
    ≡ shown_then (Some k) bytes (gap_behind false ps) (length (closers_of brackets)) (shown_parts (closers_after k (closers_of brackets)) ps)
token-shown text front bytes k ps comment brackets is later =
    let rest = tokens_at (length front + length bytes) false ps in
    let t : Token = record { kind = k; span = record { start = length front; «end» = length front + length bytes }; comment_before = comment } in
    let s : Shown = record { kind = k; bytes = bytes; gap = gap_behind false ps; level = length (closers_of brackets) } in
    let bytes-is : text_at text t.span ≡ bytes = ap (λ (w : List ℕ). text_at w t.span) is ∙ text-between front bytes (text_of ps) in
    let gap-is : gap_of rest ≡ gap_behind false ps = gap-same (length front + length bytes) false ps in
    let level-is : length brackets ≡ length (closers_of brackets) = sym (length-closers brackets) in
    let head : shown text (lexeme (length brackets) t rest) ≡ s =
    ap (λ (b : List ℕ). record { kind = k; bytes = b; gap = gap_of rest; level = length brackets }) bytes-is
    ∙ ap (λ g. record { kind = k; bytes = bytes; gap = g; level = length brackets }) gap-is
    ∙ ap (λ (n : ℕ). record { kind = k; bytes = bytes; gap = gap_behind false ps; level = n }) level-is in
    let behind : map (shown text) (lexemes_in (after t brackets) rest) ≡ shown_parts (closers_after k (closers_of brackets)) ps =
    later (after t brackets) ∙ ap (λ cs. shown_parts cs ps) (closers-same k t.span comment brackets) in
    map-cond (is_white_kind k) (lexemes_in brackets rest) (lexeme (length brackets) t rest ∷ lexemes_in (after t brackets) rest)
    ∙ chosen (is_white_kind k) _ _ _ _
    (λ white. later brackets ∙ ap (λ cs. shown_parts cs ps) (sym (white-stays k white (closers_of brackets))))
    (λ _. ap (λ x. x ∷ map (shown text) (lexemes_in (after t brackets) rest)) head ∙ ap (λ xs. s ∷ xs) behind)
  where
    map-cond : (b : Bool) (xs ys : List Lexeme) → map (shown text) (cond b xs ys) ≡ cond b (map (shown text) xs) (map (shown text) ys)
    map-cond true xs ys = refl
    map-cond false xs ys = refl

-- The tokens of a text behind `front`, by the parts that stand there.
pub tokens-shown : (text front : List ℕ) (ps : List Part) (comment : Bool) (brackets : List Bracket) → text ≡ front ++ text_of ps
    → map (shown text) (lexemes_in brackets (tokens_at (length front) comment ps)) ≡ shown_parts (closers_of brackets) ps
tokens-shown text front [] comment brackets is = refl
tokens-shown text front (p ∷ ps) comment brackets is =
    let next : text ≡ (front ++ p.bytes) ++ text_of ps = is ∙ sym (append_assoc front p.bytes (text_of ps)) in
    which p.kind (λ c bs. subst (λ (n : ℕ). map (shown text) (lexemes_in bs (tokens_at n c ps)) ≡ shown_parts (closers_of bs) ps) (length-append front p.bytes)
    (tokens-shown text (front ++ p.bytes) ps c bs next))
  where
    which : (k : Option TokenKind) → ((c : Bool) (bs : List Bracket) → map (shown text) (lexemes_in bs (tokens_at (length front + length p.bytes) c ps)) ≡ shown_parts (closers_of bs) ps)
        → map (shown text) (lexemes_in brackets (token_then k (length front) (length p.bytes) comment (tokens_at (length front + length p.bytes) (is_comment k) ps)))
        ≡ shown_then k p.bytes (gap_behind false ps) (length (closers_of brackets)) (shown_parts (closers_behind k (closers_of brackets)) ps)
    which None later = later true brackets
    which (Some k) later = token-shown text front p.bytes k ps comment brackets is (later false)
