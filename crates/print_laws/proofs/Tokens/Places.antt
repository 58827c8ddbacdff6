-- Where the tokens of a printed text stand: each behind the text of those before it.
use Rattle.std.proofs.Common.{◌≡◌, ℕ, ◌+◌, Bool, true, false, if◌then◌else◌, List, [], ◌∷◌, ◌++◌, map, length, refl, sym, ◌∙◌, ap, subst, arith}
use Rattle.std.specs.Prelude.{⊤}
use Rattle.std.proofs.lemmas.Bool.{cond-false}
use Rattle.std.proofs.lemmas.List.{append_assoc, length-append, map-append}
use Rattle.css_model.specs.declared.sheet.Piece.{Piece}
use Rattle.css_model.specs.declared.token.Bracket.{Bracket}
use Rattle.css_model.specs.declared.token.Gap.{Gap}
use Rattle.css_model.specs.declared.token.Gap.TheVariants as gap
use Rattle.css_model.specs.declared.token.Lexeme.{Lexeme}
use Rattle.css_model.specs.declared.token.Token.{Token}
use Rattle.css_model.specs.declared.token.TokenKind.{TokenKind}
use Rattle.css_model.specs.Text.Characters.{line_feed, space}
use Rattle.css_model.specs.Text.Kept.{is_lone}
use Rattle.css_model.specs.Text.Lexemes.{after, end_of, lexemes_in, piece_of}
use Rattle.css_model.specs.Text.Source.{text_at}
use Rattle.css_model.specs.Text.Tokens.{text_of, tokens_at}
use Rattle.css_model.specs.Sheets.Spelling.{lexemes_of}
use Rattle.sheet_laws.proofs.ForCallers.{Shown, StandsIn, shown}
use Rattle.print_laws.proofs.Tokens.Chain.{IsChain, gap_parts, parts_of}
use Rattle.print_laws.proofs.Tokens.Parts.{closers_after, text-between}
use Rattle.print_laws.proofs.Tokens.Texts.{shown-append, shown-first, shown_text}

-- how many bytes stand between a shown token and the next one
abbrev pub gap_size : Shown → ℕ
gap_size s = length (text_of (gap_parts s.kind s.gap))

-- tokens that stand one behind the other from this place on, each with its bytes and its gap
abbrev pub AreAt : ℕ → List Shown → List Lexeme → Type 0
AreAt at [] [] = ⊤
AreAt at [] (x ∷ xs) = ⊥
AreAt at (s ∷ ss) [] = ⊥
AreAt at (s ∷ ss) (x ∷ xs) = (x.span ≡ record { start = at; «end» = at + length s.bytes }) × AreAt (at + length s.bytes + gap_size s) ss xs

-- white space behind a token that is a lone backslash, or behind any other
abbrev white_bytes : Bool → List ℕ
white_bytes lone = if lone then line_feed ∷ [] else space ∷ []

-- the tokens of parts stand so
pub parts-at : (at : ℕ) (comment : Bool) (brackets : List Bracket) (cs : List ℕ) (ss : List Shown) → IsChain cs ss → AreAt at ss (lexemes_in brackets (tokens_at at comment (parts_of ss)))
parts-at at comment brackets cs [] chain = tt
parts-at at comment brackets cs (s ∷ ss) (solid, level, told, chain) =
    let behind = at + length s.bytes in
    let rest = tokens_at behind false (gap_parts s.kind s.gap ++ parts_of ss) in
    let t : Token = record { kind = s.kind; span = record { start = at; «end» = behind }; comment_before = comment } in
    subst (AreAt at (s ∷ ss)) (sym (cond-false _ _ _ solid))
    (refl, passed s.kind s.gap behind (after t brackets) (λ n c bs. parts-at n c bs (closers_after s.kind cs) ss chain))
  where
    passed : (k : TokenKind) (g : Gap) (behind : ℕ) (bs : List Bracket)
        → ((n : ℕ) (c : Bool) (bs : List Bracket) → AreAt n ss (lexemes_in bs (tokens_at n c (parts_of ss))))
        → AreAt (behind + length (text_of (gap_parts k g))) ss (lexemes_in bs (tokens_at behind false (gap_parts k g ++ parts_of ss)))
    passed k gap.Nothing behind bs later = subst (λ (n : ℕ). AreAt n ss (lexemes_in bs (tokens_at behind false (parts_of ss)))) (let e : behind ≡ behind + 0 = omega arith in e) (later behind false bs)
    passed k gap.Comments behind bs later = later (behind + 4) true bs
    passed k gap.White behind bs later = white (is_lone k)
      where
        white : (b : Bool) → AreAt (behind + length (white_bytes b ++ [])) ss (lexemes_in bs (tokens_at (behind + length (white_bytes b)) false (parts_of ss)))
        white true = later (behind + 1) false bs
        white false = later (behind + 1) false bs

-- A text whose tokens stand so behind a front, as these are shown.
pub record ArePlaced (text : List ℕ) (ss : List Shown) : Type 0 where
  pub front : List ℕ
  pub is : text ≡ front ++ shown_text ss
  pub places : AreAt (length front) ss (lexemes_of text)
  pub shown_as : map (shown text) (lexemes_of text) ≡ ss

shown-size : (s : Shown) (ss : List Shown) → length (shown_text (s ∷ ss)) ≡ length s.bytes + (gap_size s + length (shown_text ss))
shown-size s ss =
    ap length (shown-first s ss) ∙ length-append s.bytes (text_of (gap_parts s.kind s.gap) ++ shown_text ss)
    ∙ ap (λ (n : ℕ). length s.bytes + n) (length-append (text_of (gap_parts s.kind s.gap)) (shown_text ss))

-- those at the front of others, and those behind
at-front : (f : Lexeme → Shown) (at : ℕ) (xs ys : List Lexeme) (more : List Shown) → AreAt at (map f xs ++ more) (xs ++ ys) → AreAt at (map f xs) xs
at-front f at [] ys more places = tt
at-front f at (x ∷ xs) ys more (here, later) = (here, at-front f (at + length (f x).bytes + gap_size (f x)) xs ys more later)

at-behind : (f : Lexeme → Shown) (at : ℕ) (xs ys : List Lexeme) (more : List Shown) → AreAt at (map f xs ++ more) (xs ++ ys) → AreAt (at + length (shown_text (map f xs))) more ys
at-behind f at [] ys more places = subst (λ (n : ℕ). AreAt n more ys) (let e : at ≡ at + 0 = omega arith in e) places
at-behind f at (x ∷ xs) ys more (here, later) =
    let next = at + length (f x).bytes + gap_size (f x) in
    let same : next + length (shown_text (map f xs)) ≡ at + length (shown_text (map f (x ∷ xs))) = omega (arith, shown-size (f x) (map f xs)) in
    subst (λ (n : ℕ). AreAt n more ys) same (at-behind f next xs ys more later)

-- where tokens end of which the last one has nothing behind it
end-at : (at : ℕ) (ss : List Shown) (s : Shown) (x : Lexeme) (xs : List Lexeme) → gap_size s ≡ 0 → AreAt at (ss ++ s ∷ []) (x ∷ xs) → end_of x xs ≡ at + length (shown_text (ss ++ s ∷ []))
end-at at [] s x [] none (here, later) =
    let size = shown-size s [] in
    let end : x.span.«end» ≡ at + length s.bytes = ap (λ (p : Piece). p.«end») here in
    let nothing : length (shown_text []) ≡ 0 = refl in
    omega (arith, size, end, none, nothing)
end-at at [] s x (y ∷ xs) none (here, later) = absurd later
end-at at (t ∷ []) s x [] none (here, later) = absurd later
end-at at (t ∷ u ∷ ss) s x [] none (here, later) = absurd later
end-at at (t ∷ ss) s x (y ∷ xs) none (here, later) =
    let next = at + length t.bytes + gap_size t in
    let end = end-at next ss s y xs none later in
    omega (arith, end, shown-size t (ss ++ s ∷ []))

piece-at : (at : ℕ) (ss : List Shown) (s : Shown) (xs : List Lexeme) → gap_size s ≡ 0 → AreAt at (ss ++ s ∷ []) xs
    → piece_of xs ≡ record { start = at; «end» = at + length (shown_text (ss ++ s ∷ [])) }
piece-at at [] s [] none places = absurd places
piece-at at (t ∷ ss) s [] none places = absurd places
piece-at at ss s (x ∷ xs) none places =
    ap (λ (n : ℕ). record { start = n; «end» = end_of x xs }) (starts ss places) ∙ ap (λ (n : ℕ). record { start = at; «end» = n }) (end-at at ss s x xs none places)
  where
    starts : (ss : List Shown) → AreAt at (ss ++ s ∷ []) (x ∷ xs) → x.span.start ≡ at
    starts [] (here, later) = ap (λ (p : Piece). p.start) here
    starts (t ∷ ss) (here, later) = ap (λ (p : Piece). p.start) here

-- Tokens that stand among those of a text, the last with nothing behind it, have their text between their places.
pub placed-text : (text : List ℕ) (all : List Shown) → ArePlaced text all → (ys : List Lexeme) → StandsIn (lexemes_of text) ys
    → (ss : List Shown) (s : Shown) → gap_size s ≡ 0 → map (shown text) ys ≡ ss ++ s ∷ [] → text_at text (piece_of ys) ≡ shown_text (ss ++ s ∷ [])
placed-text text all placed ys stands ss s none e =
    let f = shown text in
    let before = shown_text (map f stands.front) in
    let own = shown_text (map f ys) in
    let rest = shown_text (map f stands.behind) in
    let at = length placed.front + length before in
    let are : lexemes_of text ≡ stands.front ++ (ys ++ stands.behind) = stands.is ∙ append_assoc stands.front ys stands.behind in
    let show : all ≡ map f stands.front ++ (map f ys ++ map f stands.behind) =
    sym placed.shown_as ∙ ap (map f) are ∙ map-append f stands.front (ys ++ stands.behind) ∙ ap (λ (more : List Shown). map f stands.front ++ more) (map-append f ys stands.behind) in
    let places : AreAt (length placed.front) (map f stands.front ++ (map f ys ++ map f stands.behind)) (stands.front ++ (ys ++ stands.behind)) =
    subst (AreAt (length placed.front) (map f stands.front ++ (map f ys ++ map f stands.behind))) are (subst (λ (zs : List Shown). AreAt (length placed.front) zs (lexemes_of text)) show placed.places) in
    let here : AreAt at (ss ++ s ∷ []) ys =
    subst (λ (zs : List Shown). AreAt at zs ys) e
    (at-front f at ys stands.behind (map f stands.behind) (at-behind f (length placed.front) stands.front (ys ++ stands.behind) (map f ys ++ map f stands.behind) places)) in
    let spelled : text ≡ (placed.front ++ before) ++ (own ++ rest) =
    placed.is ∙ ap (λ (zs : List Shown). placed.front ++ shown_text zs) show
    ∙ ap (λ (cs : List ℕ). placed.front ++ cs) (shown-append (map f stands.front) (map f ys ++ map f stands.behind) ∙ ap (λ (cs : List ℕ). before ++ cs) (shown-append (map f ys) (map f stands.behind)))
    ∙ sym (append_assoc placed.front before (own ++ rest)) in
    let size : length (placed.front ++ before) ≡ at = length-append placed.front before in
    let piece : piece_of ys ≡ record { start = length (placed.front ++ before); «end» = length (placed.front ++ before) + length own } =
    piece-at at ss s ys none here
    ∙ ap (λ (cs : List Shown). record { start = at; «end» = at + length (shown_text cs) }) (sym e)
    ∙ ap (λ (n : ℕ). record { start = n; «end» = n + length own }) (sym size) in
    ap (text_at text) piece
    ∙ ap (λ (cs : List ℕ). text_at cs (record { start = length (placed.front ++ before); «end» = length (placed.front ++ before) + length own })) spelled
    ∙ text-between (placed.front ++ before) own rest
    ∙ ap shown_text e
