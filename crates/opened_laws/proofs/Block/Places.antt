-- Where the tokens of a text stand whose parts are those of shown tokens.
use Rattle.std.proofs.Common.{◌≡◌, ℕ, suc, ◌+◌, List, [], ◌∷◌, ◌++◌, map, length, drop, refl, sym, ◌∙◌, ap, ap₂, arith}
use Rattle.std.proofs.lemmas.List.{append_assoc, length-append, length-map, map-append}
use Rattle.std.proofs.Math.Seq.{drop-append_seam}
use Rattle.css_model.specs.declared.sheet.Piece.{Piece}
use Rattle.css_model.specs.declared.token.Lexeme.{Lexeme}
use Rattle.css_model.specs.Text.Lexemes.{end_of, piece_of}
use Rattle.css_model.specs.Text.Tokens.{text_of}
use Rattle.list_facts.proofs.Zips.{cons_head, cons_tail}
use Rattle.sheet_laws.proofs.ForCallers.{Shown}
use Rattle.print_laws.proofs.ForCallers.{AreAt, gap_parts, gap_size, shown-append, shown-first, shown_text}

-- where tokens stand that are spelled from this place on
abbrev pub spans : ℕ → List Shown → List Piece
spans at [] = []
spans at (s ∷ ss) = record { start = at; «end» = at + length s.bytes } ∷ spans (at + length s.bytes + gap_size s) ss

pub spans_are : (at : ℕ) (ss : List Shown) (xs : List Lexeme) → AreAt at ss xs → map (λ x. x.span) xs ≡ spans at ss
spans_are at [] [] placed = refl
spans_are at [] (x ∷ xs) placed = absurd placed
spans_are at (s ∷ ss) [] placed = absurd placed
spans_are at (s ∷ ss) (x ∷ xs) (here, later) = ap₂ (λ (p : Piece) (ps : List Piece). p ∷ ps) here (spans_are (at + length s.bytes + gap_size s) ss xs later)

shown_size : (s : Shown) (ss : List Shown) → length (shown_text (s ∷ ss)) ≡ length s.bytes + (gap_size s + length (shown_text ss))
shown_size s ss =
    ap length (shown-first s ss) ∙ length-append s.bytes (text_of (gap_parts s.kind s.gap) ++ shown_text ss)
    ∙ ap (λ (n : ℕ). length s.bytes + n) (length-append (text_of (gap_parts s.kind s.gap)) (shown_text ss))

pub spans_append : (at : ℕ) (ss more : List Shown) → spans at (ss ++ more) ≡ spans at ss ++ spans (at + length (shown_text ss)) more
spans_append at [] more = ap (λ (n : ℕ). spans n more) (let e : at ≡ at + 0 = omega arith in e)
spans_append at (s ∷ ss) more =
    ap (λ (ps : List Piece). record { start = at; «end» = at + length s.bytes } ∷ ps)
    (spans_append (at + length s.bytes + gap_size s) ss more
    ∙ ap (λ (n : ℕ). spans (at + length s.bytes + gap_size s) ss ++ spans n more)
    (let e : at + length s.bytes + gap_size s + length (shown_text ss) ≡ at + length (shown_text (s ∷ ss)) = omega (arith, shown_size s ss) in e))

-- how long the text of a block is
pub block_size : (head : List Shown) (o : Shown) (inside : List Shown) (c : Shown) → gap_size c ≡ 0
    → length (shown_text (head ++ o ∷ (inside ++ c ∷ []))) ≡ length (shown_text head) + length o.bytes + gap_size o + length (shown_text inside) + length c.bytes
block_size head o inside c none =
    let front = ap length (shown-append head (o ∷ (inside ++ c ∷ []))) ∙ length-append (shown_text head) (shown_text (o ∷ (inside ++ c ∷ []))) in
    let opens = shown_size o (inside ++ c ∷ []) in
    let within = ap length (shown-append inside (c ∷ [])) ∙ length-append (shown_text inside) (shown_text (c ∷ [])) in
    let shuts = shown_size c [] in
    let nothing : length (shown_text []) ≡ 0 = refl in
    omega (arith, front, opens, within, shuts, nothing, none)

length_spans : (at : ℕ) (ss : List Shown) → length (spans at ss) ≡ length ss
length_spans at [] = refl
length_spans at (s ∷ ss) = ap suc (length_spans (at + length s.bytes + gap_size s) ss)

-- behind as many tokens
behind_as_many : {A : Type 0} (xs ys more others : List A) → length xs ≡ length ys → xs ++ more ≡ ys ++ others → more ≡ others
behind_as_many xs ys more others size e =
    sym (drop-append_seam xs more) ∙ ap (λ (n : ℕ). drop n (xs ++ more)) size ∙ ap (drop (length ys)) e ∙ drop-append_seam ys others

end_of_last : (x : Lexeme) (xs : List Lexeme) (last : Lexeme) → end_of x (xs ++ last ∷ []) ≡ last.span.«end»
end_of_last x [] last = refl
end_of_last x (y ∷ ys) last = end_of_last y ys last

-- from the first token to the last one
abbrev first_start : List Piece → ℕ
first_start [] = 0
first_start (p ∷ ps) = p.start

piece_to : (xs : List Lexeme) (last : Lexeme) → piece_of (xs ++ last ∷ []) ≡ record { start = first_start (map (λ x. x.span) (xs ++ last ∷ [])); «end» = last.span.«end» }
piece_to [] last = refl
piece_to (x ∷ xs) last = ap (λ (n : ℕ). record { start = x.span.start; «end» = n }) (end_of_last x xs last)

starts_whole : (ss : List Shown) (s : Shown) (more : List Shown) → first_start (spans 0 (ss ++ s ∷ more)) ≡ 0
starts_whole [] s more = refl
starts_whole (t ∷ ss) s more = refl

-- a block's tokens: those of its head, the sign that opens it, those inside, and the sign that closes it
pub record BlockPlaces (front : List Lexeme) (open_ : Lexeme) (inner : List Lexeme) (close : Lexeme) (head : List Shown) (o : Shown) (inside : List Shown) (c : Shown) : Type 0 where
  pub opens : open_.span ≡ record { start = length (shown_text head); «end» = length (shown_text head) + length o.bytes }
  pub closes : close.span ≡ record {
    start = length (shown_text head) + length o.bytes + gap_size o + length (shown_text inside);
    «end» = length (shown_text head) + length o.bytes + gap_size o + length (shown_text inside) + length c.bytes;
  }
  pub whole : piece_of (front ++ open_ ∷ (inner ++ close ∷ [])) ≡ record { start = 0; «end» = close.span.«end» }

pub block_places : (front : List Lexeme) (open_ : Lexeme) (inner : List Lexeme) (close : Lexeme) (head : List Shown) (o : Shown) (inside : List Shown) (c : Shown)
    → map (λ x. x.span) (front ++ open_ ∷ (inner ++ close ∷ [])) ≡ spans 0 (head ++ o ∷ (inside ++ c ∷ [])) → length front ≡ length head → length inner ≡ length inside
    → BlockPlaces front open_ inner close head o inside c
block_places front open_ inner close head o inside c e long inner_long = record {
  opens = cons_head open_.span _ _ _ from_open;
  closes = cons_head close.span _ _ _ from_close;
  whole =
      let regroup : front ++ open_ ∷ (inner ++ close ∷ []) ≡ (front ++ open_ ∷ inner) ++ close ∷ [] = sym (append_assoc front (open_ ∷ inner) (close ∷ [])) in
      let starts : first_start (map (λ x. x.span) ((front ++ open_ ∷ inner) ++ close ∷ [])) ≡ 0 =
      ap (λ (xs : List Lexeme). first_start (map (λ x. x.span) xs)) (sym regroup) ∙ ap first_start e ∙ starts_whole head o (inside ++ c ∷ []) in
      ap piece_of regroup ∙ piece_to (front ++ open_ ∷ inner) close ∙ ap (λ (n : ℕ). record { start = n; «end» = close.span.«end» }) starts;
}
  where
    size : length (map (λ x. x.span) front) ≡ length (spans 0 head)
    size = length-map front (λ x. x.span) ∙ long ∙ sym (length_spans 0 head)

    from_open : map (λ x. x.span) (open_ ∷ (inner ++ close ∷ [])) ≡ spans (length (shown_text head)) (o ∷ (inside ++ c ∷ []))
    from_open = behind_as_many (map (λ x. x.span) front) (spans 0 head) _ _ size
        (sym (map-append (λ x. x.span) front (open_ ∷ (inner ++ close ∷ []))) ∙ e ∙ spans_append 0 head (o ∷ (inside ++ c ∷ [])))
        ∙ ap (λ (n : ℕ). spans n (o ∷ (inside ++ c ∷ []))) (let z : 0 + length (shown_text head) ≡ length (shown_text head) = omega arith in z)

    from_close : map (λ x. x.span) (close ∷ []) ≡ spans (length (shown_text head) + length o.bytes + gap_size o + length (shown_text inside)) (c ∷ [])
    from_close = behind_as_many (map (λ x. x.span) inner) (spans (length (shown_text head) + length o.bytes + gap_size o) inside) _ _
        (length-map inner (λ x. x.span) ∙ inner_long ∙ sym (length_spans (length (shown_text head) + length o.bytes + gap_size o) inside))
        (sym (map-append (λ x. x.span) inner (close ∷ [])) ∙ cons_tail open_.span _ _ _ from_open ∙ spans_append (length (shown_text head) + length o.bytes + gap_size o) inside (c ∷ []))
