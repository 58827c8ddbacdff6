-- The parts of a text, one at a time, and what each makes of the tokens with their places.
use Rattle.std.proofs.Common.{ℕ, zero, suc, ◌+◌, ◌<◌, ◌≤◌, ◌≡◌, Bool, true, false, List, [], ◌∷◌, ◌++◌, Option, Ok, Err, Some, None, length, drop, take, add-zero, refl, ap, ◌∙◌, arith}
use Rattle.std.proofs.lemmas.List.{length-take-le, length-append, length-drop, drop-drop, drop_all}
use Rattle.css_model.specs.declared.token.TokenKind.{TokenKind}
use Rattle.css_model.specs.declared.token.TokenFlaw.{TokenFlaw}
use Rattle.css_model.specs.declared.token.Token.{Token}
use Rattle.css_model.specs.Text.TokenAt.{part_at}
use Rattle.css_model.specs.Text.Tokens.{Parts, Stream, part_then, parts_from, parts, text_of, stream_of, fault_at}
use Rattle.css_tokens.proofs.PartLemmas.{part_len}

pub parts_from-drop : (left : ℕ) (text : List ℕ) → parts_from left text ≡ parts (drop left text)
parts_from-drop zero text = refl
parts_from-drop (suc left) [] = refl
parts_from-drop (suc left) (c ∷ cs) = parts_from-drop left cs

-- a text that begins with a part of n bytes
pub parts_part : (text : List ℕ) (k : Option TokenKind) (n : ℕ) → part_at text ≡ Ok (k, n) → 0 < n → n ≤ length text
    → parts text ≡ part_then (Ok (k, n)) text (parts (drop n text))
parts_part [] k n is positive short = absurd (omega arith)
parts_part (c ∷ cs) k zero is positive short = absurd (omega arith)
parts_part (c ∷ cs) k (suc n) is positive short = rw (is, parts_from-drop n cs) refl

-- a text where no part can be read
pub parts_flaw : (text : List ℕ) (f : TokenFlaw) → 0 < length text → part_at text ≡ Err f → parts text ≡ record { parts = []; flaw = Some f }
parts_flaw [] f some is = absurd (omega arith)
parts_flaw (c ∷ cs) f some is = rw is refl

-- a comment at the front, and what follows it
pub placed_comment : (at n : ℕ) (comment : Bool) (text : List ℕ) (more : Parts) → n ≤ length text
    → stream_of at comment (part_then (Ok (None, n)) text more) ≡ stream_of (at + n) true more
placed_comment at n comment text more short =
    let len = length-take-le n text short in
    let behind : at + length (take n text ++ text_of more.parts) ≡ at + n + length (text_of more.parts) = omega (arith, len, length-append (take n text) (text_of more.parts)) in
    rw (behind, len) refl

-- a token at the front, and what follows it
pub placed_token : (at n : ℕ) (comment : Bool) (k : TokenKind) (text : List ℕ) (more : Parts) → n ≤ length text
    → stream_of at comment (part_then (Ok (Some k, n)) text more)
    ≡ record { tokens = record { kind = k; span = record { start = at; «end» = at + n }; comment_before = comment } ∷ (stream_of (at + n) false more).tokens; fault = (stream_of (at + n) false more).fault }
placed_token at n comment k text more short =
    let len = length-take-le n text short in
    let behind : at + length (take n text ++ text_of more.parts) ≡ at + n + length (text_of more.parts) = omega (arith, len, length-append (take n text) (text_of more.parts)) in
    rw (behind, len) refl

-- a place where a comment stands
pub next_comment : (source : List ℕ) (at n : ℕ) (comment : Bool) → part_at (drop at source) ≡ Ok (None, n)
    → stream_of at comment (parts (drop at source)) ≡ stream_of (at + n) true (parts (drop (at + n) source))
next_comment source at n comment is =
    let rest = drop at source in
    let len = part_len rest (None, n) is in
    ap (stream_of at comment) (parts_part rest None n is len.0 len.1)
    ∙ placed_comment at n comment rest (parts (drop n rest)) len.1
    ∙ ap (λ (cs : List ℕ). stream_of (at + n) true (parts cs)) (drop-drop n at source)

-- a token before the others
abbrev pub token_before : Token → Stream → Stream
token_before t others = record { tokens = t ∷ others.tokens; fault = others.fault }

-- a place where a token stands
pub next_token : (source : List ℕ) (at n : ℕ) (comment : Bool) (k : TokenKind) → part_at (drop at source) ≡ Ok (Some k, n)
    → stream_of at comment (parts (drop at source))
    ≡ token_before (record { kind = k; span = record { start = at; «end» = at + n }; comment_before = comment }) (stream_of (at + n) false (parts (drop (at + n) source)))
next_token source at n comment k is =
    let rest = drop at source in
    let len = part_len rest (Some k, n) is in
    ap (stream_of at comment) (parts_part rest (Some k) n is len.0 len.1)
    ∙ placed_token at n comment k rest (parts (drop n rest)) len.1
    ∙ ap (λ (cs : List ℕ). token_before (record { kind = k; span = record { start = at; «end» = at + n }; comment_before = comment }) (stream_of (at + n) false (parts cs))) (drop-drop n at source)

-- a place where nothing can be read
pub next_flaw : (source : List ℕ) (at : ℕ) (comment : Bool) (f : TokenFlaw) → at < length source → part_at (drop at source) ≡ Err f
    → stream_of at comment (parts (drop at source)) ≡ record { tokens = []; fault = Some (fault_at at f) }
next_flaw source at comment f inside is =
    ap (stream_of at comment) (parts_flaw (drop at source) f (omega (arith, length-drop at source)) is)
    ∙ ap (λ (place : ℕ). record { tokens = []; fault = Some (fault_at place f) }) (add-zero at)

-- the end
pub next_end : (source : List ℕ) (at : ℕ) (comment : Bool) → length source ≤ at → stream_of at comment (parts (drop at source)) ≡ record { tokens = []; fault = None }
next_end source at comment past = ap (λ (cs : List ℕ). stream_of at comment (parts cs)) (drop_all at source past)
