-- A source has no more tokens than bytes.
use Rattle.std.proofs.Common.{ℕ, zero, suc, ◌≤◌, ◌+◌, List, [], ◌∷◌, length, drop, Bool, true, false, length-drop, Option, Some, None, Result, Ok, Err, nat_eq, arith}
use Rattle.std.specs.List.{starts_with}
use Rattle.std.proofs.lemmas.Bool.{cond_both}
use Rattle.css_model.specs.declared.token.TokenFlaw.{TokenFlaw}
use Rattle.css_model.specs.declared.token.TokenKind.{TokenKind}
use Rattle.css_model.specs.Text.TokenAt.{Shape, part_at}
use Rattle.css_model.specs.Text.Tokens.{Part, Parts, after_first, byte_order_mark, is_comment, part_then, parts, parts_from, stream, token_then, tokens, tokens_at}

few-more : (r : Result Shape TokenFlaw) (text : List ℕ) (more : Parts) (n : ℕ) → length more.parts ≤ n → length (part_then r text more).parts ≤ suc n
few-more (Ok s) text more n h = omega (arith, h)
few-more (Err f) text more n h = omega arith

few-parts : (left : ℕ) (text : List ℕ) → length (parts_from left text).parts ≤ length text
few-parts left [] = omega arith
few-parts (suc left) (c ∷ cs) = let h = few-parts left cs in omega (arith, h)
few-parts zero (c ∷ cs) = few-more (part_at (c ∷ cs)) (c ∷ cs) (parts_from (after_first (part_at (c ∷ cs))) cs) (length cs) (few-parts (after_first (part_at (c ∷ cs))) cs)

few-then : (k : Option TokenKind) (at n : ℕ) (comment : Bool) (more : List _) (m : ℕ) → length more ≤ m → length (token_then k at n comment more) ≤ suc m
few-then None at n comment more m h = omega (arith, h)
few-then (Some k) at n comment more m h = omega (arith, h)

few-tokens : (at : ℕ) (comment : Bool) (ps : List Part) → length (tokens_at at comment ps) ≤ length ps
few-tokens at comment [] = omega arith
few-tokens at comment (p ∷ ps) =
    few-then p.kind at (length p.bytes) comment _ (length ps) (few-tokens (at + length p.bytes) (is_comment p.kind) ps)

few-stream : (at : ℕ) (text : List ℕ) → length (stream at text).tokens ≤ length text
few-stream at text = let h = few-tokens at false (parts text).parts in let k = few-parts 0 text in omega (arith, h, k)

pub few : (source : List ℕ) → length (tokens source true).tokens ≤ length source
few source =
    let a = few-stream 3 (drop 3 source) in let b = few-stream 0 source in
    cond_both (starts_with nat_eq source byte_order_mark) (stream 3 (drop 3 source)) (stream 0 source) (λ s. length s.tokens ≤ length source)
    (λ _. omega (arith, a, length-drop 3 source)) (λ _. b)
