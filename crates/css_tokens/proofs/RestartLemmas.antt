-- The tokens of a source from where one of them begins.
use Rattle.std.proofs.Common.{ℕ, zero, suc, ◌+◌, ◌-◌, ◌<◌, ◌≤◌, ◌≡◌, ◌⊎◌, inl, inr, Bool, true, false, List, Result, Ok, Err, Some, None, length, drop, refl, sym, ap, ◌∙◌, subst, arith}
use Rattle.std.proofs.lemmas.Bool.{cases_lt}
use Rattle.std.proofs.lemmas.List.{length-drop}
use Rattle.css_model.specs.declared.token.Token.{Token}
use Rattle.css_model.specs.declared.token.TokenFlaw.{TokenFlaw}
use Rattle.css_model.specs.Text.TokenAt.{Shape, part_at}
use Rattle.css_model.specs.Text.Tokens.{Stream, parts, stream_of}
use Rattle.css_tokens.specs.Laws.{StandsIn, Restarts, TokensRestart}
use Rattle.css_tokens.proofs.PartLemmas.{part_len}
use Rattle.css_tokens.proofs.StreamLemmas.{next_comment, next_token, next_flaw, next_end}

-- the tokens behind comments that end at this place
pub restarts : (n : ℕ) (source : List ℕ) (from at : ℕ) (comment : Bool) → length source - at ≤ n → from ≤ at → Restarts source from (stream_of at comment (parts (drop at source))).tokens
restarts zero source from at comment short low = subst (λ (s : Stream). Restarts source from s.tokens) (sym (next_end source at comment (omega arith))) tt
restarts (suc n) source from at comment short low =
    which (part_at (drop at source)) refl
    (λ (from at : ℕ) (comment : Bool) (short : length source - at ≤ n) (low : from ≤ at). restarts n source from at comment short low)
    (cases_lt at (length source))
  where
    which : (r : Result Shape TokenFlaw) → part_at (drop at source) ≡ r
        → ((from at : ℕ) (comment : Bool) → length source - at ≤ n → from ≤ at → Restarts source from (stream_of at comment (parts (drop at source))).tokens)
        → (at < length source) ⊎ (length source ≤ at) → Restarts source from (stream_of at comment (parts (drop at source))).tokens
    which r is later (inr past) = subst (λ (s : Stream). Restarts source from s.tokens) (sym (next_end source at comment past)) tt
    which (Err f) is later (inl below) = subst (λ (s : Stream). Restarts source from s.tokens) (sym (next_flaw source at comment f below is)) tt
    which (Ok (None, m)) is later (inl below) =
        let len = part_len (drop at source) (None, m) is in
        subst (λ (s : Stream). Restarts source from s.tokens) (sym (next_comment source at m comment is)) (later from (at + m) true (omega (arith, len.0)) (omega arith))
    which (Ok (Some k, m)) is later (inl below) =
        let len = part_len (drop at source) (Some k, m) is in
        let size : at + m - at ≡ m = omega arith in
        let here : Token = record { kind = k; span = record { start = at; «end» = at + m }; comment_before = comment } in
        let stands : StandsIn source here = record {
          ordered = omega (arith, len.0);
          inside = omega (arith, len.1, length-drop at source);
          reads = is ∙ ap (λ (j : ℕ). Ok (Some k, j)) (sym size);
        } in
        let again = ap (λ (s : Stream). s.tokens) (next_token source at m false k is) in
        let rest = later (at + m) (at + m) false (omega (arith, len.0)) (omega arith) in
        subst (λ (s : Stream). Restarts source from s.tokens) (sym (next_token source at m comment k is)) (low, stands, again, rest)

pub tokens_restart : TokensRestart
tokens_restart source from inside = restarts (length source) source from from false (omega arith) (omega arith)
