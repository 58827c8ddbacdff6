-- The printed text of a sheet has the tokens that are shown for it.
use Rattle.std.proofs.Common.{◌≡◌, ℕ, suc, Bool, true, false, cond, nat_eq, List, [], ◌∷◌, map, length, Some, None, Ok, refl, sym, ◌∙◌, ap, subst, arith}
use Rattle.std.specs.List.{starts_with}
use Rattle.std.proofs.lemmas.Bool.{false≢true, eqb-true, and_parts, cond-false}
use Rattle.css_model.specs.declared.token.Bracket.{Bracket}
use Rattle.css_model.specs.declared.token.Lexeme.{Lexeme}
use Rattle.css_model.specs.Text.Characters.{space}
use Rattle.css_model.specs.Text.Lexemes.{after_all, lexemes}
use Rattle.css_model.specs.Sheets.Printed.{behind_mark}
use Rattle.css_model.specs.Sheets.Spelling.{lexemes_of}
use Rattle.css_model.specs.Text.Tokens.{Part, Stream, byte_order_mark, parts, stream_of, text_of, tokens, tokens_at}
use Rattle.css_model.specs.Text.Units.{white_unit}
use Rattle.css_model.specs.Text.TokenAt.{part_at}
use Rattle.css_model.specs.declared.token.TokenKind.TheVariants as kind
use Rattle.css_tokens.specs.Lexed.{IsLexed}
use Rattle.token_laws.proofs.ForCallers.{space_read}
use Rattle.css_tokens.proofs.ForCallers.{lexed_are_parts}
use Rattle.sheet_laws.proofs.ForCallers.{Shown, shown}
use Rattle.print_laws.proofs.Tokens.Chain.{chain-shown, closers_after_all, parts_of, white_part}
use Rattle.print_laws.proofs.Tokens.Places.{AreAt, ArePlaced, parts-at}
use Rattle.print_laws.proofs.Tokens.Texts.{shown_text}
use Rattle.print_laws.proofs.Levels.Brackets.{lexemes-open, open_behind}
use Rattle.print_laws.proofs.Tokens.Parts.{closers_after, closers_of, shown_parts, tokens-shown}
use Rattle.print_laws.proofs.Levels.Sheet.{Chain}

-- a text of these parts, of which the first may be a space, has no fault, and the tokens that are shown
pub record HasTokens (text : List ℕ) (ss : List Shown) : Type 0 where
  pub clean : (tokens text true).fault ≡ None
  pub shown_as : map (shown text) (lexemes_of text) ≡ ss
  pub open_none : after_all [] (tokens text true).tokens ≡ []

open-shown : (text : List ℕ) (xs : List Lexeme) (cs : List ℕ) → open_behind cs xs ≡ closers_after_all cs (map (shown text) xs)
open-shown text [] cs = refl
open-shown text (x ∷ xs) cs = open-shown text xs (closers_after x.kind cs)

none-open : (brackets : List Bracket) → closers_of brackets ≡ [] → brackets ≡ []
none-open [] e = refl
none-open (b ∷ brackets) e = absurd (let n : suc (length (closers_of brackets)) ≡ 0 = ap length e in omega (arith, n))

-- the stream of a text at whose start no byte order mark is skipped
stream-is : (text : List ℕ) (ps : List Part) → text ≡ text_of ps → IsLexed ps → starts_with nat_eq text byte_order_mark ≡ false → tokens text true ≡ stream_of 0 false (record { parts = ps; flaw = None })
stream-is text ps is lexed no_mark = cond-false _ _ _ no_mark ∙ ap (stream_of 0 false) (ap parts is ∙ lexed_are_parts ps lexed)

-- the tokens of such a text
has-tokens : (text : List ℕ) (ps : List Part) (ss : List Shown) → text ≡ text_of ps → IsLexed ps → starts_with nat_eq text byte_order_mark ≡ false → shown_parts [] ps ≡ ss → Chain [] ss [] → HasTokens text ss
has-tokens text ps ss is lexed no_mark show chain =
    let here = stream-is text ps is lexed no_mark in
    let ts : (tokens text true).tokens ≡ tokens_at 0 false ps = ap (λ (s : Stream). s.tokens) here in
    let are : map (shown text) (lexemes_of text) ≡ ss = ap (λ ts. map (shown text) (lexemes ts)) ts ∙ tokens-shown text [] ps false [] is ∙ show in
    record {
      clean = ap (λ (s : Stream). s.fault) here;
      shown_as = are;
      open_none = none-open (after_all [] (tokens text true).tokens)
          (sym (lexemes-open [] (tokens text true).tokens) ∙ open-shown text (lexemes_of text) [] ∙ ap (closers_after_all []) are ∙ chain.ends);
    }

mark-first : (text : List ℕ) → starts_with nat_eq text byte_order_mark ≡ true → white_unit text ≡ 0
mark-first [] mark = absurd (false≢true mark)
mark-first (c ∷ cs) mark =
    let first : 0xEF ≡ c = eqb-true 0xEF c (and_parts (nat_eq 0xEF c) _ mark).0 in
    ap (λ (b : ℕ). white_unit (b ∷ cs)) (sym first)

-- The printed text, with a space before a byte order mark, has them too.
pub printed-tokens : (ps : List Part) (ss : List Shown) (text : List ℕ) → text ≡ text_of ps → IsLexed ps → shown_parts [] ps ≡ ss → Chain [] ss [] → HasTokens (behind_mark text) ss
printed-tokens ps ss text is lexed show chain = which (starts_with nat_eq text byte_order_mark) refl
  where
    which : (b : Bool) → starts_with nat_eq text byte_order_mark ≡ b → HasTokens (cond b (space ∷ text) text) ss
    which false none = has-tokens text ps ss is lexed none show chain
    which true mark =
        has-tokens (space ∷ text) (white_part (space ∷ []) ∷ ps) ss (ap (λ (cs : List ℕ). space ∷ cs) is)
        (subst (λ (cs : List ℕ). part_at (space ∷ cs) ≡ Ok (Some kind.White, 1)) is (space_read text (mark-first text mark)), lexed)
        refl show chain

-- Its tokens stand one behind the other.
pub printed-places : (ss : List Shown) (text : List ℕ) → text ≡ shown_text ss → IsLexed (parts_of ss) → Chain [] ss [] → ArePlaced (behind_mark text) ss
printed-places ss text is lexed chain = which (starts_with nat_eq text byte_order_mark) refl (printed-tokens (parts_of ss) ss text is lexed (chain-shown [] ss chain.chain) chain).shown_as
  where
    at : (whole : List ℕ) (ps : List Part) (front : List ℕ) → whole ≡ text_of ps → IsLexed ps → starts_with nat_eq whole byte_order_mark ≡ false
        → AreAt (length front) ss (lexemes (tokens_at 0 false ps)) → AreAt (length front) ss (lexemes_of whole)
    at whole ps front is lexed no_mark places = subst (λ (s : Stream). AreAt (length front) ss (lexemes s.tokens)) (sym (stream-is whole ps is lexed no_mark)) places

    which : (b : Bool) → starts_with nat_eq text byte_order_mark ≡ b → map (shown (cond b (space ∷ text) text)) (lexemes_of (cond b (space ∷ text) text)) ≡ ss → ArePlaced (cond b (space ∷ text) text) ss
    which false none shown_as = record { front = []; is = is; places = at text (parts_of ss) [] is lexed none (parts-at 0 false [] [] ss chain.chain); shown_as = shown_as }
    which true mark shown_as = record {
      front = space ∷ [];
      is = ap (λ (cs : List ℕ). space ∷ cs) is;
      places =
          at (space ∷ text) (white_part (space ∷ []) ∷ parts_of ss) (space ∷ []) (ap (λ (cs : List ℕ). space ∷ cs) is)
          (subst (λ (cs : List ℕ). part_at (space ∷ cs) ≡ Ok (Some kind.White, 1)) is (space_read text (mark-first text mark)), lexed) refl
          (parts-at 1 false [] [] ss chain.chain);
      shown_as = shown_as;
    }
