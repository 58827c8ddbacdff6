-- What stands in a source that is read without a fault.
use Rattle.std.proofs.Common.{◌≡◌, ◌≤◌, inl, inr, ℕ, ◌+◌, Bool, true, false, nat_eq, List, [], ◌∷◌, ◌++◌, map, length, take, drop, Option, Some, None, Ok, refl, sym, ◌∙◌, ap, subst, arith}
use Rattle.std.specs.List.{AllByRecursion, starts_with}
use Rattle.std.specs.Str.{IsUtf8}
use Rattle.std.proofs.lemmas.Bool.{false≢true, eqb-true, and_parts, cond-true, cond-false}
use Rattle.std.proofs.lemmas.List.{append-nil, length-take-le, take-append-drop}
use Rattle.std.proofs.lemmas.Str.{IsCharBoundary-past_char, IsUtf8-drop}
use Rattle.std.proofs.Math.Utf8.{encode}
use Rattle.css_model.specs.declared.token.TokenFlaw.{TokenFlaw}
use Rattle.css_model.specs.declared.token.Gap.TheVariants as gap
use Rattle.css_model.specs.declared.token.Lexeme.{Lexeme}
use Rattle.css_model.specs.Text.Kept.{Solid, is_lone, solid}
use Rattle.css_model.specs.Text.Lexemes.{lexemes}
use Rattle.css_model.specs.Sheets.Spelling.{lexemes_of}
use Rattle.css_model.specs.Text.TokenAt.{part_at}
use Rattle.css_model.specs.Text.Tokens.{Part, Stream, byte_order_mark, fault_behind, parts, stream, text_of, tokens, tokens_at}
use Rattle.css_tokens.specs.Lexed.{IsLexed}
use Rattle.token_laws.specs.Solids.{ends_called, gap_before, solids}
use Rattle.token_laws.proofs.ForCallers.{AreGood, are_good, kept_row, last_may, rest_of, take_good, kept_parts, solids_are_lexemes, PartIs, part_is, lone_gap}
use Rattle.css_tokens.proofs.ForCallers.{parts_join, parts_are_lexed, lexed_whole, mark_len}
use Rattle.print_laws.proofs.Tokens.Lexed.{IsReadAs, KeptLexed}

-- kept text is read where it stands
pub kept-is-lexed : KeptLexed
kept-is-lexed value ps m n is called rest lexed behind =
    let r = rest_of m ps is in
    which r.parts r.lexed (take n (drop m (solids ps))) (ap (take n) r.same) (subst AreGood (ap (take n) r.same) (take_good n (solids r.parts) (are_good r.parts r.lexed))) called
  where
    which : (qs : List Part) → IsLexed qs → (ss : List Solid) → take n (solids qs) ≡ ss → AreGood ss → ends_called ss ≡ false → IsLexed (kept_parts value ss ++ rest)
    which qs lexed_qs [] some good none = lexed
    which qs lexed_qs (t ∷ ts) some good none = (kept_row value rest lexed qs lexed_qs n t ts some (last_may t ts rest good none (inl behind))).lexed

-- a token of parts that are read where they stand
pub record IsGoodSolid (s : Solid) : Type 0 where
  pub read : IsReadAs s.bytes s.kind
  pub lone : is_lone s.kind ≡ true → s.gap ≡ gap.White
  pub utf8 : IsUtf8 s.bytes

pub good-solids : (ps : List Part) → IsLexed ps → AllByRecursion (λ p. IsUtf8 p.bytes) ps → AllByRecursion IsGoodSolid (solids ps)
good-solids [] lexed utf8 = tt
good-solids (p ∷ ps) (here, lexed) (one, utf8) = which (part_is p.kind p.bytes (text_of ps) here) (good-solids ps lexed utf8)
  where
    which : PartIs p.kind p.bytes (text_of ps) → AllByRecursion IsGoodSolid (solids ps) → AllByRecursion IsGoodSolid (solids (p ∷ ps))
    which (inl white) later = rw white.kind later
    which (inr (inl comment)) later = rw comment.kind later
    which (inr (inr s)) later =
        let read : part_at (p.bytes ++ text_of ps) ≡ Ok (Some s.token, length p.bytes) = rw s.kind at here in
        let good : IsGoodSolid (record { kind = s.token; bytes = p.bytes; gap = gap_before false ps }) =
        record { read = record { old = text_of ps; read = read }; lone = λ lone. lone_gap s.token p.bytes ps (s.lone lone) read lexed; utf8 = one } in
        rw (s.kind, s.solid) (good, later)

-- the parts of a source, behind a byte order mark that is skipped
pub record Source (source : List ℕ) : Type 0 where
  pub ps : List Part
  pub front : List ℕ
  pub are : source ≡ front ++ text_of ps
  pub lexed : IsLexed ps
  pub placed : (tokens source true).tokens ≡ tokens_at (length front) false ps
  pub spelled : map (solid source) (lexemes_of source) ≡ solids ps
  pub utf8 : IsUtf8 (text_of ps)

pub clean-flaw : (at : ℕ) (f : Option TokenFlaw) → fault_behind at f ≡ None → f ≡ None
clean-flaw at None e = refl
clean-flaw at (Some f) e = absurd cc

-- the parts from a place on
source-at : (source : List ℕ) (at : ℕ) → at ≤ length source → tokens source true ≡ stream at (drop at source) → (tokens source true).fault ≡ None → IsUtf8 (drop at source) → Source source
source-at source at inside here clean utf8 =
    let text = drop at source in
    let p = parts text in
    let flawless : p.flaw ≡ None = clean-flaw (at + length (text_of p.parts)) p.flaw (sym (ap (λ (s : Stream). s.fault) here) ∙ clean) in
    let joined = parts_join text in
    let whole : text ≡ text_of p.parts = joined.1 ∙ ap (λ (cs : List ℕ). text_of p.parts ++ cs) (joined.2 flawless) ∙ append-nil (text_of p.parts) in
    record {
      ps = p.parts;
      front = take at source;
      are = sym (take-append-drop at source) ∙ ap (λ (cs : List ℕ). take at source ++ cs) whole;
      lexed = parts_are_lexed text flawless;
      placed = ap (λ (s : Stream). s.tokens) here ∙ ap (λ (n : ℕ). tokens_at n false p.parts) (sym (length-take-le at source inside));
      spelled = ap (λ (s : Stream). map (solid source) (lexemes s.tokens)) here ∙ solids_are_lexemes source at;
      utf8 = subst IsUtf8 whole utf8;
    }

marked : (source : List ℕ) → starts_with nat_eq source byte_order_mark ≡ true → IsUtf8 source → IsUtf8 (drop 3 source)
unfolding encode
marked [] mark utf8 = absurd (false≢true mark)
marked (a ∷ []) mark utf8 = absurd (false≢true (and_parts (nat_eq 0xEF a) _ mark).1)
marked (a ∷ b ∷ []) mark utf8 = absurd (false≢true (and_parts (nat_eq 0xBB b) _ (and_parts (nat_eq 0xEF a) _ mark).1).1)
marked (a ∷ b ∷ c ∷ rest) mark utf8 =
    let one = and_parts (nat_eq 0xEF a) _ mark in
    let two = and_parts (nat_eq 0xBB b) _ one.1 in
    let three = and_parts (nat_eq 0xBF c) _ two.1 in
    let is : a ∷ b ∷ c ∷ rest ≡ encode 0xFEFF ++ rest =
    ap (λ (x : ℕ). x ∷ b ∷ c ∷ rest) (sym (eqb-true 0xEF a one.0)) ∙ ap (λ (x : ℕ). 0xEF ∷ x ∷ c ∷ rest) (sym (eqb-true 0xBB b two.0)) ∙ ap (λ (x : ℕ). 0xEF ∷ 0xBB ∷ x ∷ rest) (sym (eqb-true 0xBF c three.0)) in
    IsUtf8-drop (a ∷ b ∷ c ∷ rest) 3 utf8 (IsCharBoundary-past_char (a ∷ b ∷ c ∷ rest) rest 0 0xFEFF (omega arith) utf8 is)

pub source-of : (source : List ℕ) → (tokens source true).fault ≡ None → IsUtf8 source → Source source
source-of source clean utf8 = which (starts_with nat_eq source byte_order_mark) refl
  where
    which : (b : Bool) → starts_with nat_eq source byte_order_mark ≡ b → Source source
    which true mark = source-at source 3 (mark_len source mark) (cond-true _ _ _ mark) clean (marked source mark utf8)
    which false none = source-at source 0 (omega arith) (cond-false _ _ _ none) clean utf8

-- the tokens of a source
pub record IsGoodLexeme (source : List ℕ) (x : Lexeme) : Type 0 where
  pub good : IsGoodSolid (solid source x)

pub good-lexemes : (source : List ℕ) (s : Source source) → AllByRecursion (IsGoodLexeme source) (lexemes_of source)
good-lexemes source s = from (lexemes_of source) (subst (AllByRecursion IsGoodSolid) (sym s.spelled) (good-solids s.ps s.lexed (lexed_whole s.ps s.lexed s.utf8)))
  where
    from : (xs : List Lexeme) → AllByRecursion IsGoodSolid (map (solid source) xs) → AllByRecursion (IsGoodLexeme source) xs
    from [] each = tt
    from (x ∷ xs) (one, rest) = (record { good = one }, from xs rest)
