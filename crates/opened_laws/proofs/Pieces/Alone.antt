-- A text that stands inside the block of another, by itself.
use Rattle.std.proofs.Common.{◌≡◌, ◌≤◌, ℕ, ◌+◌, ◌-◌, Bool, true, false, cond, nat_eq, not, List, [], ◌∷◌, length, map, take, drop, Option, Some, None, refl, sym, ◌∙◌, ap, arith}
use Rattle.std.specs.Prelude.{◌&&◌, if◌then◌else◌}
use Rattle.std.specs.List.{AllByRecursion, last_or, starts_with}
use Rattle.std.specs.Option.{option_map}
use Rattle.std.specs.Str.{IsUtf8}
use Rattle.std.proofs.lemmas.Bool.{cond-false}
use Rattle.std.proofs.lemmas.List.{drop-drop, drop-take, length-append, take-take}
use Rattle.opened_laws.proofs.Block.Moved.{IsMoved, IsMovedInner, IsMovedLast, end_gap, token_at}
use Rattle.css_model.specs.declared.token.Bracket.{Bracket}
use Rattle.css_model.specs.declared.token.Gap.{Gap}
use Rattle.css_model.specs.declared.token.Gap.TheVariants as gap
use Rattle.css_model.specs.declared.token.Lexeme.{Lexeme}
use Rattle.css_model.specs.declared.token.TokenKind.{TokenKind}
use Rattle.css_model.specs.Sheets.Sheet.{unclosed}
use Rattle.css_model.specs.Sheets.Spelling.{lexemes_of}
use Rattle.css_model.specs.Text.Kept.{is_lone, is_white_gap}
use Rattle.css_model.specs.Text.Lexemes.{after, after_all, is_white_kind, lexeme, lexemes, lexemes_in}
use Rattle.css_model.specs.Text.Source.{text_at}
use Rattle.css_model.specs.Text.Tokens.{Part, Stream, byte_order_mark, is_comment, parts, stream_of, text_of, token_then, tokens, tokens_at}
use Rattle.css_tokens.specs.Lexed.{IsLexed}
use Rattle.css_tokens.proofs.ForCallers.{lexed_are_parts}
use Rattle.list_facts.proofs.Zips.{AllLast}
use Rattle.print_laws.proofs.ForCallers.{Ground, closers_of, ground, lexemes-open, open_behind}
use Rattle.sheet_laws.proofs.ForCallers.{Shown, closed, shown}

-- ---- parts that are a text

none_of_closers : (brackets : List Bracket) → closers_of brackets ≡ [] → brackets ≡ []
none_of_closers [] e = refl
none_of_closers (b ∷ brackets) e = absurd (cc)

-- A text without a byte order mark at its start, by its parts: it is read without a fault of a token or a bracket.
pub record IsAlone (body : List ℕ) (ps : List Part) : Type 0 where
  pub clean : (tokens body true).fault ≡ None
  pub no_unclosed : unclosed (tokens body true).tokens ≡ None
  pub utf8 : IsUtf8 body
  pub ground : Ground body
  pub tokens_are : lexemes_of body ≡ lexemes_in [] (tokens_at 0 false ps)

pub alone : (body : List ℕ) (ps : List Part) → body ≡ text_of ps → IsLexed ps → IsUtf8 body → starts_with nat_eq body byte_order_mark ≡ false → open_behind [] (lexemes_in [] (tokens_at 0 false ps)) ≡ []
    → IsAlone body ps
alone body ps is lexed utf8 unmarked closed_ =
    let here : tokens body true ≡ stream_of 0 false (record { parts = ps; flaw = None }) = cond-false _ _ _ unmarked ∙ ap (stream_of 0 false) (ap parts is ∙ lexed_are_parts ps lexed) in
    let ts : (tokens body true).tokens ≡ tokens_at 0 false ps = ap (λ (s : Stream). s.tokens) here in
    let none : after_all [] (tokens_at 0 false ps) ≡ [] = none_of_closers (after_all [] (tokens_at 0 false ps)) (sym (lexemes-open [] (tokens_at 0 false ps)) ∙ closed_) in
    let clean : (tokens body true).fault ≡ None = ap (λ (s : Stream). s.fault) here in
    let no_unclosed : unclosed (tokens body true).tokens ≡ None = ap unclosed ts ∙ ap (λ bs. option_map (λ b. b.at) (last_or None bs)) none in
    record {
      clean = clean;
      no_unclosed = no_unclosed;
      utf8 = utf8;
      ground = ground body clean utf8 no_unclosed;
      tokens_are = ap lexemes ts;
    }

-- ---- the tokens lie in it

abbrev pub LieBefore : ℕ → List Lexeme → Type 0
LieBefore n xs = AllByRecursion (λ x. (x.span.start ≤ x.span.«end») × (x.span.«end» ≤ n)) xs

pub lie_before : (n at : ℕ) (comment : Bool) (brackets : List Bracket) (ps : List Part) → at + length (text_of ps) ≤ n → LieBefore n (lexemes_in brackets (tokens_at at comment ps))
lie_before n at comment brackets [] fits = tt
lie_before n at comment brackets (p ∷ ps) fits =
    which p.kind (λ c bs. lie_before n (at + length p.bytes) c bs ps (omega (arith, fits, size)))
  where
    size : length (text_of (p ∷ ps)) ≡ length p.bytes + length (text_of ps)
    size = length-append p.bytes (text_of ps)

    white : (k : TokenKind) (w : Bool) → ((c : Bool) (bs : List Bracket) → LieBefore n (lexemes_in bs (tokens_at (at + length p.bytes) c ps))) →
        LieBefore n (cond w (lexemes_in brackets (tokens_at (at + length p.bytes) false ps))
        (lexeme (length brackets) (token_at k at (length p.bytes) comment) (tokens_at (at + length p.bytes) false ps)
        ∷ lexemes_in (after (token_at k at (length p.bytes) comment) brackets) (tokens_at (at + length p.bytes) false ps)))
    white k true later = later false brackets
    white k false later = ((omega arith, omega (arith, fits, size)), later false (after (token_at k at (length p.bytes) comment) brackets))

    which : (o : Option TokenKind) → ((c : Bool) (bs : List Bracket) → LieBefore n (lexemes_in bs (tokens_at (at + length p.bytes) c ps))) →
        LieBefore n (lexemes_in brackets (token_then o at (length p.bytes) comment (tokens_at (at + length p.bytes) (is_comment o) ps)))
    which None later = later true brackets
    which (Some k) later = white k (is_white_kind k) later

-- ---- its tokens, as those of the text that it stands in

-- a piece of a piece of a text
pub piece_of_piece : (text : List ℕ) (place stop from to : ℕ) → from ≤ to → place + to ≤ stop →
    text_at (text_at text (record { start = place; «end» = stop })) (record { start = from; «end» = to }) ≡ text_at text (record { start = place + from; «end» = place + to })
piece_of_piece text place stop from to ordered inside =
    let rest : stop - place ≡ from + (stop - place - from) = omega (arith, ordered, inside) in
    let size : to - from ≡ place + to - (place + from) = omega arith in
    ap (λ (n : ℕ). take (to - from) (drop from (take n (drop place text)))) rest
    ∙ ap (take (to - from)) (drop-take from (stop - place - from) (drop place text))
    ∙ take-take (to - from) (stop - place - from) (drop from (drop place text)) (omega (arith, ordered, inside))
    ∙ ap (take (to - from)) (drop-drop from place text)
    ∙ ap (λ (n : ℕ). take n (drop (place + from) text)) size

-- a token one level less deep, and the last one before the end of the text
abbrev pub raised : Shown → Shown
raised s = record { kind = s.kind; bytes = s.bytes; gap = s.gap; level = s.level - 1 }

abbrev pub raised_last : Shown → Shown
raised_last s = record { kind = s.kind; bytes = s.bytes; gap = end_gap s.gap; level = s.level - 1 }

-- the tokens of a block as they are read by themselves
abbrev pub all_raised : List Shown → List Shown
all_raised [] = []
all_raised (s ∷ []) = raised_last s ∷ []
all_raised (s ∷ t ∷ ss) = raised s ∷ all_raised (t ∷ ss)

abbrev shown_of : TokenKind → List ℕ → Gap → ℕ → Shown
shown_of k bytes g level = record { kind = k; bytes = bytes; gap = g; level = level }

moved_bytes : (text : List ℕ) (place stop : ℕ) (y x : Lexeme) → IsMoved place 1 y x → (x.span.start ≤ x.span.«end») × (place + x.span.«end» ≤ stop) →
    text_at (text_at text (record { start = place; «end» = stop })) x.span ≡ text_at text y.span
moved_bytes text place stop y x m fits =
    piece_of_piece text place stop x.span.start x.span.«end» fits.0 fits.1
    ∙ ap (λ (n : ℕ). text_at text (record { start = n; «end» = place + x.span.«end» })) (sym m.start)
    ∙ ap (λ (n : ℕ). text_at text (record { start = y.span.start; «end» = n })) (sym m.stop)

moved_shown : (text : List ℕ) (place stop : ℕ) (y x : Lexeme) (g : Gap) → IsMoved place 1 y x → (x.span.start ≤ x.span.«end») × (place + x.span.«end» ≤ stop) → x.gap ≡ g →
    shown (text_at text (record { start = place; «end» = stop })) x ≡ record { kind = y.kind; bytes = text_at text y.span; gap = g; level = y.level - 1 }
moved_shown text place stop y x g m fits same =
    let body = text_at text (record { start = place; «end» = stop }) in
    let level : x.level ≡ y.level - 1 = (let e = m.level in omega (arith, e)) in
    ap (λ k. shown_of k (text_at body x.span) x.gap x.level) (sym m.kind)
    ∙ ap (λ bytes. shown_of y.kind bytes x.gap x.level) (moved_bytes text place stop y x m fits)
    ∙ ap (λ g. shown_of y.kind (text_at text y.span) g x.level) same
    ∙ ap (λ (n : ℕ). shown_of y.kind (text_at text y.span) g n) level

pub raised_shown : (text : List ℕ) (place stop n : ℕ) → place + n ≤ stop → (ys xs : List Lexeme) → AllLast (IsMovedInner place 1) (IsMovedLast place 1) ys xs → LieBefore n xs →
    map (shown (text_at text (record { start = place; «end» = stop }))) xs ≡ all_raised (map (shown text) ys)
raised_shown text place stop n fits [] [] z lie = refl
raised_shown text place stop n fits [] (x ∷ xs) z lie = absurd z
raised_shown text place stop n fits (y ∷ ys) [] z lie = absurd z
raised_shown text place stop n fits (y ∷ []) (x ∷ []) z lie =
    ap (λ s. s ∷ []) (moved_shown text place stop y x (end_gap y.gap) z.0 (lie.0.0, (let e = lie.0.1 in omega (arith, e, fits))) z.1)
raised_shown text place stop n fits (y ∷ []) (x ∷ next ∷ xs) z lie = absurd z
raised_shown text place stop n fits (y ∷ next ∷ ys) (x ∷ []) z lie = absurd z
raised_shown text place stop n fits (y ∷ after ∷ ys) (x ∷ next ∷ xs) z lie =
    ap (λ s. s ∷ map (shown (text_at text (record { start = place; «end» = stop }))) (next ∷ xs))
    (moved_shown text place stop y x y.gap z.0.0 (lie.0.0, (let e = lie.0.1 in omega (arith, e, fits))) (sym z.0.1))
    ∙ ap (λ ss. raised (shown text y) ∷ ss) (raised_shown text place stop n fits (after ∷ ys) (next ∷ xs) z.1 lie.1)

-- A token as it is printed before others, by what is shown of it.
abbrev pub printed_shown : Shown → Shown
printed_shown s = record { kind = s.kind; bytes = if is_white_gap s.gap && not (is_lone s.kind) then closed s.bytes else s.bytes; gap = s.gap; level = s.level }

-- Tokens of a block that are printed are so by themselves.
pub printed_raised : (ss : List Shown) → all_raised (map printed_shown ss) ≡ map printed_shown (all_raised ss)
printed_raised [] = refl
printed_raised (s ∷ []) = ap (λ bytes. record { kind = s.kind; bytes = bytes; gap = end_gap s.gap; level = s.level - 1 } ∷ []) (ends s.gap)
  where
    ends : (g : Gap) → ◌≡◌ {A = List ℕ} (if is_white_gap g && not (is_lone s.kind) then closed s.bytes else s.bytes) (if is_white_gap (end_gap g) && not (is_lone s.kind) then closed s.bytes else s.bytes)
    ends gap.White = refl
    ends gap.Nothing = refl
    ends gap.Comments = refl
printed_raised (s ∷ t ∷ ss) = ap (λ ts. raised (printed_shown s) ∷ ts) (printed_raised (t ∷ ss))
