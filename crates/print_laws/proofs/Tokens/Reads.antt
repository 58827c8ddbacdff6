-- The parts of a source, and its tokens apart from where they stand.
use Rattle.std.proofs.Common.{◌≡◌, ℕ, Bool, true, false, not, cond, List, [], ◌∷◌, ◌++◌, map, length, Option, Some, None, refl, sym, ◌∙◌, ap}
use Rattle.std.specs.Prelude.{◌&&◌}
use Rattle.std.specs.List.{AllByRecursion}
use Rattle.std.proofs.lemmas.List.{append-nil}
use Rattle.css_model.specs.declared.token.Gap.{Gap}
use Rattle.css_model.specs.declared.token.Gap.TheVariants as gap
use Rattle.css_model.specs.declared.token.Lexeme.{Lexeme}
use Rattle.css_model.specs.declared.token.TokenKind.{TokenKind}
use Rattle.css_model.specs.Text.Kept.{Solid, is_lone, is_open, is_white_gap, solid}
use Rattle.css_model.specs.Text.Lexemes.{is_white_kind}
use Rattle.css_model.specs.Text.Source.{text_at}
use Rattle.css_model.specs.Text.Tokens.{Part}
use Rattle.css_model.specs.Text.Characters.{line_feed, space}
use Rattle.token_laws.specs.Solids.{closed, gap_before, gap_by, solid_then, solids}
use Rattle.token_laws.proofs.ForCallers.{gap_part, kept_parts, last_of, last_parts, part_of}
use Rattle.sheet_laws.proofs.ForCallers.{Shown, all_shown, inner, kept_shown, last_of_item, last_of_value, value_shown, printed_bytes}
use Rattle.print_laws.proofs.Tokens.Chain.{gap_parts, parts_of, token_part, white_part}
use Rattle.print_laws.proofs.Tokens.Parts.{closers_behind, gap_behind, shown_parts, shown_then}
use Rattle.print_laws.proofs.Tokens.Texts.{IsLoneBeforeWhite}

abbrev pub to_solid : Shown → Solid
to_solid s = record { kind = s.kind; bytes = s.bytes; gap = s.gap }

gap-same : (comment : Bool) (ps : List Part) → gap_behind comment ps ≡ gap_before comment ps
gap-same comment [] = refl
gap-same comment (p ∷ ps) = ap (λ g. gap_by p.kind comment g) (gap-same true ps)

pub shown-solids : (cs : List ℕ) (ps : List Part) → map to_solid (shown_parts cs ps) ≡ solids ps
shown-solids cs [] = refl
shown-solids cs (p ∷ ps) = which p.kind (λ signs. shown-solids signs ps)
  where
    which : (k : Option TokenKind) → ((signs : List ℕ) → map to_solid (shown_parts signs ps) ≡ solids ps)
        → map to_solid (shown_then k p.bytes (gap_behind false ps) (length cs) (shown_parts (closers_behind k cs) ps)) ≡ solid_then k p.bytes (gap_before false ps) (solids ps)
    which None later = later cs
    which (Some k) later = white (is_white_kind k) (later (closers_behind (Some k) cs))
      where
        white : (b : Bool) → map to_solid (shown_parts (closers_behind (Some k) cs) ps) ≡ solids ps
            → map to_solid (cond b (shown_parts (closers_behind (Some k) cs) ps)
            (record { kind = k; bytes = p.bytes; gap = gap_behind false ps; level = length cs } ∷ shown_parts (closers_behind (Some k) cs) ps))
            ≡ cond b (solids ps) (record { kind = k; bytes = p.bytes; gap = gap_before false ps } ∷ solids ps)
        white true h = h
        white false h = ap (λ g. record { kind = k; bytes = p.bytes; gap = g } ∷ map to_solid (shown_parts (closers_behind (Some k) cs) ps)) (gap-same false ps)
            ∙ ap (λ ss. record { kind = k; bytes = p.bytes; gap = gap_before false ps } ∷ ss) h

-- the parts that are printed for tokens of a source
lone-gap : (k : TokenKind) (lone : Bool) → is_lone k ≡ lone → (g : Gap) → (lone ≡ true → g ≡ gap.White)
    → gap_parts k g ≡ cond lone (white_part (line_feed ∷ []) ∷ []) (gap_part g)
lone-gap k true is g white = rw (white refl, is) refl
lone-gap k false is gap.Nothing white = refl
lone-gap k false is gap.Comments white = refl
lone-gap k false is gap.White white = rw is refl

last-gap : (k : TokenKind) (lone : Bool) → is_lone k ≡ lone → gap_parts k (cond lone gap.White gap.Nothing) ≡ cond lone (white_part (line_feed ∷ []) ∷ []) []
last-gap k true is = rw is refl
last-gap k false is = refl

closed-same : (k : TokenKind) (bytes : List ℕ) (lone : Bool) → is_lone k ≡ lone → (g : Gap) (o : Bool) → is_open bytes ≡ o
    → (cond {A = Solid} (not lone && (is_white_gap g && o)) (record { kind = k; bytes = bytes ++ space ∷ []; gap = g }) (record { kind = k; bytes = bytes; gap = g })).bytes
    ≡ cond (is_white_gap g && not lone) (cond o (bytes ++ space ∷ []) bytes) bytes
closed-same k bytes true is gap.Nothing o e = refl
closed-same k bytes true is gap.Comments o e = refl
closed-same k bytes true is gap.White o e = refl
closed-same k bytes false is gap.Nothing o e = refl
closed-same k bytes false is gap.Comments o e = refl
closed-same k bytes false is gap.White true e = refl
closed-same k bytes false is gap.White false e = refl

closed-kind : (s : Solid) → (closed s).kind ≡ s.kind
closed-kind s = which (not (is_lone s.kind) && (is_white_gap s.gap && is_open s.bytes))
  where
    which : (b : Bool) → (cond b (record { kind = s.kind; bytes = s.bytes ++ space ∷ []; gap = s.gap }) s).kind ≡ s.kind
    which true = refl
    which false = refl

closed-part : (source : List ℕ) (x : Lexeme) → part_of (closed (solid source x)) ≡ record { kind = Some x.kind; bytes = printed_bytes source x }
closed-part source x =
    ap (λ k. record { kind = Some k; bytes = (closed (solid source x)).bytes }) (closed-kind (solid source x))
    ∙ ap (λ bytes. record { kind = Some x.kind; bytes = bytes }) (closed-same x.kind (text_at source x.span) (is_lone x.kind) refl x.gap (is_open (text_at source x.span)) refl)

all-parts : (source : List ℕ) (value : Bool) (last : Lexeme → Shown)
    → ((x : Lexeme) → part_of (last_of value (solid source x)) ∷ last_parts (solid source x) ≡ token_part (last x) ∷ (gap_parts (last x).kind (last x).gap ++ []))
    → (xs : List Lexeme) → AllByRecursion IsLoneBeforeWhite xs → kept_parts value (map (solid source) xs) ≡ parts_of (all_shown (inner source) last xs)
all-parts source value last end [] each = refl
all-parts source value last end (x ∷ []) each = end x
all-parts source value last end (x ∷ y ∷ xs) (one, rest) =
    ap (λ p. p ∷ (cond (is_lone x.kind) (white_part (line_feed ∷ []) ∷ []) (gap_part x.gap) ++ kept_parts value (map (solid source) (y ∷ xs)))) (closed-part source x)
    ∙ ap (λ ps. token_part (inner source x) ∷ (ps ++ kept_parts value (map (solid source) (y ∷ xs)))) (sym (lone-gap x.kind (is_lone x.kind) refl x.gap one))
    ∙ ap (λ ps. token_part (inner source x) ∷ (gap_parts x.kind x.gap ++ ps)) (all-parts source value last end (y ∷ xs) rest)

pub kept-parts : (source : List ℕ) (xs : List Lexeme) → AllByRecursion IsLoneBeforeWhite xs → kept_parts false (map (solid source) xs) ≡ parts_of (kept_shown source xs)
kept-parts source xs each = all-parts source false (last_of_item source)
    (λ x. ap (λ ps. record { kind = Some x.kind; bytes = text_at source x.span } ∷ ps) (sym (append-nil (gap_parts x.kind (last_of_item source x).gap) ∙ last-gap x.kind (is_lone x.kind) refl))) xs each

pub value-parts : (source : List ℕ) (xs : List Lexeme) → AllByRecursion IsLoneBeforeWhite xs → kept_parts true (map (solid source) xs) ≡ parts_of (value_shown source xs)
value-parts source xs each = all-parts source true (last_of_value source)
    (λ x. ap (λ p. p ∷ last_parts (solid source x)) (closed-part source x)
    ∙ ap (λ ps. record { kind = Some x.kind; bytes = printed_bytes source x } ∷ ps) (sym (append-nil (gap_parts x.kind (last_of_value source x).gap) ∙ last-gap x.kind (is_lone x.kind) refl))) xs each
