-- The text of tokens that are printed is the text of the tokens that they were printed for.
use Rattle.std.proofs.Common.{◌≡◌, ℕ, Bool, true, false, not, List, [], ◌∷◌, ◌++◌, map, refl, ◌∙◌, ap}
use Rattle.std.specs.Prelude.{◌&&◌, if◌then◌else◌}
use Rattle.std.specs.List.{AllZip, AllByRecursion}
use Rattle.std.proofs.lemmas.List.{append_assoc}
use Rattle.css_model.specs.declared.token.Gap.{Gap}
use Rattle.css_model.specs.declared.token.Gap.TheVariants as gap
use Rattle.css_model.specs.declared.token.Lexeme.{Lexeme}
use Rattle.css_model.specs.Text.Characters.{line_feed, space}
use Rattle.css_model.specs.Text.Kept.{Solid, solid, is_open, is_lone, is_white_gap, gap_text, between, behind_last, behind_value, spelled, kept, value_text}
use Rattle.css_model.specs.Text.Source.{text_at}
use Rattle.list_facts.proofs.Zips.{AllLast, last_from_zip}
use Rattle.sheet_laws.proofs.Shown.Tokens.{Shown, shown, closed, inner, last_of_value, last_of_item}

-- a token of which a second white space would be no part
abbrev pub IsShut : List ℕ → Type 0
IsShut bytes = is_open bytes ≡ true → is_open (bytes ++ space ∷ []) ≡ false

-- what stands behind the bytes of a token: a lone backslash's newline, or this
abbrev behind : Bool → List ℕ → List ℕ
behind lone text = if lone then line_feed ∷ [] else text

abbrev bytes_before : Bool → Gap → List ℕ → List ℕ
bytes_before lone g bytes = if is_white_gap g && not lone then closed bytes else bytes

-- with others behind it
between_same : (lone : Bool) (g : Gap) (o : Bool) (bytes : List ℕ) → is_open bytes ≡ o → IsShut bytes
    → bytes_before lone g bytes ++ behind lone (gap_text (bytes_before lone g bytes) g) ≡ bytes ++ behind lone (gap_text bytes g)
between_same true gap.Nothing o bytes is shut = refl
between_same true gap.Comments o bytes is shut = refl
between_same true gap.White o bytes is shut = refl
between_same false gap.Nothing o bytes is shut = refl
between_same false gap.Comments o bytes is shut = refl
between_same false gap.White false bytes is shut = rw (is, is) refl
between_same false gap.White true bytes is shut = rw (is, shut is) (append_assoc bytes (space ∷ []) (space ∷ []))

-- at the end of a value
abbrev value_end : Bool → Gap → List ℕ → List ℕ
value_end lone g bytes = behind lone (if is_white_gap g && is_open bytes then space ∷ [] else [])

value_end_same : (lone : Bool) (g : Gap) (o : Bool) (bytes : List ℕ) → is_open bytes ≡ o → IsShut bytes
    → bytes_before lone g bytes ++ value_end lone g (bytes_before lone g bytes) ≡ bytes ++ value_end lone g bytes
value_end_same true gap.Nothing o bytes is shut = refl
value_end_same true gap.Comments o bytes is shut = refl
value_end_same true gap.White o bytes is shut = refl
value_end_same false gap.Nothing o bytes is shut = refl
value_end_same false gap.Comments o bytes is shut = refl
value_end_same false gap.White false bytes is shut = rw (is, is) refl
value_end_same false gap.White true bytes is shut = rw (is, shut is) (append_assoc bytes (space ∷ []) [])

-- the same where nothing stands behind the value
value_cut_same : (lone : Bool) (g : Gap) (o : Bool) (bytes : List ℕ) → is_open bytes ≡ o
    → bytes_before lone g bytes ++ value_end lone (if lone then gap.White else gap.Nothing) (bytes_before lone g bytes) ≡ bytes ++ value_end lone g bytes
value_cut_same true gap.Nothing o bytes is = refl
value_cut_same true gap.Comments o bytes is = refl
value_cut_same true gap.White o bytes is = refl
value_cut_same false gap.Nothing o bytes is = refl
value_cut_same false gap.Comments o bytes is = refl
value_cut_same false gap.White false bytes is = rw is refl
value_cut_same false gap.White true bytes is = rw is (append_assoc bytes (space ∷ []) [])

-- a token that others follow, one at the end of a value, and one at the end of a kept item
abbrev pub IsInner : List ℕ → List ℕ → Lexeme → Lexeme → Type 0
IsInner new old y x = shown new y ≡ inner old x

abbrev pub IsLastOfValue : List ℕ → List ℕ → Lexeme → Lexeme → Type 0
IsLastOfValue new old y x = shown new y ≡ last_of_value old x

abbrev pub IsLastOfItem : List ℕ → List ℕ → Lexeme → Lexeme → Type 0
IsLastOfItem new old y x = shown new y ≡ last_of_item old x

-- each is a token of which a second white space would be no part
abbrev pub AreShut : List ℕ → List Lexeme → Type 0
AreShut source xs = AllByRecursion (λ x. IsShut (text_at source x.span)) xs

abbrev solid_of : Shown → Solid
solid_of s = record { kind = s.kind; bytes = s.bytes; gap = s.gap }

abbrev with_gap : Solid → List ℕ
with_gap s = s.bytes ++ between s

abbrev with_value_end : Solid → List ℕ
with_value_end s = s.bytes ++ behind_value s

abbrev with_item_end : Solid → List ℕ
with_item_end s = s.bytes ++ behind_last s

spelled_same : (new old : List ℕ) (last : Solid → List ℕ) (L : Lexeme → Lexeme → Type 0)
    → ((y x : Lexeme) → L y x → IsShut (text_at old x.span) → (solid new y).bytes ++ last (solid new y) ≡ (solid old x).bytes ++ last (solid old x))
    → (ys xs : List Lexeme) → AllLast (IsInner new old) L ys xs → AreShut old xs
    → spelled last (map (solid new) ys) ≡ spelled last (map (solid old) xs)
spelled_same new old last L h [] [] z shut = refl
spelled_same new old last L h [] (x ∷ xs) z shut = absurd z
spelled_same new old last L h (y ∷ ys) [] z shut = absurd z
spelled_same new old last L h (y ∷ []) (x ∷ []) z shut = h y x z shut.0
spelled_same new old last L h (y ∷ []) (x ∷ next ∷ xs) z shut = absurd z
spelled_same new old last L h (y ∷ next ∷ ys) (x ∷ []) z shut = absurd z
spelled_same new old last L h (y ∷ after ∷ ys) (x ∷ next ∷ xs) z shut =
    let here : with_gap (solid new y) ≡ with_gap (solid old x) =
    ap (λ s. with_gap (solid_of s)) z.0 ∙ between_same (is_lone x.kind) x.gap (is_open (text_at old x.span)) (text_at old x.span) refl shut.0 in
    ap (λ text. text ++ spelled last (map (solid new) (after ∷ ys))) here
    ∙ ap (λ text. with_gap (solid old x) ++ text) (spelled_same new old last L h (after ∷ ys) (next ∷ xs) z.1 shut.1)

pub kept_same : (new old : List ℕ) (ys xs : List Lexeme) → AllLast (IsInner new old) (IsLastOfItem new old) ys xs → AreShut old xs
    → kept (map (solid new) ys) ≡ kept (map (solid old) xs)
kept_same new old = spelled_same new old behind_last (IsLastOfItem new old) (λ y x e shut. ap (λ s. with_item_end (solid_of s)) e)

-- a value that nothing follows
pub value_same : (new old : List ℕ) (ys xs : List Lexeme) → AllLast (IsInner new old) (IsLastOfValue new old) ys xs → AreShut old xs
    → value_text (map (solid new) ys) ≡ value_text (map (solid old) xs)
value_same new old = spelled_same new old behind_value (IsLastOfValue new old)
    (λ y x e shut. ap (λ s. with_value_end (solid_of s)) e ∙ value_cut_same (is_lone x.kind) x.gap (is_open (text_at old x.span)) (text_at old x.span) refl)

-- a value in kept text
pub inner_value_same : (new old : List ℕ) (ys xs : List Lexeme) → AllZip (IsInner new old) ys xs → AreShut old xs
    → value_text (map (solid new) ys) ≡ value_text (map (solid old) xs)
inner_value_same new old ys xs z = spelled_same new old behind_value (IsInner new old)
    (λ y x e shut. ap (λ s. with_value_end (solid_of s)) e ∙ value_end_same (is_lone x.kind) x.gap (is_open (text_at old x.span)) (text_at old x.span) refl shut)
    ys xs (last_from_zip (IsInner new old) ys xs z)
