-- What a source without a fault gives its items.
use Rattle.std.proofs.Common.{◌≡◌, ℕ, zero, suc, ◌+◌, ◌<◌, Bool, true, false, cond, nat_eq, get_or, List, [], ◌∷◌, ◌++◌, length, drop, Option, Some, None, refl, sym, ◌∙◌, ap, subst, arith}
use Rattle.std.specs.List.{AllByRecursion, Contains, filter, last_or, starts_with}
use Rattle.std.specs.Str.{IsUtf8}
use Rattle.std.specs.Option.{option_map}
use Rattle.std.proofs.lemmas.Bool.{cond-true, cond-false}
use Rattle.css_model.specs.declared.token.Bracket.{Bracket}
use Rattle.css_model.specs.declared.token.Lexeme.{Lexeme}
use Rattle.css_model.specs.Sheets.Items.{is_whole, items}
use Rattle.css_model.specs.Text.Lexemes.{after_all}
use Rattle.css_model.specs.Sheets.Sheet.{unclosed}
use Rattle.css_model.specs.Sheets.Sound.{raw_items}
use Rattle.css_model.specs.Sheets.Spelling.{lexemes_of}
use Rattle.css_model.specs.Text.Tokens.{Part, Stream, byte_order_mark, parts, stream, text_of, tokens}
use Rattle.css_tokens.specs.Lexed.{IsLexed}
use Rattle.css_tokens.proofs.ForCallers.{parts_are_lexed, part_len}
use Rattle.sheet_laws.proofs.ForCallers.{AreClosable, HasGoodTokens, HaveBytes, parts_of_sheet, places_in_order, AreRawItems, raw_stand, all_closed}
use Rattle.print_laws.proofs.Source.Names.{closable-of}
use Rattle.print_laws.proofs.Levels.Items.{IsItemOf, items-of}
use Rattle.print_laws.proofs.Levels.Brackets.{AreLeveled, lexemes-leveled, lexemes-open, open_behind}
use Rattle.print_laws.proofs.Tokens.Parts.{closers_after, closers_of}
use Rattle.print_laws.proofs.Source.Tokens.{IsGoodLexeme, Source, clean-flaw, good-lexemes, source-of}

lexed-bytes : (ps : List Part) → IsLexed ps → HaveBytes ps
lexed-bytes [] lexed = tt
lexed-bytes (p ∷ ps) (here, lexed) = ((part_len (p.bytes ++ text_of ps) (p.kind, length p.bytes) here).0, lexed-bytes ps lexed)

clean-bytes : (source : List ℕ) (at : ℕ) → tokens source true ≡ stream at (drop at source) → (tokens source true).fault ≡ None → HaveBytes (parts (drop at source)).parts
clean-bytes source at here clean =
    let p = parts (drop at source) in
    lexed-bytes p.parts (parts_are_lexed (drop at source) (clean-flaw (at + length (text_of p.parts)) p.flaw (sym (ap (λ (s : Stream). s.fault) here) ∙ clean)))

pub sheet-bytes : (source : List ℕ) → (tokens source true).fault ≡ None → HaveBytes (parts_of_sheet source)
sheet-bytes source clean = which (starts_with nat_eq source byte_order_mark) refl
  where
    which : (b : Bool) → starts_with nat_eq source byte_order_mark ≡ b → HaveBytes (parts_of_sheet source)
    which true mark = subst HaveBytes (sym (cond-true _ _ _ mark)) (clean-bytes source 3 (cond-true _ _ _ mark) clean)
    which false none = subst HaveBytes (sym (cond-false _ _ _ none)) (clean-bytes source 0 (cond-false _ _ _ none) clean)

-- a source without a fault
pub record Ground (source : List ℕ) : Type 0 where
  pub parts : Source source
  pub leveled : AreLeveled [] (lexemes_of source)
  pub ends : open_behind [] (lexemes_of source) ≡ []
  pub good : HasGoodTokens source
  pub each : AllByRecursion (IsGoodLexeme source) (lexemes_of source)
  pub items : AllByRecursion (IsItemOf (lexemes_of source)) (raw_items source)
  pub raw : AreRawItems (lexemes_of source) (raw_items source)

none-last : (brackets : List Bracket) → last_or None brackets ≡ None → brackets ≡ []
none-last [] e = refl
none-last (b ∷ bs) e = absurd (some-last b bs e)
  where
    some-last : (b : Bracket) (bs : List Bracket) → last_or None (b ∷ bs) ≡ None → ⊥
    some-last b [] e = absurd cc
    some-last b (c ∷ bs) e = some-last c bs e

closable-all : (source : List ℕ) (cs : List ℕ) (xs : List Lexeme) → AreLeveled cs xs → AllByRecursion (IsGoodLexeme source) xs → AreClosable source xs
closable-all source cs [] leveled each = tt
closable-all source cs (x ∷ xs) (solid_, level, leveled) (one, rest) = (closable-of source x solid_ one, closable-all source (closers_after x.kind cs) xs leveled rest)

pub filtered : {A : Type 0} (P : A → Type 0) (p : A → Bool) (xs : List A) → AllByRecursion P xs → AllByRecursion P (filter p xs)
filtered P p [] each = tt
filtered P p (x ∷ xs) (one, rest) = which (p x) (filtered P p xs rest)
  where
    which : (b : Bool) → AllByRecursion P (filter p xs) → AllByRecursion P (cond b (x ∷ filter p xs) (filter p xs))
    which true later = (one, later)
    which false later = later

pub ground : (source : List ℕ) → (tokens source true).fault ≡ None → IsUtf8 source → unclosed (tokens source true).tokens ≡ None → Ground source
ground source clean utf8 closed =
    let s = source-of source clean utf8 in
    let ts = (tokens source true).tokens in
    let leveled = lexemes-leveled [] ts in
    let none : after_all [] ts ≡ [] = none-last (after_all [] ts) (no-map (last_or None (after_all [] ts)) closed) in
    let ends : open_behind [] (lexemes_of source) ≡ [] = lexemes-open [] ts ∙ ap closers_of none in
    let each = good-lexemes source s in
    let places = places_in_order source (sheet-bytes source clean) in
    record {
      parts = s;
      leveled = leveled;
      ends = ends;
      good = record { ascending = places.0; spaced = places.1; closable = closable-all source [] (lexemes_of source) leveled each };
      each = each;
      items = filtered (IsItemOf (lexemes_of source)) is_whole (items (lexemes_of source)) (items-of (length (lexemes_of source)) (lexemes_of source) [] (lexemes_of source) (omega arith) refl leveled ends);
      raw = raw_stand (lexemes_of source) (all_closed ts closed);
    }
  where
    no-map : (b : Option Bracket) → option_map (λ b. b.at) b ≡ None → b ≡ None
    no-map None e = refl
    no-map (Some b) e = absurd cc

-- a member of a list of which this holds
pub member : {A : Type 0} (P : A → Type 0) (xs : List A) (x : A) → AllByRecursion P xs → Contains xs x → P x
member P xs x each (k, inside, is) = subst P is (at xs k each inside)
  where
    at : (ys : List _) (k : ℕ) → AllByRecursion P ys → k < length ys → P (get_or ys k x)
    at [] k each inside = absurd (omega (arith, inside))
    at (y ∷ ys) zero (one, rest) inside = one
    at (y ∷ ys) (suc k) (one, rest) inside = at ys k rest (omega (arith, inside))
