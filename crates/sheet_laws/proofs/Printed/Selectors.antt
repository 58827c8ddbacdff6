-- The selectors of a kept rule are read as in the source, or refused for the same reason.
use Rattle.std.proofs.Common.{◌≡◌, ℕ, Bool, true, false, List, [], ◌∷◌, map, Some, None, Result, Ok, Err, refl, ◌∙◌, ap}
use Rattle.std.specs.Prelude.{if◌then◌else◌}
use Rattle.std.specs.List.{AllZip, list_any, filter_map}
use Rattle.css_model.specs.declared.reason.Reason.{Reason}
use Rattle.css_model.specs.declared.sheet.Piece.{Piece}
use Rattle.css_model.specs.declared.sheet.SelItem.{SelItem}
use Rattle.css_model.specs.declared.token.Gap.{Gap}
use Rattle.css_model.specs.declared.token.Lexeme.{Lexeme}
use Rattle.css_model.specs.declared.token.TokenKind.{TokenKind}
use Rattle.css_model.specs.Documents.SelectorParts.{SelectorParts}
use Rattle.css_model.specs.Lists.{before_all, all_of}
use Rattle.css_model.specs.Selectors.Reading.{selector_of_lexemes, selector_of_terms}
use Rattle.css_model.specs.Selectors.Terms.{terms_from}
use Rattle.css_model.specs.Selectors.Tokens.{SelectorToken, selector_token}
use Rattle.css_model.specs.Sheets.Declarations.{declaration, declarations, is_nested}
use Rattle.css_model.specs.Sheets.Items.{opens_block, closes_block, selector_parts, entries}
use Rattle.css_model.specs.Sheets.Selectors.{selector_item, selectors, with_piece}
use Rattle.css_model.specs.Text.Characters.{comma, semicolon, open_curly, close_curly}
use Rattle.css_model.specs.Text.Kept.{solid}
use Rattle.css_model.specs.Text.Lexemes.{is_sign_at, piece_of}
use Rattle.list_facts.proofs.Zips.{Agree, AreBoth, zip_before, zip_after, zip_split, zip_any, zip_filter_map}
use Rattle.sheet_laws.proofs.Printed.Entries.{IsPrinted, SaySame, printed_like, sign_like, declaration_printed, nested_printed}
use Rattle.sheet_laws.proofs.Shown.Alike.{selector_name}

-- a token of a selector, by what is looked at
abbrev token_of : TokenKind → List ℕ → Bool → Bool → List ℕ → Gap → SelectorToken
token_of k name dashed only bytes g = record { kind = k; name = name; dashed = dashed; only_dashes = only; bytes = bytes; gap = g }

token_printed : (new old : List ℕ) (y x : Lexeme) → IsPrinted new old y x → selector_token (solid new y) ≡ selector_token (solid old x)
token_printed new old y x p =
    let like = printed_like new old y x p in
    let t' = selector_token (solid new y) in
    let t = selector_token (solid old x) in
    let name : t'.name ≡ t.name = selector_name new old y x like in
    ap (λ k. token_of k t'.name t'.dashed t'.only_dashes t'.bytes t'.gap) like.kind
    ∙ ap (λ n. token_of t.kind n t'.dashed t'.only_dashes t'.bytes t'.gap) name
    ∙ ap (λ d. token_of t.kind t.name d t'.only_dashes t'.bytes t'.gap) like.dashed
    ∙ ap (λ d. token_of t.kind t.name t.dashed d t'.bytes t'.gap) like.dashes
    ∙ ap (λ bytes. token_of t.kind t.name t.dashed t.only_dashes bytes t'.gap) like.plain
    ∙ ap (λ g. token_of t.kind t.name t.dashed t.only_dashes t.bytes g) (ap (λ s. s.gap) p.0)

tokens_printed : (new old : List ℕ) (ys xs : List Lexeme) → AllZip (IsPrinted new old) ys xs
    → map selector_token (map (solid new) ys) ≡ map selector_token (map (solid old) xs)
tokens_printed new old [] [] z = refl
tokens_printed new old [] (x ∷ xs) z = absurd z
tokens_printed new old (y ∷ ys) [] z = absurd z
tokens_printed new old (y ∷ ys) (x ∷ xs) z =
    ap (λ t. t ∷ map selector_token (map (solid new) ys)) (token_printed new old y x z.0)
    ∙ ap (λ ts. selector_token (solid old x) ∷ ts) (tokens_printed new old ys xs z.1)

selector_printed_same : (new old : List ℕ) (ys xs : List Lexeme) → AllZip (IsPrinted new old) ys xs → selector_of_lexemes new ys ≡ selector_of_lexemes old xs
selector_printed_same new old ys xs z = ap (λ ts. selector_of_terms (terms_from 0 0 ts)) (tokens_printed new old ys xs z)

abbrev pub TestSame : SelItem → SelItem → Type 0
TestSame s' s = s'.selector ≡ s.selector

-- both are read and agree, or both are refused for the same reason
abbrev pub AreBothRead : {A B E : Type 0} → (A → B → Type 0) → Result A E → Result B E → Type 0
AreBothRead R (Ok y) (Ok x) = R y x
AreBothRead R (Ok y) (Err e) = ⊥
AreBothRead R (Err e) (Ok x) = ⊥
AreBothRead R (Err e') (Err e) = e' ≡ e

both_selectors : (piece' piece : Piece) (r' r : Result SelectorParts Reason) → r' ≡ r → AreBothRead TestSame (with_piece piece' r') (with_piece piece r)
both_selectors piece' piece r' r same = rw same (inside r)
  where
    inside : (r : Result SelectorParts Reason) → AreBothRead TestSame (with_piece piece' r) (with_piece piece r)
    inside (Ok selector) = refl
    inside (Err reason) = refl

selector_printed : (new old : List ℕ) (ys xs : List Lexeme) → AllZip (IsPrinted new old) ys xs → AreBothRead TestSame (selector_item new ys) (selector_item old xs)
selector_printed new old ys xs z =
    both_selectors (piece_of ys) (piece_of xs) (selector_of_lexemes new ys) (selector_of_lexemes old xs) (selector_printed_same new old ys xs z)

both_before : {A B E : Type 0} (R : A → B → Type 0) (y : Result A E) (x : Result B E) (ys : Result (List A) E) (xs : Result (List B) E)
    → AreBothRead R y x → AreBothRead (AllZip R) ys xs → AreBothRead (AllZip R) (before_all y ys) (before_all x xs)
both_before R (Err e') (Err e) ys xs r z = r
both_before R (Err e') (Ok x) ys xs r z = absurd r
both_before R (Ok y) (Err e) ys xs r z = absurd r
both_before R (Ok y) (Ok x) (Err e') (Err e) r z = z
both_before R (Ok y) (Ok x) (Err e') (Ok xs) r z = absurd z
both_before R (Ok y) (Ok x) (Ok ys) (Err e) r z = absurd z
both_before R (Ok y) (Ok x) (Ok ys) (Ok xs) r z = (r, z)

zip_all_of : {A B C D E : Type 0} (R : A → B → Type 0) (S : C → D → Type 0) (f : A → Result C E) (g : B → Result D E)
    → ((y : A) (x : B) → R y x → AreBothRead S (f y) (g x)) → (ys : List A) (xs : List B) → AllZip R ys xs → AreBothRead (AllZip S) (all_of f ys) (all_of g xs)
zip_all_of R S f g h [] [] z = tt
zip_all_of R S f g h [] (x ∷ xs) z = absurd z
zip_all_of R S f g h (y ∷ ys) [] z = absurd z
zip_all_of R S f g h (y ∷ ys) (x ∷ xs) z = both_before S (f y) (g x) (all_of f ys) (all_of g xs) (h y x z.0) (zip_all_of R S f g h ys xs z.1)

sign_agrees : (new old : List ℕ) (b level : ℕ) → Agree (IsPrinted new old) (is_sign_at b level) (is_sign_at b level)
sign_agrees new old b level y x p = sign_like new old b level y x (printed_like new old y x p)

parts_printed : (new old : List ℕ) (ys xs : List Lexeme) → AllZip (IsPrinted new old) ys xs → AllZip (AllZip (IsPrinted new old)) (selector_parts ys) (selector_parts xs)
parts_printed new old ys xs z =
    zip_split (IsPrinted new old) (is_sign_at comma 0) (is_sign_at comma 0) (sign_agrees new old comma 0) _ _
    (zip_before (IsPrinted new old) opens_block opens_block (sign_agrees new old open_curly 0) ys xs z)

entries_printed : (new old : List ℕ) (ys xs : List Lexeme) → AllZip (IsPrinted new old) ys xs → AllZip (AllZip (IsPrinted new old)) (entries ys) (entries xs)
entries_printed new old ys xs z =
    zip_split (IsPrinted new old) (is_sign_at semicolon 1) (is_sign_at semicolon 1) (sign_agrees new old semicolon 1) _ _
    (zip_before (IsPrinted new old) closes_block closes_block (sign_agrees new old close_curly 1) _ _
    (zip_after (IsPrinted new old) opens_block opens_block (sign_agrees new old open_curly 0) ys xs z))

pub selectors_printed : (new old : List ℕ) (ys xs : List Lexeme) → AllZip (IsPrinted new old) ys xs → AreBothRead (AllZip TestSame) (selectors new ys) (selectors old xs)
selectors_printed new old ys xs z =
    zip_all_of (AllZip (IsPrinted new old)) TestSame (selector_item new) (selector_item old) (selector_printed new old) (selector_parts ys) (selector_parts xs) (parts_printed new old ys xs z)

pub declarations_printed : (new old : List ℕ) (ys xs : List Lexeme) → AllZip (IsPrinted new old) ys xs → AreBoth (AllZip SaySame) (declarations new ys) (declarations old xs)
declarations_printed new old ys xs z =
    which (list_any (is_nested new) (entries ys)) (list_any (is_nested old) (entries xs))
    (zip_any (AllZip (IsPrinted new old)) (is_nested new) (is_nested old) (nested_printed new old) (entries ys) (entries xs) both)
  where
    both : AllZip (AllZip (IsPrinted new old)) (entries ys) (entries xs)
    both = entries_printed new old ys xs z

    which : (a b : Bool) → a ≡ b
        → AreBoth (AllZip SaySame) (if a then None else Some (filter_map (declaration new) (entries ys))) (if b then None else Some (filter_map (declaration old) (entries xs)))
    which a b e = rw e (inside b)
      where
        inside : (b : Bool) → AreBoth (AllZip SaySame) (if b then None else Some (filter_map (declaration new) (entries ys))) (if b then None else Some (filter_map (declaration old) (entries xs)))
        inside true = tt
        inside false = zip_filter_map (AllZip (IsPrinted new old)) SaySame (declaration new) (declaration old) (declaration_printed new old) (entries ys) (entries xs) both
