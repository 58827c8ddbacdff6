-- The selectors of a rule are read as they were from what is printed for them.
use Rattle.std.proofs.Common.{◌≡◌, ℕ, ◌==◌, Bool, true, false, List, [], ◌∷◌, ◌++◌, map, Option, Some, None, Result, Ok, Err, refl, sym, ◌∙◌, ap}
use Rattle.std.proofs.lemmas.Bool.{false≢true, eqb-true}
use Rattle.std.specs.Prelude.{◌&&◌}
use Rattle.std.specs.Result.{is_ok}
use Rattle.std.specs.List.{AllZip, AllByRecursion}
use Rattle.css_model.specs.declared.reason.Reason.{Reason}
use Rattle.css_model.specs.declared.sheet.SelItem.{SelItem}
use Rattle.css_model.specs.declared.token.Lexeme.{Lexeme}
use Rattle.css_model.specs.declared.token.TokenKind.{TokenKind}
use Rattle.css_model.specs.declared.token.TokenKind.TheVariants as kind
use Rattle.css_model.specs.Documents.SelectorParts.{SelectorParts}
use Rattle.css_model.specs.Lists.{before_all, all_of}
use Rattle.css_model.specs.Selectors.Reading.{selector_of_lexemes, selector_of_terms}
use Rattle.css_model.specs.Selectors.Terms.{depth_behind, terms}
use Rattle.css_model.specs.Selectors.Tokens as selectors
use Rattle.css_model.specs.Sheets.Items.{is_at_keyword, is_between_items}
use Rattle.css_model.specs.Sheets.Printed.{printed_selector}
use Rattle.css_model.specs.Sheets.PrintedSelector.{selector_text}
use Rattle.css_model.specs.Sheets.Selectors.{selector_item, with_piece}
use Rattle.css_model.specs.Sheets.Spelling.{tokens_in}
use Rattle.css_model.specs.Text.Kept.{Solid, solid}
use Rattle.css_model.specs.Text.Lexemes.{is_sign_of, piece_of}
use Rattle.list_facts.proofs.Cuts.{None_of}
use Rattle.sheet_laws.proofs.Printed.Joins.{StandsIn, ArePartsOf, is_shown_sign}
use Rattle.sheet_laws.proofs.Shown.Alike.{AreClosable}
use Rattle.selector_text_laws.specs.Back.{IsReadBack, back, is_selector_kind}
use Rattle.sheet_laws.proofs.Shown.Tokens.{Shown, shown, selector_shown, joined, with_levels}

-- the tokens in the piece of a selector are read as it, and so is what is printed for them
pub record IsOfSelector (source : List ℕ) (s : SelItem) : Type 0 where
  pub reads : selector_of_lexemes source (tokens_in source s.piece) ≡ Ok s.selector
  pub closable : AreClosable source (tokens_in source s.piece)
  pub again : IsReadBack (map (solid source) (tokens_in source s.piece)) s.selector

-- a selector that is read from tokens of these bytes
pub record IsSelectorAgain (new old : List ℕ) (whole : List Lexeme) (s' s : SelItem) : Type 0 where
  pub tokens : List Lexeme
  pub inside : StandsIn whole tokens
  pub stands : s'.piece ≡ piece_of tokens
  pub same : s'.selector ≡ s.selector
  pub text : selector_text (map (solid new) tokens) ≡ printed_selector old s

abbrev some_or : {A : Type 0} → A → Option A → A
some_or d None = d
some_or d (Some x) = x

pub some_same : {A : Type 0} (x y : A) → Some x ≡ Some y → x ≡ y
some_same x y e = ap (some_or x) e

abbrev ok_or : {A E : Type 0} → A → Result A E → A
ok_or d (Err e) = d
ok_or d (Ok x) = x

pub ok_same : {A E : Type 0} (x y : A) → ◌≡◌ {A = Result A E} (Ok x) (Ok y) → x ≡ y
ok_same x y e = ap (ok_or x) e

pub err_not_ok : {A E : Type 0} (e : E) (x : A) → ◌≡◌ {A = Result A E} (Err e) (Ok x) → ⊥
err_not_ok e x same = absurd (false≢true (ap is_ok same))

-- what a part was read as that is a selector
pub selector_in : (source : List ℕ) (part : List Lexeme) (s : SelItem) → selector_item source part ≡ Ok s
    → (selector_of_lexemes source part ≡ Ok s.selector) × (s.piece ≡ piece_of part)
selector_in source part s reads = which (selector_of_lexemes source part) reads
  where
    which : (r : Result SelectorParts Reason) → with_piece (piece_of part) r ≡ Ok s → (r ≡ Ok s.selector) × (s.piece ≡ piece_of part)
    which (Err reason) e = absurd (err_not_ok reason s e)
    which (Ok selector) e =
        let same = ok_same (record { selector = selector; piece = piece_of part }) s e in
        (ap (λ (t : SelItem). Ok t.selector) same, sym (ap (λ (t : SelItem). t.piece) same))

-- a token apart from how deep it stands
abbrev plain : Shown → Solid
plain s = record { kind = s.kind; bytes = s.bytes; gap = s.gap }

plain_levels : (level : ℕ) (ss : List Solid) → map plain (with_levels level ss) ≡ ss
plain_levels level [] = refl
plain_levels level (s ∷ ss) = ap (λ (more : List Solid). s ∷ more) (plain_levels (depth_behind level (selectors.selector_token s)) ss)

plain_shown : (source : List ℕ) (xs : List Lexeme) → map plain (map (shown source) xs) ≡ map (solid source) xs
plain_shown source [] = refl
plain_shown source (x ∷ xs) = ap (λ (more : List Solid). solid source x ∷ more) (plain_shown source xs)

-- tokens that are shown as those of a printed selector
solids_again : (new old : List ℕ) (part : List Lexeme) (s : SelItem) → map (shown new) part ≡ selector_shown old s
    → map (solid new) part ≡ back (map (solid old) (tokens_in old s.piece))
solids_again new old part s e =
    sym (plain_shown new part) ∙ ap (map plain) e ∙ plain_levels 0 (back (map (solid old) (tokens_in old s.piece)))

record IsReadAgain (new old : List ℕ) (whole part : List Lexeme) (s : SelItem) : Type 0 where
  item : SelItem
  reads : selector_item new part ≡ Ok item
  again : IsSelectorAgain new old whole item s

selector_again : (new old : List ℕ) (whole part : List Lexeme) (s : SelItem) → IsOfSelector old s → map (shown new) part ≡ selector_shown old s → StandsIn whole part
    → IsReadAgain new old whole part s
selector_again new old whole part s sound e inside =
    let tokens = solids_again new old part s e in
    record {
      item = record { selector = s.selector; piece = piece_of part };
      reads = ap (with_piece (piece_of part)) (ap (λ (ss : List Solid). selector_of_terms (terms ss)) tokens ∙ sound.again.reads);
      again = record {
        tokens = part;
        inside = inside;
        stands = refl;
        same = refl;
        text = ap selector_text tokens ∙ sound.again.prints;
      };
    }

pub record AreSelectorsAgain (new old : List ℕ) (whole : List Lexeme) (parts : List (List Lexeme)) (ss : List SelItem) : Type 0 where
  pub items : List SelItem
  pub reads : all_of (selector_item new) parts ≡ Ok items
  pub each : AllZip (IsSelectorAgain new old whole) items ss

pub selectors_again : (new old : List ℕ) (whole : List Lexeme) (parts : List (List Lexeme)) (ss : List SelItem) → AllByRecursion (IsOfSelector old) ss
    → ArePartsOf new whole parts (map (selector_shown old) ss) → AreSelectorsAgain new old whole parts ss
selectors_again new old whole [] [] sound z = record { items = []; reads = refl; each = tt }
selectors_again new old whole [] (s ∷ ss) sound z = absurd z
selectors_again new old whole (part ∷ parts) [] sound z = absurd z
selectors_again new old whole (part ∷ parts) (s ∷ ss) sound z =
    let here = selector_again new old whole part s sound.0 z.0.0 z.0.1 in
    let rest = selectors_again new old whole parts ss sound.1 z.1 in
    record {
      items = here.item ∷ rest.items;
      reads = ap (λ x. before_all x (all_of (selector_item new) parts)) here.reads ∙ ap (λ xs. before_all (Ok here.item) xs) rest.reads;
      each = (here.again, rest.each);
    }

-- no token of a selector is another sign
kind_no_sign : (k : TokenKind) (b : ℕ) → is_selector_kind k ≡ true → is_selector_kind (kind.Sign b) ≡ false → is_sign_of b k ≡ false
kind_no_sign (kind.Sign c) b is other = which (c == b) refl
  where
    which : (same : Bool) → (c == b) ≡ same → (c == b) ≡ false
    which false e = e
    which true e = absurd (false≢true (sym other ∙ ap (λ (n : ℕ). is_selector_kind (kind.Sign n)) (sym (eqb-true c b e)) ∙ is))
kind_no_sign _ b is other = refl

kinds_no_sign : (b level depth : ℕ) (ss : List Solid) → is_selector_kind (kind.Sign b) ≡ false → AllByRecursion (λ x. is_selector_kind x.kind ≡ true) ss
    → None_of (is_shown_sign b level) (with_levels depth ss)
kinds_no_sign b level depth [] other each = tt
kinds_no_sign b level depth (s ∷ ss) other each = (
  ap (λ (t : Bool). t && depth == level) (kind_no_sign s.kind b each.0 other),
  kinds_no_sign b level (depth_behind depth (selectors.selector_token s)) ss other each.1,
)

pub selectors_no_sign : (source : List ℕ) (b level : ℕ) (ss : List SelItem) → is_selector_kind (kind.Sign b) ≡ false → AllByRecursion (IsOfSelector source) ss
    → AllByRecursion (None_of (is_shown_sign b level)) (map (selector_shown source) ss)
selectors_no_sign source b level [] other sound = tt
selectors_no_sign source b level (s ∷ ss) other sound = (
  kinds_no_sign b level 0 (back (map (solid source) (tokens_in source s.piece))) other sound.0.again.kinds,
  selectors_no_sign source b level ss other sound.1,
)

-- tokens that begin with one of a selector
abbrev pub starts_rule : List Shown → Bool
starts_rule [] = false
starts_rule (s ∷ ss) = is_selector_kind s.kind

pub selector_no_at : (k : TokenKind) → is_selector_kind k ≡ true → (is_at_keyword k ≡ false) × (is_between_items k ≡ false)
selector_no_at kind.AtKeyword is = absurd (false≢true is)
selector_no_at kind.CommentOpen is = absurd (false≢true is)
selector_no_at kind.CommentClose is = absurd (false≢true is)
selector_no_at _ is = (refl, refl)

pub starts_append : (xs ys : List Shown) → starts_rule xs ≡ true → starts_rule (xs ++ ys) ≡ true
starts_append [] ys is = absurd (false≢true is)
starts_append (x ∷ xs) ys is = is

starts_kinds : (s : SelectorParts) (ss : List Solid) → selector_of_terms (terms ss) ≡ Ok s → AllByRecursion (λ x. is_selector_kind x.kind ≡ true) ss
    → starts_rule (with_levels 0 ss) ≡ true
starts_kinds s [] reads each = absurd (false≢true (ap is_ok reads))
starts_kinds s (x ∷ xs) reads each = each.0

starts_selector : (source : List ℕ) (s : SelItem) → IsOfSelector source s → starts_rule (selector_shown source s) ≡ true
starts_selector source s sound = starts_kinds s.selector (back (map (solid source) (tokens_in source s.piece))) sound.again.reads sound.again.kinds

pub selectors_start : (source : List ℕ) (sign : Shown) (s : SelItem) (ss : List SelItem) (more : List Shown) → IsOfSelector source s
    → starts_rule (joined sign (map (selector_shown source) (s ∷ ss)) ++ more) ≡ true
selectors_start source sign s [] more sound = starts_append (selector_shown source s) more (starts_selector source s sound)
selectors_start source sign s (next ∷ ss) more sound =
    let later = joined sign (map (selector_shown source) (next ∷ ss)) in
    starts_append (selector_shown source s ++ sign ∷ later) more (starts_append (selector_shown source s) (sign ∷ later) (starts_selector source s sound))
