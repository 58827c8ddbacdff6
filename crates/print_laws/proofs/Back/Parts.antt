-- The parts of a sound sheet are read where they stand, close what they open, and have the text that is printed.
use Rattle.std.proofs.Common.{◌≡◌, ◌⊎◌, inl, inr, ℕ, ◌+◌, ◌-◌, Bool, true, false, cond, List, [], ◌∷◌, map, length, take, drop, Some, None, refl, sym, ◌∙◌, ap, subst}
use Rattle.std.specs.Prelude.{◌&&◌}
use Rattle.std.specs.List.{AllByRecursion, after_first, before_first, position_or_len}
use Rattle.std.specs.Str.{IsUtf8}
use Rattle.std.proofs.lemmas.Bool.{false≢true, and_parts, eqb-true}
use Rattle.std.proofs.lemmas.List.{append_assoc, take-append-drop}
use Rattle.css_model.specs.declared.sheet.DeclItem.{DeclItem}
use Rattle.css_model.specs.declared.sheet.SelItem.{SelItem}
use Rattle.css_model.specs.declared.token.Lexeme.{Lexeme}
use Rattle.css_model.specs.declared.token.TokenKind.{TokenKind}
use Rattle.css_model.specs.declared.token.TokenKind.TheVariants as kind
use Rattle.css_model.specs.Text.Characters.{close_curly, colon, comma, exclamation_mark, semicolon, space}
use Rattle.css_model.specs.declared.sheet.Piece.{Piece}
use Rattle.css_model.specs.Sheets.Declarations.{declaration, decl_item, is_importance, is_important, property_of, is_custom, text_of_value, without_importance}
use Rattle.css_model.specs.Text.Lexemes.{is_delim_of, is_ident}
use Rattle.css_model.specs.Sheets.Items.{block, closes_block, entries, opens_block, selector_parts}
use Rattle.css_model.specs.Text.Kept.{is_white_gap, solid, value_text}
use Rattle.css_model.specs.Text.Lexemes.{is_sign_at, is_sign_of}
use Rattle.css_model.specs.Sheets.Sound.{IsSoundDeclaration, IsSoundSelector, raw_items}
use Rattle.css_model.specs.Text.Source.{text_at}
use Rattle.css_model.specs.Sheets.Spelling.{lexemes_of, stands_in, tokens_in}
use Rattle.css_model.specs.Text.Names.{decoded}
use Rattle.sheet_laws.proofs.ForCallers.{IsOfDeclaration, StandsIn, stands_behind, stands_inside, stands_whole, declaration_from, selector_from, value_alone, IsPart, each_inside, none_before, split_stands, stands_dropped, stands_taken, IsOfSelector, selector_in, stand_alone_in}
use Rattle.list_facts.proofs.Cuts.{None_of}
use Rattle.print_laws.proofs.Source.Items.{Ground, filtered, member}
use Rattle.print_laws.proofs.Levels.Items.{IsEntryFrom, IsItemOf, IsPartOf, entries-are}
use Rattle.print_laws.proofs.Levels.Brackets.{AreLeveled, open_behind, leveled-append, open-append}
use Rattle.print_laws.proofs.Tokens.Lexed.{IsReadAs, IsReadDeclaration, IsSpelledBy}
use Rattle.print_laws.proofs.Tokens.Parts.{closers_after}
use Rattle.print_laws.proofs.Levels.Sheet.{IsFlatDeclaration, delim-flat, ident-flat}
use Rattle.print_laws.proofs.Source.Tokens.{IsGoodLexeme}
use Rattle.print_laws.proofs.Tokens.Selectors.{IsShownSelector, shown-selector}
use Rattle.print_laws.proofs.Tokens.Texts.{IsLoneBeforeWhite, IsTextOf}

pub part-of-stands : {xs ys : List Lexeme} → StandsIn xs ys → IsPartOf xs ys
part-of-stands {xs = xs} {ys = ys} s = record { before = s.front; behind = s.behind; are = s.is ∙ append_assoc s.front ys s.behind }

stands-of-part : {xs ys : List Lexeme} → IsPartOf xs ys → StandsIn xs ys
stands-of-part {xs = xs} {ys = ys} p = record { front = p.before; behind = p.behind; is = p.are ∙ sym (append_assoc p.before ys p.behind) }

item-stands : {xs ys : List Lexeme} → IsItemOf xs ys → StandsIn xs ys
item-stands {xs = xs} {ys = ys} i = record { front = i.before; behind = i.behind; is = i.are ∙ sym (append_assoc i.before ys i.behind) }

prelude-stands : (item : List Lexeme) → StandsIn item (before_first opens_block item)
prelude-stands item = stands_taken (position_or_len opens_block item) item

pub block-stands : (item : List Lexeme) → StandsIn item (block item)
block-stands item =
    stands_inside item (after_first opens_block item) (block item) (stands_dropped (position_or_len opens_block item + 1) item)
    (stands_taken (position_or_len closes_block (after_first opens_block item)) (after_first opens_block item))

-- a selector of a source
pub record SoundSelector (source : List ℕ) (s : SelItem) : Type 0 where
  pub of : IsOfSelector source s
  pub part : IsPartOf (lexemes_of source) (tokens_in source s.piece)
  pub shown : IsShownSelector source s

ident-is : (k : TokenKind) → is_ident k ≡ true → k ≡ kind.Ident
ident-is kind.Ident is = refl
ident-is _ is = absurd (false≢true is)

delim-is : (c : ℕ) (k : TokenKind) → is_delim_of c k ≡ true → k ≡ kind.Delim c
delim-is c (kind.Delim d) is = ap kind.Delim (eqb-true d c is)
delim-is c _ is = absurd (false≢true is)

read-of : (source : List ℕ) (x : Lexeme) (k : TokenKind) → x.kind ≡ k → IsGoodLexeme source x → IsReadAs (text_at source x.span) k
read-of source x k is g = subst (IsReadAs (text_at source x.span)) is g.good.read

pub sound-selector : (source : List ℕ) → Ground source → (s : SelItem) → IsSoundSelector source s → SoundSelector source s
sound-selector source g s sound =
    let item = member (IsItemOf (lexemes_of source)) (raw_items source) sound.item g.items sound.item_in in
    let part = member (IsPart (is_sign_at comma 0) (before_first opens_block sound.item)) (selector_parts sound.item) sound.part (split_stands (is_sign_at comma 0) (before_first opens_block sound.item)) sound.part_in in
    let stands : StandsIn (lexemes_of source) sound.part =
    stands_inside (lexemes_of source) sound.item sound.part (item-stands item)
    (stands_inside sound.item (before_first opens_block sound.item) sound.part (prelude-stands sound.item) part.stands) in
    let of = selector_from source g.good sound.part s stands sound.reads in
    let alone : tokens_in source s.piece ≡ sound.part = ap (tokens_in source) (selector_in source sound.part s sound.reads).1 ∙ stand_alone_in source g.good sound.part stands in
    let spelled : IsSpelledBy source g.parts.ps = record { lexed = g.parts.lexed; solids = g.parts.spelled } in
    let stand : IsPartOf (lexemes_of source) (tokens_in source s.piece) = subst (IsPartOf (lexemes_of source)) (sym alone) (part-of-stands stands) in
    record { of = of; part = stand; shown = shown-selector source g.parts.ps spelled s of stand (filtered (IsGoodLexeme source) (stands_in s.piece) (lexemes_of source) g.each) }

-- a declaration of a source
pub record SoundDeclaration (source : List ℕ) (d : DeclItem) : Type 0 where
  pub of : IsOfDeclaration source d
  pub flat : IsFlatDeclaration source d
  pub text : IsTextOf source d
  pub read : IsReadDeclaration source d
  pub named : IsUtf8 (text_at source d.name)

-- `!` and a name open and close nothing
importance-flat : (source : List ℕ) (last : List Lexeme) → is_importance source last ≡ true → (cs : List ℕ) → open_behind cs last ≡ cs
importance-flat source [] is cs = absurd (false≢true is)
importance-flat source (x ∷ []) is cs = absurd (false≢true is)
importance-flat source (x ∷ y ∷ []) is cs =
    let both = and_parts (is_delim_of exclamation_mark x.kind && is_ident y.kind) _ is in
    let kinds = and_parts (is_delim_of exclamation_mark x.kind) (is_ident y.kind) both.0 in
    let first : closers_after x.kind cs ≡ cs = ap (λ k. closers_after k cs) (delim-is exclamation_mark x.kind kinds.0) ∙ (delim-flat exclamation_mark).flat cs in
    let second : closers_after y.kind cs ≡ cs = ap (λ k. closers_after k cs) (ident-is y.kind kinds.1) ∙ ident-flat.flat cs in
    ap (λ signs. closers_after y.kind signs) first ∙ second
importance-flat source (x ∷ y ∷ z ∷ xs) is cs = absurd (false≢true is)

-- a value without its importance closes what it opens
plain-closes : (source : List ℕ) (value : List Lexeme) → IsEntryFrom (close_curly ∷ []) value → IsEntryFrom (close_curly ∷ []) (without_importance source value)
plain-closes source value e = which (is_important source value) refl
  where
    n : ℕ
    n = length value - 2

    which : (b : Bool) → is_important source value ≡ b → IsEntryFrom (close_curly ∷ []) (cond b (take n value) value)
    which false is = e
    which true is =
        let parts = leveled-append (close_curly ∷ []) (take n value) (drop n value) (subst (AreLeveled (close_curly ∷ [])) (sym (take-append-drop n value)) e.leveled) in
        record {
          leveled = parts.0;
          ends = sym (importance-flat source (drop n value) is (open_behind (close_curly ∷ []) (take n value)))
              ∙ sym (open-append (close_curly ∷ []) (take n value) (drop n value)) ∙ ap (open_behind (close_curly ∷ [])) (take-append-drop n value) ∙ e.ends;
        }

-- the tokens behind a name and a colon
record IsDeclared (source : List ℕ) (entry : List Lexeme) (d : DeclItem) : Type 0 where
  name : Lexeme
  sign : Lexeme
  value : List Lexeme
  are : entry ≡ name ∷ sign ∷ value
  ident : name.kind ≡ kind.Ident
  colon_is : sign.kind ≡ kind.Sign colon
  is : decl_item source name sign value ≡ d

sign-is : (c : ℕ) (k : TokenKind) → is_sign_of c k ≡ true → k ≡ kind.Sign c
sign-is c (kind.Sign d) is = ap kind.Sign (eqb-true d c is)
sign-is c _ is = absurd (false≢true is)

declared-of : (source : List ℕ) (entry : List Lexeme) (d : DeclItem) → declaration source entry ≡ Some d → IsDeclared source entry d
declared-of source [] d e = absurd cc
declared-of source (x ∷ []) d e = absurd cc
declared-of source (name ∷ sign ∷ value) d e = which (is_ident name.kind && is_sign_of colon sign.kind) refl e
  where
    which : (b : Bool) → (is_ident name.kind && is_sign_of colon sign.kind) ≡ b → cond b (Some (decl_item source name sign value)) None ≡ Some d → IsDeclared source (name ∷ sign ∷ value) d
    which false is h = absurd cc
    which true is h =
        let both = and_parts (is_ident name.kind) (is_sign_of colon sign.kind) is in
        record { name = name; sign = sign; value = value; are = refl; ident = ident-is name.kind both.0; colon_is = sign-is colon sign.kind both.1; is = let same : decl_item source name sign value ≡ d = cc in same }

behind-colon : (name sign : Lexeme) (value : List Lexeme) → name.kind ≡ kind.Ident → sign.kind ≡ kind.Sign colon → IsEntryFrom (close_curly ∷ []) (name ∷ sign ∷ value) → IsEntryFrom (close_curly ∷ []) value
behind-colon name sign value ident colon_is e =
    let first : closers_after name.kind (close_curly ∷ []) ≡ close_curly ∷ [] = ap (λ k. closers_after k (close_curly ∷ [])) ident in
    let both : closers_after sign.kind (closers_after name.kind (close_curly ∷ [])) ≡ close_curly ∷ [] =
    ap (closers_after sign.kind) first ∙ ap (λ k. closers_after k (close_curly ∷ [])) colon_is in
    record { leveled = subst (λ cs. AreLeveled cs value) both e.leveled.2.2; ends = ap (λ cs. open_behind cs value) (sym both) ∙ e.ends }

value-told : (source : List ℕ) (custom : Bool) (sign : Lexeme) (plain : List Lexeme) (x : Lexeme) (xs : List Lexeme) → plain ≡ x ∷ xs → text_of_value source custom sign plain ≡ value_text (map (solid source) (x ∷ xs))
value-told source custom sign plain x xs are = ap (text_of_value source custom sign) are

value-white : (source : List ℕ) (custom : Bool) (sign : Lexeme) (plain : List Lexeme) → plain ≡ [] → (text_of_value source custom sign plain ≡ []) ⊎ (text_of_value source custom sign plain ≡ space ∷ [])
value-white source custom sign plain none = by (custom && is_white_gap sign.gap) (ap (text_of_value source custom sign) none)
  where
    by : (b : Bool) → text_of_value source custom sign plain ≡ cond b (space ∷ []) [] → (text_of_value source custom sign plain ≡ []) ⊎ (text_of_value source custom sign plain ≡ space ∷ [])
    by true e = inr e
    by false e = inl e

lone-of : (source : List ℕ) (xs : List Lexeme) → AllByRecursion (IsGoodLexeme source) xs → AllByRecursion IsLoneBeforeWhite xs
lone-of source [] each = tt
lone-of source (x ∷ xs) (one, rest) = (one.good.lone, lone-of source xs rest)

pub good-in : (source : List ℕ) → Ground source → (piece : Piece) → AllByRecursion (IsGoodLexeme source) (tokens_in source piece)
good-in source g piece = filtered (IsGoodLexeme source) (stands_in piece) (lexemes_of source) g.each

pub lone-in : (source : List ℕ) → Ground source → (piece : Piece) → AllByRecursion IsLoneBeforeWhite (tokens_in source piece)
lone-in source g piece = lone-of source (tokens_in source piece) (good-in source g piece)

plain-stands : (source : List ℕ) (value : List Lexeme) → StandsIn value (without_importance source value)
plain-stands source value = which (is_important source value)
  where
    which : (b : Bool) → StandsIn value (cond b (take (length value - 2) value) value)
    which true = stands_taken (length value - 2) value
    which false = stands_whole value

pub sound-declaration : (source : List ℕ) → Ground source → (d : DeclItem) → IsSoundDeclaration source d → SoundDeclaration source d
sound-declaration source g d sound =
    let item = member (IsItemOf (lexemes_of source)) (raw_items source) sound.item g.items sound.item_in in
    let part = member (IsPart (is_sign_at semicolon 1) (block sound.item)) (entries sound.item) sound.entry (split_stands (is_sign_at semicolon 1) (block sound.item)) sound.entry_in in
    let closed_ = member (IsEntryFrom (close_curly ∷ [])) (entries sound.item) sound.entry (entries-are sound.item item.leveled item.ends) sound.entry_in in
    let in-item : StandsIn sound.item sound.entry = stands_inside sound.item (block sound.item) sound.entry (block-stands sound.item) part.stands in
    let stands : StandsIn (lexemes_of source) sound.entry = stands_inside (lexemes_of source) sound.item sound.entry (item-stands item) in-item in
    let inside : None_of closes_block sound.entry =
    each_inside (λ x. closes_block x ≡ false) (block sound.item) sound.entry part.stands (none_before closes_block (after_first opens_block sound.item)) in
    let of = declaration_from source g.good sound.entry d stands part.none inside sound.plain sound.reads in
    let p = declared-of source sound.entry d sound.reads in
    let value = behind-colon p.name p.sign p.value p.ident p.colon_is (subst (IsEntryFrom (close_curly ∷ [])) p.are closed_) in
    let plain = without_importance source p.value in
    let plain-closed = plain-closes source p.value value in
    let alone : tokens_in source d.value ≡ plain =
    ap (λ (e : DeclItem). tokens_in source e.value) (sym p.is) ∙ value_alone source g.good p.name p.sign p.value (subst (StandsIn (lexemes_of source)) p.are stands) in
    let in-value : StandsIn (lexemes_of source) plain =
    stands_inside (lexemes_of source) (p.name ∷ p.sign ∷ p.value) plain (subst (StandsIn (lexemes_of source)) p.are stands)
    (stands_inside (p.name ∷ p.sign ∷ p.value) p.value plain (stands_behind (p.name ∷ p.sign ∷ []) p.value) (plain-stands source p.value)) in
    let custom = is_custom (property_of (decoded (text_at source p.name.span))) in
    let text : d.decl.value ≡ text_of_value source custom p.sign plain = ap (λ (e : DeclItem). e.decl.value) (sym p.is) in
    let named : AllByRecursion (IsGoodLexeme source) (p.name ∷ p.sign ∷ p.value) = subst (AllByRecursion (IsGoodLexeme source)) p.are (each_inside (IsGoodLexeme source) (lexemes_of source) sound.entry stands g.each) in
    record {
      of = of;
      flat = record { leveled = subst (AreLeveled (close_curly ∷ [])) (sym alone) plain-closed.leveled; ends = ap (open_behind (close_curly ∷ [])) alone ∙ plain-closed.ends };
      text = record {
        lone = lone-in source g d.value;
        value = λ x xs are. text ∙ value-told source custom p.sign plain x xs (sym alone ∙ are);
        white = λ none. subst (λ v. (v ≡ []) ⊎ (v ≡ space ∷ [])) (sym text) (value-white source custom p.sign plain (sym alone ∙ none));
      };
      read = record {
        name = subst (λ (piece : Piece). IsReadAs (text_at source piece) kind.Ident) (ap (λ (e : DeclItem). e.name) p.is) (read-of source p.name kind.Ident p.ident named.0);
        part = subst (IsPartOf (lexemes_of source)) (sym alone) (part-of-stands in-value);
        ends = ap (open_behind (close_curly ∷ [])) alone ∙ plain-closed.ends;
        lone = lone-in source g d.value;
      };
      named = subst (λ (piece : Piece). IsUtf8 (text_at source piece)) (ap (λ (e : DeclItem). e.name) p.is) named.0.good.utf8;
    }
