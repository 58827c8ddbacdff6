-- The entries of a kept rule say what they say in the source.
use Rattle.std.proofs.Common.{◌≡◌, ℕ, ◌-◌, ◌==◌, Bool, true, false, not, List, [], ◌∷◌, length, take, drop, map, Option, Some, None, refl, sym, ◌∙◌, ap}
use Rattle.std.proofs.lemmas.Bool.{true≢false, false≢true, and_parts}
use Rattle.std.proofs.Math.Bool.{and_assoc}
use Rattle.std.specs.Str.{str_eq_ignore_ascii_case}
use Rattle.std.specs.Prelude.{◌&&◌, ◌||◌, if◌then◌else◌, codes}
use Rattle.std.specs.List.{AllZip, list_any}
use Rattle.css_model.specs.declared.sheet.DeclItem.{DeclItem}
use Rattle.css_model.specs.declared.token.Lexeme.{Lexeme}
use Rattle.css_model.specs.declared.token.TokenKind.{TokenKind}
use Rattle.css_model.specs.declared.token.TokenKind.TheVariants as kind
use Rattle.css_model.specs.Text.Characters.{colon, exclamation_mark, open_curly, space}
use Rattle.css_model.specs.Text.Lexemes.{is_ident, is_delim_of}
use Rattle.css_model.specs.Text.Names.{is_named}
use Rattle.css_model.specs.Sheets.Declarations.{is_custom, property_of, is_importance, is_important, without_importance, text_of_value, decl_item, declaration, declares_custom, is_nested}
use Rattle.css_model.specs.Sheets.Items.{is_at_rule, is_at_keyword}
use Rattle.css_model.specs.Text.Kept.{solid, is_white_gap, value_text}
use Rattle.css_model.specs.Text.Lexemes.{is_sign_of, is_sign_at}
use Rattle.css_model.specs.Text.Source.{text_at}
use Rattle.css_model.specs.Text.Names.{unescaped, decoded, code_points}
use Rattle.sheet_laws.proofs.Shown.Alike.{IsClosable, IsLike, name_in, like_inner}
use Rattle.list_facts.proofs.Zips.{AreBoth, zip_length, zip_drop, zip_take, zip_any, zip_map}
use Rattle.sheet_laws.proofs.Shown.Values.{IsInner, AreShut, inner_value_same}

-- a token of a source, and one that was printed for it before others
abbrev pub IsPrinted : List ℕ → List ℕ → Lexeme → Lexeme → Type 0
IsPrinted new old y x = IsInner new old y x × IsClosable old x

pub printed_like : (new old : List ℕ) (y x : Lexeme) → IsPrinted new old y x → IsLike new old y x
printed_like new old y x p = like_inner new old y x p.0 p.1

pub sign_like : (new old : List ℕ) (b level : ℕ) (y x : Lexeme) → IsLike new old y x → is_sign_at b level y ≡ is_sign_at b level x
sign_like new old b level y x like =
    ap (λ k. is_sign_of b k && y.level == level) like.kind ∙ ap (λ (n : ℕ). is_sign_of b x.kind && n == level) like.level

ident_in : (k : TokenKind) → is_ident k ≡ true → (new old : List ℕ) → unescaped (name_in k new) ≡ unescaped (name_in k old) → unescaped new ≡ unescaped old
ident_in kind.Ident is new old e = e
ident_in _ is new old e = absurd (false≢true is)

pub ident_like : (new old : List ℕ) (y x : Lexeme) → is_ident x.kind ≡ true → IsLike new old y x → unescaped (text_at new y.span) ≡ unescaped (text_at old x.span)
ident_like new old y x is like = ident_in x.kind is (text_at new y.span) (text_at old x.span) like.name

-- a word after an ident
named_like : (new old word : List ℕ) (y x : Lexeme) → IsLike new old y x
    → (is_ident y.kind && is_named word (text_at new y.span)) ≡ (is_ident x.kind && is_named word (text_at old x.span))
named_like new old word y x like =
    ap (λ k. is_ident k && is_named word (text_at new y.span)) like.kind ∙ which (is_ident x.kind) refl
  where
    which : (b : Bool) → is_ident x.kind ≡ b → (b && is_named word (text_at new y.span)) ≡ (b && is_named word (text_at old x.span))
    which false is = refl
    which true is = ap (λ name. str_eq_ignore_ascii_case name word) (ident_like new old y x is like)

pub importance_like : (new old : List ℕ) (ys xs : List Lexeme) → AllZip (IsLike new old) ys xs → is_importance new ys ≡ is_importance old xs
importance_like new old [] [] z = refl
importance_like new old [] (x ∷ xs) z = absurd z
importance_like new old (y ∷ ys) [] z = absurd z
importance_like new old (y ∷ []) (x ∷ []) z = refl
importance_like new old (y ∷ []) (x ∷ b ∷ xs) z = absurd z.1
importance_like new old (y ∷ a ∷ ys) (x ∷ []) z = absurd z.1
importance_like new old (y ∷ a ∷ []) (x ∷ b ∷ []) z =
    and_assoc (is_delim_of exclamation_mark y.kind) (is_ident a.kind) (is_named (codes "important") (text_at new a.span))
    ∙ ap (λ k. is_delim_of exclamation_mark k && (is_ident a.kind && is_named (codes "important") (text_at new a.span))) z.0.kind
    ∙ ap (λ t. is_delim_of exclamation_mark x.kind && t) (named_like new old (codes "important") a b z.1.0)
    ∙ sym (and_assoc (is_delim_of exclamation_mark x.kind) (is_ident b.kind) (is_named (codes "important") (text_at old b.span)))
importance_like new old (y ∷ a ∷ []) (x ∷ b ∷ c ∷ xs) z = absurd z.1.1
importance_like new old (y ∷ a ∷ d ∷ ys) (x ∷ b ∷ []) z = absurd z.1.1
importance_like new old (y ∷ a ∷ d ∷ ys) (x ∷ b ∷ c ∷ xs) z = refl

pub important_like : (new old : List ℕ) (ys xs : List Lexeme) → AllZip (IsLike new old) ys xs → is_important new ys ≡ is_important old xs
important_like new old ys xs z =
    ap (λ (n : ℕ). is_importance new (drop (n - 2) ys)) (zip_length (IsLike new old) ys xs z)
    ∙ importance_like new old (drop (length xs - 2) ys) (drop (length xs - 2) xs) (zip_drop (IsLike new old) (length xs - 2) ys xs z)

pub without_like : (new old : List ℕ) (R : Lexeme → Lexeme → Type 0) (ys xs : List Lexeme) → is_important new ys ≡ is_important old xs
    → AllZip R ys xs → AllZip R (without_importance new ys) (without_importance old xs)
without_like new old R ys xs same z = which (is_important new ys) (is_important old xs) same
  where
    which : (a b : Bool) → a ≡ b → AllZip R (if a then take (length ys - 2) ys else ys) (if b then take (length xs - 2) xs else xs)
    which true true e = rw (zip_length R ys xs z) (zip_take R (length xs - 2) ys xs z)
    which false false e = z
    which true false e = absurd (true≢false e)
    which false true e = absurd (false≢true e)

-- declarations of one name and one value
pub declared_same : (new old : List ℕ) (name sign : Lexeme) (value : List Lexeme) (name' sign' : Lexeme) (value' : List Lexeme)
    → unescaped (text_at new name'.span) ≡ unescaped (text_at old name.span) → is_important new value' ≡ is_important old value
    → (let custom = is_custom (property_of (decoded (text_at old name.span))) in
    text_of_value new custom sign' (without_importance new value') ≡ text_of_value old custom sign (without_importance old value))
    → (decl_item new name' sign' value').decl ≡ (decl_item old name sign value).decl
declared_same new old name sign value name' sign' value' same important text =
    let property' = property_of (decoded (text_at new name'.span)) in
    let property = property_of (decoded (text_at old name.span)) in
    let named : property' ≡ property = ap (λ t. property_of (code_points t)) same in
    ap (λ (p : List ℕ). record { name = p; value = text_of_value new (is_custom p) sign' (without_importance new value'); important = is_important new value' }) named
    ∙ ap (λ (t : List ℕ). record { name = property; value = t; important = is_important new value' }) text
    ∙ ap (λ (b : Bool). record { name = property; value = text_of_value old (is_custom property) sign (without_importance old value); important = b }) important

inner_of : (new old : List ℕ) (ys xs : List Lexeme) → AllZip (IsPrinted new old) ys xs → AllZip (IsInner new old) ys xs
inner_of new old = zip_map (IsPrinted new old) (IsInner new old) (λ y x p. p.0)

pub like_of : (new old : List ℕ) (ys xs : List Lexeme) → AllZip (IsPrinted new old) ys xs → AllZip (IsLike new old) ys xs
like_of new old = zip_map (IsPrinted new old) (IsLike new old) (printed_like new old)

shut_of : (new old : List ℕ) (ys xs : List Lexeme) → AllZip (IsPrinted new old) ys xs → AreShut old xs
shut_of new old [] [] z = tt
shut_of new old [] (x ∷ xs) z = absurd z
shut_of new old (y ∷ ys) [] z = absurd z
shut_of new old (y ∷ ys) (x ∷ xs) z = (z.0.1.shut, shut_of new old ys xs z.1)

printed_value_same : (new old : List ℕ) (ys xs : List Lexeme) → AllZip (IsPrinted new old) ys xs → value_text (map (solid new) ys) ≡ value_text (map (solid old) xs)
printed_value_same new old ys xs z = inner_value_same new old ys xs (inner_of new old ys xs z) (shut_of new old ys xs z)

text_printed : (new old : List ℕ) (custom : Bool) (sign' sign : Lexeme) (ys xs : List Lexeme) → sign'.gap ≡ sign.gap → AllZip (IsPrinted new old) ys xs
    → text_of_value new custom sign' ys ≡ text_of_value old custom sign xs
text_printed new old custom sign' sign [] [] same z = ap (λ g. if custom && is_white_gap g then space ∷ [] else []) same
text_printed new old custom sign' sign [] (x ∷ xs) same z = absurd z
text_printed new old custom sign' sign (y ∷ ys) [] same z = absurd z
text_printed new old custom sign' sign (y ∷ ys) (x ∷ xs) same z = printed_value_same new old (y ∷ ys) (x ∷ xs) z

abbrev pub SaySame : DeclItem → DeclItem → Type 0
SaySame d' d = d'.decl ≡ d.decl

pub declaration_printed : (new old : List ℕ) (ys xs : List Lexeme) → AllZip (IsPrinted new old) ys xs → AreBoth SaySame (declaration new ys) (declaration old xs)
declaration_printed new old [] [] z = tt
declaration_printed new old [] (x ∷ xs) z = absurd z
declaration_printed new old (y ∷ ys) [] z = absurd z
declaration_printed new old (y ∷ []) (x ∷ []) z = tt
declaration_printed new old (y ∷ []) (x ∷ b ∷ xs) z = absurd z.1
declaration_printed new old (y ∷ a ∷ ys) (x ∷ []) z = absurd z.1
declaration_printed new old (y ∷ a ∷ ys) (x ∷ b ∷ xs) z =
    which (is_ident x.kind && is_sign_of colon b.kind) refl (is_ident y.kind && is_sign_of colon a.kind) tests
  where
    name : IsLike new old y x
    name = printed_like new old y x z.0

    sign : IsLike new old a b
    sign = printed_like new old a b z.1.0

    tests : (is_ident y.kind && is_sign_of colon a.kind) ≡ (is_ident x.kind && is_sign_of colon b.kind)
    tests = ap (λ k. is_ident k && is_sign_of colon a.kind) name.kind ∙ ap (λ k. is_ident x.kind && is_sign_of colon k) sign.kind

    values : is_important new ys ≡ is_important old xs
    values = important_like new old ys xs (like_of new old ys xs z.1.1)

    which : (t : Bool) → (is_ident x.kind && is_sign_of colon b.kind) ≡ t → (t' : Bool) → t' ≡ (is_ident x.kind && is_sign_of colon b.kind)
        → AreBoth SaySame (if t' then Some (decl_item new y a ys) else None) (if is_ident x.kind && is_sign_of colon b.kind then Some (decl_item old x b xs) else None)
    which t is t' same = rw same (inside t is)
      where
        inside : (t : Bool) → (is_ident x.kind && is_sign_of colon b.kind) ≡ t
            → AreBoth SaySame (if is_ident x.kind && is_sign_of colon b.kind then Some (decl_item new y a ys) else None) (if is_ident x.kind && is_sign_of colon b.kind then Some (decl_item old x b xs) else None)
        inside false is = rw is tt
        inside true is = rw is (declared_same new old x b xs y a ys (ident_like new old y x (and_parts (is_ident x.kind) (is_sign_of colon b.kind) is).0 name) values
            (text_printed new old (is_custom (property_of (decoded (text_at old x.span)))) a b (without_importance new ys) (without_importance old xs) (ap (λ s. s.gap) z.1.0.0) (without_like new old (IsPrinted new old) ys xs values z.1.1)))

custom_same : (d' d : Option DeclItem) → AreBoth SaySame d' d → declares_custom d' ≡ declares_custom d
custom_same None None both = refl
custom_same None (Some d) both = absurd both
custom_same (Some d') None both = absurd both
custom_same (Some d') (Some d) both = ap (λ decl. is_custom decl.name) both

pub at_rule_like : (new old : List ℕ) (ys xs : List Lexeme) → AllZip (IsLike new old) ys xs → is_at_rule ys ≡ is_at_rule xs
at_rule_like new old [] [] z = refl
at_rule_like new old [] (x ∷ xs) z = absurd z
at_rule_like new old (y ∷ ys) [] z = absurd z
at_rule_like new old (y ∷ ys) (x ∷ xs) z = ap is_at_keyword z.0.kind

pub nested_printed : (new old : List ℕ) (ys xs : List Lexeme) → AllZip (IsPrinted new old) ys xs → is_nested new ys ≡ is_nested old xs
nested_printed new old ys xs z =
    let like = like_of new old ys xs z in
    ap (λ (a : Bool). a || (list_any (is_sign_at open_curly 1) ys && not (declares_custom (declaration new ys)))) (at_rule_like new old ys xs like)
    ∙ ap (λ (a : Bool). is_at_rule xs || (a && not (declares_custom (declaration new ys)))) (zip_any (IsLike new old) (is_sign_at open_curly 1) (is_sign_at open_curly 1) (sign_like new old open_curly 1) ys xs like)
    ∙ ap (λ (a : Bool). is_at_rule xs || (list_any (is_sign_at open_curly 1) xs && not a)) (custom_same (declaration new ys) (declaration old xs) (declaration_printed new old ys xs z))
