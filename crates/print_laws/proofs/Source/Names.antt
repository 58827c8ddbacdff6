-- The tokens of a source stand in order, and white space behind them closes their escapes.
use Rattle.std.proofs.Common.{◌≡◌, ℕ, Bool, true, false, List, [], ◌∷◌, ◌++◌, length, Some, Ok, refl, sym, ◌∙◌, ap, subst}
use Rattle.std.proofs.lemmas.Bool.{false≢true}
use Rattle.std.proofs.lemmas.List.{append-nil}
use Rattle.css_model.specs.declared.token.Lexeme.{Lexeme}
use Rattle.css_model.specs.declared.token.TokenKind.{TokenKind}
use Rattle.css_model.specs.declared.token.TokenKind.TheVariants as kind
use Rattle.css_model.specs.Text.Characters.{backslash}
use Rattle.css_model.specs.Text.Kept.{is_lone}
use Rattle.css_model.specs.Text.Lexemes.{is_white_kind}
use Rattle.css_model.specs.Text.Source.{text_at}
use Rattle.css_model.specs.Text.TokenAt.{part_at}
use Rattle.token_laws.specs.SpaceBehind.{IsRead}
use Rattle.token_laws.proofs.ForCallers.{ends_nil, is_plain, delim-text, space_closes, part_again, lone_is}
use Rattle.sheet_laws.proofs.ForCallers.{IsClosable, IsNamed, TakesSpace, ends_with_sign, has_name, is_closable, IsShut}
use Rattle.print_laws.proofs.Tokens.Lexed.{IsReadAs}
use Rattle.print_laws.proofs.Source.Tokens.{IsGoodLexeme}

lone-shut : IsShut (backslash ∷ [])
lone-shut open_ = refl

shut-of : (v : List ℕ) (k : TokenKind) → is_white_kind k ≡ false → IsReadAs v k → IsShut v
shut-of v k solid_ read = which (is_lone k) refl
  where
    which : (b : Bool) → is_lone k ≡ b → IsShut v
    which false other open_ = (space_closes v read.old [] k (record { no_white = solid_; no_lone = other; read = read.read }) open_).1
    which true lone open_ =
        let alone : v ≡ backslash ∷ [] = delim-text v read.old backslash (subst (λ k. part_at (v ++ read.old) ≡ Ok (Some k, length v)) (lone_is k lone) read.read) in
        subst IsShut (sym alone) lone-shut open_

named-of : (v : List ℕ) (k : TokenKind) → is_white_kind k ≡ false → is_lone k ≡ false → is_plain (Some k) ≡ true → IsReadAs v k → IsNamed k v
named-of v k solid_ other plain read =
    let e = ends_nil (record { kind = Some k; bytes = v }) read.old plain in
    let alone : part_at (v ++ []) ≡ Ok (Some k, length v) = part_again v read.old [] (Some k) e.alike e.looks read.read in
    let here : IsRead v [] k = record { no_white = solid_; no_lone = other; read = alone } in
    record {
      alone = sym (ap part_at (append-nil v)) ∙ alone;
      near = λ open_. (space_closes v [] [] k here open_).0;
    }

takes-of : (v : List ℕ) (k : TokenKind) → is_white_kind k ≡ false → is_lone k ≡ false → IsReadAs v k → TakesSpace k v
takes-of v k solid_ other read = λ open_. (space_closes v read.old [] k (record { no_white = solid_; no_lone = other; read = read.read }) open_).0

pub closable-of : (source : List ℕ) (x : Lexeme) → is_white_kind x.kind ≡ false → IsGoodLexeme source x → IsClosable source x
closable-of source x solid_ g =
    is_closable source x (shut-of (text_at source x.span) x.kind solid_ g.good.read) (named x.kind solid_ g.good.read) (takes x.kind solid_ g.good.read)
  where
    takes : (k : TokenKind) → is_white_kind k ≡ false → IsReadAs (text_at source x.span) k → ends_with_sign k ≡ true → TakesSpace k (text_at source x.span)
    takes kind.Function solid_ read is = takes-of (text_at source x.span) kind.Function refl refl read
    takes kind.Str solid_ read is = takes-of (text_at source x.span) kind.Str refl refl read
    takes _ solid_ read is = absurd (false≢true is)

    named : (k : TokenKind) → is_white_kind k ≡ false → IsReadAs (text_at source x.span) k → has_name k ≡ true → IsNamed k (text_at source x.span)
    named kind.Ident solid_ read is = named-of (text_at source x.span) kind.Ident refl refl refl read
    named kind.AtKeyword solid_ read is = named-of (text_at source x.span) kind.AtKeyword refl refl refl read
    named kind.IdHash solid_ read is = named-of (text_at source x.span) kind.IdHash refl refl refl read
    named _ solid_ read is = absurd (false≢true is)
