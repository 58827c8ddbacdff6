-- Every block of a source whose brackets are closed ends.
use Rattle.std.proofs.Common.{◌≡◌, subst, ℕ, ◌==◌, Bool, true, false, List, [], ◌∷◌, ◌++◌, length, drop, Option, Some, None, refl, sym, ◌∙◌, ap, arith}
use Rattle.std.proofs.lemmas.Bool.{false≢true, and_parts, eqb-true}
use Rattle.std.specs.Prelude.{⊤, ◌&&◌, ◌||◌, if◌then◌else◌}
use Rattle.std.specs.List.{list_any, last_or}
use Rattle.std.specs.Option.{option_map}
use Rattle.css_model.specs.declared.token.Bracket.{Bracket}
use Rattle.css_model.specs.declared.token.Lexeme.{Lexeme}
use Rattle.css_model.specs.declared.token.Token.{Token}
use Rattle.css_model.specs.declared.token.TokenKind.{TokenKind}
use Rattle.css_model.specs.declared.token.TokenKind.TheVariants as kind
use Rattle.css_model.specs.Text.Characters.{open_curly, close_curly}
use Rattle.css_model.specs.Sheets.Items.{opens_block, closes_block}
use Rattle.css_model.specs.Text.Lexemes.{is_white_kind, is_sign_of, closer_of, closer_of_sign, closes, opened, after, after_all, lexeme, lexemes_in}
use Rattle.css_model.specs.Sheets.Sheet.{unclosed}
use Rattle.sheet_laws.proofs.Shown.Alike.{or_true}
use Rattle.list_facts.proofs.Zips.{cons_not_empty, some_not_none}

-- each token that opens a block is before one that closes it
abbrev pub AllClosed : List Lexeme → Type 0
AllClosed [] = ⊤
AllClosed (x ∷ xs) = (opens_block x ≡ true → list_any closes_block xs ≡ true) × AllClosed xs

pub white_after : (k : TokenKind) (at : ℕ) (brackets : List Bracket) → is_white_kind k ≡ true → (if closes k brackets then drop 1 brackets else opened at (closer_of k) brackets) ≡ brackets
white_after kind.White at [] is = refl
white_after kind.White at (b ∷ brackets) is = refl
white_after _ at brackets is = absurd (false≢true is)

-- brackets, of which the outermost stays
record IsAround (outer : Bracket) (brackets : List Bracket) : Type 0 where
  inner : List Bracket
  is : brackets ≡ inner ++ outer ∷ []

opened_around : (at : ℕ) (closer : Option ℕ) (outer : Bracket) (inner : List Bracket) → IsAround outer (opened at closer (inner ++ outer ∷ []))
opened_around at None outer inner = record { inner = inner; is = refl }
opened_around at (Some closer) outer inner = record { inner = record { closer = closer; at = at } ∷ inner; is = refl }

after_around : (t : Token) (outer first : Bracket) (inner : List Bracket) → IsAround outer (after t (first ∷ inner ++ outer ∷ []))
after_around t outer first inner = which (is_sign_of first.closer t.kind)
  where
    which : (b : Bool) → IsAround outer (if b then inner ++ outer ∷ [] else opened t.span.start (closer_of t.kind) (first ∷ inner ++ outer ∷ []))
    which true = record { inner = inner; is = refl }
    which false = opened_around t.span.start (closer_of t.kind) outer (first ∷ inner)

-- the outermost bracket is closed by a `}` inside it alone
closed_later : (outer : Bracket) (inner : List Bracket) (ts : List Token) → outer.closer ≡ close_curly → after_all (inner ++ outer ∷ []) ts ≡ [] → list_any closes_block (lexemes_in (inner ++ outer ∷ []) ts) ≡ true
closed_later outer [] [] closer closed = absurd (cons_not_empty outer [] closed)
closed_later outer (i ∷ inner) [] closer closed = absurd (cons_not_empty i (inner ++ outer ∷ []) closed)
closed_later outer inner (t ∷ ts) closer closed = which (λ inner. closed_later outer inner ts closer) (is_white_kind t.kind) refl inner closed
  where
    around : ((inner : List Bracket) → after_all (inner ++ outer ∷ []) ts ≡ [] → list_any closes_block (lexemes_in (inner ++ outer ∷ []) ts) ≡ true)
        → (brackets : List Bracket) → IsAround outer brackets → after_all brackets ts ≡ [] → list_any closes_block (lexemes_in brackets ts) ≡ true
    around again brackets a closed =
        ap (λ bs. list_any closes_block (lexemes_in bs ts)) a.is ∙ again a.inner (ap (λ bs. after_all bs ts) (sym a.is) ∙ closed)

    which : ((inner : List Bracket) → after_all (inner ++ outer ∷ []) ts ≡ [] → list_any closes_block (lexemes_in (inner ++ outer ∷ []) ts) ≡ true)
        → (w : Bool) → is_white_kind t.kind ≡ w → (inner : List Bracket) → after_all (inner ++ outer ∷ []) (t ∷ ts) ≡ [] → list_any closes_block (lexemes_in (inner ++ outer ∷ []) (t ∷ ts)) ≡ true
    which again true white inner closed =
        let same = white_after t.kind t.span.start (inner ++ outer ∷ []) white in
        ap (λ b. list_any closes_block (if b then lexemes_in (inner ++ outer ∷ []) ts else lexeme (length (inner ++ outer ∷ [])) t ts ∷ lexemes_in (after t (inner ++ outer ∷ [])) ts)) white
        ∙ again inner (ap (λ bs. after_all bs ts) (sym same) ∙ closed)
    which again false solid (i ∷ inner) closed =
        let later = around again (after t (i ∷ inner ++ outer ∷ [])) (after_around t outer i inner) closed in
        let x = lexeme (length (i ∷ inner ++ outer ∷ [])) t ts in
        ap (λ b. list_any closes_block (if b then lexemes_in (i ∷ inner ++ outer ∷ []) ts else x ∷ lexemes_in (after t (i ∷ inner ++ outer ∷ [])) ts)) solid
        ∙ ap (λ b. closes_block x || b) later ∙ or_true (closes_block x)
    which again false solid [] closed =
        ap (λ b. list_any closes_block (if b then lexemes_in (outer ∷ []) ts else lexeme 1 t ts ∷ lexemes_in (after t (outer ∷ [])) ts)) solid
        ∙ last again (is_sign_of outer.closer t.kind) refl closed
      where
        last : ((inner : List Bracket) → after_all (inner ++ outer ∷ []) ts ≡ [] → list_any closes_block (lexemes_in (inner ++ outer ∷ []) ts) ≡ true)
            → (b : Bool) → is_sign_of outer.closer t.kind ≡ b → after_all (outer ∷ []) (t ∷ ts) ≡ [] → (closes_block (lexeme 1 t ts) || list_any closes_block (lexemes_in (after t (outer ∷ [])) ts)) ≡ true
        last again true is closed =
            let here : closes_block (lexeme 1 t ts) ≡ true = ap (λ c. is_sign_of c t.kind && true) (sym closer) ∙ ap (λ b. b && true) is in
            ap (λ b. b || list_any closes_block (lexemes_in (after t (outer ∷ [])) ts)) here
        last again false is closed =
            let still : IsAround outer (after t (outer ∷ [])) =
            subst (λ b. IsAround outer (if b then [] else opened t.span.start (closer_of t.kind) (outer ∷ []))) (sym is) (opened_around t.span.start (closer_of t.kind) outer []) in
            ap (λ b. closes_block (lexeme 1 t ts) || b) (around again (after t (outer ∷ [])) still closed) ∙ or_true (closes_block (lexeme 1 t ts))

-- a `{` inside no bracket opens one that a `}` closes
block_opens : (k : TokenKind) (at : ℕ) (brackets : List Bracket) → is_sign_of open_curly k ≡ true → length brackets ≡ 0
    → (if closes k brackets then drop 1 brackets else opened at (closer_of k) brackets) ≡ record { closer = close_curly; at = at } ∷ []
block_opens (kind.Sign c) at [] is none = ap (λ (n : ℕ). opened at (closer_of_sign n) []) (eqb-true c open_curly is)
block_opens (kind.Sign c) at (b ∷ brackets) is none = absurd (omega (arith, none))
block_opens _ at brackets is none = absurd (false≢true is)

blocks_end : (brackets : List Bracket) (ts : List Token) → after_all brackets ts ≡ [] → AllClosed (lexemes_in brackets ts)
blocks_end brackets [] closed = tt
blocks_end brackets (t ∷ ts) closed = which (λ bs. blocks_end bs ts) (is_white_kind t.kind) refl
  where
    which : ((bs : List Bracket) → after_all bs ts ≡ [] → AllClosed (lexemes_in bs ts)) → (w : Bool) → is_white_kind t.kind ≡ w
        → AllClosed (if w then lexemes_in brackets ts else lexeme (length brackets) t ts ∷ lexemes_in (after t brackets) ts)
    which again true white =
        again brackets (ap (λ bs. after_all bs ts) (sym (white_after t.kind t.span.start brackets white)) ∙ closed)
    which again false solid = (opens, again (after t brackets) closed)
      where
        opens : opens_block (lexeme (length brackets) t ts) ≡ true → list_any closes_block (lexemes_in (after t brackets) ts) ≡ true
        opens is =
            let parts = and_parts (is_sign_of open_curly t.kind) (length brackets == 0) is in
            let around = block_opens t.kind t.span.start brackets parts.0 (eqb-true (length brackets) 0 parts.1) in
            let outer : Bracket = record { closer = close_curly; at = t.span.start } in
            ap (λ bs. list_any closes_block (lexemes_in bs ts)) around
            ∙ closed_later outer [] ts refl (ap (λ bs. after_all bs ts) (sym around) ∙ closed)

some_last : (b : Bracket) (bs : List Bracket) → (last : Bracket) × (last_or (Some b) bs ≡ Some last)
some_last b [] = (b, refl)
some_last b (next ∷ bs) = some_last next bs

pub none_open : (bs : List Bracket) → option_map (λ b. b.at) (last_or None bs) ≡ None → bs ≡ []
none_open [] e = refl
none_open (b ∷ bs) e =
    let last = some_last b bs in
    absurd (some_not_none last.0.at (sym (ap (option_map (λ b. b.at)) last.1) ∙ e))

-- Where no bracket is open at the end, each block ends.
pub all_closed : (ts : List Token) → unclosed ts ≡ None → AllClosed (lexemes_in [] ts)
all_closed ts e = blocks_end [] ts (none_open (after_all [] ts) e)
