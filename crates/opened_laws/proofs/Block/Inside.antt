-- The tokens of a block's body, in the source and by themselves: there they stand one level less deep.
use Rattle.std.proofs.Common.{◌≡◌, ℕ, Bool, false, nat_eq, List, [], ◌∷◌, ◌++◌, map, Ok, refl, sym, ◌∙◌, ap, ap₂, arith}
use Rattle.std.specs.List.{AllZip, starts_with}
use Rattle.std.proofs.lemmas.Bool.{cond-false}
use Rattle.css_model.specs.declared.sheet.Item.{Item}
use Rattle.css_model.specs.declared.token.Lexeme.{Lexeme}
use Rattle.css_model.specs.declared.token.TokenKind.TheVariants as kind
use Rattle.css_model.specs.Sheets.Items.{closes_block}
use Rattle.css_model.specs.Sheets.Sheet.{sheet_of}
use Rattle.css_model.specs.Sheets.Spelling.{lexemes_of}
use Rattle.css_model.specs.Text.Characters.{close_curly}
use Rattle.css_model.specs.Text.Lexemes.{lexemes, lexemes_in}
use Rattle.css_model.specs.Text.Source.{text_at}
use Rattle.css_model.specs.Text.Tokens.{Part, Parts, Stream, byte_order_mark, parts, stream_of, text_of, tokens_at}
use Rattle.css_tokens.specs.Lexed.{IsLexed}
use Rattle.css_tokens.proofs.ForCallers.{lexed_are_parts}
use Rattle.list_facts.proofs.Cuts.{None_of}
use Rattle.list_facts.proofs.Zips.{zip_from_last}
use Rattle.print_laws.proofs.ForCallers.{closers_after, ground-of, open_behind}
use Rattle.opened_laws.proofs.Block.Between.{IsInside, inside_behind}
use Rattle.opened_laws.proofs.Block.Marks.{Mark, deeper_mark, mark}
use Rattle.opened_laws.proofs.Block.Moved.{IsMoved, IsMovedInner, IsMovedLast, stay_inside}

-- a text that begins with no byte order mark and is made of these parts
pub lexemes_of_parts : (text : List ℕ) (ps : List Part) → text ≡ text_of ps → IsLexed ps → starts_with nat_eq text byte_order_mark ≡ false → lexemes_of text ≡ lexemes_in [] (tokens_at 0 false ps)
lexemes_of_parts text ps are lexed none =
    ap (λ (s : Stream). lexemes s.tokens) (cond-false _ _ _ none ∙ ap (λ (p : Parts). stream_of 0 false p) (ap parts are ∙ lexed_are_parts ps lexed))

-- ---- a block of a source

-- a block of a source, by its tokens: it stands inside no bracket, and is closed by the first `}` that can
pub record IsBlockIn (source : List ℕ) (front : List Lexeme) (open_ : Lexeme) (inner : List Lexeme) (close : Lexeme) (rest : List Lexeme) : Type 0 where
  pub are : lexemes_of source ≡ front ++ open_ ∷ (inner ++ close ∷ rest)
  pub opens : closers_after open_.kind (open_behind [] front) ≡ close_curly ∷ []
  pub inside : open_behind (close_curly ∷ []) inner ≡ close_curly ∷ []
  pub stays : None_of closes_block inner
  pub closes : close.kind ≡ kind.Sign close_curly

-- what stands in its brackets
abbrev pub body_text : List ℕ → Lexeme → Lexeme → List ℕ
body_text source open_ close = text_at source (record { start = open_.span.«end»; «end» = close.span.start })

pub none_mapped : {A B : Type 0} (f : A → B) (p : B → Bool) (xs : List A) → None_of (λ x. p (f x)) xs → None_of p (map f xs)
none_mapped f p [] none = tt
none_mapped f p (x ∷ xs) (here, none) = (here, none_mapped f p xs none)

-- tokens that stand one level deeper
moved_marks : (place : ℕ) (ys xs : List Lexeme) → AllZip (IsMoved place 1) ys xs → map mark ys ≡ map deeper_mark (map mark xs)
moved_marks place [] [] z = refl
moved_marks place [] (x ∷ xs) z = absurd z
moved_marks place (y ∷ ys) [] z = absurd z
moved_marks place (y ∷ ys) (x ∷ xs) z =
    ap₂ (λ k (n : ℕ). record { kind = k; level = n } ∷ map mark ys) z.0.kind (let n = z.0.level in omega (arith, n))
    ∙ ap (λ (ms : List Mark). deeper_mark (mark x) ∷ ms) (moved_marks place ys xs z.1)

-- The tokens of the body's text are those of the block, each of one level less.
pub inner_marks : (source : List ℕ) (its : List Item) → sheet_of source ≡ Ok its → (front : List Lexeme) (open_ : Lexeme) (inner : List Lexeme) (close : Lexeme) (rest : List Lexeme)
    → IsBlockIn source front open_ inner close rest → starts_with nat_eq (body_text source open_ close) byte_order_mark ≡ false
    → map mark inner ≡ map deeper_mark (map mark (lexemes_of (body_text source open_ close)))
inner_marks source its e front open_ inner close rest b unmarked =
    moved_marks open_.span.«end» inner (lexemes_in [] (tokens_at 0 false i.parts))
    (zip_from_last (IsMovedInner open_.span.«end» 1) (IsMovedLast open_.span.«end» 1) (IsMoved open_.span.«end» 1) (λ y x m. m.0) (λ y x m. m.0) inner (lexemes_in [] (tokens_at 0 false i.parts)) i.moved)
    ∙ ap (λ xs. map deeper_mark (map mark xs)) (sym (lexemes_of_parts (body_text source open_ close) i.parts i.stands i.lexed unmarked))
  where
    i : IsInside source open_.span.«end» close.span.start (close_curly ∷ []) inner
    i = (inside_behind source (ground-of source its e).parts front open_ inner close rest (close_curly ∷ []) b.are b.closes b.opens (stay_inside inner b.stays)).inside
