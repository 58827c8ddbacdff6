-- What stands in a text up to a `}`, by itself.
use Rattle.std.proofs.Common.{◌≡◌, ◌<◌, ℕ, ◌+◌, Bool, false, List, [], ◌∷◌, ◌++◌, length, Some, refl, sym, ◌∙◌, ap, subst, arith}
use Rattle.std.specs.List.{AllByRecursion}
use Rattle.std.specs.Str.{IsUtf8}
use Rattle.std.proofs.lemmas.List.{append_assoc, length-append}
use Rattle.std.proofs.lemmas.Str.{IsUtf8-append, IsUtf8-nil}
use Rattle.css_model.specs.declared.token.Bracket.{Bracket}
use Rattle.css_model.specs.declared.token.Lexeme.{Lexeme}
use Rattle.css_model.specs.declared.token.TokenKind.TheVariants as kind
use Rattle.css_model.specs.Sheets.Spelling.{lexemes_of}
use Rattle.css_model.specs.Text.Characters.{close_curly}
use Rattle.css_model.specs.Text.Lexemes.{lexemes, lexemes_in}
use Rattle.css_model.specs.Text.Source.{text_at}
use Rattle.css_model.specs.Text.Tokens.{Part, text_of, tokens_at}
use Rattle.css_tokens.specs.Lexed.{IsLexed}
use Rattle.css_tokens.proofs.ForCallers.{lexed_whole}
use Rattle.list_facts.proofs.Zips.{AllLast}
use Rattle.print_laws.proofs.ForCallers.{Source, closers_after, closers_of, gap_behind, length-none, open_behind, text-between}
use Rattle.token_laws.proofs.ForCallers.{text_append}
use Rattle.opened_laws.proofs.Block.Moved.{IsMovedInner, IsMovedLast, StayInside, find_at, row_of}
use Rattle.opened_laws.proofs.Block.Alone.{close_text, lexed_behind, row_before}

-- What stands between two places of a text, inside brackets that these signs close, is read by itself as these tokens of the text, moved.
pub record IsInside (text : List ℕ) (place stop : ℕ) (cs : List ℕ) (ys : List Lexeme) : Type 0 where
  pub parts : List Part
  pub next : Part
  pub rest : List Part
  pub sign : next.kind ≡ Some (kind.Sign close_curly)
  pub lexed : IsLexed parts
  pub utf8 : IsUtf8 (text_of parts)
  pub size : stop ≡ place + length (text_of parts)
  pub short : stop < length text
  pub stands : text_at text (record { start = place; «end» = stop }) ≡ text_of parts
  pub moved : AllLast (IsMovedInner place (length cs)) (IsMovedLast place (length cs)) ys (lexemes_in [] (tokens_at 0 false parts))
  pub open_inside : open_behind cs ys ≡ open_behind [] (lexemes_in [] (tokens_at 0 false parts)) ++ cs

-- parts of UTF-8, some behind others
abbrev AreUtf8 : List Part → Type 0
AreUtf8 ps = AllByRecursion (λ p. IsUtf8 p.bytes) ps

utf8_text : (ps : List Part) → AreUtf8 ps → IsUtf8 (text_of ps)
utf8_text [] each = IsUtf8-nil
utf8_text (p ∷ ps) (one, rest) = IsUtf8-append p.bytes (text_of ps) one (utf8_text ps rest)

utf8_front : (ps qs : List Part) → AreUtf8 (ps ++ qs) → AreUtf8 ps
utf8_front [] qs each = tt
utf8_front (p ∷ ps) qs (one, rest) = (one, utf8_front ps qs rest)

utf8_behind : (ps qs : List Part) → AreUtf8 (ps ++ qs) → AreUtf8 qs
utf8_behind [] qs each = each
utf8_behind (p ∷ ps) qs (one, rest) = utf8_behind ps qs rest

none_inside : (is cs : List ℕ) → cs ≡ is ++ cs → is ≡ []
none_inside is cs e = length-none is (let n : length cs ≡ length (is ++ cs) = ap length e in omega (arith, n, length-append is cs))

-- They close what they open where no other bracket is open behind them.
pub closed_inside : (text : List ℕ) (place stop : ℕ) (cs : List ℕ) (ys : List Lexeme) (i : IsInside text place stop cs ys) → open_behind cs ys ≡ cs → open_behind [] (lexemes_in [] (tokens_at 0 false i.parts)) ≡ []
closed_inside text place stop cs ys i closed = none_inside (open_behind [] (lexemes_in [] (tokens_at 0 false i.parts))) cs (sym closed ∙ i.open_inside)

inside_of : (text front : List ℕ) (ps : List Part) (outer : List Bracket) (c : Bool) (ys : List Lexeme) (z : Lexeme) (behind : List Lexeme) →
    text ≡ front ++ text_of ps → IsLexed ps → AreUtf8 ps → lexemes_in outer (tokens_at (length front) c ps) ≡ ys ++ z ∷ behind → z.kind ≡ kind.Sign close_curly →
    StayInside (closers_of outer) ys → (i : IsInside text (length front) z.span.start (closers_of outer) ys) × (ps ≡ i.parts ++ i.next ∷ i.rest) × (z.span.«end» ≡ z.span.start + 1)
inside_of text front ps outer c ys z behind is lexed utf8 e sign stay =
    let cs = closers_of outer in
    let r = row_of (length front) 0 (length front) c false outer [] cs ps ys z behind (omega arith) refl e stay in
    let size : z.span.start ≡ length front + length (text_of r.mid) = (let s = r.start in omega (arith, s)) in
    let whole : text ≡ front ++ (text_of r.mid ++ text_of (r.part ∷ r.rest)) =
    is ∙ ap (λ qs. front ++ text_of qs) r.are ∙ ap (λ (t : List ℕ). front ++ t) (text_append r.mid (r.part ∷ r.rest)) in
    let one : length r.part.bytes ≡ 1 = ap length (close_text r.part r.rest (lexed_behind r.mid (r.part ∷ r.rest) (subst IsLexed r.are lexed)) (r.kind ∙ ap Some sign)) in
    let i : IsInside text (length front) z.span.start cs ys = record {
      parts = r.mid;
      next = r.part;
      rest = r.rest;
      sign = r.kind ∙ ap Some sign;
      lexed = row_before r.mid r.part r.rest (r.kind ∙ ap Some sign) (subst IsLexed r.are lexed);
      utf8 = utf8_text r.mid (utf8_front r.mid (r.part ∷ r.rest) (subst AreUtf8 r.are utf8));
      size = size;
      short = (let n : length text ≡ length (front ++ (text_of r.mid ++ text_of (r.part ∷ r.rest))) = ap length whole in
          omega (arith, n, size, one, length-append front (text_of r.mid ++ text_of (r.part ∷ r.rest)), length-append (text_of r.mid) (text_of (r.part ∷ r.rest)), length-append r.part.bytes (text_of r.rest)));
      stands =
          ap (λ (n : ℕ). text_at text (record { start = length front; «end» = n })) size
          ∙ ap (λ (t : List ℕ). text_at t (record { start = length front; «end» = length front + length (text_of r.mid) })) whole
          ∙ text-between front (text_of r.mid) (text_of (r.part ∷ r.rest));
      moved = r.moved;
      open_inside = r.open_inside;
    } in
    (i, r.are, (let e = r.stop in omega (arith, e, one)))

-- What stands between a token of a source and a `}` behind it.
pub record IsBetween (text : List ℕ) (x : Lexeme) (stop : ℕ) (cs : List ℕ) (ys : List Lexeme) : Type 0 where
  pub inside : IsInside text x.span.«end» stop cs ys
  pub gap : x.gap ≡ gap_behind false (inside.parts ++ inside.next ∷ inside.rest)

pub inside_behind : (text : List ℕ) → Source text → (before : List Lexeme) (x : Lexeme) (ys : List Lexeme) (z : Lexeme) (behind : List Lexeme) (cs : List ℕ) →
    lexemes_of text ≡ before ++ x ∷ (ys ++ z ∷ behind) → z.kind ≡ kind.Sign close_curly → closers_after x.kind (open_behind [] before) ≡ cs → StayInside cs ys →
    IsBetween text x z.span.start cs ys
inside_behind text s before x ys z behind cs e sign signs stay =
    let i = find_at (length s.front) false [] s.ps before x (ys ++ z ∷ behind) (ap lexemes (sym s.placed) ∙ e) in
    let front = s.front ++ (text_of i.front ++ i.part.bytes) in
    let place : length front ≡ x.span.«end» =
    (let a = i.start in let b = i.stop in omega (arith, a, b, length-append s.front (text_of i.front ++ i.part.bytes), length-append (text_of i.front) i.part.bytes)) in
    let outer : closers_of i.later.0 ≡ cs = i.later.1 ∙ ap (closers_after x.kind) i.open_around ∙ signs in
    let utf8 = utf8_behind i.front (i.part ∷ i.rest) (subst AreUtf8 i.are (lexed_whole s.ps s.lexed s.utf8)) in
    let lexed = lexed_behind i.front (i.part ∷ i.rest) (subst IsLexed i.are s.lexed) in
    let is : text ≡ front ++ text_of i.rest =
    s.are ∙ ap (λ qs. s.front ++ text_of qs) i.are ∙ ap (λ (t : List ℕ). s.front ++ t) (text_append i.front (i.part ∷ i.rest) ∙ sym (append_assoc (text_of i.front) i.part.bytes (text_of i.rest)))
    ∙ sym (append_assoc s.front (text_of i.front ++ i.part.bytes) (text_of i.rest)) in
    let here = inside_of text front i.rest i.later.0 false ys z behind is lexed.1 utf8.1 (ap (λ (n : ℕ). lexemes_in i.later.0 (tokens_at n false i.rest)) place ∙ i.later.2) sign
    (subst (λ ds. StayInside ds ys) (sym outer) stay) in
    let at_place : ℕ → List ℕ → Type 0 = λ n ds. (j : IsInside text n z.span.start ds ys) × (x.gap ≡ gap_behind false (j.parts ++ j.next ∷ j.rest)) in
    let found = subst (at_place x.span.«end») outer (subst (λ (n : ℕ). at_place n (closers_of i.later.0)) place (here.0, i.gap ∙ ap (gap_behind false) here.1)) in
    record { inside = found.0; gap = found.1 }

-- What stands from a token of a source on, up to a `}`.
pub inside_from : (text : List ℕ) → Source text → (before : List Lexeme) (y : Lexeme) (ys : List Lexeme) (z : Lexeme) (behind : List Lexeme) (cs : List ℕ) →
    lexemes_of text ≡ before ++ y ∷ (ys ++ z ∷ behind) → z.kind ≡ kind.Sign close_curly → open_behind [] before ≡ cs → StayInside cs (y ∷ ys) →
    IsInside text y.span.start z.span.start cs (y ∷ ys) × (z.span.«end» ≡ z.span.start + 1)
inside_from text s before y ys z behind cs e sign signs stay =
    let i = find_at (length s.front) false [] s.ps before y (ys ++ z ∷ behind) (ap lexemes (sym s.placed) ∙ e) in
    let front = s.front ++ text_of i.front in
    let place : length front ≡ y.span.start = (let a = i.start in omega (arith, a, length-append s.front (text_of i.front))) in
    let outer : closers_of i.around ≡ cs = i.open_around ∙ signs in
    let utf8 = utf8_behind i.front (i.part ∷ i.rest) (subst AreUtf8 i.are (lexed_whole s.ps s.lexed s.utf8)) in
    let lexed = lexed_behind i.front (i.part ∷ i.rest) (subst IsLexed i.are s.lexed) in
    let is : text ≡ front ++ text_of (i.part ∷ i.rest) =
    s.are ∙ ap (λ qs. s.front ++ text_of qs) i.are ∙ ap (λ (t : List ℕ). s.front ++ t) (text_append i.front (i.part ∷ i.rest))
    ∙ sym (append_assoc s.front (text_of i.front) (text_of (i.part ∷ i.rest))) in
    let here = inside_of text front (i.part ∷ i.rest) i.around i.comment (y ∷ ys) z behind is lexed utf8
    (ap (λ (n : ℕ). lexemes_in i.around (tokens_at n i.comment (i.part ∷ i.rest))) place ∙ i.here) sign
    (subst (λ ds. StayInside ds (y ∷ ys)) (sym outer) stay) in
    (subst (λ ds. IsInside text y.span.start z.span.start ds (y ∷ ys)) outer (subst (λ (n : ℕ). IsInside text n z.span.start (closers_of i.around) (y ∷ ys)) place here.0), here.2)
