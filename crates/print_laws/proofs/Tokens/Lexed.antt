-- The parts of a printed sheet's tokens are read where they stand.
use Rattle.std.proofs.Common.{◌≡◌, ℕ, suc, ◌==◌, Bool, true, false, cond, List, [], ◌∷◌, ◌++◌, map, length, take, drop, Some, Ok, refl, sym, ◌∙◌, ap, subst, arith}
use Rattle.std.specs.Prelude.{⊤, codes}
use Rattle.std.specs.List.{AllByRecursion}
use Rattle.std.proofs.lemmas.Bool.{eq-eqb, false≢true, true≢false}
use Rattle.std.proofs.lemmas.List.{append-nil, append_assoc, length-map, map-append}
use Rattle.std.proofs.Math.Seq.{take-append_seam, drop-append_seam}
use Rattle.css_model.specs.declared.sheet.DeclItem.{DeclItem}
use Rattle.css_model.specs.declared.sheet.Item.{Item}
use Rattle.css_model.specs.declared.sheet.Item.TheVariants.{Rule, KeptRule, KeptBlock}
use Rattle.css_model.specs.declared.sheet.SelItem.{SelItem}
use Rattle.css_model.specs.declared.token.Lexeme.{Lexeme}
use Rattle.css_model.specs.declared.token.TokenKind.{TokenKind}
use Rattle.css_model.specs.declared.token.TokenKind.TheVariants as kind
use Rattle.css_model.specs.Text.Characters.{close_curly, close_round, colon, comma, exclamation_mark, is_sign, is_white, open_curly, open_round, semicolon}
use Rattle.css_model.specs.Text.Kept.{is_lone, solid}
use Rattle.css_model.specs.Sheets.RuleParts.{RuleParts}
use Rattle.css_model.specs.Text.Source.{text_at}
use Rattle.css_model.specs.Sheets.Spelling.{lexemes_of, tokens_in}
use Rattle.css_model.specs.Text.TokenAt.{part_at}
use Rattle.css_model.specs.Text.Tokens.{Part, text_of}
use Rattle.css_model.specs.Text.Units.{white_unit}
use Rattle.css_tokens.specs.Lexed.{IsLexed}
use Rattle.token_laws.specs.Solids.{IsBehind, ends_called, is_ender, is_function, solids, solids_of}
use Rattle.token_laws.proofs.ForCallers.{ends_anywhere, ends_sign, sign_read, rows_again, is_plain, space_read, kept_parts, part_again, rule_part}
use Rattle.token_laws.specs.Alike.{EndsAlike}
use Rattle.css_model.specs.declared.token.Gap.TheVariants as gap
use Rattle.sheet_laws.specs.Sourced.{SourcedItem, all_of_source}
use Rattle.sheet_laws.proofs.ForCallers.{Shown, all_shown, inner, item_shown, kept_shown, last_of_item, sheet_shown, colon_gap, declaration_shown, importance_shown, joined, rule_shown, selector_shown, sign_shown, sourced_shown, value_shown}
use Rattle.print_laws.proofs.Tokens.Chain.{gap_parts, parts_of}
use Rattle.print_laws.proofs.Levels.Items.{IsPartOf}
use Rattle.print_laws.proofs.Levels.Brackets.{open_behind}
use Rattle.print_laws.proofs.Tokens.Parts.{closers_after}
use Rattle.print_laws.proofs.Tokens.Reads.{kept-parts, value-parts}
use Rattle.print_laws.proofs.Tokens.Texts.{IsLoneBeforeWhite, parts-append}

-- kept text is read where it stands before what may stand behind it
abbrev pub KeptLexed : Type 0
KeptLexed = (value : Bool) (ps : List Part) (m n : ℕ) → IsLexed ps → ends_called (solids_of ps m n) ≡ false
    → (rest : List Part) → IsLexed rest → IsBehind (text_of rest) → IsLexed (kept_parts value (solids_of ps m n) ++ rest)

-- the parts of a source and its tokens
pub record IsSpelledBy (source : List ℕ) (ps : List Part) : Type 0 where
  pub lexed : IsLexed ps
  pub solids : map (solid source) (lexemes_of source) ≡ solids ps

-- these bytes are read as a token of this kind before some rest
pub record IsReadAs (bytes : List ℕ) (k : TokenKind) : Type 0 where
  pub old : List ℕ
  pub read : part_at (bytes ++ old) ≡ Ok (Some k, length bytes)

-- the tokens of a part of a source, by its parts
pub part-solids : (source : List ℕ) (ps : List Part) (xs : List Lexeme) (s : IsSpelledBy source ps) (p : IsPartOf (lexemes_of source) xs)
    → map (solid source) xs ≡ solids_of ps (length p.before) (length xs)
part-solids source ps xs s p =
    let all_ : solids ps ≡ map (solid source) p.before ++ (map (solid source) xs ++ map (solid source) p.behind) =
    sym s.solids ∙ ap (map (solid source)) p.are ∙ map-append (solid source) p.before (xs ++ p.behind) ∙ ap (λ ys. map (solid source) p.before ++ ys) (map-append (solid source) xs p.behind) in
    let front : drop (length p.before) (solids ps) ≡ map (solid source) xs ++ map (solid source) p.behind =
    ap (drop (length p.before)) all_ ∙ ap (λ (n : ℕ). drop n (map (solid source) p.before ++ (map (solid source) xs ++ map (solid source) p.behind))) (sym (length-map p.before (solid source)))
    ∙ drop-append_seam (map (solid source) p.before) (map (solid source) xs ++ map (solid source) p.behind) in
    sym (ap (take (length xs)) front ∙ ap (λ (n : ℕ). take n (map (solid source) xs ++ map (solid source) p.behind)) (sym (length-map xs (solid source)))
    ∙ take-append_seam (map (solid source) xs) (map (solid source) p.behind))

-- where the last token is a function, its bracket is open
called-open : (source : List ℕ) (cs : List ℕ) (xs : List Lexeme) → ends_called (map (solid source) xs) ≡ true → (ds : List ℕ) × (open_behind cs xs ≡ close_round ∷ ds)
called-open source cs [] e = absurd (false≢true e)
called-open source cs (x ∷ []) e = at x.kind e cs
  where
    at : (k : TokenKind) → is_function k ≡ true → (cs : List ℕ) → (ds : List ℕ) × (closers_after k cs ≡ close_round ∷ ds)
    at kind.Function is [] = ([], refl)
    at kind.Function is (c ∷ cs) = (c ∷ cs, refl)
    at _ is cs = absurd (false≢true is)
called-open source cs (x ∷ y ∷ xs) e = called-open source (closers_after x.kind cs) (y ∷ xs) e

pub not-called : (source : List ℕ) (cs : List ℕ) (xs : List Lexeme) → ((ds : List ℕ) → open_behind cs xs ≡ close_round ∷ ds → ⊥) → ends_called (map (solid source) xs) ≡ false
not-called source cs xs other = which (ends_called (map (solid source) xs)) refl
  where
    which : (b : Bool) → ends_called (map (solid source) xs) ≡ b → ends_called (map (solid source) xs) ≡ false
    which false is = is
    which true is = let c = called-open source cs xs is in absurd (other c.0 c.1)

-- parts that begin with a sign which ends what stands before it
pub record Ends (rest : List Part) : Type 0 where
  pub first : ℕ
  pub more : List ℕ
  pub is : text_of rest ≡ first ∷ more
  pub sign : is_sign first ≡ true
  pub closed : (first == open_round) ≡ false
  pub ender : is_ender first ≡ true
  pub no_bang : (first == exclamation_mark) ≡ false
  pub no_white : is_white first ≡ false

pub ends-behind : (rest : List Part) → Ends rest → IsBehind (text_of rest)
ends-behind rest e = subst IsBehind (sym e.is) (e.ender, λ bang. absurd (true≢false (sym (eq-eqb e.first exclamation_mark bang) ∙ e.no_bang)))

sign-part : (b level : ℕ) → is_sign b ≡ true → (rest : List Part) → IsLexed rest → IsLexed (parts_of (sign_shown b level ∷ []) ++ rest)
sign-part b level sign rest lexed = (sign_read (text_of rest) b sign, lexed)

-- a name before a sign
name-ends : (bytes : List ℕ) (k : TokenKind) → IsReadAs bytes k → is_plain (Some k) ≡ true → (c : ℕ) (cs : List ℕ) → is_sign c ≡ true → (c == open_round) ≡ false
    → part_at (bytes ++ (c ∷ cs)) ≡ Ok (Some k, length bytes)
name-ends bytes k read plain c cs sign closed =
    let e = ends_sign (record { kind = Some k; bytes = bytes }) read.old c cs plain sign closed in
    part_again bytes read.old (c ∷ cs) (Some k) e.alike e.looks read.read

important-read : (rest : List Part) → Ends rest → part_at (codes "important" ++ text_of rest) ≡ Ok (Some kind.Ident, 9)
important-read rest e = subst (λ (cs : List ℕ). part_at (codes "important" ++ cs) ≡ Ok (Some kind.Ident, 9)) (sym e.is)
    (name-ends (codes "important") kind.Ident (record { old = []; read = refl }) refl e.first e.more e.sign e.closed)

importance-lexed : (important : Bool) (rest : List Part) → IsLexed rest → Ends rest → IsLexed (parts_of (importance_shown important) ++ rest)
importance-lexed false rest lexed e = lexed
importance-lexed true rest lexed e = (rule_part (33 ∷ (codes "important" ++ text_of rest)) (Some (kind.Delim 33)) 1 refl (omega arith), (important-read rest e, lexed))

importance-behind : (important : Bool) (rest : List Part) → Ends rest → IsBehind (text_of (parts_of (importance_shown important) ++ rest))
importance-behind false rest e = ends-behind rest e
importance-behind true rest e = (refl, λ _. refl)

importance-no-white : (important : Bool) (rest : List Part) → Ends rest → white_unit (text_of (parts_of (importance_shown important) ++ rest)) ≡ 0
importance-no-white true rest e = refl
importance-no-white false rest e = ap white_unit e.is ∙ white_none e.first e.more e.no_white
  where
    white_none : (c : ℕ) (cs : List ℕ) → is_white c ≡ false → white_unit (c ∷ cs) ≡ 0
    white_none c cs none = rw none refl

-- a declaration of a source, by what is read of it
pub record IsReadDeclaration (source : List ℕ) (d : DeclItem) : Type 0 where
  pub name : IsReadAs (text_at source d.name) kind.Ident
  pub part : IsPartOf (lexemes_of source) (tokens_in source d.value)
  pub ends : open_behind (close_curly ∷ []) (tokens_in source d.value) ≡ close_curly ∷ []
  pub lone : AllByRecursion IsLoneBeforeWhite (tokens_in source d.value)

value-lexed : KeptLexed → (source : List ℕ) (ps : List Part) → IsSpelledBy source ps → (d : DeclItem) → IsReadDeclaration source d → (rest : List Part) → IsLexed rest → IsBehind (text_of rest)
    → IsLexed (parts_of (value_shown source (tokens_in source d.value)) ++ rest)
value-lexed kept_lexed source ps s d read rest lexed behind =
    let xs = tokens_in source d.value in
    let are = part-solids source ps xs s read.part in
    let other : ends_called (map (solid source) xs) ≡ false =
    not-called source (close_curly ∷ []) xs (λ ds e. absurd (let h = sym read.ends ∙ e in cc)) in
    let here = kept_lexed true ps (length read.part.before) (length xs) s.lexed (ap ends_called (sym are) ∙ other) rest lexed behind in
    subst (λ parts. IsLexed (parts ++ rest)) (ap (kept_parts true) (sym are) ∙ value-parts source xs read.lone) here

declaration-lexed : KeptLexed → (source : List ℕ) (ps : List Part) → IsSpelledBy source ps → (d : DeclItem) → IsReadDeclaration source d → (rest : List Part) → IsLexed rest → Ends rest
    → IsLexed (parts_of (declaration_shown source d) ++ rest)
declaration-lexed kept_lexed source ps s d read rest lexed e =
    let xs = tokens_in source d.value in
    let important = parts_of (importance_shown d.decl.important) in
    let value = parts_of (value_shown source xs) in
    let behind : IsLexed (important ++ rest) = importance-lexed d.decl.important rest lexed e in
    let valued : IsLexed (value ++ (important ++ rest)) = value-lexed kept_lexed source ps s d read (important ++ rest) behind (importance-behind d.decl.important rest e) in
    let spaced : IsLexed (gap_parts (kind.Sign colon) (colon_gap d.decl.value xs) ++ (value ++ (important ++ rest))) = colon-lexed d.decl.value xs valued in
    let all_ : parts_of (value_shown source xs ++ importance_shown d.decl.important) ++ rest ≡ value ++ (important ++ rest) =
    ap (λ parts. parts ++ rest) (parts-append (value_shown source xs) (importance_shown d.decl.important)) ∙ append_assoc value important rest in
    let inside : IsLexed (gap_parts (kind.Sign colon) (colon_gap d.decl.value xs) ++ parts_of (value_shown source xs ++ importance_shown d.decl.important) ++ rest) =
    subst IsLexed (sym (append_assoc (gap_parts (kind.Sign colon) (colon_gap d.decl.value xs)) (parts_of (value_shown source xs ++ importance_shown d.decl.important)) rest
    ∙ ap (λ parts. gap_parts (kind.Sign colon) (colon_gap d.decl.value xs) ++ parts) all_)) spaced in (
      name-ends (text_at source d.name) kind.Ident read.name refl colon (text_of (gap_parts (kind.Sign colon) (colon_gap d.decl.value xs) ++ parts_of (value_shown source xs ++ importance_shown d.decl.important) ++ rest)) refl refl,
      (sign_read (text_of (gap_parts (kind.Sign colon) (colon_gap d.decl.value xs) ++ parts_of (value_shown source xs ++ importance_shown d.decl.important) ++ rest)) colon refl, inside),
    )
  where
    colon-lexed : (v : List ℕ) (xs : List Lexeme) → IsLexed (parts_of (value_shown source xs) ++ (parts_of (importance_shown d.decl.important) ++ rest))
        → IsLexed (gap_parts (kind.Sign colon) (colon_gap v xs) ++ (parts_of (value_shown source xs) ++ (parts_of (importance_shown d.decl.important) ++ rest)))
    colon-lexed [] xs valued = valued
    colon-lexed (c ∷ cs) [] valued = (space_read (text_of (parts_of (importance_shown d.decl.important) ++ rest)) (importance-no-white d.decl.important rest e), valued)
    colon-lexed (c ∷ cs) (x ∷ xs) valued = valued

-- a sign that ends what stands before it
pub record IsEnd (c : ℕ) : Type 0 where
  pub sign : is_sign c ≡ true
  pub closed : (c == open_round) ≡ false
  pub ender : is_ender c ≡ true
  pub no_bang : (c == exclamation_mark) ≡ false
  pub no_white : is_white c ≡ false

sign-ends : (b level : ℕ) → IsEnd b → (more : List Shown) (rest : List Part) → Ends (parts_of (sign_shown b level ∷ more) ++ rest)
sign-ends b level e more rest = record {
  first = b;
  more = text_of ((gap_parts (kind.Sign b) gap.Nothing ++ parts_of more) ++ rest);
  is = refl;
  sign = e.sign;
  closed = e.closed;
  ender = e.ender;
  no_bang = e.no_bang;
  no_white = e.no_white;
}

-- what is shown for a part of a rule is read where it stands before such a sign
abbrev pub IsReadBefore : List Shown → Type 0
IsReadBefore ss = (rest : List Part) → IsLexed rest → Ends rest → IsLexed (parts_of ss ++ rest)

joined-lexed : (b level : ℕ) → IsEnd b → (parts : List (List Shown)) → AllByRecursion IsReadBefore parts → IsReadBefore (joined (sign_shown b level) parts)
joined-lexed b level e [] each rest lexed ends = lexed
joined-lexed b level e (part ∷ []) (one, later) rest lexed ends = one rest lexed ends
joined-lexed b level e (part ∷ next ∷ parts) (one, later) rest lexed ends =
    let more = joined (sign_shown b level) (next ∷ parts) in
    let behind : IsLexed (parts_of (sign_shown b level ∷ more) ++ rest) =
    (sign_read (text_of (parts_of more ++ rest)) b e.sign, joined-lexed b level e (next ∷ parts) later rest lexed ends) in
    subst IsLexed (sym (ap (λ ps. ps ++ rest) (parts-append part (sign_shown b level ∷ more)) ∙ append_assoc (parts_of part) (parts_of (sign_shown b level ∷ more)) rest))
    (one (parts_of (sign_shown b level ∷ more) ++ rest) behind (sign-ends b level e more rest))

abbrev pub IsReadSelector : List ℕ → SelItem → Type 0
IsReadSelector source s = IsReadBefore (selector_shown source s)

-- a rule of a source, by what is read of it
pub record IsReadRuleOf (source : List ℕ) (r : RuleParts) : Type 0 where
  pub selectors : AllByRecursion (IsReadSelector source) r.selectors
  pub decls : AllByRecursion (IsReadDeclaration source) r.decls

rule-lexed : KeptLexed → (source : List ℕ) (ps : List Part) → IsSpelledBy source ps → (r : RuleParts) → IsReadRuleOf source r → (rest : List Part) → IsLexed rest
    → IsLexed (parts_of (rule_shown source r) ++ rest)
rule-lexed kept_lexed source ps s r read rest lexed =
    let prelude = joined (sign_shown comma 0) (map (selector_shown source) r.selectors) in
    let inside = joined (sign_shown semicolon 1) (map (declaration_shown source) r.decls) in
    let shut : IsLexed (parts_of (sign_shown close_curly 1 ∷ []) ++ rest) = sign-part close_curly 1 refl rest lexed in
    let body : IsLexed (parts_of inside ++ (parts_of (sign_shown close_curly 1 ∷ []) ++ rest)) =
    joined-lexed semicolon 1 semicolon-end (map (declaration_shown source) r.decls) (decls r.decls read.decls) (parts_of (sign_shown close_curly 1 ∷ []) ++ rest) shut (sign-ends close_curly 1 close-end [] rest) in
    let opened : IsLexed (parts_of (sign_shown open_curly 0 ∷ inside) ++ (parts_of (sign_shown close_curly 1 ∷ []) ++ rest)) =
    (sign_read (text_of (parts_of inside ++ (parts_of (sign_shown close_curly 1 ∷ []) ++ rest))) open_curly refl, body) in
    let whole : IsLexed (parts_of prelude ++ (parts_of (sign_shown open_curly 0 ∷ inside) ++ (parts_of (sign_shown close_curly 1 ∷ []) ++ rest))) =
    joined-lexed comma 0 comma-end (map (selector_shown source) r.selectors) (selectors r.selectors read.selectors) (parts_of (sign_shown open_curly 0 ∷ inside) ++ (parts_of (sign_shown close_curly 1 ∷ []) ++ rest))
    opened (sign-ends open_curly 0 open-end inside (parts_of (sign_shown close_curly 1 ∷ []) ++ rest)) in
    subst IsLexed (sym (
    ap (λ parts. parts ++ rest) (parts-append (prelude ++ sign_shown open_curly 0 ∷ inside) (sign_shown close_curly 1 ∷ []))
    ∙ ap (λ parts. (parts ++ parts_of (sign_shown close_curly 1 ∷ [])) ++ rest) (parts-append prelude (sign_shown open_curly 0 ∷ inside))
    ∙ append_assoc (parts_of prelude ++ parts_of (sign_shown open_curly 0 ∷ inside)) (parts_of (sign_shown close_curly 1 ∷ [])) rest
    ∙ append_assoc (parts_of prelude) (parts_of (sign_shown open_curly 0 ∷ inside)) (parts_of (sign_shown close_curly 1 ∷ []) ++ rest))) whole
  where
    semicolon-end : IsEnd semicolon
    semicolon-end = record { sign = refl; closed = refl; ender = refl; no_bang = refl; no_white = refl }

    comma-end : IsEnd comma
    comma-end = record { sign = refl; closed = refl; ender = refl; no_bang = refl; no_white = refl }

    open-end : IsEnd open_curly
    open-end = record { sign = refl; closed = refl; ender = refl; no_bang = refl; no_white = refl }

    close-end : IsEnd close_curly
    close-end = record { sign = refl; closed = refl; ender = refl; no_bang = refl; no_white = refl }

    decls : (ds : List DeclItem) → AllByRecursion (IsReadDeclaration source) ds → AllByRecursion IsReadBefore (map (declaration_shown source) ds)
    decls [] each = tt
    decls (d ∷ ds) (one, later) = (declaration-lexed kept_lexed source ps s d one, decls ds later)

    selectors : (ss : List SelItem) → AllByRecursion (IsReadSelector source) ss → AllByRecursion IsReadBefore (map (selector_shown source) ss)
    selectors [] each = tt
    selectors (x ∷ ss) (one, later) = (one, selectors ss later)

-- a kept item of a source, by what is read of it
pub record IsReadPiece (source : List ℕ) (xs : List Lexeme) : Type 0 where
  pub part : IsPartOf (lexemes_of source) xs
  pub ends : open_behind [] xs ≡ []
  pub lone : AllByRecursion IsLoneBeforeWhite xs

-- it is read before nothing
pub kept-alone : KeptLexed → (source : List ℕ) (ps : List Part) → IsSpelledBy source ps → (xs : List Lexeme) → IsReadPiece source xs → IsLexed (parts_of (kept_shown source xs) ++ [])
kept-alone kept_lexed source ps s xs read =
    let are = part-solids source ps xs s read.part in
    let other : ends_called (map (solid source) xs) ≡ false = not-called source [] xs (λ ds e. absurd (let n : 0 ≡ suc (length ds) = ap length (sym read.ends ∙ e) in omega (arith, n))) in
    let here = kept_lexed false ps (length read.part.before) (length xs) s.lexed (ap ends_called (sym are) ∙ other) [] tt tt in
    subst (λ parts. IsLexed (parts ++ [])) (ap (kept_parts false) (sym are) ∙ kept-parts source xs read.lone) here

-- and before anything, where it ends with a sign
pub record IsEndedBySign (xs : List Lexeme) : Type 0 where
  pub front : List Lexeme
  pub last : Lexeme
  pub sign : ℕ
  pub are : xs ≡ front ++ last ∷ []
  pub is_sign : last.kind ≡ kind.Sign sign

-- nothing is printed behind a sign that is the last token
pub sign-gap : (k : TokenKind) (sign : ℕ) → k ≡ kind.Sign sign → gap_parts k (cond (is_lone k) gap.White gap.Nothing) ≡ []
sign-gap k sign is = ap (λ k. gap_parts k (cond (is_lone k) gap.White gap.Nothing)) is

pub shown-last : (others last : Lexeme → Shown) (front : List Lexeme) (x : Lexeme) → all_shown others last (front ++ x ∷ []) ≡ map others front ++ last x ∷ []
shown-last others last [] x = refl
shown-last others last (y ∷ []) x = refl
shown-last others last (y ∷ z ∷ front) x = ap (λ ss. others y ∷ ss) (shown-last others last (z ∷ front) x)

pub kept-lexed : KeptLexed → (source : List ℕ) (ps : List Part) → IsSpelledBy source ps → (xs : List Lexeme) → IsReadPiece source xs → IsEndedBySign xs → (rest : List Part) → IsLexed rest
    → IsLexed (parts_of (kept_shown source xs) ++ rest)
kept-lexed kept_lexed source ps s xs read e rest lexed =
    let end : Part = record { kind = Some e.last.kind; bytes = text_at source e.last.span } in
    let front = parts_of (map (inner source) e.front) in
    let are : parts_of (kept_shown source xs) ≡ front ++ end ∷ [] =
    ap (λ ys. parts_of (kept_shown source ys)) e.are ∙ ap parts_of (shown-last (inner source) (last_of_item source) e.front e.last)
    ∙ parts-append (map (inner source) e.front) (last_of_item source e.last ∷ [])
    ∙ ap (λ gaps. front ++ end ∷ (gaps ++ [])) (sign-gap e.last.kind e.sign e.is_sign) in
    let alone : IsLexed (front ++ end ∷ []) = subst IsLexed (append-nil (parts_of (kept_shown source xs)) ∙ are) (kept-alone kept_lexed source ps s xs read) in
    let anywhere : EndsAlike end [] (text_of rest) = subst (λ k. EndsAlike (record { kind = Some k; bytes = text_at source e.last.span }) [] (text_of rest)) (sym e.is_sign)
    (ends_anywhere (record { kind = Some (kind.Sign e.sign); bytes = text_at source e.last.span }) [] (text_of rest) refl refl refl) in
    subst IsLexed (sym (ap (λ parts. parts ++ rest) are ∙ append_assoc front (end ∷ []) rest)) (rows_again front end [] rest alone lexed anywhere)

-- items, each of its own source, of which the last alone may end by the end of its source
abbrev pub IsReadItem : List ℕ → Item → Type 0
IsReadItem source (Rule r) = IsReadRuleOf source r
IsReadItem source (KeptRule k) = IsReadPiece source (tokens_in source k.piece)
IsReadItem source (KeptBlock piece) = IsReadPiece source (tokens_in source piece)

abbrev pub IsEndedItem : List ℕ → Item → Type 0
IsEndedItem source (Rule r) = ⊤
IsEndedItem source (KeptRule k) = IsEndedBySign (tokens_in source k.piece)
IsEndedItem source (KeptBlock piece) = IsEndedBySign (tokens_in source piece)

abbrev pub AreReadSourced : List SourcedItem → Type 0
AreReadSourced [] = ⊤
AreReadSourced (x ∷ []) = IsReadItem x.source x.item
AreReadSourced (x ∷ next ∷ xs) = IsReadItem x.source x.item × IsEndedItem x.source x.item × AreReadSourced (next ∷ xs)

-- the same of items of one source
abbrev pub AreReadItems : List ℕ → List Item → Type 0
AreReadItems source items = AreReadSourced (all_of_source source items)

pub last-lexed : KeptLexed → (source : List ℕ) (ps : List Part) → IsSpelledBy source ps → (item : Item) → IsReadItem source item → IsLexed (parts_of (item_shown source item) ++ [])
last-lexed kept_lexed source ps s (Rule r) read = rule-lexed kept_lexed source ps s r read [] tt
last-lexed kept_lexed source ps s (KeptRule k) read = kept-alone kept_lexed source ps s (tokens_in source k.piece) read
last-lexed kept_lexed source ps s (KeptBlock piece) read = kept-alone kept_lexed source ps s (tokens_in source piece) read

pub item-lexed : KeptLexed → (source : List ℕ) (ps : List Part) → IsSpelledBy source ps → (item : Item) → IsReadItem source item → IsEndedItem source item → (rest : List Part) → IsLexed rest
    → IsLexed (parts_of (item_shown source item) ++ rest)
item-lexed kept_lexed source ps s (Rule r) read ended rest lexed = rule-lexed kept_lexed source ps s r read rest lexed
item-lexed kept_lexed source ps s (KeptRule k) read ended rest lexed = kept-lexed kept_lexed source ps s (tokens_in source k.piece) read ended rest lexed
item-lexed kept_lexed source ps s (KeptBlock piece) read ended rest lexed = kept-lexed kept_lexed source ps s (tokens_in source piece) read ended rest lexed

-- the parts of the source of such an item
abbrev pub HasParts : SourcedItem → Type 0
HasParts x = (ps : List Part) × IsSpelledBy x.source ps

-- The parts of printed items, each of its own source, are read where they stand.
pub sourced-lexed : KeptLexed → (xs : List SourcedItem) → AllByRecursion HasParts xs → AreReadSourced xs → IsLexed (parts_of (sourced_shown xs))
sourced-lexed kept_lexed [] spelled read = tt
sourced-lexed kept_lexed (x ∷ []) ((ps, s), rest) read =
    subst IsLexed (sym (parts-append (item_shown x.source x.item) [])) (last-lexed kept_lexed x.source ps s x.item read)
sourced-lexed kept_lexed (x ∷ next ∷ xs) ((ps, s), rest) (read, ended, later) =
    subst IsLexed (sym (parts-append (item_shown x.source x.item) (sourced_shown (next ∷ xs))))
    (item-lexed kept_lexed x.source ps s x.item read ended (parts_of (sourced_shown (next ∷ xs))) (sourced-lexed kept_lexed (next ∷ xs) rest later))

-- The parts of a printed sheet are read where they stand.
pub sheet-lexed : KeptLexed → (source : List ℕ) (ps : List Part) → IsSpelledBy source ps → (items : List Item) → AreReadItems source items → IsLexed (parts_of (sheet_shown source items))
sheet-lexed kept_lexed source ps s items read = sourced-lexed kept_lexed (all_of_source source items) (all_spelled items) read
  where
    all_spelled : (items : List Item) → AllByRecursion HasParts (all_of_source source items)
    all_spelled [] = tt
    all_spelled (item ∷ items) = ((ps, s), all_spelled items)
