-- The printed text of a sheet in UTF-8 is UTF-8.
use Rattle.std.proofs.Common.{ℕ, Bool, true, false, cond, if◌then◌else◌, List, [], ◌∷◌, ◌++◌, map, refl, sym, subst}
use Rattle.std.specs.List.{AllByRecursion}
use Rattle.std.specs.Str.{IsUtf8}
use Rattle.std.proofs.lemmas.Str.{IsUtf8-append, IsUtf8-nil}
use Rattle.std.proofs.Math.Utf8.{encode}
use Rattle.css_model.specs.declared.sheet.DeclItem.{DeclItem}
use Rattle.css_model.specs.declared.sheet.SelItem.{SelItem}
use Rattle.css_model.specs.declared.token.Gap.{Gap}
use Rattle.css_model.specs.declared.token.Gap.TheVariants as gap
use Rattle.css_model.specs.declared.token.Lexeme.{Lexeme}
use Rattle.css_model.specs.declared.token.TokenKind.{TokenKind}
use Rattle.css_model.specs.Text.Characters.{comma, line_feed, open_curly, close_curly, semicolon, space}
use Rattle.css_model.specs.Text.Kept.{is_lone, is_open}
use Rattle.css_model.specs.Sheets.RuleParts.{RuleParts}
use Rattle.css_model.specs.Text.Source.{text_at}
use Rattle.css_model.specs.Sheets.Spelling.{tokens_in}
use Rattle.css_model.specs.Text.Tokens.{text_of}
use Rattle.sheet_laws.proofs.ForCallers.{Shown, all_shown, declaration_shown, importance_shown, inner, is_before_white, joined, kept_shown, last_of_item, last_of_value, printed_bytes, rule_shown, selector_shown, sign_shown, value_shown}
use Rattle.print_laws.proofs.Tokens.Chain.{gap_parts}
use Rattle.print_laws.proofs.Source.Tokens.{IsGoodLexeme}
use Rattle.print_laws.proofs.Tokens.Texts.{shown-first, shown_text}

pub one-space : IsUtf8 (space ∷ [])
unfolding encode
one-space = (space ∷ [], (refl, refl))

gap-utf8 : (k : TokenKind) (g : Gap) → IsUtf8 (text_of (gap_parts k g))
unfolding encode
gap-utf8 k gap.Nothing = IsUtf8-nil
gap-utf8 k gap.Comments = (47 ∷ 42 ∷ 42 ∷ 47 ∷ [], (refl, refl))
gap-utf8 k gap.White = which (is_lone k)
  where
    which : (b : Bool) → IsUtf8 ((if b then line_feed ∷ [] else space ∷ []) ++ [])
    which true = (line_feed ∷ [], (refl, refl))
    which false = one-space

pub shown-utf8 : (ss : List Shown) → AllByRecursion (λ s. IsUtf8 s.bytes) ss → IsUtf8 (shown_text ss)
shown-utf8 [] each = IsUtf8-nil
shown-utf8 (s ∷ ss) (one, rest) =
    subst IsUtf8 (sym (shown-first s ss)) (IsUtf8-append s.bytes (text_of (gap_parts s.kind s.gap) ++ shown_text ss) one
    (IsUtf8-append (text_of (gap_parts s.kind s.gap)) (shown_text ss) (gap-utf8 s.kind s.gap) (shown-utf8 ss rest)))

pub each-append : {A : Type 0} (P : A → Type 0) (xs ys : List A) → AllByRecursion P xs → AllByRecursion P ys → AllByRecursion P (xs ++ ys)
each-append P [] ys first second = second
each-append P (x ∷ xs) ys (one, rest) second = (one, each-append P xs ys rest second)

bytes-utf8 : (source : List ℕ) (x : Lexeme) → IsUtf8 (text_at source x.span) → IsUtf8 (printed_bytes source x)
bytes-utf8 source x utf8 = which (is_before_white x) (is_open (text_at source x.span))
  where
    which : (b o : Bool) → IsUtf8 (cond b (cond o (text_at source x.span ++ space ∷ []) (text_at source x.span)) (text_at source x.span))
    which true true = IsUtf8-append (text_at source x.span) (space ∷ []) utf8 one-space
    which true false = utf8
    which false o = utf8

all-utf8 : (source : List ℕ) (others last : Lexeme → Shown) → ((x : Lexeme) → IsGoodLexeme source x → IsUtf8 (others x).bytes) → ((x : Lexeme) → IsGoodLexeme source x → IsUtf8 (last x).bytes)
    → (xs : List Lexeme) → AllByRecursion (IsGoodLexeme source) xs → AllByRecursion (λ s. IsUtf8 s.bytes) (all_shown others last xs)
all-utf8 source others last o l [] each = tt
all-utf8 source others last o l (x ∷ []) (one, rest) = (l x one, tt)
all-utf8 source others last o l (x ∷ y ∷ xs) (one, rest) = (o x one, all-utf8 source others last o l (y ∷ xs) rest)

pub kept-utf8 : (source : List ℕ) (xs : List Lexeme) → AllByRecursion (IsGoodLexeme source) xs → AllByRecursion (λ s. IsUtf8 s.bytes) (kept_shown source xs)
kept-utf8 source xs each = all-utf8 source (inner source) (last_of_item source) (λ x g. bytes-utf8 source x g.good.utf8) (λ x g. g.good.utf8) xs each

value-utf8 : (source : List ℕ) (xs : List Lexeme) → AllByRecursion (IsGoodLexeme source) xs → AllByRecursion (λ s. IsUtf8 s.bytes) (value_shown source xs)
value-utf8 source xs each = all-utf8 source (inner source) (last_of_value source) (λ x g. bytes-utf8 source x g.good.utf8) (λ x g. bytes-utf8 source x g.good.utf8) xs each

importance-utf8 : (important : Bool) → AllByRecursion (λ s. IsUtf8 s.bytes) (importance_shown important)
unfolding encode
importance-utf8 false = tt
importance-utf8 true = ((33 ∷ [], (refl, refl)), ((105 ∷ 109 ∷ 112 ∷ 111 ∷ 114 ∷ 116 ∷ 97 ∷ 110 ∷ 116 ∷ [], (refl, refl)), tt))

joined-utf8 : (b level : ℕ) → IsUtf8 (b ∷ []) → (parts : List (List Shown)) → AllByRecursion (λ ss. AllByRecursion (λ s. IsUtf8 s.bytes) ss) parts → AllByRecursion (λ s. IsUtf8 s.bytes) (joined (sign_shown b level) parts)
joined-utf8 b level sign [] each = tt
joined-utf8 b level sign (part ∷ []) (one, rest) = one
joined-utf8 b level sign (part ∷ next ∷ parts) (one, rest) =
    each-append (λ s. IsUtf8 s.bytes) part (sign_shown b level ∷ joined (sign_shown b level) (next ∷ parts)) one (sign, joined-utf8 b level sign (next ∷ parts) rest)

-- the parts of a rule in UTF-8
pub record IsUtf8Declaration (source : List ℕ) (d : DeclItem) : Type 0 where
  pub named : IsUtf8 (text_at source d.name)
  pub value : AllByRecursion (IsGoodLexeme source) (tokens_in source d.value)

declarations-utf8 : (source : List ℕ) (ds : List DeclItem) → AllByRecursion (IsUtf8Declaration source) ds → AllByRecursion (λ ss. AllByRecursion (λ s. IsUtf8 s.bytes) ss) (map (declaration_shown source) ds)
unfolding encode
declarations-utf8 source [] each = tt
declarations-utf8 source (d ∷ ds) (one, rest) = (
  (
    one.named,
    (
      (58 ∷ [], (refl, refl)),
      each-append (λ s. IsUtf8 s.bytes) (value_shown source (tokens_in source d.value)) (importance_shown d.decl.important)
          (value-utf8 source (tokens_in source d.value) one.value) (importance-utf8 d.decl.important),
    ),
  ),
  declarations-utf8 source ds rest,
)

abbrev pub IsUtf8Selector : List ℕ → SelItem → Type 0
IsUtf8Selector source s = AllByRecursion (λ t. IsUtf8 t.bytes) (selector_shown source s)

selectors-utf8 : (source : List ℕ) (ss : List SelItem) → AllByRecursion (IsUtf8Selector source) ss → AllByRecursion (λ ss. AllByRecursion (λ s. IsUtf8 s.bytes) ss) (map (selector_shown source) ss)
selectors-utf8 source [] each = tt
selectors-utf8 source (s ∷ ss) (one, rest) = (one, selectors-utf8 source ss rest)

pub rule-utf8 : (source : List ℕ) (r : RuleParts) → AllByRecursion (IsUtf8Selector source) r.selectors → AllByRecursion (IsUtf8Declaration source) r.decls
    → AllByRecursion (λ s. IsUtf8 s.bytes) (rule_shown source r)
unfolding encode
rule-utf8 source r selectors each =
    let prelude = joined (sign_shown comma 0) (map (selector_shown source) r.selectors) in
    let inside = joined (sign_shown semicolon 1) (map (declaration_shown source) r.decls) in
    each-append (λ s. IsUtf8 s.bytes) (prelude ++ sign_shown open_curly 0 ∷ inside) (sign_shown close_curly 1 ∷ [])
    (each-append (λ s. IsUtf8 s.bytes) prelude (sign_shown open_curly 0 ∷ inside)
    (joined-utf8 comma 0 (44 ∷ [], (refl, refl)) (map (selector_shown source) r.selectors) (selectors-utf8 source r.selectors selectors))
    ((123 ∷ [], (refl, refl)), joined-utf8 semicolon 1 (59 ∷ [], (refl, refl)) (map (declaration_shown source) r.decls) (declarations-utf8 source r.decls each)))
    ((125 ∷ [], (refl, refl)), tt)
