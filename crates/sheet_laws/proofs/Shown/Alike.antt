-- Tokens that say the same: a printed one and the one that it was printed for.
use Rattle.std.proofs.Common.{◌≡◌, ◌⊎◌, inl, inr, subst, ℕ, zero, suc, ◌-◌, ◌==◌, take, drop, length, Bool, true, false, List, [], ◌∷◌, ◌++◌, refl, sym, ◌∙◌, ap}
use Rattle.std.proofs.lemmas.Bool.{eqb-true, false≢true, true≢false}
use Rattle.std.proofs.lemmas.List.Folds.{list_any-append}
use Rattle.std.specs.Prelude.{◌&&◌, ◌||◌, if◌then◌else◌, codes}
use Rattle.std.specs.List.{AllZip, AllByRecursion, list_any}
use Rattle.css_model.specs.declared.token.Lexeme.{Lexeme}
use Rattle.css_model.specs.declared.token.TokenKind.{TokenKind}
use Rattle.css_model.specs.declared.token.TokenKind.TheVariants as kind
use Rattle.css_model.specs.Lists.{begins_with, less_one}
use Rattle.css_model.specs.Selectors.Tokens as selectors
use Rattle.css_model.specs.Selectors.Tokens.{plain_bytes}
use Rattle.css_model.specs.Text.Characters.{backslash, space}
use Rattle.css_model.specs.Lists.{same_text}
use Rattle.css_model.specs.Text.Kept.{is_open, is_open_escape, is_open_from}
use Rattle.css_model.specs.Text.Source.{text_at}
use Rattle.css_model.specs.Text.Names.{unescaped}
use Rattle.css_model.specs.Text.Units.{escape_after}
use Rattle.list_facts.proofs.Zips.{AllLast}
use Rattle.sheet_laws.proofs.Shown.Tokens.{closed, is_before_white, printed_bytes}
use Rattle.sheet_laws.proofs.Shown.Values.{IsShut, IsInner, IsLastOfValue, IsLastOfItem, AreShut}

-- the name in the bytes of a token, where it is one whose name is read
abbrev pub name_in : TokenKind → List ℕ → List ℕ
name_in kind.AtKeyword bytes = drop 1 bytes
name_in kind.Ident bytes = bytes
name_in kind.IdHash bytes = drop 1 bytes
name_in kind.Function bytes = take (length bytes - 1) bytes
name_in kind.Str bytes = take (length bytes - 2) (drop 1 bytes)
name_in _ bytes = []

-- of these, the names in selectors are those of all kinds but one
pub name_of_selector : (k : TokenKind) (a b : List ℕ) → unescaped (name_in k a) ≡ unescaped (name_in k b) → unescaped (selectors.name_in k a) ≡ unescaped (selectors.name_in k b)
name_of_selector kind.AtKeyword a b same = refl
name_of_selector kind.Ident a b same = same
name_of_selector kind.IdHash a b same = same
name_of_selector kind.Function a b same = same
name_of_selector kind.Str a b same = same
name_of_selector _ a b same = refl

-- white space behind the open escape that a token ends in closes it, and changes no name
pub record IsClosable (source : List ℕ) (x : Lexeme) : Type 0 where
  pub shut : IsShut (text_at source x.span)
  pub name : is_open (text_at source x.span) ≡ true
      → unescaped (name_in x.kind (text_at source x.span ++ space ∷ [])) ≡ unescaped (name_in x.kind (text_at source x.span))

-- a token y of one source says what x says of another, apart from what stands behind it
pub record IsLike (new old : List ℕ) (y x : Lexeme) : Type 0 where
  pub kind : y.kind ≡ x.kind
  pub level : y.level ≡ x.level
  pub name : unescaped (name_in x.kind (text_at new y.span)) ≡ unescaped (name_in x.kind (text_at old x.span))
  pub dashed : begins_with (text_at new y.span) (codes "--") ≡ begins_with (text_at old x.span) (codes "--")
  pub dashes : same_text (text_at new y.span) (codes "--") ≡ same_text (text_at old x.span) (codes "--")
  pub plain : plain_bytes (text_at new y.span) ≡ plain_bytes (text_at old x.span)

pub or_true : (b : Bool) → (b || true) ≡ true
or_true true = refl
or_true false = refl

pub and_false : (b : Bool) → b && false ≡ false
and_false true = refl
and_false false = refl

dashed_closed : (bytes : List ℕ) → begins_with (bytes ++ space ∷ []) (codes "--") ≡ begins_with bytes (codes "--")
dashed_closed [] = refl
dashed_closed (c ∷ []) = refl
dashed_closed (c ∷ d ∷ cs) = refl

dashes_closed : (bytes : List ℕ) → is_open bytes ≡ true → same_text (bytes ++ space ∷ []) (codes "--") ≡ same_text bytes (codes "--")
dashes_closed [] o = refl
dashes_closed (c ∷ []) o = refl
dashes_closed (c ∷ d ∷ e ∷ cs) o = refl
dashes_closed (c ∷ d ∷ []) o = which (c == 45) refl (d == 45) refl
  where
    which : (a : Bool) → (c == 45) ≡ a → (b : Bool) → (d == 45) ≡ b → same_text (c ∷ d ∷ space ∷ []) (codes "--") ≡ same_text (c ∷ d ∷ []) (codes "--")
    which false first b second = rw first refl
    which true first false second = rw (first, second) refl
    which true first true second =
        let shut : is_open (c ∷ d ∷ []) ≡ false = ap (λ (n : ℕ). is_open (n ∷ d ∷ [])) (eqb-true c 45 first) ∙ ap (λ (n : ℕ). is_open (45 ∷ n ∷ [])) (eqb-true d 45 second) in
        absurd (true≢false (sym o ∙ shut))

open_escapes : (left : ℕ) (bytes : List ℕ) → is_open_from left bytes ≡ true → list_any (λ c. c == backslash) bytes ≡ true
open_escapes left [] o = absurd (false≢true o)
open_escapes (suc left) (c ∷ cs) o = ap (λ (b : Bool). (c == backslash) || b) (open_escapes left cs o) ∙ or_true (c == backslash)
open_escapes zero (c ∷ cs) o = which (c == backslash) refl (λ is. open_escapes 0 cs is)
  where
    which : (b : Bool) → (c == backslash) ≡ b → (is_open_from 0 cs ≡ true → list_any (λ c. c == backslash) cs ≡ true) → list_any (λ c. c == backslash) (c ∷ cs) ≡ true
    which true is again = ap (λ (b : Bool). b || list_any (λ c. c == backslash) cs) is
    which false is again =
        let later : is_open_from 0 cs ≡ true = sym (ap (λ (b : Bool). if b then (is_open_escape cs || is_open_from (less_one (escape_after cs)) cs) else is_open_from 0 cs) is) ∙ o in
        ap (λ (b : Bool). (c == backslash) || b) (again later) ∙ or_true (c == backslash)

plain_closed : (bytes : List ℕ) → is_open bytes ≡ true → plain_bytes (bytes ++ space ∷ []) ≡ plain_bytes bytes
plain_closed bytes o =
    let escapes = open_escapes 0 bytes o in
    let closed_escapes : list_any (λ c. c == backslash) (bytes ++ space ∷ []) ≡ true =
    list_any-append (λ c. c == backslash) bytes (space ∷ []) ∙ ap (λ (b : Bool). b || false) escapes in
    ap (λ (b : Bool). if b then backslash ∷ [] else bytes ++ space ∷ []) closed_escapes ∙ sym (ap (λ (b : Bool). if b then backslash ∷ [] else bytes) escapes)

-- the bytes of a token as they stood, or closed
abbrev pub IsPrintOf : List ℕ → List ℕ → Type 0
IsPrintOf new old = (new ≡ old) ⊎ ((is_open old ≡ true) × (new ≡ old ++ space ∷ []))

closed_is_print : (bytes : List ℕ) → IsPrintOf (closed bytes) bytes
closed_is_print bytes = which (is_open bytes) refl
  where
    which : (o : Bool) → is_open bytes ≡ o → IsPrintOf (if o then bytes ++ space ∷ [] else bytes) bytes
    which true is = inr (is, refl)
    which false is = inl refl

printed_is_print : (source : List ℕ) (x : Lexeme) → IsPrintOf (printed_bytes source x) (text_at source x.span)
printed_is_print source x = which (is_before_white x)
  where
    which : (b : Bool) → IsPrintOf (if b then closed (text_at source x.span) else text_at source x.span) (text_at source x.span)
    which true = closed_is_print (text_at source x.span)
    which false = inl refl

like_print : (new old : List ℕ) (y x : Lexeme) → y.kind ≡ x.kind → y.level ≡ x.level → IsPrintOf (text_at new y.span) (text_at old x.span) → IsClosable old x → IsLike new old y x
like_print new old y x kind level (inl same) closable = record {
  kind = kind;
  level = level;
  name = ap (λ bytes. unescaped (name_in x.kind bytes)) same;
  dashed = ap (λ bytes. begins_with bytes (codes "--")) same;
  dashes = ap (λ bytes. same_text bytes (codes "--")) same;
  plain = ap plain_bytes same;
}
like_print new old y x kind level (inr parts) closable = record {
  kind = kind;
  level = level;
  name = ap (λ bytes. unescaped (name_in x.kind bytes)) parts.1 ∙ closable.name parts.0;
  dashed = ap (λ bytes. begins_with bytes (codes "--")) parts.1 ∙ dashed_closed (text_at old x.span);
  dashes = ap (λ bytes. same_text bytes (codes "--")) parts.1 ∙ dashes_closed (text_at old x.span) parts.0;
  plain = ap plain_bytes parts.1 ∙ plain_closed (text_at old x.span) parts.0;
}

pub selector_name : (new old : List ℕ) (y x : Lexeme) → IsLike new old y x
    → unescaped (selectors.name_in y.kind (text_at new y.span)) ≡ unescaped (selectors.name_in x.kind (text_at old x.span))
selector_name new old y x like =
    ap (λ k. unescaped (selectors.name_in k (text_at new y.span))) like.kind ∙ name_of_selector x.kind (text_at new y.span) (text_at old x.span) like.name

pub like_inner : (new old : List ℕ) (y x : Lexeme) → IsInner new old y x → IsClosable old x → IsLike new old y x
like_inner new old y x e closable = like_print new old y x (ap (λ s. s.kind) e) (ap (λ s. s.level) e)
    (subst (λ bytes. IsPrintOf bytes (text_at old x.span)) (sym (ap (λ s. s.bytes) e)) (printed_is_print old x)) closable

pub like_last_of_value : (new old : List ℕ) (y x : Lexeme) → IsLastOfValue new old y x → IsClosable old x → IsLike new old y x
like_last_of_value new old y x e closable = like_print new old y x (ap (λ s. s.kind) e) (ap (λ s. s.level) e)
    (subst (λ bytes. IsPrintOf bytes (text_at old x.span)) (sym (ap (λ s. s.bytes) e)) (printed_is_print old x)) closable

pub like_last_of_item : (new old : List ℕ) (y x : Lexeme) → IsLastOfItem new old y x → IsClosable old x → IsLike new old y x
like_last_of_item new old y x e closable = like_print new old y x (ap (λ s. s.kind) e) (ap (λ s. s.level) e) (inl (ap (λ s. s.bytes) e)) closable

abbrev pub AreClosable : List ℕ → List Lexeme → Type 0
AreClosable source xs = AllByRecursion (IsClosable source) xs

pub all_shut : (source : List ℕ) (xs : List Lexeme) → AreClosable source xs → AreShut source xs
all_shut source [] each = tt
all_shut source (x ∷ xs) each = (each.0.shut, all_shut source xs each.1)

pub zip_like : (new old : List ℕ) (ys xs : List Lexeme) → AllZip (IsInner new old) ys xs → AreClosable old xs → AllZip (IsLike new old) ys xs
zip_like new old [] [] z each = tt
zip_like new old [] (x ∷ xs) z each = absurd z
zip_like new old (y ∷ ys) [] z each = absurd z
zip_like new old (y ∷ ys) (x ∷ xs) z each = (like_inner new old y x z.0 each.0, zip_like new old ys xs z.1 each.1)

last_like : (new old : List ℕ) (L : Lexeme → Lexeme → Type 0) → ((y x : Lexeme) → L y x → IsClosable old x → IsLike new old y x)
    → (ys xs : List Lexeme) → AllLast (IsInner new old) L ys xs → AreClosable old xs → AllZip (IsLike new old) ys xs
last_like new old L l [] [] z each = tt
last_like new old L l [] (x ∷ xs) z each = absurd z
last_like new old L l (y ∷ ys) [] z each = absurd z
last_like new old L l (y ∷ []) (x ∷ []) z each = (l y x z each.0, tt)
last_like new old L l (y ∷ []) (x ∷ next ∷ xs) z each = absurd z
last_like new old L l (y ∷ next ∷ ys) (x ∷ []) z each = absurd z
last_like new old L l (y ∷ after ∷ ys) (x ∷ next ∷ xs) z each =
    (like_inner new old y x z.0 each.0, last_like new old L l (after ∷ ys) (next ∷ xs) z.1 each.1)

pub value_like : (new old : List ℕ) (ys xs : List Lexeme) → AllLast (IsInner new old) (IsLastOfValue new old) ys xs → AreClosable old xs → AllZip (IsLike new old) ys xs
value_like new old = last_like new old (IsLastOfValue new old) (like_last_of_value new old)

pub item_like : (new old : List ℕ) (ys xs : List Lexeme) → AllLast (IsInner new old) (IsLastOfItem new old) ys xs → AreClosable old xs → AllZip (IsLike new old) ys xs
item_like new old = last_like new old (IsLastOfItem new old) (like_last_of_item new old)
