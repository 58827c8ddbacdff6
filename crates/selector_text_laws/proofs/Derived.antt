-- The terms that derive a selector may stand side by side, are of the kinds of which selectors are made, and close each bracket that they open.
use Rattle.std.proofs.Common.{◌≡◌, inl, inr, ℕ, suc, ◌+◌, ◌≤◌, length, arith, ◌==◌, Bool, true, false, not, ◌&&◌, ◌||◌, cond, List, [], ◌∷◌, ◌++◌, Option, Some, None, Result, Ok, Err, refl, sym, ap, ◌∙◌, subst, codes, append_assoc}
use Rattle.std.specs.Prelude.{⊤}
use Rattle.std.specs.List.{AllByRecursion}
use Rattle.std.proofs.lemmas.Bool.{and_parts, eqb-true, false≢true, true≢false}
use Rattle.css_model.specs.declared.position.AnB.{AnB}
use Rattle.css_model.specs.declared.reason.Reason.{Reason}
use Rattle.css_model.specs.declared.selector.Combinator.{Combinator}
use Rattle.css_model.specs.declared.selector.Combinator.TheVariants.{Child, Later, Next}
use Rattle.css_model.specs.declared.selector.Op.{Op}
use Rattle.css_model.specs.declared.selector.Op.TheVariants.{Dash, Part, Prefix, Suffix, Word}
use Rattle.css_model.specs.declared.selector.Pseudo.{Pseudo}
use Rattle.css_model.specs.declared.selector.Simple.{Simple}
use Rattle.css_model.specs.declared.selector.Test.{Test}
use Rattle.css_model.specs.declared.token.TokenKind.{TokenKind}
use Rattle.css_model.specs.declared.token.TokenKind.TheVariants as kind
use Rattle.css_model.specs.Documents.SelectorParts.{SelectorParts}
use Rattle.css_model.specs.Selectors.Classes.{is_name}
use Rattle.css_model.specs.Selectors.PseudoClasses.{plain_pseudo_classes}
use Rattle.css_model.specs.Selectors.Reading.{selector_of_terms}
use Rattle.css_model.specs.Selectors.Terms.{Term, combinator_of, op_of}
use Rattle.css_model.specs.Selectors.Tokens.{bar, caret, dollar, equals_sign, is_function, is_id_hash, is_string, is_word, row_of, tilde}
use Rattle.css_model.specs.Text.Characters.{backslash, close_curly, close_round, close_square, colon, dot, greater_than, open_square, plus, star}
use Rattle.css_model.specs.Text.Kept.{is_lone, is_white_gap}
use Rattle.css_model.specs.Text.Lexemes.{closer_of, is_delim_of, is_ident, is_sign_of}
use Rattle.nth_positions.proofs.ForCallers.{one_is}
use Rattle.selector_laws.proofs.ForCallers.{derived, word_apart}
use Rattle.selector_laws.specs.Grammar.{IsAttribute, IsCompound, IsFront, IsLast, IsNegated, IsPseudoElement, IsSimple, IsTest, IsType, last_gap}
use Rattle.selector_laws.specs.Grammar.IsAttribute.{present, equal, matching}
use Rattle.selector_laws.specs.Grammar.IsCompound.{of_type, of_simple, more}
use Rattle.selector_laws.specs.Grammar.IsFront.{at_start, by_sign, by_white}
use Rattle.selector_laws.specs.Grammar.IsLast.{plain as plain_last, behind, alone}
use Rattle.selector_laws.specs.Grammar.IsNegated.{of_type as negated_type, of_test as negated_test}
use Rattle.selector_laws.specs.Grammar.IsPseudoElement.{one_colon, two_colons}
use Rattle.selector_laws.specs.Grammar.IsSimple.{plain, negation}
use Rattle.selector_laws.specs.Grammar.IsTest.{id, class, of_attribute, pseudo_class, position}
use Rattle.selector_laws.specs.Grammar.IsType.{universal, named}
use Rattle.selector_text_laws.proofs.Terms.{AreBeside, beside, beside_by, closers_behind, depth_after, depth_behind_by, ends_names, Fits, has_argument, is_of_selector, reach, sign_bytes, Walk}
use Rattle.selector_text_laws.specs.Closed.{closers_after, opened_by}
use Rattle.selector_text_laws.specs.Together.{ending_bytes, is_numeric, is_one_of, lone_bytes}
use Rattle.selector_text_laws.proofs.Together.{each_of}

-- ---- what is known of each term

-- its spelling and its name agree, and only a function of a position has an argument
pub record IsTerm (t : Term) : Type 0 where
  pub dashes : t.only_dashes ≡ true → (t.dashed ≡ true) × (is_ident t.kind ≡ true → t.name ≡ codes "--")
  pub plain : is_function t.kind ≡ false → has_argument t.argument ≡ false
  pub other : is_word (codes "not") t.name ≡ true → has_argument t.argument ≡ false

abbrev pub AreTerms : List Term → Type 0
AreTerms ts = AllByRecursion IsTerm ts

-- ---- kinds

-- what closes a bracket
abbrev pub AreClosers : List ℕ → Type 0
AreClosers cs = AllByRecursion (λ c. is_one_of (close_round ∷ close_square ∷ close_curly ∷ []) c ≡ true) cs

abbrev IsFlat : TokenKind → Type 0
IsFlat k = (cs : List ℕ) → AreClosers cs → closers_after k cs ≡ cs

-- a term that has no argument changes the open brackets as its kind does
by_kind : (t : Term) → has_argument t.argument ≡ false → (cs : List ℕ) → closers_behind t.argument t.kind cs ≡ closers_after t.kind cs
by_kind t none cs = which t.argument none
  where
    which : (r : Result AnB Reason) → has_argument r ≡ false → closers_behind r t.kind cs ≡ closers_after t.kind cs
    which (Ok x) none = absurd (true≢false none)
    which (Err reason) none = refl

by_depth : (t : Term) → has_argument t.argument ≡ false → (d : ℕ) → depth_behind_by t.argument t.kind d ≡ depth_after t.kind d
by_depth t none d = which t.argument none
  where
    which : (r : Result AnB Reason) → has_argument r ≡ false → depth_behind_by r t.kind d ≡ depth_after t.kind d
    which (Ok x) none = absurd (true≢false none)
    which (Err reason) none = refl

no_reach : (t : Term) → has_argument t.argument ≡ false → reach t.argument ≡ 0
no_reach t none = which t.argument none
  where
    which : (r : Result AnB Reason) → has_argument r ≡ false → reach r ≡ 0
    which (Ok x) none = absurd (true≢false none)
    which (Err reason) none = refl

-- what is no function
record IsKind (k : TokenKind) : Type 0 where
  of : is_of_selector k ≡ true
  calls : is_function k ≡ false
  lone : is_lone k ≡ false
  flat : IsFlat k
  depth : (d : ℕ) → depth_after k d ≡ d

ident_kind : (k : TokenKind) → is_ident k ≡ true → IsKind k
ident_kind kind.Ident e = record { of = refl; calls = refl; lone = refl; flat = flat; depth = λ d. refl }
  where
    flat : IsFlat kind.Ident
    flat [] are = refl
    flat (c ∷ cs) are = refl
ident_kind _ e = absurd (false≢true e)

string_kind : (k : TokenKind) → is_string k ≡ true → IsKind k
string_kind kind.Str e = record { of = refl; calls = refl; lone = refl; flat = flat; depth = λ d. refl }
  where
    flat : IsFlat kind.Str
    flat [] are = refl
    flat (c ∷ cs) are = refl
string_kind _ e = absurd (false≢true e)

hash_kind : (k : TokenKind) → is_id_hash k ≡ true → IsKind k
hash_kind kind.IdHash e = record { of = refl; calls = refl; lone = refl; flat = flat; depth = λ d. refl }
  where
    flat : IsFlat kind.IdHash
    flat [] are = refl
    flat (c ∷ cs) are = refl
hash_kind _ e = absurd (false≢true e)

delim_kind : (c : ℕ) → (c == backslash) ≡ false → IsKind (kind.Delim c)
delim_kind c other = record { of = refl; calls = refl; lone = other; flat = flat; depth = λ d. refl }
  where
    flat : IsFlat (kind.Delim c)
    flat [] are = refl
    flat (d ∷ cs) are = refl

-- a sign that is no closer closes nothing
no_closer : (b c : ℕ) → is_one_of (close_round ∷ close_square ∷ close_curly ∷ []) c ≡ true → is_one_of (close_round ∷ close_square ∷ close_curly ∷ []) b ≡ false → (b == c) ≡ false
no_closer b c is other = which (b == c) refl
  where
    which : (e : Bool) → (b == c) ≡ e → (b == c) ≡ false
    which false e = e
    which true e = absurd (true≢false (sym is ∙ ap (λ (n : ℕ). is_one_of (close_round ∷ close_square ∷ close_curly ∷ []) n) (sym (eqb-true b c e)) ∙ other))

colon_kind : IsKind (kind.Sign colon)
colon_kind = record { of = refl; calls = refl; lone = refl; flat = flat; depth = λ d. refl }
  where
    flat : IsFlat (kind.Sign colon)
    flat [] are = refl
    flat (c ∷ cs) are = ap (λ b. cond b cs (c ∷ cs)) (no_closer colon c are.0 refl)

-- `[` and `(` open a bracket
opens_square : (cs : List ℕ) → AreClosers cs → closers_after (kind.Sign open_square) cs ≡ close_square ∷ cs
opens_square [] are = refl
opens_square (c ∷ cs) are = ap (λ b. cond b cs (close_square ∷ c ∷ cs)) (no_closer open_square c are.0 refl)

opens_round : (cs : List ℕ) → closers_after kind.Function cs ≡ close_round ∷ cs
opens_round [] = refl
opens_round (c ∷ cs) = refl

delim_is : (k : TokenKind) (c : ℕ) → is_delim_of c k ≡ true → k ≡ kind.Delim c
delim_is (kind.Delim d) c e = ap kind.Delim (eqb-true d c e)
delim_is _ c e = absurd (false≢true e)

sign_is : (k : TokenKind) (c : ℕ) → is_sign_of c k ≡ true → k ≡ kind.Sign c
sign_is (kind.Sign d) c e = ap kind.Sign (eqb-true d c e)
sign_is _ c e = absurd (false≢true e)

function_is : (k : TokenKind) → is_function k ≡ true → k ≡ kind.Function
function_is kind.Function e = refl
function_is _ e = absurd (false≢true e)

none_some : {A : Type 0} (x : A) → ◌≡◌ {A = Option A} None (Some x) → ⊥
none_some x e = absurd (let no : ⊥ = cc in no)

-- the first code point of an operator, and a combinator
op_delim : (k : TokenKind) (op : Op) → op_of k ≡ Some op → (c : ℕ) × (k ≡ kind.Delim c) × (is_one_of (tilde ∷ bar ∷ caret ∷ dollar ∷ star ∷ []) c ≡ true)
op_delim (kind.Delim c) op e = (c, refl, which (c == tilde) (c == bar) (c == caret) (c == dollar) (c == star) e)
  where
    which : (a b d f g : Bool) → cond a (Some Word) (cond b (Some Dash) (cond d (Some Prefix) (cond f (Some Suffix) (cond g (Some Part) None)))) ≡ Some op → (a || (b || (d || (f || (g || false))))) ≡ true
    which true b d f g e = refl
    which false true d f g e = refl
    which false false true f g e = refl
    which false false false true g e = refl
    which false false false false true e = refl
    which false false false false false e = absurd (none_some op e)
op_delim _ op e = absurd (none_some op e)

combinator_delim : (k : TokenKind) (link : Combinator) → combinator_of k ≡ Some link → (c : ℕ) × (k ≡ kind.Delim c) × (is_one_of (greater_than ∷ plus ∷ tilde ∷ []) c ≡ true)
combinator_delim (kind.Delim c) link e = (c, refl, which (c == greater_than) (c == plus) (c == tilde) e)
  where
    which : (a b d : Bool) → cond a (Some Child) (cond b (Some Next) (cond d (Some Later) None)) ≡ Some link → (a || (b || (d || false))) ≡ true
    which true b d e = refl
    which false true d e = refl
    which false false true e = refl
    which false false false e = absurd (none_some link e)
combinator_delim _ link e = absurd (none_some link e)

-- ---- rows

-- the first of terms, and the last
abbrev FirstIs : (Term → Type 0) → List Term → Type 0
FirstIs P [] = ⊤
FirstIs P (t ∷ ts) = P t

abbrev LastIs : (Term → Type 0) → List Term → Type 0
LastIs P [] = ⊤
LastIs P (t ∷ []) = P t
LastIs P (t ∷ u ∷ ts) = LastIs P (u ∷ ts)

-- what may stand behind a simple selector: a hash, a dot, `[`, a colon, a combinator or `)`
abbrev opens_simple : TokenKind → Bool
opens_simple kind.IdHash = true
opens_simple (kind.Delim c) = is_one_of (dot ∷ greater_than ∷ plus ∷ tilde ∷ []) c
opens_simple (kind.Sign c) = is_one_of (open_square ∷ colon ∷ close_round ∷ []) c
opens_simple k = false

abbrev Opens : Term → Type 0
Opens t = opens_simple t.kind ≡ true

abbrev EndsWell : Term → Type 0
EndsWell t = (u : Term) → Opens u → beside t u ≡ true

abbrev IsPlain : Term → Type 0
IsPlain t = is_numeric (Some t.kind) ≡ false

-- before a compound stands white space, or a sign behind which anything but a number may stand
abbrev EndsCompound : Term → Type 0
EndsCompound t = is_white_gap t.gap ≡ false → (u : Term) → IsPlain u → beside t u ≡ true

beside_append : (P Q : Term → Type 0) → ((t u : Term) → P t → Q u → is_white_gap t.gap ≡ false → beside t u ≡ true) → (ts us : List Term) → AreBeside ts → AreBeside us → LastIs P ts → FirstIs Q us → AreBeside (ts ++ us)
beside_append P Q meets [] us first second last here = second
beside_append P Q meets (t ∷ []) [] first second last here = tt
beside_append P Q meets (t ∷ []) (u ∷ us) first second last here = (meets t u last here, second)
beside_append P Q meets (t ∷ v ∷ ts) us first second last here = (first.0, beside_append P Q meets (v ∷ ts) us first.1 second last here)

last_append : (P : Term → Type 0) (ts us : List Term) → LastIs P ts → LastIs P us → LastIs P (ts ++ us)
last_append P [] us first second = second
last_append P (t ∷ []) [] first second = first
last_append P (t ∷ []) (u ∷ us) first second = second
last_append P (t ∷ v ∷ ts) us first second = last_append P (v ∷ ts) us first second

first_append : (P : Term → Type 0) (ts us : List Term) → FirstIs P ts → FirstIs P us → FirstIs P (ts ++ us)
first_append P [] us first second = second
first_append P (t ∷ ts) us first second = first

last_one : (P : Term → Type 0) (ts : List Term) (x : Term) → P x → LastIs P (ts ++ x ∷ [])
last_one P [] x ends = ends
last_one P (t ∷ []) x ends = ends
last_one P (t ∷ u ∷ ts) x ends = last_one P (u ∷ ts) x ends

-- terms that may stand together, whose brackets are closed
pub record IsRow (h : ℕ) (ts : List Term) : Type 0 where
  pub beside : AreBeside ts
  pub kinds : AllByRecursion Fits ts
  pub closed : (cs : List ℕ) → AreClosers cs → Walk (length cs + h) cs ts cs

all_append : {A : Type 0} (P : A → Type 0) (xs ys : List A) → AllByRecursion P xs → AllByRecursion P ys → AllByRecursion P (xs ++ ys)
all_append P [] ys first second = second
all_append P (x ∷ xs) ys first second = (first.0, all_append P xs ys first.1 second)

all_parts : {A : Type 0} (P : A → Type 0) (xs ys : List A) → AllByRecursion P (xs ++ ys) → AllByRecursion P xs × AllByRecursion P ys
all_parts P [] ys all = (tt, all)
all_parts P (x ∷ xs) ys all = (let r = all_parts P xs ys all.1 in ((all.0, r.0), r.1))

walk_append : (n : ℕ) (cs ds es : List ℕ) (ts us : List Term) → Walk n cs ts ds → Walk n ds us es → Walk n cs (ts ++ us) es
walk_append n cs ds es [] us first second = subst (λ (cs : List ℕ). Walk n cs us es) (sym first) second
walk_append n cs ds es (t ∷ ts) us first second = (first.0, first.1, walk_append n (closers_behind t.argument t.kind cs) ds es ts us first.2 second)

walk_higher : (m n : ℕ) → m ≤ n → (cs ds : List ℕ) (ts : List Term) → Walk m cs ts ds → Walk n cs ts ds
walk_higher m n low cs ds [] walk = walk
walk_higher m n low cs ds (t ∷ ts) walk = (let l : length cs + reach t.argument ≤ m = walk.0 in (omega (arith, l, low), walk.1, walk_higher m n low (closers_behind t.argument t.kind cs) ds ts walk.2))

row_higher : (ts : List Term) → IsRow 1 ts → IsRow 2 ts
row_higher ts row = record { beside = row.beside; kinds = row.kinds; closed = λ cs are. walk_higher (length cs + 1) (length cs + 2) (omega arith) cs cs ts (row.closed cs are) }

rows_join : (P Q : Term → Type 0) → ((t u : Term) → P t → Q u → is_white_gap t.gap ≡ false → beside t u ≡ true) → (h : ℕ) (ts us : List Term) → IsRow h ts → IsRow h us → LastIs P ts → FirstIs Q us → IsRow h (ts ++ us)
rows_join P Q meets h ts us first second last here = record {
  beside = beside_append P Q meets ts us first.beside second.beside last here;
  kinds = all_append Fits ts us first.kinds second.kinds;
  closed = λ cs are. walk_append (length cs + h) cs cs cs ts us (first.closed cs are) (second.closed cs are);
}

no_row : IsRow 2 []
no_row = record { beside = tt; kinds = tt; closed = λ cs are. refl }

-- ---- how terms stand beside others

and_right : (a b : Bool) → a ≡ true → b ≡ true → (a && b) ≡ true
and_right a b e f = ap (λ c. c && b) e ∙ f

and_none : (b : Bool) → (b && false) ≡ false
and_none true = refl
and_none false = refl

sign_well : (t u : Term) (c : ℕ) → is_sign_of c t.kind ≡ true → beside t u ≡ true
sign_well t u c e = ap (λ j. beside_by j t u.kind) (sign_is t.kind c e)

string_well : (t u : Term) → is_string t.kind ≡ true → beside t u ≡ true
string_well t u e = at t.kind e
  where
    at : (k : TokenKind) → is_string k ≡ true → beside_by k t u.kind ≡ true
    at kind.Str e = refl
    at _ e = absurd (false≢true e)

lone_well : (t u : Term) (c : ℕ) → t.kind ≡ kind.Delim c → is_one_of lone_bytes c ≡ true → beside t u ≡ true
lone_well t u c e lone = ap (λ j. beside_by j t u.kind) e ∙ ap (λ b. b || (is_one_of (plus ∷ dot ∷ []) c && not (is_numeric (Some u.kind)))) lone

-- a name before what ends it
opens_ends : (k : TokenKind) → opens_simple k ≡ true → ends_names k ≡ true
opens_ends kind.IdHash e = refl
opens_ends (kind.Delim c) e = each_of (λ c. is_one_of ending_bytes c ≡ true) c (dot ∷ greater_than ∷ plus ∷ tilde ∷ []) (refl, (refl, (refl, (refl, tt)))) e
opens_ends (kind.Sign c) e = each_of (λ c. is_one_of sign_bytes c ≡ true) c (open_square ∷ colon ∷ close_round ∷ []) (refl, (refl, (refl, tt))) e
opens_ends _ e = absurd (false≢true e)

opens_plain : (k : TokenKind) → opens_simple k ≡ true → is_numeric (Some k) ≡ false
opens_plain kind.IdHash e = refl
opens_plain (kind.Delim c) e = refl
opens_plain (kind.Sign c) e = refl
opens_plain _ e = absurd (false≢true e)

ident_before : (t u : Term) → is_ident t.kind ≡ true → ends_names u.kind ≡ true → (t.only_dashes && is_delim_of greater_than u.kind) ≡ false → beside t u ≡ true
ident_before t u ident ends other = at t.kind ident
  where
    at : (j : TokenKind) → is_ident j ≡ true → beside_by j t u.kind ≡ true
    at kind.Ident e = and_right (ends_names u.kind) (not (t.only_dashes && is_delim_of greater_than u.kind)) ends (ap not other)
    at _ e = absurd (false≢true e)

ident_well : (t : Term) → is_ident t.kind ≡ true → t.only_dashes ≡ false → EndsWell t
ident_well t ident single u opens = ident_before t u ident (opens_ends u.kind opens) (ap (λ b. b && is_delim_of greater_than u.kind) single)

-- before what is no `>`
ident_then : (t u : Term) (k : TokenKind) → is_ident t.kind ≡ true → u.kind ≡ k → ends_names k ≡ true → is_delim_of greater_than k ≡ false → beside t u ≡ true
ident_then t u k ident is ends other =
    ident_before t u ident (ap ends_names is ∙ ends) (ap (λ j. t.only_dashes && is_delim_of greater_than j) is ∙ ap (λ b. t.only_dashes && b) other ∙ and_none t.only_dashes)

hash_well : (t : Term) → is_id_hash t.kind ≡ true → EndsWell t
hash_well t hash u opens = at t.kind hash
  where
    at : (j : TokenKind) → is_id_hash j ≡ true → beside_by j t u.kind ≡ true
    at kind.IdHash e = opens_ends u.kind opens
    at _ e = absurd (false≢true e)

-- ---- terms one after the other

-- a term of this kind
fits : (t : Term) → IsKind t.kind → Fits t
fits t k = record { of = k.of; calls = λ calls. absurd (true≢false (sym calls ∙ k.calls)); lone = k.lone }

plain_closed : (n : ℕ) (t : Term) (ts : List Term) → IsTerm t → IsKind t.kind → (cs ds : List ℕ) → AreClosers cs → length cs ≤ n → Walk n cs ts ds → Walk n cs (t ∷ ts) ds
plain_closed n t ts is k cs ds are low later =
    let none = is.plain k.calls in
    let same : closers_behind t.argument t.kind cs ≡ cs = by_kind t none cs ∙ k.flat cs are in
    let r = no_reach t none in (
      omega (arith, low, r),
      ap (λ (es : List ℕ). length es) same ∙ sym (by_depth t none (length cs) ∙ k.depth (length cs)),
      subst (λ (es : List ℕ). Walk n es ts ds) (sym same) later,
    )

square_opens : (n : ℕ) (t : Term) (ts : List Term) → IsTerm t → is_sign_of open_square t.kind ≡ true → (cs ds : List ℕ) → AreClosers cs → length cs ≤ n → Walk n (close_square ∷ cs) ts ds → Walk n cs (t ∷ ts) ds
square_opens n t ts is e cs ds are low later =
    let k = sign_is t.kind open_square e in
    let none = is.plain (ap is_function k) in
    let same : closers_behind t.argument t.kind cs ≡ close_square ∷ cs = by_kind t none cs ∙ ap (λ k. closers_after k cs) k ∙ opens_square cs are in
    let r = no_reach t none in (
      omega (arith, low, r),
      ap (λ (es : List ℕ). length es) same ∙ sym (by_depth t none (length cs) ∙ ap (λ k. depth_after k (length cs)) k),
      subst (λ (es : List ℕ). Walk n es ts ds) (sym same) later,
    )

function_opens : (n : ℕ) (t : Term) (ts : List Term) → has_argument t.argument ≡ false → t.kind ≡ kind.Function → (cs ds : List ℕ) → length cs ≤ n → Walk n (close_round ∷ cs) ts ds → Walk n cs (t ∷ ts) ds
function_opens n t ts none k cs ds low later =
    let same : closers_behind t.argument t.kind cs ≡ close_round ∷ cs = by_kind t none cs ∙ ap (λ k. closers_after k cs) k ∙ opens_round cs in
    let r = no_reach t none in (
      omega (arith, low, r),
      ap (λ (es : List ℕ). length es) same ∙ sym (by_depth t none (length cs) ∙ ap (λ k. depth_after k (length cs)) k),
      subst (λ (es : List ℕ). Walk n es ts ds) (sym same) later,
    )

-- what closes the innermost bracket
closes_behind : (n : ℕ) (t : Term) (c : ℕ) → IsTerm t → is_sign_of c t.kind ≡ true → (c == c) ≡ true → ((d : ℕ) → depth_after (kind.Sign c) (suc d) ≡ d) → (cs : List ℕ) → suc (length cs) ≤ n → Walk n (c ∷ cs) (t ∷ []) cs
closes_behind n t c is e same depth cs low =
    let k = sign_is t.kind c e in
    let none = is.plain (ap is_function k) in
    let shut : closers_behind t.argument t.kind (c ∷ cs) ≡ cs =
    by_kind t none (c ∷ cs) ∙ ap (λ k. closers_after k (c ∷ cs)) k ∙ ap (λ b. cond b cs (opened_by (closer_of (kind.Sign c)) (c ∷ cs))) same in
    let r = no_reach t none in (
      omega (arith, low, r),
      ap (λ (es : List ℕ). length es) shut ∙ sym (by_depth t none (suc (length cs)) ∙ ap (λ k. depth_after k (suc (length cs))) k ∙ depth (length cs)),
      shut,
    )

-- a function of a position with its argument
argument_closed : (n : ℕ) (t : Term) (x : AnB) → t.argument ≡ Ok x → (cs : List ℕ) → suc (length cs) ≤ n → Walk n cs (t ∷ []) cs
argument_closed n t x reads cs low = (
  (let r : reach t.argument ≡ 1 = ap reach reads in omega (arith, low, r)),
  ap (λ r. length (closers_behind r t.kind cs)) reads ∙ sym (ap (λ r. depth_behind_by r t.kind (length cs)) reads),
  ap (λ r. closers_behind r t.kind cs) reads,
)

one_row : (h : ℕ) (t : Term) → IsTerm t → IsKind t.kind → IsRow h (t ∷ [])
one_row h t is k = record { beside = tt; kinds = (fits t k, tt); closed = λ cs are. plain_closed (length cs + h) t [] is k cs cs are (omega arith) refl }

name_of : (t : Term) → is_name t ≡ true → (is_ident t.kind ≡ true) × (t.only_dashes ≡ false)
name_of t e = (let b = and_parts (is_ident t.kind) (not t.only_dashes) e in (b.0, not_true t.only_dashes b.1))
  where
    not_true : (b : Bool) → not b ≡ true → b ≡ false
    not_true true e = sym e
    not_true false e = refl

square_first : (t : Term) → is_sign_of open_square t.kind ≡ true → Opens t
square_first t e = ap opens_simple (sign_is t.kind open_square e)

colon_first : (t : Term) → is_sign_of colon t.kind ≡ true → Opens t
colon_first t e = ap opens_simple (sign_is t.kind colon e)

colon_is : (t : Term) → is_sign_of colon t.kind ≡ true → IsKind t.kind
colon_is t e = subst IsKind (sym (sign_is t.kind colon e)) colon_kind

-- a value before `]`
value_kind : (t : Term) → (is_ident t.kind || is_string t.kind) ≡ true → IsKind t.kind
value_kind t e = elim (one_is (is_ident t.kind) (is_string t.kind) e) [ inl i ↦ ident_kind t.kind i | inr s ↦ string_kind t.kind s ]

value_then : (t u : Term) → (is_ident t.kind || is_string t.kind) ≡ true → is_sign_of close_square u.kind ≡ true → beside t u ≡ true
value_then t u e closes = elim (one_is (is_ident t.kind) (is_string t.kind) e) [
  | inl i ↦ ident_then t u (kind.Sign close_square) i (sign_is u.kind close_square closes) refl refl
  | inr s ↦ string_well t u s
]

square_of : (t : Term) (c : ℕ) → is_sign_of c t.kind ≡ true → is_of_selector (kind.Sign c) ≡ true → Fits t
square_of t c e of =
    let k = sign_is t.kind c e in
    record { of = ap is_of_selector k ∙ of; calls = λ calls. absurd (true≢false (sym calls ∙ ap is_function k)); lone = ap is_lone k }

-- what stands in a simple selector
record SimpleRow (h : ℕ) (ts : List Term) : Type 0 where
  row : IsRow h ts
  first : FirstIs Opens ts
  last : LastIs EndsWell ts

row_attribute : (ts : List Term) (test : Test) → AreTerms ts → IsAttribute ts test → SimpleRow 1 ts
row_attribute ts test are (present bracket name close e opens names closes is) =
    let a : AreTerms (bracket ∷ name ∷ close ∷ []) = subst AreTerms e are in
    let n = name_of name names in
    subst (SimpleRow 1) (sym e) (record {
      row = record {
        beside = (λ _. sign_well bracket name open_square opens, (λ _. ident_then name close (kind.Sign close_square) n.0 (sign_is close.kind close_square closes) refl refl, tt));
        kinds = (square_of bracket open_square opens refl, (fits name (ident_kind name.kind n.0), (square_of close close_square closes refl, tt)));
        closed = λ cs open_. (let N = length cs + 1 in let low : length cs ≤ N = omega arith in let high : suc (length cs) ≤ N = omega arith in
            square_opens N bracket (name ∷ close ∷ []) a.0 opens cs cs open_ low
            (plain_closed N name (close ∷ []) a.1.0 (ident_kind name.kind n.0) (close_square ∷ cs) cs (refl, open_) high (closes_behind N close close_square a.1.1.0 closes refl (λ d. refl) cs high)));
      };
      first = square_first bracket opens;
      last = λ u opens. sign_well close u close_square closes;
    })
row_attribute ts test are (equal bracket name sign value close e opens names signs values closes is) =
    let a : AreTerms (bracket ∷ name ∷ sign ∷ value ∷ close ∷ []) = subst AreTerms e are in
    let n = name_of name names in
    let s = delim_is sign.kind equals_sign signs in
    let sk : IsKind sign.kind = subst IsKind (sym s) (delim_kind equals_sign refl) in
    subst (SimpleRow 1) (sym e) (record {
      row = record {
        beside = (
          λ _. sign_well bracket name open_square opens,
          (λ _. ident_then name sign (kind.Delim equals_sign) n.0 s refl refl, (λ _. lone_well sign value equals_sign s refl, (λ _. value_then value close values closes, tt))),
        );
        kinds = (square_of bracket open_square opens refl, (fits name (ident_kind name.kind n.0), (fits sign sk, (fits value (value_kind value values), (square_of close close_square closes refl, tt)))));
        closed = λ cs open_. (let N = length cs + 1 in let low : length cs ≤ N = omega arith in let high : suc (length cs) ≤ N = omega arith in
            square_opens N bracket (name ∷ sign ∷ value ∷ close ∷ []) a.0 opens cs cs open_ low
            (plain_closed N name (sign ∷ value ∷ close ∷ []) a.1.0 (ident_kind name.kind n.0) (close_square ∷ cs) cs (refl, open_) high
            (plain_closed N sign (value ∷ close ∷ []) a.1.1.0 sk (close_square ∷ cs) cs (refl, open_) high
            (plain_closed N value (close ∷ []) a.1.1.1.0 (value_kind value values) (close_square ∷ cs) cs (refl, open_) high (closes_behind N close close_square a.1.1.1.1.0 closes refl (λ d. refl) cs high)))));
      };
      first = square_first bracket opens;
      last = λ u opens. sign_well close u close_square closes;
    })
row_attribute ts test are (matching bracket name first second value close op e opens names ops signs gapless apart values closes is) =
    let a : AreTerms (bracket ∷ name ∷ first ∷ second ∷ value ∷ close ∷ []) = subst AreTerms e are in
    let n = name_of name names in
    let o = op_delim first.kind op ops in
    let bytes : List ℕ = tilde ∷ bar ∷ caret ∷ dollar ∷ star ∷ [] in
    let ok : IsKind first.kind = subst IsKind (sym o.1) (delim_kind o.0 (each_of (λ c. (c == backslash) ≡ false) o.0 bytes (refl, (refl, (refl, (refl, (refl, tt))))) o.2)) in
    let s = delim_is second.kind equals_sign signs in
    let sk : IsKind second.kind = subst IsKind (sym s) (delim_kind equals_sign refl) in
    let ends : ends_names (kind.Delim o.0) ≡ true = each_of (λ c. is_one_of ending_bytes c ≡ true) o.0 bytes (refl, (refl, (refl, (refl, (refl, tt))))) o.2 in
    let lone : is_one_of lone_bytes o.0 ≡ true = each_of (λ c. is_one_of lone_bytes c ≡ true) o.0 bytes (refl, (refl, (refl, (refl, (refl, tt))))) o.2 in
    let other : is_delim_of greater_than (kind.Delim o.0) ≡ false = each_of (λ c. (c == greater_than) ≡ false) o.0 bytes (refl, (refl, (refl, (refl, (refl, tt))))) o.2 in
    subst (SimpleRow 1) (sym e) (record {
      row = record {
        beside = (
          λ _. sign_well bracket name open_square opens,
          (
            λ _. ident_then name first (kind.Delim o.0) n.0 o.1 ends other,
            (λ _. lone_well first second o.0 o.1 lone, (λ _. lone_well second value equals_sign s refl, (λ _. value_then value close values closes, tt))),
          ),
        );
        kinds = (square_of bracket open_square opens refl, (fits name (ident_kind name.kind n.0), (fits first ok, (fits second sk, (fits value (value_kind value values), (square_of close close_square closes refl, tt))))));
        closed = λ cs open_. (let N = length cs + 1 in let low : length cs ≤ N = omega arith in let high : suc (length cs) ≤ N = omega arith in
            square_opens N bracket (name ∷ first ∷ second ∷ value ∷ close ∷ []) a.0 opens cs cs open_ low
            (plain_closed N name (first ∷ second ∷ value ∷ close ∷ []) a.1.0 (ident_kind name.kind n.0) (close_square ∷ cs) cs (refl, open_) high
            (plain_closed N first (second ∷ value ∷ close ∷ []) a.1.1.0 ok (close_square ∷ cs) cs (refl, open_) high
            (plain_closed N second (value ∷ close ∷ []) a.1.1.1.0 sk (close_square ∷ cs) cs (refl, open_) high
            (plain_closed N value (close ∷ []) a.1.1.1.1.0 (value_kind value values) (close_square ∷ cs) cs (refl, open_) high (closes_behind N close close_square a.1.1.1.1.1.0 closes refl (λ d. refl) cs high))))));
      };
      first = square_first bracket opens;
      last = λ u opens. sign_well close u close_square closes;
    })

-- a colon and an ident that is not `--`
row_named : (sign x : Term) → IsTerm sign → IsTerm x → is_sign_of colon sign.kind ≡ true → is_ident x.kind ≡ true → (h : ℕ) → IsRow h (sign ∷ x ∷ [])
row_named sign x is_sign is_x colons ident h = record {
  beside = (λ _. sign_well sign x colon colons, tt);
  kinds = (fits sign (colon_is sign colons), (fits x (ident_kind x.kind ident), tt));
  closed = λ cs open_. plain_closed (length cs + h) sign (x ∷ []) is_sign (colon_is sign colons) cs cs open_ (omega arith) (plain_closed (length cs + h) x [] is_x (ident_kind x.kind ident) cs cs open_ (omega arith) refl);
}

-- a name in a table is not `--`
not_dashes : {A : Type 0} (t : Term) (rows : List (List ℕ × A)) (x : A) → IsTerm t → is_ident t.kind ≡ true → row_of (codes "--") rows ≡ None → row_of t.name rows ≡ Some x → t.only_dashes ≡ false
not_dashes t rows x is ident none some = which t.only_dashes refl
  where
    which : (b : Bool) → t.only_dashes ≡ b → t.only_dashes ≡ false
    which false e = e
    which true e = absurd (none_some x (sym none ∙ ap (λ (name : List ℕ). row_of name rows) (sym ((is.dashes e).1 ident)) ∙ some))

row_test : (ts : List Term) (test : Test) → AreTerms ts → IsTest ts test → SimpleRow 1 ts
row_test ts test are (id x e hash is) =
    let a : AreTerms (x ∷ []) = subst AreTerms e are in
    subst (SimpleRow 1) (sym e) (record { row = one_row 1 x a.0 (hash_kind x.kind hash); first = at x.kind hash; last = hash_well x hash })
  where
    at : (k : TokenKind) → is_id_hash k ≡ true → opens_simple k ≡ true
    at kind.IdHash e = refl
    at _ e = absurd (false≢true e)
row_test ts test are (class sign x e dots touches names is) =
    let a : AreTerms (sign ∷ x ∷ []) = subst AreTerms e are in
    let n = name_of x names in
    let d = delim_is sign.kind dot dots in
    let dk : IsKind sign.kind = subst IsKind (sym d) (delim_kind dot refl) in
    subst (SimpleRow 1) (sym e) (record {
      row = record {
        beside = (λ _. ap (λ j. beside_by j sign x.kind) d ∙ ap not (number x.kind n.0), tt);
        kinds = (fits sign dk, (fits x (ident_kind x.kind n.0), tt));
        closed = λ cs open_. plain_closed (length cs + 1) sign (x ∷ []) a.0 dk cs cs open_ (omega arith) (plain_closed (length cs + 1) x [] a.1.0 (ident_kind x.kind n.0) cs cs open_ (omega arith) refl);
      };
      first = ap opens_simple d;
      last = ident_well x n.0 n.1;
    })
  where
    number : (k : TokenKind) → is_ident k ≡ true → is_numeric (Some k) ≡ false
    number kind.Ident e = refl
    number _ e = absurd (false≢true e)
row_test ts test are (of_attribute a) = row_attribute ts test are a
row_test ts test are (pseudo_class sign x e colons touches names only row) =
    let a : AreTerms (sign ∷ x ∷ []) = subst AreTerms e are in
    subst (SimpleRow 1) (sym e) (record {
      row = row_named sign x a.0 a.1.0 colons names 1;
      first = colon_first sign colons;
      last = ident_well x names (not_dashes x plain_pseudo_classes test a.1.0 names refl row);
    })
row_test ts test are (position sign x make argument e colons touches calls row reads is) =
    let a : AreTerms (sign ∷ x ∷ []) = subst AreTerms e are in
    let f = function_is x.kind calls in
    subst (SimpleRow 1) (sym e) (record {
      row = record {
        beside = (λ _. sign_well sign x colon colons, tt);
        kinds = (fits sign (colon_is sign colons), (record { of = ap is_of_selector f; calls = λ _. inl (ap has_argument reads); lone = ap is_lone f }, tt));
        closed = λ cs open_. plain_closed (length cs + 1) sign (x ∷ []) a.0 (colon_is sign colons) cs cs open_ (omega arith) (argument_closed (length cs + 1) x argument reads cs (omega arith));
      };
      first = colon_first sign colons;
      last = λ u opens. ap (λ j. beside_by j x u.kind) f ∙ ap (λ r. has_argument r || not (is_word (codes "url") x.name)) reads;
    })

-- a type, and `*`
record TypeRow (x : Term) : Type 0 where
  row : (h : ℕ) → IsRow h (x ∷ [])
  first : IsPlain x
  last : EndsWell x

row_type : (x : Term) (test : Test) → IsTerm x → IsType x test → TypeRow x
row_type x test is (universal stars same) =
    let d = delim_is x.kind star stars in
    record { row = λ h. one_row h x is (subst IsKind (sym d) (delim_kind star refl)); first = ap (λ k. is_numeric (Some k)) d; last = λ u opens. lone_well x u star d refl }
row_type x test is (named ident dashed same) =
    record { row = λ h. one_row h x is (ident_kind x.kind ident); first = number x.kind ident; last = ident_well x ident (single x.only_dashes refl) }
  where
    number : (k : TokenKind) → is_ident k ≡ true → is_numeric (Some k) ≡ false
    number kind.Ident e = refl
    number _ e = absurd (false≢true e)

    single : (b : Bool) → x.only_dashes ≡ b → x.only_dashes ≡ false
    single false e = e
    single true e = absurd (true≢false (sym (is.dashes e).0 ∙ dashed))

-- what is negated, before `)`
record NegatedRow (ts : List Term) : Type 0 where
  row : IsRow 1 ts
  last : LastIs EndsWell ts

row_negated : (ts : List Term) (test : Test) → AreTerms ts → IsNegated ts test → NegatedRow ts
row_negated ts test are (negated_type x e type) =
    let a : AreTerms (x ∷ []) = subst AreTerms e are in
    let r = row_type x test a.0 type in
    subst NegatedRow (sym e) (record { row = r.row 1; last = r.last })
row_negated ts test are (negated_test is) = (let r = row_test ts test are is in record { row = r.row; last = r.last })

row_simple : (ts : List Term) (simple : Simple) → AreTerms ts → IsSimple ts simple → SimpleRow 2 ts
row_simple ts simple are (plain test is same) = (let r = row_test ts test are is in record { row = row_higher ts r.row; first = r.first; last = r.last })
row_simple ts simple are (negation sign function close inside test e colons touches calls word is closes same) =
    let a : AreTerms (sign ∷ function ∷ (inside ++ close ∷ [])) = subst AreTerms e are in
    let parts = all_parts IsTerm inside (close ∷ []) a.1.1 in
    let r = row_negated inside test parts.0 is in
    let f = function_is function.kind calls in
    let c = sign_is close.kind close_round closes in
    let behind_ : AreBeside (inside ++ close ∷ []) = beside_append EndsWell Opens (λ t u ends opens _. ends u opens) inside (close ∷ []) r.row.beside tt r.last (ap opens_simple c) in
    let called : (u : Term) → beside function u ≡ true =
    λ u. ap (λ j. beside_by j function u.kind) f ∙ ap (λ b. b || not (is_word (codes "url") function.name)) (a.1.0.other word) ∙ ap not (word_apart function.name (codes "not") (codes "url") refl word) in
    subst (SimpleRow 2) (sym e) (record {
      row = record {
        beside = (λ _. sign_well sign function colon colons, cons function (inside ++ close ∷ []) called behind_);
        kinds = (fits sign (colon_is sign colons), (record { of = ap is_of_selector f; calls = λ _. inr word; lone = ap is_lone f }, all_append Fits inside (close ∷ []) r.row.kinds (square_of close close_round closes refl, tt)));
        closed = λ cs open_. (let N = length cs + 2 in let low : length cs ≤ N = omega arith in let high : suc (length cs) ≤ N = omega arith in
            plain_closed N sign (function ∷ (inside ++ close ∷ [])) a.0 (colon_is sign colons) cs cs open_ low
            (function_opens N function (inside ++ close ∷ []) (a.1.0.other word) f cs cs low
            (walk_append N (close_round ∷ cs) (close_round ∷ cs) cs inside (close ∷ [])
            (walk_higher (suc (length cs) + 1) N (omega arith) (close_round ∷ cs) (close_round ∷ cs) inside (r.row.closed (close_round ∷ cs) (refl, open_)))
            (closes_behind N close close_round parts.1.0 closes refl (λ d. refl) cs high))));
      };
      first = colon_first sign colons;
      last = last_one EndsWell (sign ∷ function ∷ inside) close (λ u opens. sign_well close u close_round closes);
    })
  where
    cons : (t : Term) (us : List Term) → ((u : Term) → beside t u ≡ true) → AreBeside us → AreBeside (t ∷ us)
    cons t [] meets later = tt
    cons t (u ∷ us) meets later = (λ _. meets u, later)

-- what stands in a compound
record CompoundRow (ts : List Term) : Type 0 where
  row : IsRow 2 ts
  first : FirstIs IsPlain ts
  last : LastIs EndsWell ts

first_plain : (ts : List Term) → FirstIs Opens ts → FirstIs IsPlain ts
first_plain [] first = tt
first_plain (t ∷ ts) first = opens_plain t.kind first

row_compound : (ts : List Term) (simples : List Simple) → AreTerms ts → IsCompound ts simples → CompoundRow ts
row_compound ts simples are (of_type x test type) = (let r = row_type x test are.0 type in record { row = r.row 2; first = r.first; last = r.last })
row_compound ts simples are (of_simple terms simple is) = (let r = row_simple terms simple are is in record { row = r.row; first = first_plain terms r.first; last = r.last })
row_compound ts simples are (more front rest some simple compound touches is) =
    let parts = all_parts IsTerm front rest are in
    let c = row_compound front some parts.0 compound in
    let r = row_simple rest simple parts.1 is in
    record {
      row = rows_join EndsWell Opens (λ t u ends opens _. ends u opens) 2 front rest c.row r.row c.last r.first;
      first = first_append IsPlain front rest c.first (first_plain rest r.first);
      last = last_append EndsWell front rest c.last r.last;
    }

-- a pseudo-element, which nothing follows
record ElementRow (ts : List Term) : Type 0 where
  row : IsRow 2 ts
  first : FirstIs Opens ts

row_element : (ts : List Term) (element : Pseudo) → AreTerms ts → IsPseudoElement ts element → ElementRow ts
row_element ts element are (one_colon sign x e colons touches names row) =
    let a : AreTerms (sign ∷ x ∷ []) = subst AreTerms e are in
    subst ElementRow (sym e) (record { row = row_named sign x a.0 a.1.0 colons names 2; first = colon_first sign colons })
row_element ts element are (two_colons first second x e colons touches colons_again touches_again names row) =
    let a : AreTerms (first ∷ second ∷ x ∷ []) = subst AreTerms e are in
    let r = row_named second x a.1.0 a.1.1.0 colons_again names 2 in
    subst ElementRow (sym e) (record {
      row = record {
        beside = (λ _. sign_well first second colon colons, r.beside);
        kinds = (fits first (colon_is first colons), r.kinds);
        closed = λ cs open_. plain_closed (length cs + 2) first (second ∷ x ∷ []) a.0 (colon_is first colons) cs cs open_ (omega arith) (r.closed cs open_);
      };
      first = colon_first first colons;
    })

-- the compounds before the last, each with its combinator
record FrontRow (ts : List Term) : Type 0 where
  row : IsRow 2 ts
  first : FirstIs IsPlain ts
  last : LastIs EndsCompound ts

-- white space behind the last
white_ends : (ts : List Term) → is_white_gap (last_gap ts) ≡ true → LastIs EndsCompound ts
white_ends [] white = tt
white_ends (t ∷ []) white = λ none. absurd (true≢false (sym white ∙ none))
white_ends (t ∷ u ∷ ts) white = white_ends (u ∷ ts) white

combinator_ends : (x : Term) (link : Combinator) → combinator_of x.kind ≡ Some link → EndsCompound x
combinator_ends x link e none u number =
    let c = combinator_delim x.kind link e in
    ap (λ j. beside_by j x u.kind) c.1
    ∙ each_of (λ c. beside_by (kind.Delim c) x u.kind ≡ true) c.0 (greater_than ∷ plus ∷ tilde ∷ []) (refl, (ap not number, (refl, tt))) c.2

row_front : (ts : List Term) (chain : List (List Simple)) (links : List Combinator) → AreTerms ts → IsFront ts chain links → FrontRow ts
row_front ts chain links are at_start = record { row = no_row; first = tt; last = tt }
row_front ts chain links are (by_sign front rest x before links_before simples link first compound combines) =
    let parts = all_parts IsTerm (front ++ rest) (x ∷ []) are in
    let two = all_parts IsTerm front rest parts.0 in
    let f = row_front front before links_before two.0 first in
    let c = row_compound rest simples two.1 compound in
    let o = combinator_delim x.kind link combines in
    let ok : IsKind x.kind = subst IsKind (sym o.1) (delim_kind o.0 (each_of (λ c. (c == backslash) ≡ false) o.0 (greater_than ∷ plus ∷ tilde ∷ []) (refl, (refl, (refl, tt))) o.2)) in
    let opens : Opens x = ap opens_simple o.1 ∙ each_of (λ c. is_one_of (dot ∷ greater_than ∷ plus ∷ tilde ∷ []) c ≡ true) o.0 (greater_than ∷ plus ∷ tilde ∷ []) (refl, (refl, (refl, tt))) o.2 in
    let tail = rows_join EndsWell Opens (λ t u ends opens _. ends u opens) 2 rest (x ∷ []) c.row (one_row 2 x parts.1.0 ok) c.last opens in
    let plain_x : IsPlain x = opens_plain x.kind opens in
    let first_tail : FirstIs IsPlain (rest ++ x ∷ []) = first_append IsPlain rest (x ∷ []) c.first plain_x in
    subst FrontRow (sym (append_assoc front rest (x ∷ []))) (record {
      row = rows_join EndsCompound IsPlain (λ t u ends number none. ends none u number) 2 front (rest ++ x ∷ []) f.row tail f.last first_tail;
      first = first_append IsPlain front (rest ++ x ∷ []) f.first first_tail;
      last = last_append EndsCompound front (rest ++ x ∷ []) f.last (last_one EndsCompound rest x (combinator_ends x link combines));
    })
row_front ts chain links are (by_white front rest before links_before simples first compound white) =
    let two = all_parts IsTerm front rest are in
    let f = row_front front before links_before two.0 first in
    let c = row_compound rest simples two.1 compound in
    record {
      row = rows_join EndsCompound IsPlain (λ t u ends number none. ends none u number) 2 front rest f.row c.row f.last c.first;
      first = first_append IsPlain front rest f.first c.first;
      last = last_append EndsCompound front rest f.last (white_ends rest white);
    }

record LastRow (ts : List Term) : Type 0 where
  row : IsRow 2 ts
  first : FirstIs IsPlain ts

row_last : (ts : List Term) (simples : List Simple) (pseudo : Option Pseudo) → AreTerms ts → IsLast ts simples pseudo → LastRow ts
row_last ts simples pseudo are (plain_last compound none) = (let c = row_compound ts simples are compound in record { row = c.row; first = c.first })
row_last ts simples pseudo are (behind front rest element e compound touches is some) =
    let a : AreTerms (front ++ rest) = subst AreTerms e are in
    let parts = all_parts IsTerm front rest a in
    let c = row_compound front simples parts.0 compound in
    let r = row_element rest element parts.1 is in
    subst LastRow (sym e) (record {
      row = rows_join EndsWell Opens (λ t u ends opens _. ends u opens) 2 front rest c.row r.row c.last r.first;
      first = first_append IsPlain front rest c.first (first_plain rest r.first);
    })
row_last ts simples pseudo are (alone element is all some) = (let r = row_element ts element are is in record { row = r.row; first = first_plain ts r.first })

-- the terms of a selector that is read
pub terms_stand : (ts : List Term) (selector : SelectorParts) → AreTerms ts → selector_of_terms ts ≡ Ok selector → IsRow 2 ts
terms_stand ts selector are reads =
    let d = derived ts selector reads in
    let parts = all_parts IsTerm d.front d.rest (subst AreTerms d.parts are) in
    let f = row_front d.front d.compounds d.links parts.0 d.before in
    let l = row_last d.rest d.simples d.pseudo parts.1 d.last in
    subst (IsRow 2) (sym d.parts) (rows_join EndsCompound IsPlain (λ t u ends number none. ends none u number) 2 d.front d.rest f.row l.row f.last l.first)
