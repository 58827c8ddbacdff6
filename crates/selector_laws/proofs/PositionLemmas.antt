-- The positions that are written in terms which derive a selector are those that it tests.
use Rattle.std.proofs.Common.{◌≡◌, ℕ, cond, not, ◌==◌, drop, None, Bool, true, false, ◌&&◌, ◌||◌, List, [], ◌∷◌, ◌++◌, map, reverse, Option, Some, Result, Ok, refl, sym, ap, ◌∙◌, subst, codes}
use Rattle.std.specs.Cmp.Lexicographic.{bytes_decides}
use Rattle.std.specs.List.{AllByRecursion, flat_map}
use Rattle.std.specs.Str.{bytes_eq, str_to_ascii_lowercase}
use Rattle.std.proofs.lemmas.Bool.{and_parts, eqb-true, false≢true}
use Rattle.std.proofs.lemmas.Grind.{flat_map-append}
use Rattle.std.proofs.lemmas.List.{append-nil, append_assoc, map-append, reverse-reverse}
use Rattle.css_model.specs.declared.position.AnB.{AnB}
use Rattle.css_model.specs.declared.reason.Reason.{Reason}
use Rattle.css_model.specs.declared.selector.Combinator.{Combinator}
use Rattle.css_model.specs.declared.selector.Op.{Op}
use Rattle.css_model.specs.declared.selector.Pseudo.{Pseudo}
use Rattle.css_model.specs.declared.selector.Simple.{Simple}
use Rattle.css_model.specs.declared.selector.Test.{Test}
use Rattle.css_model.specs.declared.selector.Test.TheVariants.{Nth, NthLast}
use Rattle.css_model.specs.declared.token.TokenKind.{TokenKind}
use Rattle.css_model.specs.declared.token.TokenKind.TheVariants as kind
use Rattle.css_model.specs.Documents.SelectorParts.{SelectorParts}
use Rattle.css_model.specs.Selectors.PseudoClasses.{first_position, plain_pseudo_classes, position_functions}
use Rattle.css_model.specs.Selectors.PseudoElements.{pseudo_elements}
use Rattle.css_model.specs.Selectors.Terms.{Term, combinator_of, op_of}
use Rattle.css_model.specs.Selectors.Tokens.{equals_sign, is_function, is_id_hash, is_string, is_word, row_of}
use Rattle.css_model.specs.Text.Characters.{close_round, close_square, colon, dot, open_square}
use Rattle.css_model.specs.Text.Lexemes.{is_delim_of, is_ident, is_sign_of}
use Rattle.css_model.specs.Selectors.Classes.{is_name}
use Rattle.selector_laws.specs.Grammar.{IsAttribute, IsCompound, IsFront, IsLast, IsNegated, IsPseudoElement, IsSimple, IsTest, IsType}
use Rattle.selector_laws.specs.Grammar.IsAttribute.{present, equal, matching}
use Rattle.selector_laws.specs.Grammar.IsCompound.{of_type, of_simple, more}
use Rattle.selector_laws.specs.Grammar.IsFront.{at_start, by_sign, by_white}
use Rattle.selector_laws.specs.Grammar.IsLast.{plain as plain_last, behind, alone}
use Rattle.selector_laws.specs.Grammar.IsNegated.{of_type as negated_type, of_test as negated_test}
use Rattle.selector_laws.specs.Grammar.IsPseudoElement.{one_colon, two_colons}
use Rattle.selector_laws.specs.Grammar.IsSimple.{plain, negation}
use Rattle.selector_laws.specs.Grammar.IsTest.{id, class, of_attribute, pseudo_class, position}
use Rattle.selector_laws.specs.Grammar.IsType.{universal, named}
use Rattle.selector_laws.specs.Positions.{WrittenAreTested, is_end_term, position_at, position_of, positions_in, positions_of, positions_written}
use Rattle.selector_laws.proofs.DerivedStates.{derived}

-- ---- what a term is not

-- neither a colon nor a function
abbrev IsPlain : TokenKind → Type 0
IsPlain k = (is_sign_of colon k ≡ false) × (is_function k ≡ false)

no_colon_function : (k : TokenKind) → is_function k ≡ true → is_sign_of colon k ≡ false
no_colon_function kind.Function e = refl
no_colon_function _ e = absurd (false≢true e)

no_colon_ident : (k : TokenKind) → is_ident k ≡ true → IsPlain k
no_colon_ident kind.Ident e = (refl, refl)
no_colon_ident _ e = absurd (false≢true e)

no_colon_hash : (k : TokenKind) → is_id_hash k ≡ true → IsPlain k
no_colon_hash kind.IdHash e = (refl, refl)
no_colon_hash _ e = absurd (false≢true e)

no_colon_string : (k : TokenKind) → is_string k ≡ true → IsPlain k
no_colon_string kind.Str e = (refl, refl)
no_colon_string _ e = absurd (false≢true e)

no_colon_delim : (k : TokenKind) (c : ℕ) → is_delim_of c k ≡ true → IsPlain k
no_colon_delim (kind.Delim d) c e = (refl, refl)
no_colon_delim _ c e = absurd (false≢true e)

no_colon_sign : (k : TokenKind) (c : ℕ) → is_sign_of c k ≡ true → (c == colon) ≡ false → IsPlain k
no_colon_sign (kind.Sign d) c e other = (subst (λ (n : ℕ). (n == colon) ≡ false) (sym (eqb-true d c e)) other, refl)
no_colon_sign _ c e other = absurd (false≢true e)

no_colon_op : (k : TokenKind) (op : Op) → op_of k ≡ Some op → IsPlain k
no_colon_op (kind.Delim d) op e = (refl, refl)
no_colon_op _ op e = absurd (let none : ⊥ = cc in none)

no_colon_combinator : (k : TokenKind) (link : Combinator) → combinator_of k ≡ Some link → IsPlain k
no_colon_combinator (kind.Delim d) link e = (refl, refl)
no_colon_combinator _ link e = absurd (let none : ⊥ = cc in none)

name_ident : (x : Term) → is_name x ≡ true → is_ident x.kind ≡ true
name_ident x e = (and_parts (is_ident x.kind) (not x.only_dashes) e).0

no_colon_value : (k : TokenKind) → (is_ident k || is_string k) ≡ true → IsPlain k
no_colon_value kind.Ident e = (refl, refl)
no_colon_value kind.Str e = (refl, refl)
no_colon_value _ e = absurd (false≢true e)

ident_no_function : (k : TokenKind) → is_ident k ≡ true → is_function k ≡ false
ident_no_function kind.Ident e = refl
ident_no_function _ e = absurd (false≢true e)

function_no_ident : (k : TokenKind) → is_function k ≡ true → is_ident k ≡ false
function_no_ident kind.Function e = refl
function_no_ident _ e = absurd (false≢true e)

-- ---- rows of terms

-- the last of these terms is a colon, or what stands before them is where there are none
abbrev colon_behind : Bool → List Term → Bool
colon_behind b [] = b
colon_behind b (t ∷ ts) = colon_behind (is_sign_of colon t.kind) ts

-- terms that are written without a colon before them and do not end with one
record Writes (ts : List Term) (positions : List AnB) : Type 0 where
  are : positions_written false ts ≡ map Ok positions
  ends : colon_behind false ts ≡ false

-- one more term that is no colon, behind one that is none
plain_first : (t : Term) (ts : List Term) (positions : List AnB) → IsPlain t.kind → Writes ts positions → Writes (t ∷ ts) positions
plain_first t ts positions other later = record {
  are = ap (λ (rs : List (Result AnB Reason)). rs ++ positions_written (is_sign_of colon t.kind) ts) (says_nothing t other.1) ∙ ap (λ b. positions_written b ts) other.0 ∙ later.are;
  ends = ap (λ b. colon_behind b ts) other.0 ∙ later.ends;
}
  where
    says_nothing : (t : Term) → is_function t.kind ≡ false → position_at false t ≡ []
    says_nothing t calls = ap (λ b. cond (b && (is_word (codes "nth-child") t.name || is_word (codes "nth-last-child") t.name)) (t.argument ∷ []) []) calls

nothing_written : Writes [] []
nothing_written = record { are = refl; ends = refl }

-- a colon says nothing by itself
colon_says : (behind : Bool) (x : Term) → is_sign_of colon x.kind ≡ true → position_at behind x ≡ []
colon_says after x colons = at x.kind colons after
  where
    at : (k : TokenKind) → is_sign_of colon k ≡ true → (b : Bool) → cond (is_function k && (is_word (codes "nth-child") x.name || is_word (codes "nth-last-child") x.name)) (x.argument ∷ [])
        (cond {A = List (Result AnB Reason)} (b && (is_ident k && (is_word (codes "first-child") x.name || is_word (codes "last-child") x.name))) (Ok first_position ∷ []) []) ≡ []
    at (kind.Sign c) e true = refl
    at (kind.Sign c) e false = refl
    at _ e b = absurd (false≢true e)

-- a colon and what it stands before
colon_first : (sign t : Term) (ts : List Term) (here positions : List AnB) → is_sign_of colon sign.kind ≡ true → is_sign_of colon t.kind ≡ false → position_at true t ≡ map Ok here → Writes ts positions
    → Writes (sign ∷ t ∷ ts) (here ++ positions)
colon_first sign t ts here positions colons other is later = record {
  are = ap (λ (rs : List (Result AnB Reason)). rs ++ positions_written (is_sign_of colon sign.kind) (t ∷ ts)) (colon_says false sign colons) ∙ ap (λ b. positions_written b (t ∷ ts)) colons ∙ ap (λ b. position_at true t ++ positions_written b ts) other ∙ ap (λ (rs : List (Result AnB Reason)). rs ++ positions_written false ts) is
      ∙ ap (λ (rs : List (Result AnB Reason)). map Ok here ++ rs) later.are ∙ sym (map-append Ok here positions);
  ends = ap (λ b. colon_behind b (t ∷ ts)) colons ∙ ap (λ b. colon_behind b ts) other ∙ later.ends;
}

written_append : (b : Bool) (xs ys : List Term) → positions_written b (xs ++ ys) ≡ positions_written b xs ++ positions_written (colon_behind b xs) ys
written_append b [] ys = refl
written_append b (x ∷ xs) ys =
    ap (λ (rs : List (Result AnB Reason)). position_at b x ++ rs) (written_append (is_sign_of colon x.kind) xs ys)
    ∙ sym (append_assoc (position_at b x) (positions_written (is_sign_of colon x.kind) xs) (positions_written (colon_behind (is_sign_of colon x.kind) xs) ys))

behind_append : (b : Bool) (xs ys : List Term) → colon_behind b (xs ++ ys) ≡ colon_behind (colon_behind b xs) ys
behind_append b [] ys = refl
behind_append b (x ∷ xs) ys = behind_append (is_sign_of colon x.kind) xs ys

both_write : (xs ys : List Term) (ps qs : List AnB) → Writes xs ps → Writes ys qs → Writes (xs ++ ys) (ps ++ qs)
both_write xs ys ps qs first second = record {
  are = written_append false xs ys ∙ ap (λ b. positions_written false xs ++ positions_written b ys) first.ends ∙ ap (λ (rs : List (Result AnB Reason)). rs ++ positions_written false ys) first.are
      ∙ ap (λ (rs : List (Result AnB Reason)). map Ok ps ++ rs) second.are ∙ sym (map-append Ok ps qs);
  ends = behind_append false xs ys ∙ ap (λ b. colon_behind b ys) first.ends ∙ second.ends;
}

-- ---- the grammar

writes_attribute : (ts : List Term) (test : Test) → IsAttribute ts test → Writes ts [] × (position_of test ≡ [])
writes_attribute ts test (present bracket name close e opens names closes is) =
    let n = no_colon_ident name.kind (name_ident name names) in (
      subst (λ (ts : List Term). Writes ts []) (sym e)
          (plain_first bracket (name ∷ close ∷ []) [] (no_colon_sign bracket.kind open_square opens refl)
          (plain_first name (close ∷ []) [] n (plain_first close [] [] (no_colon_sign close.kind close_square closes refl) nothing_written))),
      ap position_of is,
    )
writes_attribute ts test (equal bracket name sign value close e opens names signs values closes is) =
    let n = no_colon_ident name.kind (name_ident name names) in (
      subst (λ (ts : List Term). Writes ts []) (sym e)
          (plain_first bracket (name ∷ sign ∷ value ∷ close ∷ []) [] (no_colon_sign bracket.kind open_square opens refl)
          (plain_first name (sign ∷ value ∷ close ∷ []) [] n
          (plain_first sign (value ∷ close ∷ []) [] (no_colon_delim sign.kind equals_sign signs)
          (plain_first value (close ∷ []) [] (no_colon_value value.kind values) (plain_first close [] [] (no_colon_sign close.kind close_square closes refl) nothing_written))))),
      ap position_of is,
    )
writes_attribute ts test (matching bracket name first second value close op e opens names ops signs gapless apart values closes is) =
    let n = no_colon_ident name.kind (name_ident name names) in (
      subst (λ (ts : List Term). Writes ts []) (sym e)
          (plain_first bracket (name ∷ first ∷ second ∷ value ∷ close ∷ []) [] (no_colon_sign bracket.kind open_square opens refl)
          (plain_first name (first ∷ second ∷ value ∷ close ∷ []) [] n
          (plain_first first (second ∷ value ∷ close ∷ []) [] (no_colon_op first.kind op ops)
          (plain_first second (value ∷ close ∷ []) [] (no_colon_delim second.kind equals_sign signs)
          (plain_first value (close ∷ []) [] (no_colon_value value.kind values) (plain_first close [] [] (no_colon_sign close.kind close_square closes refl) nothing_written)))))),
      ap position_of is,
    )

-- rows that are no position's
abbrev NoPositions : List (List ℕ × Test) → Type 0
NoPositions rows = AllByRecursion (λ r. position_of r.1 ≡ []) rows

row_has_none : (name : List ℕ) (rows : List (List ℕ × Test)) (test : Test) → NoPositions rows → row_of name rows ≡ Some test → position_of test ≡ []
row_has_none name [] test none e = absurd (let no : ⊥ = cc in no)
row_has_none name (r ∷ rows) test none e = which (row_has_none name rows test none.1) (is_word r.0 name) e
  where
    which : (row_of name rows ≡ Some test → position_of test ≡ []) → (b : Bool) → cond b (Some r.1) (row_of name rows) ≡ Some test → position_of test ≡ []
    which later true e = (let same : r.1 ≡ test = cc in ap position_of (sym same) ∙ none.0)
    which later false e = later e

-- `:first-child` and `:last-child`, and the others
end_position : (x : Term) (test : Test) → is_ident x.kind ≡ true → row_of x.name plain_pseudo_classes ≡ Some test → position_at true x ≡ map Ok (position_of test)
end_position x test ident row =
    ap (λ b. cond (b && (is_word (codes "nth-child") x.name || is_word (codes "nth-last-child") x.name)) (x.argument ∷ []) (cond (is_end_term x) (Ok first_position ∷ []) [])) (ident_no_function x.kind ident)
    ∙ ap (λ b. cond (b && (is_word (codes "first-child") x.name || is_word (codes "last-child") x.name)) (Ok first_position ∷ []) []) ident
    ∙ which (is_word (codes "first-child") x.name) (is_word (codes "last-child") x.name) row
  where
    others : List (List ℕ × Test)
    others = drop 2 plain_pseudo_classes

    which : (first last : Bool) → cond first (Some (Nth first_position)) (cond last (Some (NthLast first_position)) (row_of x.name (drop 2 plain_pseudo_classes))) ≡ Some test
        → cond {A = List (Result AnB Reason)} (first || last) (Ok first_position ∷ []) [] ≡ map Ok (position_of test)
    which true last e = (let same : Nth first_position ≡ test = cc in ap (λ (t : Test). map Ok (position_of t)) same)
    which false true e = (let same : NthLast first_position ≡ test = cc in ap (λ (t : Test). map Ok (position_of t)) same)
    which false false e = sym (ap (λ (ps : List AnB). map Ok ps)
        (row_has_none x.name (drop 2 plain_pseudo_classes) test (refl, (refl, (refl, (refl, (refl, (refl, (refl, (refl, (refl, (refl, (refl, (refl, tt)))))))))))) e))

-- an argument
function_position : (x : Term) (make : AnB → Test) (argument : AnB) → is_function x.kind ≡ true → row_of x.name position_functions ≡ Some make → x.argument ≡ Ok argument
    → position_at true x ≡ map Ok (position_of (make argument))
function_position x make argument calls row reads =
    ap (λ b. cond (b && (is_word (codes "nth-child") x.name || is_word (codes "nth-last-child") x.name)) (x.argument ∷ []) (cond (is_end_term x) (Ok first_position ∷ []) [])) calls
    ∙ which (is_word (codes "nth-child") x.name) (is_word (codes "nth-last-child") x.name) row
  where
    which : (first last : Bool) → cond first (Some Nth) (cond last (Some NthLast) None) ≡ Some make → cond (first || last) (x.argument ∷ []) (cond (is_end_term x) (Ok first_position ∷ []) []) ≡ map Ok (position_of (make argument))
    which true last e = (let same : Nth ≡ make = cc in ap (λ r. r ∷ []) reads ∙ ap (λ (f : AnB → Test). map Ok (position_of (f argument))) same)
    which false true e = (let same : NthLast ≡ make = cc in ap (λ r. r ∷ []) reads ∙ ap (λ (f : AnB → Test). map Ok (position_of (f argument))) same)
    which false false e = absurd (let no : ⊥ = cc in no)

writes_test : (ts : List Term) (test : Test) → IsTest ts test → Writes ts (position_of test)
writes_test ts test (id x e hash is) =
    subst (λ (ps : List AnB). Writes ts ps) (sym (ap position_of is))
    (subst (λ (ts : List Term). Writes ts []) (sym e) (plain_first x [] [] (no_colon_hash x.kind hash) nothing_written))
writes_test ts test (class sign x e dots touches names is) =
    subst (λ (ps : List AnB). Writes ts ps) (sym (ap position_of is))
    (subst (λ (ts : List Term). Writes ts []) (sym e) (plain_first sign (x ∷ []) [] (no_colon_delim sign.kind dot dots) (plain_first x [] [] (no_colon_ident x.kind (name_ident x names)) nothing_written)))
writes_test ts test (of_attribute a) = (let w = writes_attribute ts test a in subst (λ (ps : List AnB). Writes ts ps) (sym w.1) w.0)
writes_test ts test (pseudo_class sign x e colons touches names only row) =
    subst (λ (ps : List AnB). Writes ts ps) (append-nil (position_of test))
    (subst (λ (ts : List Term). Writes ts (position_of test ++ [])) (sym e)
    (colon_first sign x [] (position_of test) [] colons (no_colon_ident x.kind names).0 (end_position x test names row) nothing_written))
writes_test ts test (position sign x make argument e colons touches calls row reads is) =
    subst (λ (t : Test). Writes ts (position_of t)) (sym is)
    (subst (λ (ps : List AnB). Writes ts ps) (append-nil (position_of (make argument)))
    (subst (λ (ts : List Term). Writes ts (position_of (make argument) ++ [])) (sym e)
    (colon_first sign x [] (position_of (make argument)) [] colons (no_colon_function x.kind calls) (function_position x make argument calls row reads) nothing_written)))

writes_type : (x : Term) (test : Test) → IsType x test → Writes (x ∷ []) (position_of test)
writes_type x test (universal star is) = subst (λ (t : Test). Writes (x ∷ []) (position_of t)) (sym is) (plain_first x [] [] (no_colon_delim x.kind _ star) nothing_written)
writes_type x test (named ident dashed is) = subst (λ (t : Test). Writes (x ∷ []) (position_of t)) (sym is) (plain_first x [] [] (no_colon_ident x.kind ident) nothing_written)

writes_negated : (ts : List Term) (test : Test) → IsNegated ts test → Writes ts (position_of test)
writes_negated ts test (negated_type x e type) = subst (λ (ts : List Term). Writes ts (position_of test)) (sym e) (writes_type x test type)
writes_negated ts test (negated_test is) = writes_test ts test is

-- a name that is one word is no other
pub word_apart : (name word other : List ℕ) → bytes_eq (str_to_ascii_lowercase word) (str_to_ascii_lowercase other) ≡ false → is_word word name ≡ true → is_word other name ≡ false
word_apart name word other apart e = which (is_word other name) refl
  where
    which : (b : Bool) → is_word other name ≡ b → is_word other name ≡ false
    which false f = f
    which true f =
        let one : str_to_ascii_lowercase name ≡ str_to_ascii_lowercase word = (bytes_decides (str_to_ascii_lowercase name) (str_to_ascii_lowercase word)).0 e in
        let two : str_to_ascii_lowercase name ≡ str_to_ascii_lowercase other = (bytes_decides (str_to_ascii_lowercase name) (str_to_ascii_lowercase other)).0 f in
        absurd (false≢true (sym apart ∙ (bytes_decides (str_to_ascii_lowercase word) (str_to_ascii_lowercase other)).1 (sym one ∙ two)))

row_apart : (name other : List ℕ) (rows : List (List ℕ × Pseudo)) (element : Pseudo) → AllByRecursion (λ r. bytes_eq (str_to_ascii_lowercase r.0) (str_to_ascii_lowercase other) ≡ false) rows
    → row_of name rows ≡ Some element → is_word other name ≡ false
row_apart name other [] element apart e = absurd (let no : ⊥ = cc in no)
row_apart name other (r ∷ rows) element apart e = which (row_apart name other rows element apart.1) (is_word r.0 name) refl e
  where
    which : (row_of name rows ≡ Some element → is_word other name ≡ false) → (b : Bool) → is_word r.0 name ≡ b → cond b (Some r.1) (row_of name rows) ≡ Some element → is_word other name ≡ false
    which later true is e = word_apart name r.0 other apart.0 is
    which later false is e = later e

-- `not` is no function of a position
not_position : (x : Term) → is_function x.kind ≡ true → is_word (codes "not") x.name ≡ true → position_at true x ≡ []
not_position x calls word =
    ap (λ b. cond (b && (is_word (codes "nth-child") x.name || is_word (codes "nth-last-child") x.name)) (x.argument ∷ []) (cond (is_end_term x) (Ok first_position ∷ []) [])) calls
    ∙ ap (λ b. cond (b || is_word (codes "nth-last-child") x.name) (x.argument ∷ []) (cond (is_end_term x) (Ok first_position ∷ []) [])) (word_apart x.name (codes "not") (codes "nth-child") refl word)
    ∙ ap (λ b. cond b (x.argument ∷ []) (cond (is_end_term x) (Ok first_position ∷ []) [])) (word_apart x.name (codes "not") (codes "nth-last-child") refl word)
    ∙ ap (λ b. cond {A = List (Result AnB Reason)} (b && (is_word (codes "first-child") x.name || is_word (codes "last-child") x.name)) (Ok first_position ∷ []) []) (function_no_ident x.kind calls)

-- nor is a pseudo-element
element_position : (x : Term) (element : Pseudo) → is_ident x.kind ≡ true → row_of x.name pseudo_elements ≡ Some element → position_at true x ≡ []
element_position x element ident row =
    ap (λ b. cond (b && (is_word (codes "nth-child") x.name || is_word (codes "nth-last-child") x.name)) (x.argument ∷ []) (cond (is_end_term x) (Ok first_position ∷ []) [])) (ident_no_function x.kind ident)
    ∙ ap (λ b. cond {A = List (Result AnB Reason)} (is_ident x.kind && (b || is_word (codes "last-child") x.name)) (Ok first_position ∷ []) []) (row_apart x.name (codes "first-child") pseudo_elements element (refl, (refl, (refl, (refl, tt)))) row)
    ∙ ap (λ b. cond {A = List (Result AnB Reason)} (is_ident x.kind && b) (Ok first_position ∷ []) []) (row_apart x.name (codes "last-child") pseudo_elements element (refl, (refl, (refl, (refl, tt)))) row)
    ∙ ap (λ b. cond {A = List (Result AnB Reason)} b (Ok first_position ∷ []) []) (and_none (is_ident x.kind))
  where
    and_none : (b : Bool) → (b && false) ≡ false
    and_none true = refl
    and_none false = refl

writes_simple : (ts : List Term) (simple : Simple) → IsSimple ts simple → Writes ts (position_of simple.test)
writes_simple ts simple (plain test is same) = subst (λ (s : Simple). Writes ts (position_of s.test)) (sym same) (writes_test ts test is)
writes_simple ts simple (negation sign function close inside test e colons touches calls word is closes same) =
    let within = both_write inside (close ∷ []) (position_of test) [] (writes_negated inside test is) (plain_first close [] [] (no_colon_sign close.kind close_round closes refl) nothing_written) in
    subst (λ (s : Simple). Writes ts (position_of s.test)) (sym same)
    (subst (λ (ps : List AnB). Writes ts ps) (append-nil (position_of test))
    (subst (λ (ts : List Term). Writes ts (position_of test ++ [])) (sym e)
    (colon_first sign function (inside ++ close ∷ []) [] (position_of test ++ []) colons (no_colon_function function.kind calls) (not_position function calls word) within)))

writes_compound : (ts : List Term) (simples : List Simple) → IsCompound ts simples → Writes ts (positions_in simples)
writes_compound ts simples (of_type x test type) = subst (λ (ps : List AnB). Writes (x ∷ []) ps) (sym (append-nil (position_of test))) (writes_type x test type)
writes_compound ts simples (of_simple terms simple is) = subst (λ (ps : List AnB). Writes terms ps) (sym (append-nil (position_of simple.test))) (writes_simple terms simple is)
writes_compound ts simples (more front rest some simple first touches is) =
    subst (λ (ps : List AnB). Writes (front ++ rest) ps)
    (sym (flat_map-append (λ s. position_of s.test) some (simple ∷ []) ∙ ap (λ (ps : List AnB). positions_in some ++ ps) (append-nil (position_of simple.test))))
    (both_write front rest (positions_in some) (position_of simple.test) (writes_compound front some first) (writes_simple rest simple is))

writes_element : (ts : List Term) (element : Pseudo) → IsPseudoElement ts element → positions_written false ts ≡ map Ok []
writes_element ts element (one_colon sign x e colons touches names row) =
    ap (positions_written false) e ∙ (colon_first sign x [] [] [] colons (no_colon_ident x.kind names).0 (element_position x element names row) nothing_written).are
writes_element ts element (two_colons first second x e colons touches colons_again touches_again names row) =
    ap (positions_written false) e
    ∙ ap (λ (rs : List (Result AnB Reason)). rs ++ positions_written (is_sign_of colon first.kind) (second ∷ x ∷ [])) (colon_says false first colons)
    ∙ ap (λ b. positions_written b (second ∷ x ∷ [])) colons
    ∙ ap (λ (rs : List (Result AnB Reason)). rs ++ positions_written (is_sign_of colon second.kind) (x ∷ [])) (colon_says true second colons_again)
    ∙ ap (λ b. positions_written b (x ∷ [])) colons_again
    ∙ ap (λ (rs : List (Result AnB Reason)). rs ++ []) (element_position x element names row)

writes_front : (ts : List Term) (chain : List (List Simple)) (links : List Combinator) → IsFront ts chain links → Writes ts (flat_map positions_in chain)
writes_front ts chain links at_start = nothing_written
writes_front ts chain links (by_sign front rest x before links_before simples link first compound combines) =
    subst (λ (ps : List AnB). Writes (front ++ rest ++ x ∷ []) ps)
    (append-nil (flat_map positions_in before ++ positions_in simples) ∙ sym (flat_map-append positions_in before (simples ∷ []) ∙ ap (λ (ps : List AnB). flat_map positions_in before ++ ps) (append-nil (positions_in simples))))
    (both_write (front ++ rest) (x ∷ []) (flat_map positions_in before ++ positions_in simples) []
    (both_write front rest (flat_map positions_in before) (positions_in simples) (writes_front front before links_before first) (writes_compound rest simples compound))
    (plain_first x [] [] (no_colon_combinator x.kind link combines) nothing_written))
writes_front ts chain links (by_white front rest before links_before simples first compound white) =
    subst (λ (ps : List AnB). Writes (front ++ rest) ps)
    (sym (flat_map-append positions_in before (simples ∷ []) ∙ ap (λ (ps : List AnB). flat_map positions_in before ++ ps) (append-nil (positions_in simples))))
    (both_write front rest (flat_map positions_in before) (positions_in simples) (writes_front front before links_before first) (writes_compound rest simples compound))

writes_last : (ts : List Term) (simples : List Simple) (pseudo : Option Pseudo) → IsLast ts simples pseudo → positions_written false ts ≡ map Ok (positions_in simples)
writes_last ts simples pseudo (plain_last compound none) = (writes_compound ts simples compound).are
writes_last ts simples pseudo (behind front rest element e compound touches is some) =
    let first = writes_compound front simples compound in
    ap (positions_written false) e ∙ written_append false front rest ∙ ap (λ b. positions_written false front ++ positions_written b rest) first.ends
    ∙ ap (λ (rs : List (Result AnB Reason)). positions_written false front ++ rs) (writes_element rest element is) ∙ append-nil (positions_written false front) ∙ first.are
writes_last ts simples pseudo (alone element is all some) = writes_element ts element is ∙ sym (ap (λ (ss : List Simple). map Ok (positions_in ss)) all)

pub written_are_tested : WrittenAreTested
written_are_tested terms selector reads =
    let d = derived terms selector reads in
    let front = writes_front d.front d.compounds d.links d.before in
    let chain : positions_of selector.chain ≡ flat_map positions_in d.compounds ++ positions_in d.simples =
    ap (λ (s : SelectorParts). flat_map positions_in (reverse s.chain)) d.is ∙ ap (flat_map positions_in) (reverse-reverse (d.compounds ++ d.simples ∷ []))
    ∙ flat_map-append positions_in d.compounds (d.simples ∷ []) ∙ ap (λ (ps : List AnB). flat_map positions_in d.compounds ++ ps) (append-nil (positions_in d.simples)) in
    ap (positions_written false) d.parts ∙ written_append false d.front d.rest ∙ ap (λ b. positions_written false d.front ++ positions_written b d.rest) front.ends
    ∙ ap (λ (rs : List (Result AnB Reason)). rs ++ positions_written false d.rest) front.are
    ∙ ap (λ (rs : List (Result AnB Reason)). map Ok (flat_map positions_in d.compounds) ++ rs) (writes_last d.rest d.simples d.pseudo d.last)
    ∙ sym (map-append Ok (flat_map positions_in d.compounds) (positions_in d.simples)) ∙ sym (ap (λ (ps : List AnB). map Ok ps) chain)
