-- Each simple selector that the grammar derives is read from its terms, whatever follows.
use Rattle.std.proofs.Common.{◌≡◌, ◌<◌, ◌+◌, ◌&&◌, ◌==◌, ℕ, Bool, true, false, cond, Option, Some, None, Result, Ok, List, [], ◌∷◌, ◌++◌, length, drop, refl, sym, ap, ◌∙◌, subst, append_assoc, length-append, arith, codes}
use Rattle.std.specs.Prelude.{nat_eq, nat_le}
use Rattle.std.specs.Cmp.Lexicographic.{pointwise}
use Rattle.std.specs.Str.{bytes_eq, str_to_ascii_lowercase}
use Rattle.std.proofs.Math.Seq.{drop-append_seam}
use Rattle.std.proofs.lemmas.Bool.{and_parts, false≢true, true≢false}
use Rattle.std.proofs.lemmas.Bool.Decides.{nat_tests}
use Rattle.css_model.specs.declared.position.AnB.{AnB}
use Rattle.css_model.specs.declared.reason.Reason.{Reason}
use Rattle.css_model.specs.declared.selector.Op.{Op}
use Rattle.css_model.specs.declared.selector.Simple.{Simple}
use Rattle.css_model.specs.declared.selector.Test.{Test}
use Rattle.css_model.specs.declared.selector.Test.TheVariants.{Nth, NthLast}
use Rattle.css_model.specs.declared.token.Gap.{Gap}
use Rattle.css_model.specs.declared.token.Gap.TheVariants as gap
use Rattle.css_model.specs.declared.token.TokenKind.{TokenKind}
use Rattle.css_model.specs.declared.token.TokenKind.TheVariants as kind
use Rattle.css_model.specs.Positions.Range.{is_stepped}
use Rattle.css_model.specs.Selectors.Compounds.{is_stepped_test}
use Rattle.css_model.specs.Selectors.Negations.{end_at, ended, negated_at, not_follows, not_negated, simple_at}
use Rattle.css_model.specs.Selectors.PseudoClasses.{position_functions}
use Rattle.css_model.specs.Selectors.Simples.{begins_simple, test_at}
use Rattle.css_model.specs.Selectors.Terms.{Term, combinator_of, op_of, op_of_code, right_behind}
use Rattle.css_model.specs.Selectors.Tokens.{equals_sign, is_function, is_id_hash, is_word, row_of}
use Rattle.css_model.specs.Selectors.Types.{begins_type, type_at}
use Rattle.css_model.specs.Sheets.Limits.{max_stepped}
use Rattle.css_model.specs.Text.Characters.{close_round, close_square, colon, dot, open_square, star}
use Rattle.css_model.specs.Text.Kept.{is_white_gap}
use Rattle.css_model.specs.Text.Lexemes.{is_delim_of, is_ident, is_sign_of}
use Rattle.selector_laws.specs.Grammar.{IsAttribute, IsSimple, IsTest, IsType}
use Rattle.selector_laws.specs.Grammar.IsAttribute.{present, equal, matching}
use Rattle.selector_laws.specs.Grammar.IsNegated.{of_type, of_test}
use Rattle.selector_laws.specs.Grammar.IsSimple.{plain, negation}
use Rattle.selector_laws.specs.Grammar.IsTest.{id, class, of_attribute, pseudo_class, position}
use Rattle.selector_laws.specs.Grammar.IsType.{universal, named}

-- a token's kind by a test on it
pub sign_is : (b : ℕ) (k : TokenKind) → is_sign_of b k ≡ true → k ≡ kind.Sign b
sign_is b (kind.Sign c) h = ap kind.Sign (let same : c ≡ b = grind (arith, nat_tests) in same)
sign_is b _ h = absurd (false≢true h)

pub delim_is : (c : ℕ) (k : TokenKind) → is_delim_of c k ≡ true → k ≡ kind.Delim c
delim_is c (kind.Delim d) h = ap kind.Delim (let same : d ≡ c = grind (arith, nat_tests) in same)
delim_is c _ h = absurd (false≢true h)

pub hash_is : (k : TokenKind) → is_id_hash k ≡ true → k ≡ kind.IdHash
hash_is kind.IdHash h = refl
hash_is _ h = absurd (false≢true h)

pub ident_is : (k : TokenKind) → is_ident k ≡ true → k ≡ kind.Ident
ident_is kind.Ident h = refl
ident_is _ h = absurd (false≢true h)

pub function_is : (k : TokenKind) → is_function k ≡ true → k ≡ kind.Function
function_is kind.Function h = refl
function_is _ h = absurd (false≢true h)

by_code : (c : ℕ) (op : Op) (b : Bool) → (c == equals_sign) ≡ b → op_of_code c ≡ Some op → b ≡ false
by_code c op false is ops = refl
by_code c op true is ops =
    let same : c ≡ equals_sign = grind (arith, nat_tests) in
    let none : op_of_code equals_sign ≡ Some op = ap op_of_code (sym same) ∙ ops in
    absurd (let no_op : ⊥ = cc in no_op)

op_apart : (k : TokenKind) (op : Op) → op_of k ≡ Some op → (is_sign_of close_square k ≡ false) × (is_delim_of equals_sign k ≡ false)
op_apart (kind.Delim c) op ops = (refl, by_code c op (c == equals_sign) refl ops)
op_apart _ op ops = absurd (let no_op : ⊥ = cc in no_op)

-- what stands right behind, where no white space does
pub behind_is : (g : Gap) (xs : List Term) → is_white_gap g ≡ false → right_behind g xs ≡ xs
behind_is gap.White xs h = absurd (true≢false h)
behind_is gap.Nothing xs h = refl
behind_is gap.Comments xs h = refl

-- the two functions of a position
same_bytes : (xs ys : List ℕ) → bytes_eq xs ys ≡ true → xs ≡ ys
same_bytes [] [] h = refl
same_bytes [] (y ∷ ys) h = absurd (false≢true h)
same_bytes (x ∷ xs) [] h = absurd (false≢true h)
same_bytes (x ∷ xs) (y ∷ ys) h =
    let both = and_parts (nat_eq x y) (pointwise nat_eq xs ys) h in
    let head : x ≡ y = grind (arith, nat_tests, both.0) in
    ap (λ z. z ∷ xs) head ∙ ap (λ zs. y ∷ zs) (same_bytes xs ys both.1)

word_apart : (name w v : List ℕ) → is_word w name ≡ true → bytes_eq (str_to_ascii_lowercase w) (str_to_ascii_lowercase v) ≡ false → is_word v name ≡ false
word_apart name w v is apart =
    ap (λ n. bytes_eq n (str_to_ascii_lowercase v)) (same_bytes (str_to_ascii_lowercase name) (str_to_ascii_lowercase w) is) ∙ apart

record IsPosition (name : List ℕ) (make : AnB → Test) : Type 0 where
  no_not : is_word (codes "not") name ≡ false
  counts : (b : AnB) → is_stepped_test (make b) ≡ is_stepped b

position_is : (name : List ℕ) (make : AnB → Test) → row_of name position_functions ≡ Some make → IsPosition name make
position_is name make row = cases (is_word (codes "nth-child") name) refl (is_word (codes "nth-last-child") name) refl row
  where
    cases : (a : Bool) → is_word (codes "nth-child") name ≡ a → (b : Bool) → is_word (codes "nth-last-child") name ≡ b
        → cond {A = Option (AnB → Test)} a (Some Nth) (cond {A = Option (AnB → Test)} b (Some NthLast) None) ≡ Some make → IsPosition name make
    cases true is b other row' =
        let made : Nth ≡ make = cc in
        record { no_not = word_apart name (codes "nth-child") (codes "not") is refl; counts = λ x. ap (λ (f : AnB → Test). is_stepped_test (f x)) (sym made) }
    cases false other true is row' =
        let made : NthLast ≡ make = cc in
        record { no_not = word_apart name (codes "nth-last-child") (codes "not") is refl; counts = λ x. ap (λ (f : AnB → Test). is_stepped_test (f x)) (sym made) }
    cases false other false is row' = absurd (let no_row : ⊥ = cc in no_row)

-- a test is not one stepped position too many
abbrev pub HasRoom : ℕ → Test → Type 0
HasRoom stepped test = is_stepped_test test ≡ true → stepped < max_stepped

room_is : (stepped : ℕ) (b : Bool) → (b ≡ true → stepped < max_stepped) → (b && nat_le max_stepped stepped) ≡ false
room_is stepped true room = let h = room refl in grind (arith, nat_tests, h)
room_is stepped false room = refl

-- how a test is read behind so many stepped positions
pub record ReadsTest (stepped : ℕ) (terms : List Term) (test : Test) : Type 0 where
  pub first : Term
  pub later : List Term
  pub is : terms ≡ first ∷ later
  pub begins : (more : List Term) → begins_simple first (later ++ more) ≡ true
  pub reads : (more : List Term) → test_at stepped first (later ++ more) ≡ Ok (test, length terms)
  pub no_not : (more : List Term) → (is_sign_of colon first.kind && not_follows (later ++ more)) ≡ false
  pub no_type : begins_type first ≡ false
  pub no_link : combinator_of first.kind ≡ None

attribute_read : (stepped : ℕ) (terms : List Term) (test : Test) → IsAttribute terms test → ReadsTest stepped terms test
attribute_read stepped terms test (present bracket name close e opens names closes is) =
    let k = sign_is open_square bracket.kind opens in
    rw (e, is) (record {
      first = bracket;
      later = name ∷ close ∷ [];
      is = refl;
      begins = λ more. rw k refl;
      reads = λ more. rw (k, names, closes) refl;
      no_not = λ more. rw k refl;
      no_type = rw k refl;
      no_link = rw k refl;
    })
attribute_read stepped terms test (equal bracket name sign value close e opens names signs values closes is) =
    let k = sign_is open_square bracket.kind opens in
    let s = delim_is equals_sign sign.kind signs in
    rw (e, is) (record {
      first = bracket;
      later = name ∷ sign ∷ value ∷ close ∷ [];
      is = refl;
      begins = λ more. rw k refl;
      reads = λ more. rw (k, names, s, values, closes) refl;
      no_not = λ more. rw k refl;
      no_type = rw k refl;
      no_link = rw k refl;
    })
attribute_read stepped terms test (matching bracket name first second value close op e opens names ops signs gapless apart values closes is) =
    let k = sign_is open_square bracket.kind opens in
    let s = delim_is equals_sign second.kind signs in
    let a = op_apart first.kind op ops in
    rw (e, is) (record {
      first = bracket;
      later = name ∷ first ∷ second ∷ value ∷ close ∷ [];
      is = refl;
      begins = λ more. rw k refl;
      reads = λ more. rw (k, names, a.0, a.1, ops, s, gapless, apart, values, closes) refl;
      no_not = λ more. rw k refl;
      no_type = rw k refl;
      no_link = rw k refl;
    })

pub test_read : (stepped : ℕ) (terms : List Term) (test : Test) → IsTest terms test → HasRoom stepped test → ReadsTest stepped terms test
test_read stepped terms test (id x e hash is) room =
    let k = hash_is x.kind hash in
    rw (e, is) (record {
      first = x;
      later = [];
      is = refl;
      begins = λ more. rw k refl;
      reads = λ more. rw k refl;
      no_not = λ more. rw k refl;
      no_type = rw k refl;
      no_link = rw k refl;
    })
test_read stepped terms test (class sign x e dots touches names is) room =
    let k = delim_is dot sign.kind dots in
    rw (e, is) (record {
      first = sign;
      later = x ∷ [];
      is = refl;
      begins = λ more. rw k refl;
      reads = λ more. rw (k, behind_is sign.gap (x ∷ more) touches, names) refl;
      no_not = λ more. rw k refl;
      no_type = rw k refl;
      no_link = rw k refl;
    })
test_read stepped terms test (of_attribute a) room = attribute_read stepped terms test a
test_read stepped terms test (pseudo_class sign x e colons touches names only row) room =
    let k = sign_is colon sign.kind colons in
    let i = ident_is x.kind names in
    rw e (record {
      first = sign;
      later = x ∷ [];
      is = refl;
      begins = λ more. rw (k, behind_is sign.gap (x ∷ more) touches, only, names) refl;
      reads = λ more. rw (k, names, row) refl;
      no_not = λ more. rw (k, i) refl;
      no_type = rw k refl;
      no_link = rw k refl;
    })
test_read stepped terms test (position sign x make b e colons touches calls row reads is) room =
    let k = sign_is colon sign.kind colons in
    let f = function_is x.kind calls in
    let p = position_is x.name make row in
    let few : (is_stepped b && nat_le max_stepped stepped) ≡ false = room_is stepped (is_stepped b) (λ h. room (ap is_stepped_test is ∙ p.counts b ∙ h)) in
    rw (e, is) (record {
      first = sign;
      later = x ∷ [];
      is = refl;
      begins = λ more. rw (k, behind_is sign.gap (x ∷ more) touches, f) refl;
      reads = λ more. rw (k, f, row, reads, few) refl;
      no_not = λ more. rw (k, f, p.no_not) refl;
      no_type = rw k refl;
      no_link = rw k refl;
    })

pub record ReadsType (x : Term) (test : Test) : Type 0 where
  pub begins : begins_type x ≡ true
  pub reads : type_at x ≡ Ok test
  pub no_link : combinator_of x.kind ≡ None
  pub unstepped : is_stepped_test test ≡ false

pub type_read : (x : Term) (test : Test) → IsType x test → ReadsType x test
type_read x test (universal stars is) =
    let k = delim_is star x.kind stars in
    rw is (record { begins = rw k refl; reads = rw k refl; no_link = rw k refl; unstepped = refl })
type_read x test (named names dashes is) =
    let k = ident_is x.kind names in
    rw is (record { begins = rw k refl; reads = rw (k, dashes) refl; no_link = rw k refl; unstepped = refl })

-- how a simple selector is read
pub record ReadsSimple (stepped : ℕ) (terms : List Term) (simple : Simple) : Type 0 where
  pub first : Term
  pub later : List Term
  pub is : terms ≡ first ∷ later
  pub begins : (more : List Term) → begins_simple first (later ++ more) ≡ true
  pub reads : (more : List Term) → simple_at stepped first (later ++ more) ≡ Ok (simple, length terms)
  pub no_type : begins_type first ≡ false
  pub no_link : combinator_of first.kind ≡ None

negated_type : (stepped : ℕ) (y close : Term) (more : List Term) (test : Test) → IsType y test → is_sign_of close_round close.kind ≡ true
    → negated_at stepped (y ∷ close ∷ more) ≡ Ok (record { negated = true; test = test }, 4)
negated_type stepped y close more test t closes =
    let r = type_read y test t in
    rw (r.begins, r.reads, closes) refl

negated_test : (stepped : ℕ) (inside more : List Term) (close : Term) (test : Test) → ReadsTest stepped inside test → is_sign_of close_round close.kind ≡ true
    → negated_at stepped (inside ++ close ∷ more) ≡ Ok (record { negated = true; test = test }, 3 + length inside)
negated_test stepped inside more close test r closes =
    let seam : drop (length inside) (inside ++ close ∷ more) ≡ close ∷ more = drop-append_seam inside (close ∷ more) in
    let ends : end_at test (length inside) (close ∷ more) ≡ Ok (record { negated = true; test = test }, 3 + length inside) = rw closes refl in
    let here : negated_at stepped (r.first ∷ (r.later ++ close ∷ more)) ≡ ended (Ok (test, length inside)) (r.first ∷ (r.later ++ close ∷ more)) =
    rw (r.no_type, r.begins (close ∷ more), r.no_not (close ∷ more), r.reads (close ∷ more)) refl in
    ap (λ xs. negated_at stepped (xs ++ close ∷ more)) r.is ∙ here
    ∙ ap (λ xs. end_at test (length inside) (drop (length inside) (xs ++ close ∷ more))) (sym r.is)
    ∙ ap (end_at test (length inside)) seam ∙ ends

simple_plain : (stepped : ℕ) (terms : List Term) (test : Test) → ReadsTest stepped terms test → ReadsSimple stepped terms (record { negated = false; test = test })
simple_plain stepped terms test r = record {
  first = r.first;
  later = r.later;
  is = r.is;
  begins = r.begins;
  reads = λ more. rw (r.no_not more) (ap not_negated (r.reads more));
  no_type = r.no_type;
  no_link = r.no_link;
}

simple_negated : (stepped n : ℕ) (sign function close : Term) (inside : List Term) (test : Test) → is_sign_of colon sign.kind ≡ true → is_white_gap sign.gap ≡ false
    → is_function function.kind ≡ true → is_word (codes "not") function.name ≡ true → 3 + n ≡ length (sign ∷ function ∷ (inside ++ close ∷ []))
    → ((more : List Term) → negated_at stepped (inside ++ close ∷ more) ≡ Ok (record { negated = true; test = test }, 3 + n))
    → ReadsSimple stepped (sign ∷ function ∷ (inside ++ close ∷ [])) (record { negated = true; test = test })
simple_negated stepped n sign function close inside test colons touches calls word size reads =
    let k = sign_is colon sign.kind colons in
    let f = function_is function.kind calls in
    record {
      first = sign;
      later = function ∷ (inside ++ close ∷ []);
      is = refl;
      begins = λ more. rw (k, behind_is sign.gap (function ∷ ((inside ++ close ∷ []) ++ more)) touches, f) refl;
      reads = λ more.
          let here : simple_at stepped sign (function ∷ ((inside ++ close ∷ []) ++ more)) ≡ negated_at stepped ((inside ++ close ∷ []) ++ more) = rw (k, f, word) refl in
          here ∙ ap (negated_at stepped) (append_assoc inside (close ∷ []) more) ∙ reads more
          ∙ ap (λ (m : ℕ). let r : Result (Simple × ℕ) Reason = Ok (record { negated = true; test = test }, m) in r) size;
      no_type = rw k refl;
      no_link = rw k refl;
    }

pub simple_read : (stepped : ℕ) (terms : List Term) (simple : Simple) → IsSimple terms simple → HasRoom stepped simple.test → ReadsSimple stepped terms simple
simple_read stepped terms simple (plain test t is) room =
    rw is (simple_plain stepped terms test (test_read stepped terms test t (subst (λ s. HasRoom stepped s.test) is room)))
simple_read stepped terms simple (negation sign function close inside test e colons touches calls word (of_type y i t) closes is) room =
    rw (e, is, i) (simple_negated stepped 1 sign function close (y ∷ []) test colons touches calls word refl (λ more. negated_type stepped y close more test t closes))
simple_read stepped terms simple (negation sign function close inside test e colons touches calls word (of_test t) closes is) room =
    let r = test_read stepped inside test t (subst (λ s. HasRoom stepped s.test) is room) in
    let size = length-append inside (close ∷ []) in
    rw (e, is) (simple_negated stepped (length inside) sign function close inside test colons touches calls word (omega (arith, size))
    (λ more. negated_test stepped inside more close test r closes))
