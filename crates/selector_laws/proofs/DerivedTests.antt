-- Each simple selector that is read is derived by the grammar, from the terms that it takes.
use Rattle.std.proofs.Common.{◌≡◌, ◌+◌, ◌&&◌, ◌||◌, ℕ, Bool, true, false, cond, not, Option, Some, None, Result, Ok, Err, List, [], ◌∷◌, ◌++◌, length, drop, refl, sym, ap, ◌∙◌, subst, append_assoc, length-append, arith, codes}
use Rattle.std.specs.Prelude.{nat_le}
use Rattle.std.proofs.Math.Seq.{drop-append_seam}
use Rattle.std.proofs.lemmas.Bool.{and_parts, false≢true, true≢false}
use Rattle.std.proofs.lemmas.Bool.Decides.{nat_tests}
use Rattle.css_model.specs.declared.position.AnB.{AnB}
use Rattle.css_model.specs.declared.reason.Reason.{Reason}
use Rattle.css_model.specs.declared.reason.Reason.TheVariants.{TooManyStepped}
use Rattle.css_model.specs.declared.selector.Op.{Op}
use Rattle.css_model.specs.declared.selector.Op.TheVariants.{Equal}
use Rattle.css_model.specs.declared.selector.Pseudo.{Pseudo}
use Rattle.css_model.specs.declared.selector.Simple.{Simple}
use Rattle.css_model.specs.declared.selector.Test.{Test}
use Rattle.css_model.specs.declared.token.Gap.{Gap}
use Rattle.css_model.specs.declared.token.Gap.TheVariants as gap
use Rattle.css_model.specs.declared.token.TokenKind.{TokenKind}
use Rattle.css_model.specs.declared.token.TokenKind.TheVariants as kind
use Rattle.css_model.specs.Lists.{same_text}
use Rattle.css_model.specs.Positions.Range.{is_stepped}
use Rattle.css_model.specs.Selectors.Attributes.{attribute_at, attribute_test, closed_at, match_at, operator_at, operator_or_none, value_at}
use Rattle.css_model.specs.Selectors.Classes.{class_at, is_name}
use Rattle.css_model.specs.Selectors.Negations.{end_at, ended, negated_at, not_follows, not_negated, of_one_term, simple_at}
use Rattle.css_model.specs.Selectors.PseudoClasses.{counted_argument, function_or_none, is_pseudo_class, plain_or_none, plain_pseudo_classes, position_at, position_functions, pseudo_class_at, pseudo_class_follows}
use Rattle.css_model.specs.Selectors.PseudoElements.{behind_colons, element_or, is_pseudo_element, pseudo_element_at, pseudo_elements}
use Rattle.css_model.specs.Selectors.Refusals.{Read, against}
use Rattle.css_model.specs.Selectors.Simples.{begins_simple, behind_colon, test_at}
use Rattle.css_model.specs.Selectors.Terms.{Term, op_of, right_behind}
use Rattle.css_model.specs.Selectors.Tokens.{bar, equals_sign, is_function, is_gapless, is_id_hash, is_string, is_word, row_of}
use Rattle.css_model.specs.Selectors.Types.{begins_type, type_at}
use Rattle.css_model.specs.Sheets.Limits.{max_stepped}
use Rattle.css_model.specs.Text.Characters.{close_round, close_square, colon, dot, open_square, star}
use Rattle.css_model.specs.Text.Kept.{is_white_gap}
use Rattle.css_model.specs.Text.Lexemes.{is_delim_of, is_ident, is_sign_of}
use Rattle.css_model.specs.Text.Names.{code_points, lower}
use Rattle.selector_laws.specs.Grammar.{IsNegated, IsPseudoElement, IsSimple, IsTest, IsType}
use Rattle.selector_laws.specs.Grammar.IsAttribute.{present, equal, matching}
use Rattle.selector_laws.specs.Grammar.IsNegated.{of_type, of_test}
use Rattle.selector_laws.specs.Grammar.IsPseudoElement.{one_colon, two_colons}
use Rattle.selector_laws.specs.Grammar.IsSimple.{plain, negation}
use Rattle.selector_laws.specs.Grammar.IsTest.{id, class, of_attribute, pseudo_class, position}
use Rattle.selector_laws.specs.Grammar.IsType.{universal, named}
use Rattle.selector_laws.proofs.Answered.{Holds, either, passed_on}

-- what is read is derived from so many of these terms at their front
abbrev pub Takes : {A : Type 0} → (List Term → A → Type 0) → List Term → A × ℕ → Type 0
Takes P xs read = (front : List Term) × (rest : List Term) × (xs ≡ front ++ rest) × (length front ≡ read.1) × P front read.0

-- the end of an attribute test behind its value
abbrev Closes : Test → ℕ → List Term → Test × ℕ → Type 0
Closes test n xs read =
    (close : Term) × (rest : List Term) × (xs ≡ close ∷ rest) × (is_sign_of close_square close.kind ≡ true) × (read.0 ≡ test) × (read.1 ≡ n + 1)

closed_is : (test : Test) (n : ℕ) (xs : List Term) → Holds (Closes test n xs) (closed_at test n xs)
closed_is test n [] = tt
closed_is test n (x ∷ xs) =
    either (Closes test n (x ∷ xs)) (is_sign_of close_square x.kind) _ _ (λ h. (x, xs, refl, h, refl, refl))
    (λ h. either (Closes test n (x ∷ xs)) (is_ident x.kind) _ _ (λ k. tt) (λ k. tt))

abbrev Values : List ℕ → Op → ℕ → List Term → Test × ℕ → Type 0
Values name op n xs read =
    (value : Term) × (close : Term) × (rest : List Term) × (xs ≡ value ∷ close ∷ rest) × ((is_ident value.kind || is_string value.kind) ≡ true)
    × (is_sign_of close_square close.kind ≡ true) × (read.0 ≡ attribute_test name op (code_points value.name)) × (read.1 ≡ n + 1 + 1)

value_is : (name : List ℕ) (op : Op) (n : ℕ) (xs : List Term) → Holds (Values name op n xs) (value_at name op n xs)
value_is name op n [] = tt
value_is name op n (x ∷ xs) =
    let test = attribute_test name op (code_points x.name) in
    either (Values name op n (x ∷ xs)) (is_ident x.kind || is_string x.kind) _ _
    (λ h. passed_on (Closes test (n + 1) xs) (Values name op n (x ∷ xs)) (closed_at test (n + 1) xs) (closed_is test (n + 1) xs)
    (λ r c. (x, c.0, c.1, ap (λ ys. x ∷ ys) c.2, h, c.3, c.4, c.5)))
    (λ h. tt)

abbrev pub TakesTest : List Term → Test × ℕ → Type 0
TakesTest xs read = Takes IsTest xs read

operator_is : (bracket name sign : Term) (op : Op) (xs : List Term) → is_sign_of open_square bracket.kind ≡ true → is_name name ≡ true → op_of sign.kind ≡ Some op
    → Holds (TakesTest (bracket ∷ name ∷ sign ∷ xs)) (operator_at (lower (code_points name.name)) op sign xs)
operator_is bracket name sign op [] opens names signs = tt
operator_is bracket name sign op (y ∷ ys) opens names signs =
    let P = TakesTest (bracket ∷ name ∷ sign ∷ y ∷ ys) in
    let word = lower (code_points name.name) in
    either P (is_delim_of equals_sign y.kind && is_gapless sign.gap) _ _
    (λ h. let both = and_parts (is_delim_of equals_sign y.kind) (is_gapless sign.gap) h in
    either P (same_text word (codes "id")) _ _ (λ k. tt)
    (λ k. passed_on (Values word op 4 ys) P (value_at word op 4 ys) (value_is word op 4 ys)
    (λ r v. (
      bracket ∷ name ∷ sign ∷ y ∷ v.0 ∷ v.1 ∷ [],
      v.2,
      ap (λ zs. bracket ∷ name ∷ sign ∷ y ∷ zs) v.3,
      sym v.7,
      of_attribute (matching bracket name sign y v.0 v.1 op refl opens names signs both.0 both.1 k v.4 v.5 v.6),
    ))))
    (λ h. either P (is_delim_of bar sign.kind) _ _ (λ k. tt) (λ k. tt))

some_operator_is : (bracket name sign : Term) (o : Option Op) (xs : List Term) → is_sign_of open_square bracket.kind ≡ true → is_name name ≡ true → op_of sign.kind ≡ o
    → Holds (TakesTest (bracket ∷ name ∷ sign ∷ xs)) (operator_or_none (lower (code_points name.name)) o sign xs)
some_operator_is bracket name sign None xs opens names signs = tt
some_operator_is bracket name sign (Some op) xs opens names signs = operator_is bracket name sign op xs opens names signs

match_is : (bracket name : Term) (xs : List Term) → is_sign_of open_square bracket.kind ≡ true → is_name name ≡ true
    → Holds (TakesTest (bracket ∷ name ∷ xs)) (match_at (lower (code_points name.name)) xs)
match_is bracket name [] opens names = tt
match_is bracket name (x ∷ xs) opens names =
    let P = TakesTest (bracket ∷ name ∷ x ∷ xs) in
    let word = lower (code_points name.name) in
    either P (is_sign_of close_square x.kind) _ _
    (λ h. (bracket ∷ name ∷ x ∷ [], xs, refl, refl, of_attribute (present bracket name x refl opens names h refl)))
    (λ h. either P (is_delim_of equals_sign x.kind) _ _
    (λ k. passed_on (Values word Equal 3 xs) P (value_at word Equal 3 xs) (value_is word Equal 3 xs)
    (λ r v. (
      bracket ∷ name ∷ x ∷ v.0 ∷ v.1 ∷ [],
      v.2,
      ap (λ zs. bracket ∷ name ∷ x ∷ zs) v.3,
      sym v.7,
      of_attribute (equal bracket name x v.0 v.1 refl opens names k v.4 v.5 v.6),
    )))
    (λ k. some_operator_is bracket name x (op_of x.kind) xs opens names refl))

attribute_is : (bracket : Term) (xs : List Term) → is_sign_of open_square bracket.kind ≡ true → Holds (TakesTest (bracket ∷ xs)) (attribute_at xs)
attribute_is bracket [] opens = tt
attribute_is bracket (x ∷ xs) opens = either (TakesTest (bracket ∷ x ∷ xs)) (is_name x) _ _ (λ h. match_is bracket x xs opens h) (λ h. tt)

class_here : (sign : Term) (xs : List Term) → is_delim_of dot sign.kind ≡ true → is_white_gap sign.gap ≡ false → Holds (TakesTest (sign ∷ xs)) (class_at xs)
class_here sign [] dots touches = tt
class_here sign (x ∷ xs) dots touches =
    either (TakesTest (sign ∷ x ∷ xs)) (is_name x) _ _ (λ h. (sign ∷ x ∷ [], xs, refl, refl, class sign x refl dots touches h refl)) (λ h. tt)

class_is : (sign : Term) (g : Gap) (xs : List Term) → sign.gap ≡ g → is_delim_of dot sign.kind ≡ true → Holds (TakesTest (sign ∷ xs)) (class_at (right_behind g xs))
class_is sign gap.White xs is dots = tt
class_is sign gap.Nothing xs is dots = class_here sign xs dots (ap is_white_gap is)
class_is sign gap.Comments xs is dots = class_here sign xs dots (ap is_white_gap is)

-- a colon and what stands right behind it
some_plain_is : (sign x : Term) (xs : List Term) (o : Option Test) → is_sign_of colon sign.kind ≡ true → is_white_gap sign.gap ≡ false
    → is_ident x.kind ≡ true → is_pseudo_element x ≡ false → row_of x.name plain_pseudo_classes ≡ o → Holds (TakesTest (sign ∷ x ∷ xs)) (plain_or_none o)
some_plain_is sign x xs None colons touches names class_only row = tt
some_plain_is sign x xs (Some test) colons touches names class_only row =
    (sign ∷ x ∷ [], xs, refl, refl, pseudo_class sign x refl colons touches names class_only row)

counted_is : (sign x : Term) (xs : List Term) (make : AnB → Test) (b : AnB) (too_many : Bool) → is_sign_of colon sign.kind ≡ true → is_white_gap sign.gap ≡ false
    → is_function x.kind ≡ true → row_of x.name position_functions ≡ Some make → x.argument ≡ Ok b
    → Holds (TakesTest (sign ∷ x ∷ xs)) (position_at make (cond {A = Result AnB Reason} too_many (Err TooManyStepped) (Ok b)))
counted_is sign x xs make b true colons touches calls row argument = tt
counted_is sign x xs make b false colons touches calls row argument =
    (sign ∷ x ∷ [], xs, refl, refl, position sign x make b refl colons touches calls row argument refl)

argument_is : (stepped : ℕ) (sign x : Term) (xs : List Term) (make : AnB → Test) (r : Result AnB Reason) → is_sign_of colon sign.kind ≡ true → is_white_gap sign.gap ≡ false
    → is_function x.kind ≡ true → row_of x.name position_functions ≡ Some make → x.argument ≡ r → Holds (TakesTest (sign ∷ x ∷ xs)) (position_at make (counted_argument stepped r))
argument_is stepped sign x xs make (Err reason) colons touches calls row argument = tt
argument_is stepped sign x xs make (Ok b) colons touches calls row argument =
    counted_is sign x xs make b (is_stepped b && nat_le max_stepped stepped) colons touches calls row argument

some_function_is : (stepped : ℕ) (sign x : Term) (xs : List Term) (o : Option (AnB → Test)) → is_sign_of colon sign.kind ≡ true → is_white_gap sign.gap ≡ false
    → is_function x.kind ≡ true → row_of x.name position_functions ≡ o → Holds (TakesTest (sign ∷ x ∷ xs)) (function_or_none o stepped x)
some_function_is stepped sign x xs None colons touches calls row = tt
some_function_is stepped sign x xs (Some make) colons touches calls row = argument_is stepped sign x xs make x.argument colons touches calls row refl

not_false : (b : Bool) → not b ≡ true → b ≡ false
not_false true h = absurd (false≢true h)
not_false false h = refl

second_of : (a b : Bool) → a ≡ false → (a || b) ≡ true → b ≡ true
second_of true b apart h = absurd (true≢false apart)
second_of false b apart h = h

pseudo_class_is : (stepped : ℕ) (sign x : Term) (xs : List Term) → is_sign_of colon sign.kind ≡ true → is_white_gap sign.gap ≡ false → is_pseudo_class x ≡ true
    → Holds (TakesTest (sign ∷ x ∷ xs)) (pseudo_class_at stepped x)
pseudo_class_is stepped sign x xs colons touches is =
    let both = and_parts (is_ident x.kind || is_function x.kind) (not (is_pseudo_element x)) is in
    either (TakesTest (sign ∷ x ∷ xs)) (is_ident x.kind) _ _
    (λ h. some_plain_is sign x xs (row_of x.name plain_pseudo_classes) colons touches h (not_false (is_pseudo_element x) both.1) refl)
    (λ h. some_function_is stepped sign x xs (row_of x.name position_functions) colons touches (second_of (is_ident x.kind) (is_function x.kind) h both.0) refl)

colon_here : (stepped : ℕ) (sign : Term) (xs : List Term) → is_sign_of colon sign.kind ≡ true → is_white_gap sign.gap ≡ false → pseudo_class_follows xs ≡ true
    → Holds (TakesTest (sign ∷ xs)) (behind_colon stepped xs)
colon_here stepped sign [] colons touches follows = tt
colon_here stepped sign (x ∷ xs) colons touches follows = pseudo_class_is stepped sign x xs colons touches follows

colon_is : (stepped : ℕ) (sign : Term) (g : Gap) (xs : List Term) → sign.gap ≡ g → is_sign_of colon sign.kind ≡ true → pseudo_class_follows (right_behind g xs) ≡ true
    → Holds (TakesTest (sign ∷ xs)) (behind_colon stepped xs)
colon_is stepped sign gap.White xs is colons follows = absurd (false≢true follows)
colon_is stepped sign gap.Nothing xs is colons follows = colon_here stepped sign xs colons (ap is_white_gap is) follows
colon_is stepped sign gap.Comments xs is colons follows = colon_here stepped sign xs colons (ap is_white_gap is) follows

last_of : (a b c d : Bool) → a ≡ false → b ≡ false → c ≡ false → (a || b || c || d) ≡ true → d ≡ true
last_of true b c d p q r h = absurd (true≢false p)
last_of false true c d p q r h = absurd (true≢false q)
last_of false false true d p q r h = absurd (true≢false r)
last_of false false false d p q r h = h

pub test_is : (stepped : ℕ) (x : Term) (xs : List Term) → begins_simple x xs ≡ true → Holds (TakesTest (x ∷ xs)) (test_at stepped x xs)
test_is stepped x xs begins =
    let P = TakesTest (x ∷ xs) in
    let follows = is_sign_of colon x.kind && pseudo_class_follows (right_behind x.gap xs) in
    either P (is_id_hash x.kind) _ _ (λ h. (x ∷ [], xs, refl, refl, id x refl h refl))
    (λ h. either P (is_delim_of dot x.kind) _ _ (λ k. class_is x x.gap xs refl k)
    (λ k. either P (is_sign_of open_square x.kind) _ _ (λ l. attribute_is x xs l)
    (λ l. let both = and_parts (is_sign_of colon x.kind) (pseudo_class_follows (right_behind x.gap xs))
    (last_of (is_id_hash x.kind) (is_delim_of dot x.kind) (is_sign_of open_square x.kind) follows h k l begins) in
    colon_is stepped x x.gap xs refl both.0 both.1)))

pub type_is : (x : Term) → begins_type x ≡ true → Holds (IsType x) (type_at x)
type_is x begins =
    either (IsType x) (is_delim_of star x.kind) _ _ (λ h. universal h refl)
    (λ h. either (IsType x) x.dashed _ _ (λ k. tt) (λ k. named (first_of (is_ident x.kind) (is_delim_of star x.kind) h begins) k refl))
  where
    first_of : (a b : Bool) → b ≡ false → (a || b) ≡ true → a ≡ true
    first_of true b apart h = refl
    first_of false b apart h = absurd (true≢false (sym h ∙ apart))

-- what is negated, and the `)` behind it
abbrev Ends : Test → ℕ → List Term → Simple × ℕ → Type 0
Ends test n xs read =
    (close : Term) × (rest : List Term) × (xs ≡ close ∷ rest) × (is_sign_of close_round close.kind ≡ true) × (read.0 ≡ record { negated = true; test = test }) × (read.1 ≡ 3 + n)

end_is : (test : Test) (n : ℕ) (xs : List Term) → Holds (Ends test n xs) (end_at test n xs)
end_is test n [] = tt
end_is test n (x ∷ xs) = either (Ends test n (x ∷ xs)) (is_sign_of close_round x.kind) _ _ (λ h. (x, xs, refl, h, refl, refl)) (λ h. tt)

abbrev pub TakesSimple : List Term → Simple × ℕ → Type 0
TakesSimple xs read = Takes IsSimple xs read

ended_is : (sign function : Term) (read : Read Test) (xs : List Term) → is_sign_of colon sign.kind ≡ true → is_white_gap sign.gap ≡ false → is_function function.kind ≡ true
    → is_word (codes "not") function.name ≡ true → Holds (Takes IsNegated xs) read → Holds (TakesSimple (sign ∷ function ∷ xs)) (ended read xs)
ended_is sign function (Err reason) xs colons touches calls word taken = tt
ended_is sign function (Ok read) xs colons touches calls word taken =
    let P = TakesSimple (sign ∷ function ∷ xs) in
    let front = taken.0 in
    let rest = taken.1 in
    let left : drop read.1 xs ≡ rest = ap (λ n. drop n xs) (sym taken.3) ∙ ap (drop (length front)) taken.2 ∙ drop-append_seam front rest in
    subst (λ ys. Holds P (end_at read.0 read.1 ys)) (sym left)
    (passed_on (Ends read.0 read.1 rest) P (end_at read.0 read.1 rest) (end_is read.0 read.1 rest)
    (λ r e.
    let parts : xs ≡ (front ++ e.0 ∷ []) ++ e.1 = taken.2 ∙ ap (λ ys. front ++ ys) e.2 ∙ sym (append_assoc front (e.0 ∷ []) e.1) in
    let size = length-append front (e.0 ∷ []) in (
      sign ∷ function ∷ (front ++ e.0 ∷ []),
      e.1,
      ap (λ ys. sign ∷ function ∷ ys) parts,
      omega (arith, size, taken.3, e.5),
      negation sign function e.0 front read.0 refl colons touches calls word taken.4 e.3 e.4,
    )))

one_term_is : (x : Term) (xs : List Term) (read : Result Test Reason) → Holds (IsType x) read → Holds (Takes IsNegated (x ∷ xs)) (of_one_term read)
one_term_is x xs (Err reason) is = tt
one_term_is x xs (Ok test) is = (x ∷ [], xs, refl, refl, of_type x refl is)

negated_is : (stepped : ℕ) (sign function : Term) (xs : List Term) → is_sign_of colon sign.kind ≡ true → is_white_gap sign.gap ≡ false → is_function function.kind ≡ true
    → is_word (codes "not") function.name ≡ true → Holds (TakesSimple (sign ∷ function ∷ xs)) (negated_at stepped xs)
negated_is stepped sign function [] colons touches calls word = tt
negated_is stepped sign function (x ∷ xs) colons touches calls word =
    let P = TakesSimple (sign ∷ function ∷ x ∷ xs) in
    either P (begins_type x) _ _
    (λ h. ended_is sign function (of_one_term (type_at x)) (x ∷ xs) colons touches calls word (one_term_is x xs (type_at x) (type_is x h)))
    (λ h. either P (begins_simple x xs && not (is_sign_of colon x.kind && not_follows xs)) _ _
    (λ k. let both = and_parts (begins_simple x xs) (not (is_sign_of colon x.kind && not_follows xs)) k in
    ended_is sign function (test_at stepped x xs) (x ∷ xs) colons touches calls word
    (passed_on (TakesTest (x ∷ xs)) (Takes IsNegated (x ∷ xs)) (test_at stepped x xs) (test_is stepped x xs both.0)
    (λ r t. (t.0, t.1, t.2, t.3, of_test t.4))))
    (λ k. either P (is_sign_of colon x.kind) _ _ (λ l. tt) (λ l. tt)))

colon_apart : (k : TokenKind) → is_sign_of colon k ≡ true → (is_id_hash k ≡ false) × (is_delim_of dot k ≡ false) × (is_sign_of open_square k ≡ false)
colon_apart (kind.Sign c) h = (refl, refl, grind (arith, nat_tests))
colon_apart _ h = absurd (false≢true h)

touches_colon : (x : Term) (g : Gap) (xs : List Term) → x.gap ≡ g → pseudo_class_follows (right_behind g xs) ≡ true → is_white_gap x.gap ≡ false
touches_colon x gap.White xs is follows = absurd (false≢true follows)
touches_colon x gap.Nothing xs is follows = ap is_white_gap is
touches_colon x gap.Comments xs is follows = ap is_white_gap is

not_is : (stepped : ℕ) (x : Term) (xs : List Term) → is_sign_of colon x.kind ≡ true → is_white_gap x.gap ≡ false → not_follows xs ≡ true
    → Holds (TakesSimple (x ∷ xs)) (negated_at stepped (drop 1 xs))
not_is stepped x [] colons touches follows = absurd (false≢true follows)
not_is stepped x (y ∷ ys) colons touches follows =
    let both = and_parts (is_function y.kind) (is_word (codes "not") y.name) follows in
    negated_is stepped x y ys colons touches both.0 both.1

plain_is : (xs : List Term) (read : Read Test) → Holds (TakesTest xs) read → Holds (TakesSimple xs) (not_negated read)
plain_is xs (Err reason) taken = tt
plain_is xs (Ok read) taken = (taken.0, taken.1, taken.2, taken.3, plain read.0 taken.4 refl)

pub simple_is : (stepped : ℕ) (x : Term) (xs : List Term) → begins_simple x xs ≡ true → Holds (TakesSimple (x ∷ xs)) (simple_at stepped x xs)
simple_is stepped x xs begins =
    either (TakesSimple (x ∷ xs)) (is_sign_of colon x.kind && not_follows xs) _ _
    (λ h. let both = and_parts (is_sign_of colon x.kind) (not_follows xs) h in
    let apart = colon_apart x.kind both.0 in
    let follows = and_parts (is_sign_of colon x.kind) (pseudo_class_follows (right_behind x.gap xs))
    (last_of (is_id_hash x.kind) (is_delim_of dot x.kind) (is_sign_of open_square x.kind) (is_sign_of colon x.kind && pseudo_class_follows (right_behind x.gap xs)) apart.0 apart.1 apart.2 begins) in
    not_is stepped x xs both.0 (touches_colon x x.gap xs refl follows.1) both.1)
    (λ h. plain_is (x ∷ xs) (test_at stepped x xs) (test_is stepped x xs begins))

-- pseudo-elements
abbrev pub TakesElement : List Term → Pseudo × ℕ → Type 0
TakesElement xs read = Takes IsPseudoElement xs read

one_colon_is : (sign x : Term) (xs : List Term) (reason : Reason) (o : Option Pseudo) → is_sign_of colon sign.kind ≡ true → is_white_gap sign.gap ≡ false → is_ident x.kind ≡ true
    → row_of x.name pseudo_elements ≡ o → Holds (TakesElement (sign ∷ x ∷ xs)) (element_or reason o 2)
one_colon_is sign x xs reason None colons touches names row = tt
one_colon_is sign x xs reason (Some element) colons touches names row = (sign ∷ x ∷ [], xs, refl, refl, one_colon sign x refl colons touches names row)

two_colons_is : (first second x : Term) (xs : List Term) (reason : Reason) (o : Option Pseudo) → is_sign_of colon first.kind ≡ true → is_white_gap first.gap ≡ false
    → is_sign_of colon second.kind ≡ true → is_white_gap second.gap ≡ false → is_ident x.kind ≡ true → row_of x.name pseudo_elements ≡ o
    → Holds (TakesElement (first ∷ second ∷ x ∷ xs)) (element_or reason o 3)
two_colons_is first second x xs reason None colons touches colons' touches' names row = tt
two_colons_is first second x xs reason (Some element) colons touches colons' touches' names row =
    (first ∷ second ∷ x ∷ [], xs, refl, refl, two_colons first second x refl colons touches colons' touches' names row)

behind_here : (first second : Term) (xs : List Term) → is_sign_of colon first.kind ≡ true → is_white_gap first.gap ≡ false → is_sign_of colon second.kind ≡ true
    → is_white_gap second.gap ≡ false → Holds (TakesElement (first ∷ second ∷ xs)) (behind_colons xs)
behind_here first second [] colons touches colons' touches' = tt
behind_here first second (x ∷ xs) colons touches colons' touches' =
    let P = TakesElement (first ∷ second ∷ x ∷ xs) in
    either P (is_ident x.kind) _ _ (λ h. two_colons_is first second x xs _ (row_of x.name pseudo_elements) colons touches colons' touches' h refl)
    (λ h. either P (is_function x.kind) _ _ (λ k. tt) (λ k. tt))

behind_is : (first second : Term) (g : Gap) (xs : List Term) → second.gap ≡ g → is_sign_of colon first.kind ≡ true → is_white_gap first.gap ≡ false
    → is_sign_of colon second.kind ≡ true → Holds (TakesElement (first ∷ second ∷ xs)) (behind_colons (right_behind g xs))
behind_is first second gap.White xs is colons touches colons' = tt
behind_is first second gap.Nothing xs is colons touches colons' = behind_here first second xs colons touches colons' (ap is_white_gap is)
behind_is first second gap.Comments xs is colons touches colons' = behind_here first second xs colons touches colons' (ap is_white_gap is)

element_here : (sign : Term) (xs : List Term) → is_sign_of colon sign.kind ≡ true → is_white_gap sign.gap ≡ false → Holds (TakesElement (sign ∷ xs)) (pseudo_element_at xs)
element_here sign [] colons touches = tt
element_here sign (x ∷ xs) colons touches =
    let P = TakesElement (sign ∷ x ∷ xs) in
    either P (is_sign_of colon x.kind) _ _ (λ h. behind_is sign x x.gap xs refl colons touches h)
    (λ h. either P (is_ident x.kind) _ _ (λ k. one_colon_is sign x xs (against x) (row_of x.name pseudo_elements) colons touches k refl) (λ k. tt))

pub element_is : (sign : Term) (g : Gap) (xs : List Term) → sign.gap ≡ g → is_sign_of colon sign.kind ≡ true → Holds (TakesElement (sign ∷ xs)) (pseudo_element_at (right_behind g xs))
element_is sign gap.White xs is colons = tt
element_is sign gap.Nothing xs is colons = element_here sign xs colons (ap is_white_gap is)
element_is sign gap.Comments xs is colons = element_here sign xs colons (ap is_white_gap is)
