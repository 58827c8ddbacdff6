-- Each test that is read keeps to the limits, and is not one stepped position too many.
use Rattle.std.proofs.Common.{◌≡◌, ◌<◌, ◌&&◌, ◌||◌, ◌+◌, ℕ, Bool, true, false, not, Option, Some, None, Result, Ok, Err, List, [], ◌∷◌, length, drop, refl, ap, subst, inl, inr, ◌⊎◌, arith, lit≤, codes}
use Rattle.std.specs.Prelude.{nat_le}
use Rattle.std.specs.List.{AllByRecursion}
use Rattle.std.proofs.lemmas.Bool.Decides.{nat_tests}
use Rattle.std.proofs.lemmas.Bool.{false≢true, true≢false}
use Rattle.css_model.specs.declared.position.AnB.{AnB}
use Rattle.css_model.specs.declared.reason.Reason.{Reason}
use Rattle.css_model.specs.declared.selector.Op.{Op}
use Rattle.css_model.specs.declared.selector.Op.TheVariants.{Present, Equal}
use Rattle.css_model.specs.declared.selector.Simple.{Simple}
use Rattle.css_model.specs.declared.selector.Test.{Test}
use Rattle.css_model.specs.declared.selector.Test.TheVariants.{Nth, NthLast}
use Rattle.css_model.specs.Lists.{same_text}
use Rattle.css_model.specs.Positions.Range.{IsInRange, is_stepped}
use Rattle.css_model.specs.Selectors.Attributes.{attribute_at, attribute_test, closed_at, match_at, operator_at, operator_or_none, value_at}
use Rattle.css_model.specs.Selectors.Classes.{class_at, is_name}
use Rattle.css_model.specs.Selectors.Compounds.{is_stepped_test}
use Rattle.css_model.specs.Selectors.Negations.{end_at, ended, negated_at, not_follows, not_negated, of_one_term, simple_at}
use Rattle.css_model.specs.Selectors.PseudoClasses.{counted_argument, function_or_none, plain_or_none, plain_pseudo_classes, position_at, position_functions, pseudo_class_at}
use Rattle.css_model.specs.Selectors.Refusals.{Read}
use Rattle.css_model.specs.Selectors.Simples.{begins_simple, behind_colon, test_at}
use Rattle.css_model.specs.Selectors.Terms.{Term, op_of, right_behind}
use Rattle.css_model.specs.Selectors.Tokens.{bar, equals_sign, is_gapless, is_id_hash, is_string, row_of}
use Rattle.css_model.specs.Selectors.Types.{begins_type, type_at}
use Rattle.css_model.specs.Sheets.Limits.{max_stepped}
use Rattle.css_model.specs.Text.Characters.{close_round, close_square, colon, dot, open_square, star}
use Rattle.css_model.specs.Text.Lexemes.{is_delim_of, is_ident, is_sign_of}
use Rattle.css_model.specs.Text.Names.{code_points, lower}
use Rattle.selector_laws.specs.Limits.{KeepsTest}
use Rattle.selector_laws.proofs.Answered.{Holds, HoldsOfSome, either, row_holds}

-- a test keeps to the limits behind so many stepped positions
pub record Fits (stepped : ℕ) (test : Test) : Type 0 where
  pub keeps : KeepsTest test
  pub one_more : is_stepped_test test ≡ true → stepped < max_stepped

-- an argument is in range
abbrev pub HasRange : Term → Type 0
HasRange x = Holds IsInRange x.argument

abbrev FitsRead : ℕ → Test × ℕ → Type 0
FitsRead stepped read = Fits stepped read.0

abbrev pub FitsSimple : ℕ → Simple × ℕ → Type 0
FitsSimple stepped read = Fits stepped read.0.test

unstepped : (stepped : ℕ) → false ≡ true → stepped < max_stepped
unstepped stepped h = absurd (false≢true h)

class_fits : (stepped : ℕ) (xs : List Term) → Holds (FitsRead stepped) (class_at xs)
class_fits stepped [] = tt
class_fits stepped (x ∷ xs) =
    either (FitsRead stepped) (is_name x) _ _ (λ h. record { keeps = λ e. absurd (omega (arith, ap length e)); one_more = unstepped stepped }) (λ h. tt)

abbrev IsAllowed : List ℕ → Op → Type 0
IsAllowed name op = name ≡ codes "id" → (op ≡ Present) ⊎ (op ≡ Equal)

closed_fits : (stepped : ℕ) (test : Test) (n : ℕ) (xs : List Term) → Fits stepped test → Holds (FitsRead stepped) (closed_at test n xs)
closed_fits stepped test n [] fits = tt
closed_fits stepped test n (x ∷ xs) fits =
    either (FitsRead stepped) (is_sign_of close_square x.kind) _ _ (λ h. fits) (λ h. either (FitsRead stepped) (is_ident x.kind) _ _ (λ k. tt) (λ k. tt))

value_fits : (stepped : ℕ) (name : List ℕ) (op : Op) (n : ℕ) (xs : List Term) → IsAllowed name op → Holds (FitsRead stepped) (value_at name op n xs)
value_fits stepped name op n [] allowed = tt
value_fits stepped name op n (x ∷ xs) allowed =
    either (FitsRead stepped) (is_ident x.kind || is_string x.kind) _ _ (λ h. closed_fits stepped (attribute_test name op (code_points x.name)) (n + 1) xs (record { keeps = allowed; one_more = unstepped stepped })) (λ h. tt)

no_id : (name : List ℕ) (op : Op) → same_text name (codes "id") ≡ false → IsAllowed name op
no_id name op apart is = absurd (true≢false (subst (λ (t : List ℕ). same_text t (codes "id") ≡ false) is apart))

operator_fits : (stepped : ℕ) (name : List ℕ) (op : Op) (sign : Term) (xs : List Term) → Holds (FitsRead stepped) (operator_at name op sign xs)
operator_fits stepped name op sign [] = tt
operator_fits stepped name op sign (x ∷ xs) =
    either (FitsRead stepped) (is_delim_of equals_sign x.kind && is_gapless sign.gap) _ _
    (λ h. either (FitsRead stepped) (same_text name (codes "id")) _ _ (λ k. tt) (λ k. value_fits stepped name op 4 xs (no_id name op k)))
    (λ h. either (FitsRead stepped) (is_delim_of bar sign.kind) _ _ (λ k. tt) (λ k. tt))

some_operator_fits : (stepped : ℕ) (name : List ℕ) (op : Option Op) (x : Term) (xs : List Term) → Holds (FitsRead stepped) (operator_or_none name op x xs)
some_operator_fits stepped name None x xs = tt
some_operator_fits stepped name (Some op) x xs = operator_fits stepped name op x xs

match_fits : (stepped : ℕ) (name : List ℕ) (xs : List Term) → Holds (FitsRead stepped) (match_at name xs)
match_fits stepped name [] = tt
match_fits stepped name (x ∷ xs) =
    either (FitsRead stepped) (is_sign_of close_square x.kind) _ _ (λ h. record { keeps = λ e. inl refl; one_more = unstepped stepped })
    (λ h. either (FitsRead stepped) (is_delim_of equals_sign x.kind) _ _ (λ k. value_fits stepped name Equal 3 xs (λ e. inr refl)) (λ k. some_operator_fits stepped name (op_of x.kind) x xs))

attribute_fits : (stepped : ℕ) (xs : List Term) → Holds (FitsRead stepped) (attribute_at xs)
attribute_fits stepped [] = tt
attribute_fits stepped (x ∷ xs) = either (FitsRead stepped) (is_name x) _ _ (λ h. match_fits stepped (lower (code_points x.name)) xs) (λ h. tt)

plain_fits : (stepped : ℕ) (name : List ℕ) → HoldsOfSome (Fits stepped) (row_of name plain_pseudo_classes)
plain_fits stepped name =
    row_holds (Fits stepped) name plain_pseudo_classes
    (record { keeps = (lit≤ tt, lit≤ tt); one_more = unstepped stepped }, (record { keeps = (lit≤ tt, lit≤ tt); one_more = unstepped stepped }, (record { keeps = tt; one_more = unstepped stepped }, (record { keeps = tt; one_more = unstepped stepped }, (record { keeps = tt; one_more = unstepped stepped }, (record { keeps = tt; one_more = unstepped stepped }, (record { keeps = tt; one_more = unstepped stepped }, (record { keeps = tt; one_more = unstepped stepped }, (record { keeps = tt; one_more = unstepped stepped }, (record { keeps = tt; one_more = unstepped stepped }, (record { keeps = tt; one_more = unstepped stepped }, (record { keeps = tt; one_more = unstepped stepped }, (record { keeps = tt; one_more = unstepped stepped }, (record { keeps = tt; one_more = unstepped stepped }, tt))))))))))))))

some_plain_fits : (stepped : ℕ) (o : Option Test) → HoldsOfSome (Fits stepped) o → Holds (FitsRead stepped) (plain_or_none o)
some_plain_fits stepped None fits = tt
some_plain_fits stepped (Some test) fits = fits

-- an argument is in range, and is not one stepped position too many
pub record FitsArgument (stepped : ℕ) (x : AnB) : Type 0 where
  pub in_range : IsInRange x
  pub one_more : is_stepped x ≡ true → stepped < max_stepped

not_too_many : (stepped : ℕ) (b : Bool) → (b && nat_le max_stepped stepped) ≡ false → b ≡ true → stepped < max_stepped
not_too_many stepped true h is = grind (arith, nat_tests)
not_too_many stepped false h is = absurd (false≢true is)

argument_fits : (stepped : ℕ) (argument : Result AnB Reason) → Holds IsInRange argument → Holds (FitsArgument stepped) (counted_argument stepped argument)
argument_fits stepped (Err reason) ranged = tt
argument_fits stepped (Ok x) ranged =
    either (FitsArgument stepped) (is_stepped x && nat_le max_stepped stepped) _ _ (λ h. tt) (λ h. record { in_range = ranged; one_more = not_too_many stepped (is_stepped x) h })

position_fits : (stepped : ℕ) (make : AnB → Test) (argument : Result AnB Reason) → ((x : AnB) → FitsArgument stepped x → Fits stepped (make x))
    → Holds (FitsArgument stepped) argument → Holds (FitsRead stepped) (position_at make argument)
position_fits stepped make (Err reason) made fits = tt
position_fits stepped make (Ok x) made fits = made x fits

nth_fits : (stepped : ℕ) (x : AnB) → FitsArgument stepped x → Fits stepped (Nth x)
nth_fits stepped x fits = record { keeps = fits.in_range; one_more = fits.one_more }

nth_last_fits : (stepped : ℕ) (x : AnB) → FitsArgument stepped x → Fits stepped (NthLast x)
nth_last_fits stepped x fits = record { keeps = fits.in_range; one_more = fits.one_more }

-- a function makes a fitting test of each fitting argument
abbrev Makes : ℕ → (AnB → Test) → Type 0
Makes stepped make = (x : AnB) → FitsArgument stepped x → Fits stepped (make x)

some_function_fits : (stepped : ℕ) (o : Option (AnB → Test)) (x : Term) → HoldsOfSome (Makes stepped) o → HasRange x → Holds (FitsRead stepped) (function_or_none o stepped x)
some_function_fits stepped None x makes ranged = tt
some_function_fits stepped (Some make) x makes ranged =
    position_fits stepped make (counted_argument stepped x.argument) makes (argument_fits stepped x.argument ranged)

pseudo_class_fits : (stepped : ℕ) (x : Term) → HasRange x → Holds (FitsRead stepped) (pseudo_class_at stepped x)
pseudo_class_fits stepped x ranged =
    either (FitsRead stepped) (is_ident x.kind) _ _ (λ h. some_plain_fits stepped (row_of x.name plain_pseudo_classes) (plain_fits stepped x.name))
    (λ h. some_function_fits stepped (row_of x.name position_functions) x
    (row_holds (Makes stepped) x.name position_functions (nth_fits stepped, (nth_last_fits stepped, tt))) ranged)

colon_fits : (stepped : ℕ) (xs : List Term) → AllByRecursion HasRange xs → Holds (FitsRead stepped) (behind_colon stepped xs)
colon_fits stepped [] ranged = tt
colon_fits stepped (x ∷ xs) ranged = pseudo_class_fits stepped x ranged.0

test_fits : (stepped : ℕ) (x : Term) (xs : List Term) → AllByRecursion HasRange xs → Holds (FitsRead stepped) (test_at stepped x xs)
test_fits stepped x xs ranged =
    either (FitsRead stepped) (is_id_hash x.kind) _ _ (λ h. record { keeps = tt; one_more = unstepped stepped })
    (λ h. either (FitsRead stepped) (is_delim_of dot x.kind) _ _ (λ k. class_fits stepped (right_behind x.gap xs))
    (λ k. either (FitsRead stepped) (is_sign_of open_square x.kind) _ _ (λ l. attribute_fits stepped xs) (λ l. colon_fits stepped xs ranged)))

pub type_fits : (stepped : ℕ) (x : Term) → Holds (Fits stepped) (type_at x)
type_fits stepped x =
    either (Fits stepped) (is_delim_of star x.kind) _ _ (λ h. record { keeps = tt; one_more = unstepped stepped })
    (λ h. either (Fits stepped) x.dashed _ _ (λ k. tt) (λ k. record { keeps = tt; one_more = unstepped stepped }))

end_fits : (stepped : ℕ) (test : Test) (n : ℕ) (xs : List Term) → Fits stepped test → Holds (FitsSimple stepped) (end_at test n xs)
end_fits stepped test n [] fits = tt
end_fits stepped test n (x ∷ xs) fits = either (FitsSimple stepped) (is_sign_of close_round x.kind) _ _ (λ h. fits) (λ h. tt)

ended_fits : (stepped : ℕ) (read : Read Test) (xs : List Term) → Holds (FitsRead stepped) read → Holds (FitsSimple stepped) (ended read xs)
ended_fits stepped (Err reason) xs fits = tt
ended_fits stepped (Ok read) xs fits = end_fits stepped read.0 read.1 (drop read.1 xs) fits

one_term_fits : (stepped : ℕ) (read : Result Test Reason) → Holds (Fits stepped) read → Holds (FitsRead stepped) (of_one_term read)
one_term_fits stepped (Err reason) fits = tt
one_term_fits stepped (Ok test) fits = fits

negated_fits : (stepped : ℕ) (xs : List Term) → AllByRecursion HasRange xs → Holds (FitsSimple stepped) (negated_at stepped xs)
negated_fits stepped [] ranged = tt
negated_fits stepped (x ∷ xs) ranged =
    either (FitsSimple stepped) (begins_type x) _ _ (λ h. ended_fits stepped (of_one_term (type_at x)) (x ∷ xs) (one_term_fits stepped (type_at x) (type_fits stepped x)))
    (λ h. either (FitsSimple stepped) (begins_simple x xs && not (is_sign_of colon x.kind && not_follows xs)) _ _ (λ k. ended_fits stepped (test_at stepped x xs) (x ∷ xs) (test_fits stepped x xs ranged.1))
    (λ k. either (FitsSimple stepped) (is_sign_of colon x.kind) _ _ (λ l. tt) (λ l. tt)))

plain_simple_fits : (stepped : ℕ) (read : Read Test) → Holds (FitsRead stepped) read → Holds (FitsSimple stepped) (not_negated read)
plain_simple_fits stepped (Err reason) fits = tt
plain_simple_fits stepped (Ok read) fits = fits

behind_first : (xs : List Term) → AllByRecursion HasRange xs → AllByRecursion HasRange (drop 1 xs)
behind_first [] ranged = tt
behind_first (x ∷ xs) ranged = ranged.1

pub simple_fits : (stepped : ℕ) (x : Term) (xs : List Term) → AllByRecursion HasRange xs → Holds (FitsSimple stepped) (simple_at stepped x xs)
simple_fits stepped x xs ranged =
    either (FitsSimple stepped) (is_sign_of colon x.kind && not_follows xs) _ _ (λ h. negated_fits stepped (drop 1 xs) (behind_first xs ranged))
    (λ h. plain_simple_fits stepped (test_at stepped x xs) (test_fits stepped x xs ranged))
