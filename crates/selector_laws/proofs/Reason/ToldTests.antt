-- Where a simple selector or a pseudo-element is refused, what the reason names stands there.
use Rattle.std.proofs.Common.{◌≡◌, ◌==◌, ◌&&◌, ◌||◌, ℕ, Bool, true, false, not, Option, Some, None, Result, Ok, Err, List, [], ◌∷◌, ◌++◌, length, cond, drop, refl, sym, ap, ◌∙◌, subst, codes, inl}
use Rattle.std.specs.Prelude.{nat_le}
use Rattle.std.proofs.lemmas.Bool.{eqb-true, false≢true, true≢false}
use Rattle.std.proofs.Math.Seq.{drop-append_seam}
use Rattle.css_model.specs.declared.position.AnB.{AnB}
use Rattle.css_model.specs.declared.reason.Reason.{Reason}
use Rattle.css_model.specs.declared.reason.Reason.TheVariants.{CaseFlag, IdTest, Namespace, PseudoClass, PseudoElement, TooManyStepped}
use Rattle.css_model.specs.declared.selector.Op.{Op}
use Rattle.css_model.specs.declared.selector.Op.TheVariants.{Equal}
use Rattle.css_model.specs.declared.selector.Pseudo.{Pseudo}
use Rattle.css_model.specs.declared.selector.Test.{Test}
use Rattle.css_model.specs.declared.token.Gap.{Gap}
use Rattle.css_model.specs.declared.token.Gap.TheVariants as gap
use Rattle.css_model.specs.declared.token.TokenKind.{TokenKind}
use Rattle.css_model.specs.declared.token.TokenKind.TheVariants as kind
use Rattle.css_model.specs.Lists.{same_text}
use Rattle.css_model.specs.Positions.Range.{is_stepped}
use Rattle.css_model.specs.Selectors.Attributes.{attribute_at, attribute_test, closed_at, match_at, operator_at, operator_or_none, value_at}
use Rattle.css_model.specs.Selectors.Classes.{class_at, is_name}
use Rattle.css_model.specs.Selectors.Negations.{end_at, ended, negated_at, not_follows, not_negated, of_one_term, simple_at}
use Rattle.css_model.specs.Selectors.PseudoClasses.{counted_argument, function_or_none, is_pseudo_class, plain_or_none, plain_pseudo_classes, position_at, position_functions, pseudo_class_at, pseudo_class_follows}
use Rattle.css_model.specs.Selectors.PseudoElements.{behind_colons, element_or, is_pseudo_element, pseudo_element_at, pseudo_elements}
use Rattle.css_model.specs.Selectors.Refusals.{Read, against, against_first}
use Rattle.css_model.specs.Selectors.Simples.{begins_simple, behind_colon, test_at}
use Rattle.css_model.specs.Selectors.Terms.{Term, op_of, right_behind}
use Rattle.css_model.specs.Selectors.Tokens.{bar, equals_sign, is_function, is_gapless, is_id_hash, is_string, is_word, row_of}
use Rattle.css_model.specs.Selectors.Types.{begins_type, type_at}
use Rattle.css_model.specs.Sheets.Limits.{max_stepped}
use Rattle.css_model.specs.Text.Characters.{close_round, close_square, colon, dot, open_square, star}
use Rattle.css_model.specs.Text.Kept.{is_white_gap}
use Rattle.css_model.specs.Text.Lexemes.{is_delim_of, is_ident, is_sign_of}
use Rattle.css_model.specs.Text.Names.{code_points, lower}
use Rattle.selector_laws.specs.Grammar.{IsNegated, IsType}
use Rattle.selector_laws.specs.Grammar.IsNegated.{of_type, of_test}
use Rattle.selector_laws.proofs.ForCallers.{Holds, Takes, TakesTest, test_is, type_is}
use Rattle.selector_laws.specs.Reason.Refusals.{AreAllStepped}
use Rattle.selector_laws.specs.Reason.Refusals.IsArgumentRefused.{argument}
use Rattle.selector_laws.specs.Reason.Refusals.IsBar.{alone}
use Rattle.selector_laws.specs.Reason.Refusals.IsFlag.{flag}
use Rattle.selector_laws.specs.Reason.Refusals.IsSteppedPosition.{stepped as a_stepped}
use Rattle.selector_laws.specs.Reason.Refusals.IsTestOfId.{of_id}
use Rattle.selector_laws.specs.Reason.Refusals.IsUnknownClass.{plain as no_class, function as no_function}
use Rattle.selector_laws.specs.Reason.Refusals.IsUnknownElement.{plain as no_such_element, function as no_element_function}
use Rattle.selector_laws.proofs.Reason.Calm.{IsCalm, apart_behind, apart_two, apart_unnamed, calm_two, colon_shut, delim_shut, function_shut, negated_calm, unnamed_delim, unnamed_op}
use Rattle.selector_laws.proofs.Reason.Places.{Finds, against_alone, against_finds, against_first_finds, against_none, behind, behind_all, here, in_argument, not_allowed, two_behind}
use Rattle.selector_laws.proofs.Reason.Told.{Tells, either, first_of, passed_on, second_fails, second_of}

-- a reason comes behind terms that are done
abbrev pub In : List Term → List Term → Reason → Type 0
In done xs reason = Finds done reason xs

pub type_tells : (done : List Term) (x : Term) (xs : List Term) → Tells (In done (x ∷ xs)) (type_at x)
type_tells done x xs =
    either (In done (x ∷ xs)) (is_delim_of star x.kind) _ _ (λ h. tt)
    (λ h. either (In done (x ∷ xs)) x.dashed _ _ (λ k. not_allowed done (x ∷ xs)) (λ k. tt))

class_here_tells : (done : List Term) (sign : Term) (xs : List Term) → IsCalm done → Tells (In done (sign ∷ xs)) (class_at xs)
class_here_tells done sign [] calm = not_allowed done (sign ∷ [])
class_here_tells done sign (x ∷ xs) calm =
    either (In done (sign ∷ x ∷ xs)) (is_name x) _ _ (λ h. tt)
    (λ h. behind done (against x) sign (x ∷ xs) (against_finds (done ++ sign ∷ []) x xs (apart_behind done sign calm)))

class_tells : (done : List Term) (sign : Term) (g : Gap) (xs : List Term) → IsCalm done → Tells (In done (sign ∷ xs)) (class_at (right_behind g xs))
class_tells done sign gap.White xs calm = not_allowed done (sign ∷ xs)
class_tells done sign gap.Nothing xs calm = class_here_tells done sign xs calm
class_tells done sign gap.Comments xs calm = class_here_tells done sign xs calm

-- attribute tests
closed_tells : (done : List Term) (sign value : Term) (test : Test) (n : ℕ) (xs : List Term) → is_delim_of equals_sign sign.kind ≡ true
    → (is_ident value.kind || is_string value.kind) ≡ true → Tells (In done (sign ∷ value ∷ xs)) (closed_at test n xs)
closed_tells done sign value test n [] equals is = not_allowed done (sign ∷ value ∷ [])
closed_tells done sign value test n (x ∷ xs) equals is =
    let P = In done (sign ∷ value ∷ x ∷ xs) in
    either P (is_sign_of close_square x.kind) _ _ (λ h. tt)
    (λ h. either P (is_ident x.kind) _ _ (λ k. here done CaseFlag (sign ∷ value ∷ x ∷ xs) (flag sign value x xs equals is k))
    (λ k. two_behind done (against x) sign value (x ∷ xs)
    (against_finds (done ++ sign ∷ value ∷ []) x xs (apart_two done sign value (delim_shut equals_sign sign.kind equals)))))

value_tells : (done : List Term) (sign : Term) (name : List ℕ) (op : Op) (n : ℕ) (xs : List Term) → is_delim_of equals_sign sign.kind ≡ true
    → Tells (In done (sign ∷ xs)) (value_at name op n xs)
value_tells done sign name op n [] equals = not_allowed done (sign ∷ [])
value_tells done sign name op n (x ∷ xs) equals =
    either (In done (sign ∷ x ∷ xs)) (is_ident x.kind || is_string x.kind) _ _
    (λ h. closed_tells done sign x (attribute_test name op (code_points x.name)) _ xs equals h)
    (λ h. behind done (against x) sign (x ∷ xs) (against_finds (done ++ sign ∷ []) x xs (apart_unnamed done sign (unnamed_delim sign equals_sign equals))))

operator_tells : (done : List Term) (bracket name sign : Term) (op : Op) (xs : List Term) → is_sign_of open_square bracket.kind ≡ true → is_name name ≡ true
    → op_of sign.kind ≡ Some op → Tells (In done (bracket ∷ name ∷ sign ∷ xs)) (operator_at (lower (code_points name.name)) op sign xs)
operator_tells done bracket name sign op [] opens named is =
    two_behind done (against sign) bracket name (sign ∷ []) (against_alone (done ++ bracket ∷ name ∷ []) sign [] refl)
operator_tells done bracket name sign op (x ∷ xs) opens named is =
    let P = In done (bracket ∷ name ∷ sign ∷ x ∷ xs) in
    let there = done ++ bracket ∷ name ∷ [] in
    let text = lower (code_points name.name) in
    either P (is_delim_of equals_sign x.kind && is_gapless sign.gap) _ _
    (λ h. let equals = first_of (is_delim_of equals_sign x.kind) (is_gapless sign.gap) h in
    either P (same_text text (codes "id")) _ _
    (λ k. here done IdTest (bracket ∷ name ∷ sign ∷ x ∷ xs)
    (of_id bracket name sign x xs op opens named k is equals (second_of (is_delim_of equals_sign x.kind) (is_gapless sign.gap) h)))
    (λ k. passed_on (In (there ++ sign ∷ []) (x ∷ xs)) P (value_at text op 4 xs) (value_tells (there ++ sign ∷ []) x text op 4 xs equals)
    (λ r f. two_behind done r bracket name (sign ∷ x ∷ xs) (behind there r sign (x ∷ xs) f))))
    (λ h. either P (is_delim_of bar sign.kind) _ _
    (λ k. two_behind done Namespace bracket name (sign ∷ x ∷ xs) (here there Namespace (sign ∷ x ∷ xs) (inl (alone sign (x ∷ xs) k h))))
    (λ k. let r = against_first (right_behind sign.gap (x ∷ xs)) in
    two_behind done r bracket name (sign ∷ x ∷ xs)
    (behind there r sign (x ∷ xs) (against_first_finds (there ++ sign ∷ []) sign.gap (x ∷ xs) (apart_unnamed there sign (unnamed_op sign op is))))))

bar_code : (c : ℕ) → (c == bar) ≡ true → op_of (kind.Delim c) ≡ None → ⊥
bar_code c is none =
    let same : c ≡ bar = eqb-true c bar is in
    let some : op_of (kind.Delim bar) ≡ None = subst (λ (d : ℕ). op_of (kind.Delim d) ≡ None) same none in
    cc

no_bar : (k : TokenKind) → op_of k ≡ None → is_delim_of bar k ≡ true → ⊥
no_bar (kind.Delim c) none is = bar_code c is none
no_bar _ none is = absurd (false≢true is)

some_operator_tells : (done : List Term) (bracket name sign : Term) (o : Option Op) (xs : List Term) → is_sign_of open_square bracket.kind ≡ true → is_name name ≡ true
    → op_of sign.kind ≡ o → Tells (In done (bracket ∷ name ∷ sign ∷ xs)) (operator_or_none (lower (code_points name.name)) o sign xs)
some_operator_tells done bracket name sign None xs opens named is =
    two_behind done (against sign) bracket name (sign ∷ xs) (against_none (done ++ bracket ∷ name ∷ []) sign xs (λ h. no_bar sign.kind is h))
some_operator_tells done bracket name sign (Some op) xs opens named is = operator_tells done bracket name sign op xs opens named is

match_tells : (done : List Term) (bracket name : Term) (xs : List Term) → is_sign_of open_square bracket.kind ≡ true → is_name name ≡ true
    → Tells (In done (bracket ∷ name ∷ xs)) (match_at (lower (code_points name.name)) xs)
match_tells done bracket name [] opens named = not_allowed done (bracket ∷ name ∷ [])
match_tells done bracket name (x ∷ xs) opens named =
    let P = In done (bracket ∷ name ∷ x ∷ xs) in
    let there = done ++ bracket ∷ name ∷ [] in
    let text = lower (code_points name.name) in
    either P (is_sign_of close_square x.kind) _ _ (λ h. tt)
    (λ h. either P (is_delim_of equals_sign x.kind) _ _
    (λ k. passed_on (In there (x ∷ xs)) P (value_at text Equal 3 xs) (value_tells there x text Equal 3 xs k) (λ r f. two_behind done r bracket name (x ∷ xs) f))
    (λ k. some_operator_tells done bracket name x (op_of x.kind) xs opens named refl))

attribute_tells : (done : List Term) (bracket : Term) (xs : List Term) → IsCalm done → is_sign_of open_square bracket.kind ≡ true → Tells (In done (bracket ∷ xs)) (attribute_at xs)
attribute_tells done bracket [] calm opens = not_allowed done (bracket ∷ [])
attribute_tells done bracket (x ∷ xs) calm opens =
    either (In done (bracket ∷ x ∷ xs)) (is_name x) _ _ (λ h. match_tells done bracket x xs opens h)
    (λ h. behind done (against x) bracket (x ∷ xs) (against_finds (done ++ bracket ∷ []) x xs (apart_behind done bracket calm)))

-- pseudo-classes
plain_tells : (done : List Term) (sign name : Term) (rest : List Term) (o : Option Test) → is_sign_of colon sign.kind ≡ true → is_white_gap sign.gap ≡ false
    → is_ident name.kind ≡ true → is_pseudo_element name ≡ false → row_of name.name plain_pseudo_classes ≡ o → Tells (In done (sign ∷ name ∷ rest)) (plain_or_none o)
plain_tells done sign name rest None colons near named no_element is = here done PseudoClass (sign ∷ name ∷ rest) (no_class sign name rest colons near named no_element is)
plain_tells done sign name rest (Some test) colons near named no_element is = tt

-- where so many positions with a step are read, none more may be
abbrev pub IsFullAt : ℕ → List Term → Type 0
IsFullAt n done = nat_le max_stepped n ≡ true → AreAllStepped done

position_tells : (done : List Term) (sign name : Term) (rest : List Term) (make : AnB → Test) (n : ℕ) (a : Result AnB Reason) → IsFullAt n done
    → is_sign_of colon sign.kind ≡ true → is_white_gap sign.gap ≡ false → is_function name.kind ≡ true → row_of name.name position_functions ≡ Some make
    → name.argument ≡ a → Tells (In done (sign ∷ name ∷ rest)) (position_at make (counted_argument n a))
position_tells done sign name rest make n (Err reason) full colons near named row is =
    in_argument done reason (sign ∷ name ∷ rest) (argument sign name rest make colons near named row is)
position_tells done sign name rest make n (Ok x) full colons near named row is = cases (is_stepped x) (nat_le max_stepped n) refl full
  where
    cases : (b c : Bool) → is_stepped x ≡ b → (c ≡ true → AreAllStepped done)
        → Tells (In done (sign ∷ name ∷ rest)) (position_at make (cond {A = Result AnB Reason} (b && c) (Err TooManyStepped) (Ok x)))
    cases true true h all = here done TooManyStepped (sign ∷ name ∷ rest) (all refl, a_stepped sign name rest make x colons near named row is h)
    cases true false h all = tt
    cases false c h all = tt

function_tells : (done : List Term) (sign name : Term) (rest : List Term) (n : ℕ) (o : Option (AnB → Test)) → IsFullAt n done → is_sign_of colon sign.kind ≡ true
    → is_white_gap sign.gap ≡ false → is_function name.kind ≡ true → is_word (codes "not") name.name ≡ false
    → row_of name.name position_functions ≡ o → Tells (In done (sign ∷ name ∷ rest)) (function_or_none o n name)
function_tells done sign name rest n None full colons near named no_negation row =
    here done PseudoClass (sign ∷ name ∷ rest) (no_function sign name rest colons near named no_negation row)
function_tells done sign name rest n (Some make) full colons near named no_negation row =
    position_tells done sign name rest make n name.argument full colons near named row refl

a_function : (a b c : Bool) → ((a || b) && not c) ≡ true → a ≡ false → b ≡ true
a_function true b c h is = absurd (true≢false is)
a_function false true c h is = refl
a_function false false c h is = absurd (false≢true h)

no_element : (a c : Bool) → (a && not c) ≡ true → c ≡ false
no_element true true h = absurd (false≢true h)
no_element true false h = refl
no_element false c h = absurd (false≢true h)

pseudo_class_tells : (done : List Term) (sign name : Term) (rest : List Term) (n : ℕ) → IsFullAt n done → is_sign_of colon sign.kind ≡ true → is_white_gap sign.gap ≡ false
    → is_pseudo_class name ≡ true → not_follows (name ∷ rest) ≡ false → Tells (In done (sign ∷ name ∷ rest)) (pseudo_class_at n name)
pseudo_class_tells done sign name rest n full colons near begins no_negation =
    either (In done (sign ∷ name ∷ rest)) (is_ident name.kind) _ _
    (λ h. plain_tells done sign name rest (row_of name.name plain_pseudo_classes) colons near h (no_element (is_ident name.kind || is_function name.kind) (is_pseudo_element name) begins) refl)
    (λ h. let named = a_function (is_ident name.kind) (is_function name.kind) (is_pseudo_element name) begins h in
    function_tells done sign name rest n (row_of name.name position_functions) full colons near named
    (second_fails (is_function name.kind) (is_word (codes "not") name.name) named no_negation) refl)

colon_tells : (done : List Term) (x : Term) (xs : List Term) (n : ℕ) (g : Gap) → IsFullAt n done → x.gap ≡ g → is_sign_of colon x.kind ≡ true
    → pseudo_class_follows (right_behind g xs) ≡ true → not_follows xs ≡ false → Tells (In done (x ∷ xs)) (behind_colon n xs)
colon_tells done x [] n g full is colons follows no_negation = not_allowed done (x ∷ [])
colon_tells done x (y ∷ ys) n gap.White full is colons follows no_negation = absurd (false≢true follows)
colon_tells done x (y ∷ ys) n gap.Nothing full is colons follows no_negation = pseudo_class_tells done x y ys n full colons (ap is_white_gap is) follows no_negation
colon_tells done x (y ∷ ys) n gap.Comments full is colons follows no_negation = pseudo_class_tells done x y ys n full colons (ap is_white_gap is) follows no_negation

last_holds : (a b c d : Bool) → (a || b || c || d) ≡ true → a ≡ false → b ≡ false → c ≡ false → d ≡ true
last_holds true b c d h first second third = absurd (true≢false first)
last_holds false true c d h first second third = absurd (true≢false second)
last_holds false false true d h first second third = absurd (true≢false third)
last_holds false false false d h first second third = h

test_tells : (done : List Term) (n : ℕ) (x : Term) (xs : List Term) → IsCalm done → IsFullAt n done → begins_simple x xs ≡ true
    → (is_sign_of colon x.kind && not_follows xs) ≡ false → Tells (In done (x ∷ xs)) (test_at n x xs)
test_tells done n x xs calm full begins no_negation =
    let P = In done (x ∷ xs) in
    let follows = pseudo_class_follows (right_behind x.gap xs) in
    either P (is_id_hash x.kind) _ _ (λ h. tt)
    (λ h. either P (is_delim_of dot x.kind) _ _ (λ k. class_tells done x x.gap xs calm)
    (λ k. either P (is_sign_of open_square x.kind) _ _ (λ l. attribute_tells done x xs calm l)
    (λ l. let both = last_holds (is_id_hash x.kind) (is_delim_of dot x.kind) (is_sign_of open_square x.kind) (is_sign_of colon x.kind && follows) begins h k l in
    let colons = first_of (is_sign_of colon x.kind) follows both in
    colon_tells done x xs n x.gap full refl colons (second_of (is_sign_of colon x.kind) follows both) (second_fails (is_sign_of colon x.kind) (not_follows xs) colons no_negation))))

-- the negation
end_tells : (done : List Term) (test : Test) (n : ℕ) (xs : List Term) → IsCalm done → Tells (In done xs) (end_at test n xs)
end_tells done test n [] calm = not_allowed done []
end_tells done test n (x ∷ xs) calm = either (In done (x ∷ xs)) (is_sign_of close_round x.kind) _ _ (λ h. tt) (λ h. against_finds done x xs calm.apart)

ended_tells : (done : List Term) (read : Read Test) (xs : List Term) → IsCalm done → Holds (Takes IsNegated xs) read → Tells (In done xs) read → Tells (In done xs) (ended read xs)
ended_tells done (Err reason) xs calm taken told = told
ended_tells done (Ok read) xs calm taken told =
    let front = taken.0 in
    let rest = taken.1 in
    let left : drop read.1 xs ≡ rest = ap (λ n. drop n xs) (sym taken.3) ∙ ap (drop (length front)) taken.2 ∙ drop-append_seam front rest in
    subst (λ ys. Tells (In done xs) (end_at read.0 read.1 ys)) (sym left)
    (passed_on (In (done ++ front) rest) (In done xs) (end_at read.0 read.1 rest)
    (end_tells (done ++ front) read.0 read.1 rest (negated_calm done front read.0 calm taken.4))
    (λ r f. behind_all done r front rest xs taken.2 f))

one_term_tells : (P : Reason → Type 0) (read : Result Test Reason) → Tells P read → Tells P (of_one_term read)
one_term_tells P (Err reason) told = told
one_term_tells P (Ok test) told = tt

one_term_is : (x : Term) (xs : List Term) (read : Result Test Reason) → Holds (IsType x) read → Holds (Takes IsNegated (x ∷ xs)) (of_one_term read)
one_term_is x xs (Err reason) is = tt
one_term_is x xs (Ok test) is = (x ∷ [], xs, refl, refl, of_type x refl is)

test_taken : (xs : List Term) (read : Read Test) → Holds (TakesTest xs) read → Holds (Takes IsNegated xs) read
test_taken xs (Err reason) taken = tt
test_taken xs (Ok read) taken = (taken.0, taken.1, taken.2, taken.3, of_test taken.4)

not_true : (b : Bool) → not b ≡ true → b ≡ false
not_true true h = absurd (false≢true h)
not_true false h = refl

negated_tells : (done : List Term) (n : ℕ) (xs : List Term) → IsCalm done → IsFullAt n done → Tells (In done xs) (negated_at n xs)
negated_tells done n [] calm full = not_allowed done []
negated_tells done n (x ∷ xs) calm full =
    let P = In done (x ∷ xs) in
    let negation = is_sign_of colon x.kind && not_follows xs in
    either P (begins_type x) _ _
    (λ h. ended_tells done (of_one_term (type_at x)) (x ∷ xs) calm (one_term_is x xs (type_at x) (type_is x h)) (one_term_tells P (type_at x) (type_tells done x xs)))
    (λ h. either P (begins_simple x xs && not negation) _ _
    (λ k. let begins = first_of (begins_simple x xs) (not negation) k in
    ended_tells done (test_at n x xs) (x ∷ xs) calm (test_taken (x ∷ xs) (test_at n x xs) (test_is n x xs begins))
    (test_tells done n x xs calm full begins (not_true negation (second_of (begins_simple x xs) (not negation) k))))
    (λ k. either P (is_sign_of colon x.kind) _ _
    (λ l. let r = against_first (right_behind x.gap xs) in
    behind done r x xs (against_first_finds (done ++ x ∷ []) x.gap xs (apart_behind done x calm)))
    (λ l. against_finds done x xs calm.apart)))

plain_simple_tells : (P : Reason → Type 0) (read : Read Test) → Tells P read → Tells P (not_negated read)
plain_simple_tells P (Err reason) told = told
plain_simple_tells P (Ok read) told = tt

not_tells : (done : List Term) (n : ℕ) (x : Term) (xs : List Term) → IsCalm done
    → ((name : Term) → is_function name.kind ≡ true → is_word (codes "not") name.name ≡ true → IsFullAt n (done ++ x ∷ name ∷ []))
    → is_sign_of colon x.kind ≡ true → not_follows xs ≡ true → Tells (In done (x ∷ xs)) (negated_at n (drop 1 xs))
not_tells done n x [] calm full colons follows = absurd (false≢true follows)
not_tells done n x (name ∷ xs) calm full colons follows =
    let calls = first_of (is_function name.kind) (is_word (codes "not") name.name) follows in
    let word = second_of (is_function name.kind) (is_word (codes "not") name.name) follows in
    let there = done ++ x ∷ name ∷ [] in
    passed_on (In there xs) (In done (x ∷ name ∷ xs)) (negated_at n xs)
    (negated_tells there n xs (calm_two done x name calm (colon_shut x.kind colons) (function_shut name.kind calls)) (full name calls word))
    (λ r f. two_behind done r x name xs f)

pub simple_tells : (done : List Term) (n : ℕ) (x : Term) (xs : List Term) → IsCalm done → IsFullAt n done
    → ((name : Term) → is_sign_of colon x.kind ≡ true → is_function name.kind ≡ true → is_word (codes "not") name.name ≡ true → IsFullAt n (done ++ x ∷ name ∷ []))
    → begins_simple x xs ≡ true → Tells (In done (x ∷ xs)) (simple_at n x xs)
simple_tells done n x xs calm full inside begins =
    let P = In done (x ∷ xs) in
    either P (is_sign_of colon x.kind && not_follows xs) _ _
    (λ h. let colons = first_of (is_sign_of colon x.kind) (not_follows xs) h in
    not_tells done n x xs calm (λ name calls word. inside name colons calls word) colons (second_of (is_sign_of colon x.kind) (not_follows xs) h))
    (λ h. plain_simple_tells P (test_at n x xs) (test_tells done n x xs calm full begins h))

-- pseudo-elements
element_tells : (P : Reason → Type 0) (reason : Reason) (o : Option Pseudo) (n : ℕ) → (o ≡ None → P reason) → Tells P (element_or reason o n)
element_tells P reason None n told = told refl
element_tells P reason (Some element) n told = tt

at_name : (done : List Term) (first second : Term) (xs : List Term) → IsCalm done → is_sign_of colon first.kind ≡ true → is_white_gap first.gap ≡ false
    → is_sign_of colon second.kind ≡ true → is_white_gap second.gap ≡ false → Tells (In done (first ∷ second ∷ xs)) (behind_colons xs)
at_name done first second [] calm colons near again close = not_allowed done (first ∷ second ∷ [])
at_name done first second (x ∷ xs) calm colons near again close =
    let all = first ∷ second ∷ x ∷ xs in
    let P = In done all in
    either P (is_ident x.kind) _ _
    (λ h. element_tells P PseudoElement (row_of x.name pseudo_elements) 3 (λ none. here done PseudoElement all (no_such_element first second x xs colons near again close h none)))
    (λ h. either P (is_function x.kind) _ _ (λ k. here done PseudoElement all (no_element_function first second x xs colons near again close k))
    (λ k. two_behind done (against x) first second (x ∷ xs)
    (against_finds (done ++ first ∷ second ∷ []) x xs (apart_two done first second (colon_shut first.kind colons)))))

behind_colons_tells : (done : List Term) (first second : Term) (xs : List Term) (g : Gap) → IsCalm done → second.gap ≡ g → is_sign_of colon first.kind ≡ true
    → is_white_gap first.gap ≡ false → is_sign_of colon second.kind ≡ true → Tells (In done (first ∷ second ∷ xs)) (behind_colons (right_behind g xs))
behind_colons_tells done first second xs gap.White calm is colons near again = not_allowed done (first ∷ second ∷ xs)
behind_colons_tells done first second xs gap.Nothing calm is colons near again = at_name done first second xs calm colons near again (ap is_white_gap is)
behind_colons_tells done first second xs gap.Comments calm is colons near again = at_name done first second xs calm colons near again (ap is_white_gap is)

at_second : (done : List Term) (x : Term) (xs : List Term) → IsCalm done → is_sign_of colon x.kind ≡ true → is_white_gap x.gap ≡ false
    → Tells (In done (x ∷ xs)) (pseudo_element_at xs)
at_second done x [] calm colons near = not_allowed done (x ∷ [])
at_second done x (y ∷ ys) calm colons near =
    let P = In done (x ∷ y ∷ ys) in
    let found : Finds done (against y) (x ∷ y ∷ ys) =
    behind done (against y) x (y ∷ ys) (against_finds (done ++ x ∷ []) y ys (apart_behind done x calm)) in
    either P (is_sign_of colon y.kind) _ _ (λ h. behind_colons_tells done x y ys y.gap calm refl colons near h)
    (λ h. either P (is_ident y.kind) _ _ (λ k. element_tells P (against y) (row_of y.name pseudo_elements) 2 (λ none. found)) (λ k. found))

pub pseudo_element_tells : (done : List Term) (x : Term) (xs : List Term) (g : Gap) → IsCalm done → x.gap ≡ g → is_sign_of colon x.kind ≡ true
    → Tells (In done (x ∷ xs)) (pseudo_element_at (right_behind g xs))
pseudo_element_tells done x xs gap.White calm is colons = not_allowed done (x ∷ xs)
pseudo_element_tells done x xs gap.Nothing calm is colons = at_second done x xs calm colons (ap is_white_gap is)
pseudo_element_tells done x xs gap.Comments calm is colons = at_second done x xs calm colons (ap is_white_gap is)
