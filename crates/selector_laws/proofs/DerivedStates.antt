-- What is read so far is derived by the grammar from the terms so far, and so is the selector at the end.
use Rattle.std.proofs.Common.{◌≡◌, ◌≤◌, ℕ, zero, suc, false, not, Option, Some, None, Result, Ok, Err, List, [], ◌∷◌, ◌++◌, length, refl, sym, ap, ◌∙◌, subst, append_assoc, length-append, arith}
use Rattle.std.specs.Prelude.{nat_le}
use Rattle.std.proofs.lemmas.List.{append-nil}
use Rattle.css_model.specs.declared.reason.Reason.{Reason}
use Rattle.css_model.specs.declared.selector.Combinator.{Combinator}
use Rattle.css_model.specs.declared.selector.Combinator.TheVariants.{Inside}
use Rattle.css_model.specs.declared.selector.Pseudo.{Pseudo}
use Rattle.css_model.specs.declared.selector.Simple.{Simple}
use Rattle.css_model.specs.declared.selector.Test.{Test}
use Rattle.css_model.specs.declared.token.Gap.{Gap}
use Rattle.css_model.specs.declared.token.Gap.TheVariants as gap
use Rattle.css_model.specs.Documents.SelectorParts.{SelectorParts}
use Rattle.css_model.specs.Selectors.Compounds.{SoFar, and_element, and_simple, and_type, begin, begins_compound, by_compound, go_on, in_compound, nothing_yet, or_universal, step, with_link}
use Rattle.css_model.specs.Selectors.Negations.{simple_at}
use Rattle.css_model.specs.Selectors.PseudoElements.{pseudo_element_at}
use Rattle.css_model.specs.Selectors.Reading.{finish, left_after, read_from, selector_of_terms, state_after, unless_refused}
use Rattle.css_model.specs.Selectors.Refusals.{Read}
use Rattle.css_model.specs.Selectors.Simples.{begins_simple}
use Rattle.css_model.specs.Selectors.Terms.{Term, combinator_of, right_behind}
use Rattle.css_model.specs.Selectors.Types.{begins_type, type_at}
use Rattle.css_model.specs.Sheets.Limits.{max_compounds, max_simples}
use Rattle.css_model.specs.Text.Characters.{colon}
use Rattle.css_model.specs.Text.Kept.{is_white_gap}
use Rattle.css_model.specs.Text.Lexemes.{is_sign_of}
use Rattle.css_model.specs.Lists.{less_one}
use Rattle.selector_laws.specs.Grammar.{IsAttribute, IsCompound, IsFront, IsLast, IsPseudoElement, IsSelector, IsSimple, IsTest, IsType, last_gap}
use Rattle.selector_laws.specs.Grammar.IsAttribute.{present, equal, matching}
use Rattle.selector_laws.specs.Grammar.IsCompound.{of_type, of_simple, more}
use Rattle.selector_laws.specs.Grammar.IsFront.{at_start, by_sign, by_white}
use Rattle.selector_laws.specs.Grammar.IsLast.{plain as plain_last, behind, alone}
use Rattle.selector_laws.specs.Grammar.IsPseudoElement.{one_colon, two_colons}
use Rattle.selector_laws.specs.Grammar.IsSimple.{plain, negation}
use Rattle.selector_laws.specs.Grammar.IsTest.{id, class, of_attribute, pseudo_class, position}
use Rattle.selector_laws.proofs.Answered.{Holds, either}
use Rattle.selector_laws.proofs.DerivedTests.{TakesElement, TakesSimple, element_is, simple_is, type_is}

pub cons_head : (x y : Term) (xs ys : List Term) → x ∷ xs ≡ y ∷ ys → x ≡ y
cons_head x y xs ys e = cc

pub cons_tail : (x y : Term) (xs ys : List Term) → x ∷ xs ≡ y ∷ ys → xs ≡ ys
cons_tail x y xs ys e = cc

-- each derivation takes a term
some_terms : {x : Term} {xs : List Term} (terms : List Term) → terms ≡ x ∷ xs → 1 ≤ length terms
some_terms [] e = absurd (let none : ⊥ = cc in none)
some_terms (y ∷ ys) e = omega arith

some_attribute : (terms : List Term) (test : Test) → IsAttribute terms test → 1 ≤ length terms
some_attribute terms test (present bracket name close e opens names closes is) = some_terms terms e
some_attribute terms test (equal bracket name sign value close e opens names signs values closes is) = some_terms terms e
some_attribute terms test (matching bracket name first second value close op e opens names ops signs gapless apart values closes is) = some_terms terms e

some_test : (terms : List Term) (test : Test) → IsTest terms test → 1 ≤ length terms
some_test terms test (id x e hash is) = some_terms terms e
some_test terms test (class sign x e dots touches names is) = some_terms terms e
some_test terms test (of_attribute a) = some_attribute terms test a
some_test terms test (pseudo_class sign x e colons touches names only row) = some_terms terms e
some_test terms test (position sign x make argument e colons touches calls row reads is) = some_terms terms e

pub some_simple : (terms : List Term) (simple : Simple) → IsSimple terms simple → 1 ≤ length terms
some_simple terms simple (plain test t is) = some_test terms test t
some_simple terms simple (negation sign function close inside test e colons touches calls word n closes is) = some_terms terms e

some_element : (terms : List Term) (element : Pseudo) → IsPseudoElement terms element → 1 ≤ length terms
some_element terms element (one_colon sign x e colons touches names row) = some_terms terms e
some_element terms element (two_colons first second x e colons touches colons' touches' names row) = some_terms terms e

pub some_simples : (terms : List Term) (simples : List Simple) → IsCompound terms simples → 1 ≤ length simples
some_simples terms simples (of_type x test t) = omega arith
some_simples terms simples (of_simple ts simple s) = omega arith
some_simples terms simples (more front rest some simple c touches s) = let longer = length-append some (simple ∷ []) in omega (arith, longer)

pub last_gap-append : (xs ys : List Term) → 1 ≤ length ys → last_gap (xs ++ ys) ≡ last_gap ys
last_gap-append [] ys some = refl
last_gap-append (x ∷ []) [] some = absurd (omega arith)
last_gap-append (x ∷ []) (y ∷ ys) some = refl
last_gap-append (x ∷ z ∷ zs) ys some = last_gap-append (z ∷ zs) ys some

pub or_universal_some : (c : List Simple) → 1 ≤ length c → or_universal c ≡ c
or_universal_some [] some = absurd (omega arith)
or_universal_some (c ∷ cs) some = refl

-- the terms behind the last combinator: none yet, a compound with this gap behind it, or the end
pub data Current (rest : List Term) (g : Gap) (s : SoFar) : Type 0 where
  begins : rest ≡ [] → s.compound ≡ [] → s.pseudo ≡ None → Current rest g s
  goes_on : IsCompound rest s.compound → g ≡ last_gap rest → s.pseudo ≡ None → Current rest g s
  ends : (element : Pseudo) → IsLast rest s.compound (Some element) → s.pseudo ≡ Some element → Current rest g s

pub record Stands (done : List Term) (g : Gap) (s : SoFar) : Type 0 where
  pub front : List Term
  pub rest : List Term
  pub parts : done ≡ front ++ rest
  pub before : IsFront front s.chain s.links
  pub current : Current rest g s

-- a step takes so many of these terms, behind those that are done
abbrev pub Goes : List Term → List Term → SoFar × ℕ → Type 0
Goes done xs read = (used : List Term) × (rest : List Term) × (xs ≡ used ++ rest) × (length used ≡ read.1) × (1 ≤ length used) × Stands (done ++ used) (last_gap used) read.0

-- how a compound goes on, whether it has begun or not
record Grows (rest : List Term) (s : SoFar) : Type 0 where
  grow : (used : List Term) (simple : Simple) → IsSimple used simple → IsCompound (rest ++ used) (s.compound ++ simple ∷ [])
  finish : (used : List Term) (element : Pseudo) → IsPseudoElement used element → IsLast (rest ++ used) (or_universal s.compound) (Some element)

and_simple_is : (s : SoFar) (xs done front rest : List Term) (read : Read Simple) → done ≡ front ++ rest → IsFront front s.chain s.links → s.pseudo ≡ None → Grows rest s
    → Holds (TakesSimple xs) read → Holds (Goes done xs) (and_simple s read)
and_simple_is s xs done front rest (Err reason) parts before pseudo grows taken = tt
and_simple_is s xs done front rest (Ok read) parts before pseudo grows taken = (
  taken.0,
  taken.1,
  taken.2,
  taken.3,
  some_simple taken.0 read.0 taken.4,
  record {
    front = front;
    rest = rest ++ taken.0;
    parts = ap (λ d. d ++ taken.0) parts ∙ append_assoc front rest taken.0;
    before = before;
    current = goes_on (grows.grow taken.0 read.0 taken.4) (sym (last_gap-append rest taken.0 (some_simple taken.0 read.0 taken.4))) pseudo;
  },
)

and_element_is : (s : SoFar) (xs done front rest : List Term) (read : Read Pseudo) → done ≡ front ++ rest → IsFront front s.chain s.links → Grows rest s
    → Holds (TakesElement xs) read → Holds (Goes done xs) (and_element s read)
and_element_is s xs done front rest (Err reason) parts before grows taken = tt
and_element_is s xs done front rest (Ok read) parts before grows taken = (
  taken.0,
  taken.1,
  taken.2,
  taken.3,
  some_element taken.0 read.0 taken.4,
  record {
    front = front;
    rest = rest ++ taken.0;
    parts = ap (λ d. d ++ taken.0) parts ∙ append_assoc front rest taken.0;
    before = before;
    current = ends read.0 (grows.finish taken.0 read.0 taken.4) refl;
  },
)

go_on_is : (s : SoFar) (x : Term) (xs done front rest : List Term) → done ≡ front ++ rest → IsFront front s.chain s.links → s.pseudo ≡ None → Grows rest s
    → Holds (Goes done (x ∷ xs)) (go_on s x xs)
go_on_is s x xs done front rest parts before pseudo grows =
    let P = Goes done (x ∷ xs) in
    either P (begins_simple x xs) _ _
    (λ h. either P (nat_le max_simples (length s.compound)) _ _ (λ k. tt)
    (λ k. and_simple_is s (x ∷ xs) done front rest (simple_at s.stepped x xs) parts before pseudo grows (simple_is s.stepped x xs h)))
    (λ h. either P (is_sign_of colon x.kind) _ _
    (λ k. and_element_is s (x ∷ xs) done front rest (pseudo_element_at (right_behind x.gap xs)) parts before grows (element_is x x.gap xs refl k))
    (λ k. tt))

and_type_is : (s : SoFar) (x : Term) (xs done : List Term) (read : Result Test Reason) → IsFront done s.chain s.links → s.compound ≡ [] → s.pseudo ≡ None
    → Holds (IsType x) read → Holds (Goes done (x ∷ xs)) (and_type s read)
and_type_is s x xs done (Err reason) before none pseudo is = tt
and_type_is s x xs done (Ok test) before none pseudo is = (
  x ∷ [],
  xs,
  refl,
  refl,
  omega arith,
  record {
    front = done;
    rest = x ∷ [];
    parts = refl;
    before = before;
    current = goes_on (subst (λ c. IsCompound (x ∷ []) (c ++ (record { negated = false; test = test }) ∷ [])) (sym none) (of_type x test is)) refl pseudo;
  },
)

grows_from_nothing : (s : SoFar) → s.compound ≡ [] → Grows [] s
grows_from_nothing s none = record {
  grow = λ used simple is. subst (λ c. IsCompound used (c ++ simple ∷ [])) (sym none) (of_simple used simple is);
  finish = λ used element is. subst (λ c. IsLast used (or_universal c) (Some element)) (sym none) (alone element is refl refl);
}

begin_is : (s : SoFar) (x : Term) (xs done : List Term) → IsFront done s.chain s.links → s.compound ≡ [] → s.pseudo ≡ None → Holds (Goes done (x ∷ xs)) (begin s x xs)
begin_is s x xs done before none pseudo =
    let P = Goes done (x ∷ xs) in
    either P (not (begins_compound x)) _ _ (λ h. tt)
    (λ h. either P (nat_le max_compounds (length s.chain)) _ _ (λ k. tt)
    (λ k. either P (begins_type x) _ _ (λ l. and_type_is s x xs done (type_at x) before none pseudo (type_is x l))
    (λ l. go_on_is s x xs done done [] (sym (append-nil done)) before pseudo (grows_from_nothing s none))))

grows_on : (rest : List Term) (s : SoFar) → IsCompound rest s.compound → is_white_gap (last_gap rest) ≡ false → Grows rest s
grows_on rest s compound touches =
    let same = or_universal_some s.compound (some_simples rest s.compound compound) in
    record {
      grow = λ used simple is. more rest used s.compound simple compound touches is;
      finish = λ used element is. subst (λ c. IsLast (rest ++ used) c (Some element)) (sym same) (behind rest used element refl compound touches is refl);
    }

in_compound_is : (s : SoFar) (o : Option Combinator) (g : Gap) (x : Term) (xs done front rest : List Term) → done ≡ front ++ rest → IsFront front s.chain s.links
    → IsCompound rest s.compound → g ≡ last_gap rest → s.pseudo ≡ None → combinator_of x.kind ≡ o → Holds (Goes done (x ∷ xs)) (in_compound s o g x xs)
in_compound_is s (Some link) g x xs done front rest parts before compound gaps pseudo is = (
  x ∷ [],
  xs,
  refl,
  refl,
  omega arith,
  record {
    front = front ++ rest ++ x ∷ [];
    rest = [];
    parts = ap (λ d. d ++ x ∷ []) parts ∙ sym (append-nil (front ++ rest ++ x ∷ []));
    before = by_sign front rest x s.chain s.links s.compound link before compound is;
    current = begins refl refl pseudo;
  },
)
in_compound_is s None gap.White x xs done front rest parts before compound gaps pseudo is =
    begin_is (with_link s Inside) x xs done
    (subst (λ d. IsFront d (s.chain ++ s.compound ∷ []) (s.links ++ Inside ∷ [])) (sym parts)
    (by_white front rest s.chain s.links s.compound before compound (sym (ap is_white_gap gaps))))
    refl pseudo
in_compound_is s None gap.Nothing x xs done front rest parts before compound gaps pseudo is =
    go_on_is s x xs done front rest parts before pseudo (grows_on rest s compound (sym (ap is_white_gap gaps)))
in_compound_is s None gap.Comments x xs done front rest parts before compound gaps pseudo is =
    go_on_is s x xs done front rest parts before pseudo (grows_on rest s compound (sym (ap is_white_gap gaps)))

empty_or_some : {P : Type 0} (c : Simple) (cs : List Simple) → [] ≡ c ∷ cs → P
empty_or_some c cs e = absurd (let none : ⊥ = cc in none)

by_compound_is : (s : SoFar) (c : List Simple) (g : Gap) (x : Term) (xs done front rest : List Term) → s.compound ≡ c → s.pseudo ≡ None → done ≡ front ++ rest
    → IsFront front s.chain s.links → Current rest g s → Holds (Goes done (x ∷ xs)) (by_compound s c g x xs)
by_compound_is s [] g x xs done front rest is pseudo parts before (begins nothing none p) =
    begin_is s x xs done (subst (λ d. IsFront d s.chain s.links) (sym (parts ∙ ap (λ r. front ++ r) nothing ∙ append-nil front)) before) is pseudo
by_compound_is s [] g x xs done front rest is pseudo parts before (goes_on compound gaps p) =
    let some = some_simples rest s.compound compound in
    let none : length s.compound ≡ 0 = ap (λ c. length c) is in
    absurd (omega (arith, some, none))
by_compound_is s [] g x xs done front rest is pseudo parts before (ends element is_last p) = absurd (let none : ⊥ = cc in none)
by_compound_is s (c ∷ cs) g x xs done front rest is pseudo parts before (begins nothing none p) = empty_or_some c cs (sym none ∙ is)
by_compound_is s (c ∷ cs) g x xs done front rest is pseudo parts before (goes_on compound gaps p) =
    in_compound_is s (combinator_of x.kind) g x xs done front rest parts before compound gaps pseudo refl
by_compound_is s (c ∷ cs) g x xs done front rest is pseudo parts before (ends element is_last p) = absurd (let none : ⊥ = cc in none)

pub step_is : (s : SoFar) (pseudo : Option Pseudo) (g : Gap) (x : Term) (xs done : List Term) → s.pseudo ≡ pseudo → Stands done g s → Holds (Goes done (x ∷ xs)) (step s pseudo g x xs)
step_is s (Some p) g x xs done is stands = tt
step_is s None g x xs done is stands = by_compound_is s s.compound g x xs done stands.front stands.rest refl is stands.parts stands.before stands.current

last_is : (c : Simple) (cs : List Simple) (s : SoFar) (rest : List Term) (g : Gap) → s.compound ≡ c ∷ cs → Current rest g s → IsLast rest (c ∷ cs) s.pseudo
last_is c cs s rest g is (begins nothing none p) = empty_or_some c cs (sym none ∙ is)
last_is c cs s rest g is (goes_on compound gaps p) = plain_last (subst (IsCompound rest) is compound) p
last_is c cs s rest g is (ends element is_last p) =
    subst (λ o. IsLast rest (c ∷ cs) o) (sym p) (subst (λ x. IsLast rest x (Some element)) is is_last)

finish_is : (s : SoFar) (c : List Simple) (g : Gap) (done : List Term) → s.compound ≡ c → Stands done g s → Holds (IsSelector done) (finish s c)
finish_is s [] g done is stands = tt
finish_is s (c ∷ cs) g done is stands = record {
  front = stands.front;
  rest = stands.rest;
  compounds = s.chain;
  links = s.links;
  simples = c ∷ cs;
  pseudo = s.pseudo;
  parts = stands.parts;
  before = stands.before;
  last = last_is c cs s stands.rest g is stands.current;
  is = refl;
}

-- the gap behind terms that are passed by, with this one before them
abbrev pub gap_behind : Gap → List Term → Gap
gap_behind g [] = g
gap_behind g (x ∷ xs) = last_gap (x ∷ xs)

passed_by : (x : Term) (xs : List Term) → gap_behind x.gap xs ≡ last_gap (x ∷ xs)
passed_by x [] = refl
passed_by x (y ∷ ys) = refl

stands_along : {s : SoFar} (done other : List Term) (g h : Gap) → done ≡ other → g ≡ h → Stands done g s → Stands other h s
stands_along {s = s} done other g h same gaps stands = subst (λ x. Stands other x s) gaps (subst (λ d. Stands d g s) same stands)

-- one of the terms that are passed by is done
pub one_more : {s : SoFar} (before : List Term) (g : Gap) (x y : Term) (ys : List Term) → x ≡ y → Stands (before ++ y ∷ ys) (last_gap (y ∷ ys)) s
    → Stands ((before ++ x ∷ []) ++ ys) (gap_behind x.gap ys) s
one_more before g x y ys same stands =
    stands_along (before ++ y ∷ ys) ((before ++ x ∷ []) ++ ys) (last_gap (y ∷ ys)) (gap_behind x.gap ys)
    (ap (λ z. before ++ z ∷ ys) (sym same) ∙ sym (append_assoc before (x ∷ []) ys))
    (ap (λ z. last_gap (z ∷ ys)) (sym same) ∙ sym (passed_by x ys)) stands

no_terms : {P : Type 0} (x : Term) (xs : List Term) → [] ≡ x ∷ xs → P
no_terms x xs e = absurd (let none : ⊥ = cc in none)

reading_is : (s : SoFar) (g : Gap) (left : ℕ) (xs before middle rest : List Term) → xs ≡ middle ++ rest → length middle ≡ left
    → Stands (before ++ middle) (gap_behind g middle) s → Holds (IsSelector (before ++ xs)) (read_from s g left xs)
reading_is s g left [] before [] rest parts size stands = finish_is s s.compound g (before ++ []) refl stands
reading_is s g left [] before (m ∷ ms) rest parts size stands = no_terms m (ms ++ rest) parts
reading_is s g (suc left) (x ∷ xs) before [] rest parts size stands = absurd (omega arith)
reading_is s g (suc left) (x ∷ xs) before (m ∷ ms) rest parts size stands =
    let head : x ≡ m = cons_head x m xs (ms ++ rest) parts in
    subst (λ d. Holds (IsSelector d) (read_from s x.gap left xs)) (append_assoc before (x ∷ []) xs)
    (reading_is s x.gap left xs (before ++ x ∷ []) ms rest (cons_tail x m xs (ms ++ rest) parts) (omega arith) (one_more before g x m ms head stands))
reading_is s g zero (x ∷ xs) before (m ∷ ms) rest parts size stands = absurd (omega arith)
reading_is s g zero (x ∷ xs) before [] rest parts size stands =
    answered (step s s.pseudo g x xs) (step_is s s.pseudo g x xs (before ++ []) refl stands)
    (λ new n middle behind p q st. reading_is new x.gap n xs (before ++ x ∷ []) middle behind p q st)
  where
    answered : (read : Read SoFar) → Holds (Goes (before ++ []) (x ∷ xs)) read
        → ((new : SoFar) (n : ℕ) (middle behind : List Term) → xs ≡ middle ++ behind → length middle ≡ n → Stands ((before ++ x ∷ []) ++ middle) (gap_behind x.gap middle) new
        → Holds (IsSelector ((before ++ x ∷ []) ++ xs)) (read_from new x.gap n xs))
        → Holds (IsSelector (before ++ x ∷ xs)) (unless_refused read (read_from (state_after s read) x.gap (left_after read) xs))
    answered (Err reason) goes later = tt
    answered (Ok read) goes later = taken goes.0 goes.2 goes.3 goes.4 goes.5
      where
        taken : (used : List Term) → x ∷ xs ≡ used ++ goes.1 → length used ≡ read.1 → 1 ≤ length used → Stands ((before ++ []) ++ used) (last_gap used) read.0
            → Holds (IsSelector (before ++ x ∷ xs)) (read_from read.0 x.gap (less_one read.1) xs)
        taken [] p q some st = absurd (omega arith)
        taken (u ∷ us) p q some st =
            let head : x ≡ u = cons_head x u xs (us ++ goes.1) p in
            subst (λ d. Holds (IsSelector d) (read_from read.0 x.gap (less_one read.1) xs)) (append_assoc before (x ∷ []) xs)
            (later read.0 (less_one read.1) us goes.1 (cons_tail x u xs (us ++ goes.1) p) (ap less_one q)
            (one_more before g x u us head (subst (λ d. Stands (d ++ u ∷ us) (last_gap (u ∷ us)) read.0) (append-nil before) st)))

pub derived : (terms : List Term) (selector : SelectorParts) → selector_of_terms terms ≡ Ok selector → IsSelector terms selector
derived terms selector read =
    subst (Holds (IsSelector terms)) read
    (reading_is nothing_yet gap.Nothing 0 terms [] [] terms refl refl
    (record { front = []; rest = []; parts = refl; before = at_start; current = begins refl refl refl }))
