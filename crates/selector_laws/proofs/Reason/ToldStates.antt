-- Where terms are refused, what the reason names stands behind some of them.
use Rattle.std.proofs.Common.{◌≡◌, ◌≤◌, ◌+◌, ℕ, zero, suc, Bool, true, false, not, Option, Some, None, Result, Ok, Err, List, [], ◌∷◌, ◌++◌, length, refl, sym, ap, ◌∙◌, subst, arith, codes}
use Rattle.std.specs.Prelude.{nat_le}
use Rattle.std.specs.List.{AllByRecursion}
use Rattle.std.proofs.lemmas.Bool.{true≢false}
use Rattle.std.proofs.lemmas.Bool.Decides.{nat_tests}
use Rattle.std.proofs.lemmas.List.{append-nil}
use Rattle.css_model.specs.declared.reason.Reason.{Reason}
use Rattle.css_model.specs.declared.reason.Reason.TheVariants.{TooManyCompounds, TooManySimples}
use Rattle.css_model.specs.declared.selector.Combinator.{Combinator}
use Rattle.css_model.specs.declared.selector.Combinator.TheVariants.{Inside}
use Rattle.css_model.specs.declared.selector.Pseudo.{Pseudo}
use Rattle.css_model.specs.declared.selector.Simple.{Simple}
use Rattle.css_model.specs.declared.selector.Test.{Test}
use Rattle.css_model.specs.declared.token.Gap.{Gap}
use Rattle.css_model.specs.declared.token.Gap.TheVariants as gap
use Rattle.css_model.specs.Lists.{less_one}
use Rattle.css_model.specs.Selectors.Compounds.{SoFar, and_element, and_simple, and_type, begin, begins_compound, by_compound, go_on, in_compound, nothing_yet, step, with_link}
use Rattle.css_model.specs.Selectors.Negations.{simple_at}
use Rattle.css_model.specs.Selectors.PseudoElements.{pseudo_element_at}
use Rattle.css_model.specs.Selectors.Reading.{finish, left_after, read_from, selector_of_terms, state_after, unless_refused}
use Rattle.css_model.specs.Selectors.Refusals.{Read}
use Rattle.css_model.specs.Selectors.Simples.{begins_simple}
use Rattle.css_model.specs.Selectors.Terms.{Term, combinator_of, right_behind}
use Rattle.css_model.specs.Selectors.Tokens.{is_function, is_word}
use Rattle.css_model.specs.Selectors.Types.{begins_type, type_at}
use Rattle.css_model.specs.Sheets.Limits.{max_compounds, max_simples, max_stepped}
use Rattle.css_model.specs.Text.Characters.{colon}
use Rattle.css_model.specs.Text.Kept.{is_white_gap}
use Rattle.css_model.specs.Text.Lexemes.{is_sign_of}
use Rattle.selector_laws.specs.Grammar.{IsCompound, IsFront, last_gap}
use Rattle.selector_laws.specs.Grammar.IsFront.{at_start, by_white}
use Rattle.selector_laws.specs.Limits.{stepped_in, stepped_in_chain}
use Rattle.selector_laws.proofs.ForCallers as selectors
use Rattle.selector_laws.proofs.ForCallers.{Current, Goes, HasRange, Holds, Keeps, KeepsRead, cons_head, cons_tail, gap_behind, keeps_link, keeps_nothing, one_more, some_simples, step_is, step_keeps}
use Rattle.selector_laws.specs.Reason.Refusals.{AreAllCompounds, AreAllSimples, HaveRead, IsBegun}
use Rattle.selector_laws.specs.Reason.Refusals.IsBegun.{nothing, some}
use Rattle.selector_laws.specs.Reason.Refusals.IsCompoundStart.{start as compound_start}
use Rattle.selector_laws.specs.Reason.Refusals.IsOpening.{nothing as opens_nothing, negation}
use Rattle.selector_laws.specs.Reason.Refusals.IsSimpleStart.{start as simple_start}
use Rattle.selector_laws.proofs.Reason.Calm.{IsCalm, stands_calm}
use Rattle.selector_laws.proofs.Reason.Places.{against_finds, against_first_finds, behind, here, not_allowed}
use Rattle.selector_laws.proofs.Reason.Told.{Tells, either, passed_on}
use Rattle.selector_laws.proofs.Reason.ToldTests.{In, IsFullAt, pseudo_element_tells, simple_tells, type_tells}

and_simple_tells : (P : Reason → Type 0) (s : SoFar) (read : Read Simple) → Tells P read → Tells P (and_simple s read)
and_simple_tells P s (Err reason) told = told
and_simple_tells P s (Ok read) told = tt

and_type_tells : (P : Reason → Type 0) (s : SoFar) (read : Result Test Reason) → Tells P read → Tells P (and_type s read)
and_type_tells P s (Err reason) told = told
and_type_tells P s (Ok read) told = tt

and_element_tells : (P : Reason → Type 0) (s : SoFar) (read : Read Pseudo) → Tells P read → Tells P (and_element s read)
and_element_tells P s (Err reason) told = told
and_element_tells P s (Ok read) told = tt

-- a state behind terms: they have no `[` at their end, they are derived, and the state keeps to the limits
record IsSoFar (done : List Term) (s : SoFar) : Type 0 where
  calm : IsCalm done
  read : HaveRead done s.chain s.compound
  keeps : Keeps s

full : (n m k : ℕ) → nat_le m n ≡ true → n ≤ m → k ≡ n → k ≡ m
full n m k at_least at_most is = let reached : m ≤ n = grind (arith, nat_tests) in omega (arith, reached, at_most, is)

full_plain : (done : List Term) (s : SoFar) → IsSoFar done s → IsFullAt s.stepped done
full_plain done s so reached = record {
  whole = done;
  opening = [];
  parts = sym (append-nil done);
  opens = opens_nothing;
  chain = s.chain;
  simples = s.compound;
  read = so.read;
  number = full s.stepped max_stepped (stepped_in_chain s.chain + stepped_in s.compound) reached so.keeps.stepped so.keeps.counted;
}

full_inside : (done : List Term) (s : SoFar) → IsSoFar done s → (x name : Term) → is_sign_of colon x.kind ≡ true → is_function name.kind ≡ true
    → is_word (codes "not") name.name ≡ true → IsFullAt s.stepped (done ++ x ∷ name ∷ [])
full_inside done s so x name colons calls word reached = record {
  whole = done;
  opening = x ∷ name ∷ [];
  parts = refl;
  opens = negation x name colons calls word;
  chain = s.chain;
  simples = s.compound;
  read = so.read;
  number = full s.stepped max_stepped (stepped_in_chain s.chain + stepped_in s.compound) reached so.keeps.stepped so.keeps.counted;
}

all_simples : (done : List Term) (s : SoFar) → IsSoFar done s → nat_le max_simples (length s.compound) ≡ true → AreAllSimples done
all_simples done s so reached =
    record { chain = s.chain; simples = s.compound; read = so.read; number = full (length s.compound) max_simples (length s.compound) reached so.keeps.short refl }

go_on_tells : (done : List Term) (s : SoFar) (x : Term) (xs : List Term) → IsSoFar done s → Tells (In done (x ∷ xs)) (go_on s x xs)
go_on_tells done s x xs so =
    let P = In done (x ∷ xs) in
    either P (begins_simple x xs) _ _
    (λ h. either P (nat_le max_simples (length s.compound)) _ _ (λ k. here done TooManySimples (x ∷ xs) (all_simples done s so k, simple_start x xs h))
    (λ k. and_simple_tells P s (simple_at s.stepped x xs)
    (simple_tells done s.stepped x xs so.calm (full_plain done s so) (full_inside done s so x) h)))
    (λ h. either P (is_sign_of colon x.kind) _ _
    (λ k. and_element_tells P s (pseudo_element_at (right_behind x.gap xs)) (pseudo_element_tells done x xs x.gap so.calm refl k))
    (λ k. against_finds done x xs so.calm.apart))

not_false : (b : Bool) → not b ≡ false → b ≡ true
not_false true h = refl
not_false false h = absurd (true≢false h)

all_compounds : (done : List Term) (s : SoFar) → IsSoFar done s → s.compound ≡ [] → nat_le max_compounds (length s.chain) ≡ true → AreAllCompounds done
all_compounds done s so none reached = record {
  chain = s.chain;
  read = subst (HaveRead done s.chain) none so.read;
  number = full (length s.chain) max_compounds (length s.chain) reached so.keeps.few refl;
}

begin_tells : (done : List Term) (s : SoFar) (x : Term) (xs : List Term) → IsSoFar done s → s.compound ≡ [] → Tells (In done (x ∷ xs)) (begin s x xs)
begin_tells done s x xs so none =
    let P = In done (x ∷ xs) in
    either P (not (begins_compound x)) _ _ (λ h. against_finds done x xs so.calm.apart)
    (λ h. either P (nat_le max_compounds (length s.chain)) _ _
    (λ k. here done TooManyCompounds (x ∷ xs) (all_compounds done s so none k, compound_start x xs (not_false (begins_compound x) h)))
    (λ k. either P (begins_type x) _ _ (λ l. and_type_tells P s (type_at x) (type_tells done x xs)) (λ l. go_on_tells done s x xs so)))

-- what is read so far, by what stands
read_some : (done front rest : List Term) (s : SoFar) → done ≡ front ++ rest → IsFront front s.chain s.links → IsBegun rest s.compound → HaveRead done s.chain s.compound
read_some done front rest s parts before begun = record { front = front; rest = rest; links = s.links; parts = parts; before = before; begun = begun }

-- behind white space a combinator is read
linked : (done front rest : List Term) (s : SoFar) → done ≡ front ++ rest → IsFront front s.chain s.links → IsCompound rest s.compound → is_white_gap (last_gap rest) ≡ true
    → IsCalm done → Keeps (with_link s Inside) → IsSoFar done (with_link s Inside)
linked done front rest s parts before compound white calm keeps = record {
  calm = calm;
  read = record {
    front = done;
    rest = [];
    links = s.links ++ Inside ∷ [];
    parts = sym (append-nil done);
    before = subst (λ (ds : List Term). IsFront ds (s.chain ++ s.compound ∷ []) (s.links ++ Inside ∷ [])) (sym parts) (by_white front rest s.chain s.links s.compound before compound white);
    begun = nothing refl refl;
  };
  keeps = keeps;
}

in_compound_tells : (done front rest : List Term) (s : SoFar) (o : Option Combinator) (g : Gap) (x : Term) (xs : List Term) → IsCalm done → done ≡ front ++ rest
    → IsFront front s.chain s.links → IsCompound rest s.compound → g ≡ last_gap rest → Keeps s → 1 ≤ length s.compound
    → Tells (In done (x ∷ xs)) (in_compound s o g x xs)
in_compound_tells done front rest s (Some link) g x xs calm parts before compound gaps keeps some_ = tt
in_compound_tells done front rest s None gap.White x xs calm parts before compound gaps keeps some_ =
    begin_tells done (with_link s Inside) x xs (linked done front rest s parts before compound (sym (ap is_white_gap gaps)) calm (keeps_link s Inside keeps some_)) refl
in_compound_tells done front rest s None gap.Nothing x xs calm parts before compound gaps keeps some_ =
    go_on_tells done s x xs (record { calm = calm; read = read_some done front rest s parts before (some compound (sym (ap is_white_gap gaps))); keeps = keeps })
in_compound_tells done front rest s None gap.Comments x xs calm parts before compound gaps keeps some_ =
    go_on_tells done s x xs (record { calm = calm; read = read_some done front rest s parts before (some compound (sym (ap is_white_gap gaps))); keeps = keeps })

different_some : {P : Type 0} {rest : List Term} {c : List Simple} → IsCompound rest c → c ≡ [] → P
different_some compound is =
    let none = ap (λ ys. length ys) is in
    absurd (omega (arith, none, some_simples _ _ compound))

different : {P : Type 0} (c : Simple) (cs : List Simple) → [] ≡ c ∷ cs → P
different c cs e = absurd (let none : ⊥ = cc in none)

by_compound_tells : (done : List Term) (s : SoFar) (c : List Simple) (g : Gap) (x : Term) (xs : List Term) → s.compound ≡ c → s.pseudo ≡ None → selectors.Stands done g s → Keeps s
    → Tells (In done (x ∷ xs)) (by_compound s c g x xs)
by_compound_tells done s c g x xs is pseudo stands keeps = cases c is stands.current
  where
    calm : IsCalm done
    calm = stands_calm done g s stands

    cases : (c : List Simple) → s.compound ≡ c → Current stands.rest g s → Tells (In done (x ∷ xs)) (by_compound s c g x xs)
    cases [] is (Current.begins empty none p) =
        begin_tells done s x xs (record { calm = calm; read = read_some done stands.front stands.rest s stands.parts stands.before (nothing empty none); keeps = keeps }) is
    cases [] is (Current.goes_on compound gaps p) = different_some compound is
    cases [] is (Current.ends element l p) = absurd (let none : ⊥ = cc in none)
    cases (c ∷ cs) is (Current.begins empty none p) = different c cs (sym none ∙ is)
    cases (c ∷ cs) is (Current.goes_on compound gaps p) =
        let len : length s.compound ≡ suc (length cs) = ap (λ ys. length ys) is in
        in_compound_tells done stands.front stands.rest s (combinator_of x.kind) g x xs calm stands.parts stands.before compound gaps keeps (omega (arith, len))
    cases (c ∷ cs) is (Current.ends element l p) = absurd (let none : ⊥ = cc in none)

step_tells : (done : List Term) (s : SoFar) (pseudo : Option Pseudo) (g : Gap) (x : Term) (xs : List Term) → s.pseudo ≡ pseudo → selectors.Stands done g s → Keeps s
    → Tells (In done (x ∷ xs)) (step s pseudo g x xs)
step_tells done s (Some p) g x xs is stands keeps = against_first_finds done g (x ∷ xs) (stands_calm done g s stands).apart
step_tells done s None g x xs is stands keeps = by_compound_tells done s s.compound g x xs refl is stands keeps

finish_tells : (done : List Term) (s : SoFar) (c : List Simple) → Tells (In done []) (finish s c)
finish_tells done s [] = not_allowed done []
finish_tells done s (c ∷ cs) = tt

reading_tells : (s : SoFar) (g : Gap) (left : ℕ) (xs before middle rest : List Term) → xs ≡ middle ++ rest → length middle ≡ left
    → selectors.Stands (before ++ middle) (gap_behind g middle) s → Keeps s → AllByRecursion HasRange xs → Tells (In before xs) (read_from s g left xs)
reading_tells s g left [] before middle rest parts size stands keeps ranged = finish_tells before s s.compound
reading_tells s g (suc left) (x ∷ xs) before [] rest parts size stands keeps ranged = absurd (omega (arith, size))
reading_tells s g (suc left) (x ∷ xs) before (m ∷ ms) rest parts size stands keeps ranged =
    passed_on (In (before ++ x ∷ []) xs) (In before (x ∷ xs)) (read_from s x.gap left xs)
    (reading_tells s x.gap left xs (before ++ x ∷ []) ms rest (cons_tail x m xs (ms ++ rest) parts) (omega (arith, size))
    (one_more before g x m ms (cons_head x m xs (ms ++ rest) parts) stands) keeps ranged.1)
    (λ r f. behind before r x xs f)
reading_tells s g zero (x ∷ xs) before (m ∷ ms) rest parts size stands keeps ranged = absurd (omega (arith, size))
reading_tells s g zero (x ∷ xs) before [] rest parts size stands keeps ranged =
    answered (step s s.pseudo g x xs) (step_tells before s s.pseudo g x xs refl now keeps) (step_is s s.pseudo g x xs before refl now) (step_keeps s s.pseudo g x xs keeps ranged.1)
    (λ new n middle later p q st kept. reading_tells new x.gap n xs (before ++ x ∷ []) middle later p q st kept ranged.1)
  where
    now : selectors.Stands before g s
    now = subst (λ (ds : List Term). selectors.Stands ds g s) (append-nil before) stands

    answered : (read : Read SoFar) → Tells (In before (x ∷ xs)) read → Holds (Goes before (x ∷ xs)) read → Holds KeepsRead read
        → ((new : SoFar) (n : ℕ) (middle later : List Term) → xs ≡ middle ++ later → length middle ≡ n → selectors.Stands ((before ++ x ∷ []) ++ middle) (gap_behind x.gap middle) new
        → Keeps new → Tells (In (before ++ x ∷ []) xs) (read_from new x.gap n xs))
        → Tells (In before (x ∷ xs)) (unless_refused read (read_from (state_after s read) x.gap (left_after read) xs))
    answered (Err reason) told goes kept later = told
    answered (Ok read) told goes kept later =
        passed_on (In (before ++ x ∷ []) xs) (In before (x ∷ xs)) (read_from read.0 x.gap (less_one read.1) xs) (taken goes.0 goes.2 goes.3 goes.4 goes.5) (λ r f. behind before r x xs f)
      where
        taken : (used : List Term) → x ∷ xs ≡ used ++ goes.1 → length used ≡ read.1 → 1 ≤ length used → selectors.Stands (before ++ used) (last_gap used) read.0
            → Tells (In (before ++ x ∷ []) xs) (read_from read.0 x.gap (less_one read.1) xs)
        taken [] p q some_ st = absurd (omega (arith, some_))
        taken (u ∷ us) p q some_ st =
            later read.0 (less_one read.1) us goes.1 (cons_tail x u xs (us ++ goes.1) p) (ap less_one q) (one_more before g x u us (cons_head x u xs (us ++ goes.1) p) st) kept

pub terms_tell : (xs : List Term) → AllByRecursion HasRange xs → Tells (In [] xs) (selector_of_terms xs)
terms_tell xs ranged =
    reading_tells nothing_yet gap.Nothing 0 xs [] [] xs refl refl
    (record { front = []; rest = []; parts = refl; before = at_start; current = Current.begins refl refl refl }) keeps_nothing ranged
