-- What is read so far keeps to the limits, and so does the selector at the end.
use Rattle.std.proofs.Common.{◌≡◌, ◌≤◌, ◌<◌, ◌+◌, ℕ, zero, suc, Bool, true, false, not, cond, Option, Some, None, Result, Ok, Err, List, [], ◌∷◌, ◌++◌, length, refl, sym, ap, ◌∙◌, subst, arith, length-append}
use Rattle.std.specs.Prelude.{nat_le}
use Rattle.std.specs.List.{AllByRecursion}
use Rattle.std.proofs.lemmas.Bool.Decides.{nat_tests}
use Rattle.std.proofs.lemmas.List.{length-reverse}
use Rattle.std.proofs.lemmas.List.Sums.{sum_by-append}
use Rattle.css_model.specs.declared.reason.Reason.{Reason}
use Rattle.css_model.specs.declared.selector.Combinator.{Combinator}
use Rattle.css_model.specs.declared.selector.Combinator.TheVariants.{Inside}
use Rattle.css_model.specs.declared.selector.Pseudo.{Pseudo}
use Rattle.css_model.specs.declared.selector.Simple.{Simple}
use Rattle.css_model.specs.declared.selector.Test.{Test}
use Rattle.css_model.specs.declared.token.Gap.{Gap}
use Rattle.css_model.specs.declared.token.Gap.TheVariants as gap
use Rattle.css_model.specs.Selectors.Compounds.{SoFar, and_element, and_simple, and_type, begin, begins_compound, by_compound, go_on, in_compound, is_stepped_test, nothing_yet, or_universal, step, with_element, with_link, with_simple}
use Rattle.css_model.specs.Selectors.Negations.{simple_at}
use Rattle.css_model.specs.Selectors.PseudoElements.{pseudo_element_at}
use Rattle.css_model.specs.Selectors.Reading.{finish, left_after, read_from, state_after, unless_refused}
use Rattle.css_model.specs.Selectors.Refusals.{Read}
use Rattle.css_model.specs.Selectors.Simples.{begins_simple}
use Rattle.css_model.specs.Selectors.Terms.{Term, combinator_of, right_behind}
use Rattle.css_model.specs.Selectors.Types.{begins_type, type_at}
use Rattle.css_model.specs.Sheets.Limits.{max_compounds, max_simples, max_stepped}
use Rattle.css_model.specs.Text.Characters.{colon}
use Rattle.css_model.specs.Text.Lexemes.{is_sign_of}
use Rattle.selector_laws.specs.Limits.{KeepsCompound, KeepsLimits, KeepsTest, stepped_in, stepped_in_chain}
use Rattle.selector_laws.proofs.Answered.{Holds, either}
use Rattle.selector_laws.proofs.KeptTests.{Fits, FitsSimple, HasRange, simple_fits, type_fits}
use Rattle.selector_laws.proofs.Lists.{all_append, all_reverse, sum_reverse}

pub record Keeps (s : SoFar) : Type 0 where
  pub chain : AllByRecursion KeepsCompound s.chain
  pub links : length s.links ≡ length s.chain
  pub few : length s.chain ≤ max_compounds
  pub one_more : 1 ≤ length s.compound → length s.chain < max_compounds
  pub short : length s.compound ≤ max_simples
  pub tests : AllByRecursion (λ simple. KeepsTest simple.test) s.compound
  pub counted : stepped_in_chain s.chain + stepped_in s.compound ≡ s.stepped
  pub stepped : s.stepped ≤ max_stepped

abbrev pub KeepsRead : SoFar × ℕ → Type 0
KeepsRead read = Keeps read.0

pub keeps_nothing : Keeps nothing_yet
keeps_nothing = record { chain = tt; links = refl; few = omega arith; one_more = λ h. absurd (omega arith); short = omega arith; tests = tt; counted = refl; stepped = omega arith }

one_stepped : (stepped : ℕ) (test : Test) → Fits stepped test → stepped ≤ max_stepped → stepped + cond (is_stepped_test test) 1 0 ≤ max_stepped
one_stepped stepped test fits few = cases (is_stepped_test test) fits.one_more
  where
    cases : (b : Bool) → (b ≡ true → stepped < max_stepped) → stepped + cond b 1 0 ≤ max_stepped
    cases true more = let h = more refl in omega (arith, h)
    cases false more = omega (arith, few)

keeps_simple : (s : SoFar) (simple : Simple) → Keeps s → length s.chain < max_compounds → length s.compound < max_simples → Fits s.stepped simple.test → Keeps (with_simple s simple)
keeps_simple s simple keeps room space fits =
    let longer = length-append s.compound (simple ∷ []) in
    let more = sum_by-append (λ x. cond (is_stepped_test x.test) 1 0) s.compound (simple ∷ []) in
    record {
      chain = keeps.chain;
      links = keeps.links;
      few = keeps.few;
      one_more = λ h. room;
      short = omega (arith, longer, space);
      tests = all_append (λ x. KeepsTest x.test) s.compound (simple ∷ []) keeps.tests (fits.keeps, tt);
      counted = omega (arith, more, keeps.counted);
      stepped = one_stepped s.stepped simple.test fits keeps.stepped;
    }

pub keeps_link : (s : SoFar) (link : Combinator) → Keeps s → 1 ≤ length s.compound → Keeps (with_link s link)
keeps_link s link keeps some =
    let room = keeps.one_more some in
    let longer = length-append s.chain (s.compound ∷ []) in
    let links = length-append s.links (link ∷ []) in
    let more = sum_by-append stepped_in s.chain (s.compound ∷ []) in
    record {
      chain = all_append KeepsCompound s.chain (s.compound ∷ []) keeps.chain (record { some = some; few = keeps.short; tests = keeps.tests }, tt);
      links = omega (arith, links, longer, keeps.links);
      few = omega (arith, longer, room);
      one_more = λ h. absurd (omega (arith, h));
      short = omega arith;
      tests = tt;
      counted = omega (arith, more, keeps.counted);
      stepped = keeps.stepped;
    }

keeps_element : (s : SoFar) (element : Pseudo) → Keeps s → length s.chain < max_compounds → Keeps (with_element s element)
keeps_element s element keeps room = by s.compound refl
  where
    by : (c : List Simple) → s.compound ≡ c → Keeps (with_element s element)
    by [] is =
        let none : stepped_in s.compound ≡ 0 = ap stepped_in is in
        let one : stepped_in (or_universal s.compound) ≡ 0 = ap (λ c. stepped_in (or_universal c)) is in
        let len : length (or_universal s.compound) ≡ 1 = ap (λ c. length (or_universal c)) is in
        record {
          chain = keeps.chain;
          links = keeps.links;
          few = keeps.few;
          one_more = λ h. room;
          short = omega (arith, len);
          tests = subst (λ c. AllByRecursion (λ x. KeepsTest x.test) (or_universal c)) (sym is) (tt, tt);
          counted = omega (arith, none, one, keeps.counted);
          stepped = keeps.stepped;
        }
    by (c ∷ cs) is =
        let same : or_universal s.compound ≡ s.compound = ap or_universal is ∙ sym is in
        let counts : stepped_in (or_universal s.compound) ≡ stepped_in s.compound = ap stepped_in same in
        let len : length (or_universal s.compound) ≡ length s.compound = ap (λ xs. length xs) same in
        record {
          chain = keeps.chain;
          links = keeps.links;
          few = keeps.few;
          one_more = λ h. room;
          short = omega (arith, len, keeps.short);
          tests = subst (AllByRecursion (λ x. KeepsTest x.test)) (sym same) keeps.tests;
          counted = omega (arith, counts, keeps.counted);
          stepped = keeps.stepped;
        }

and_simple_keeps : (s : SoFar) (read : Read Simple) → Keeps s → length s.chain < max_compounds → length s.compound < max_simples → Holds (FitsSimple s.stepped) read → Holds KeepsRead (and_simple s read)
and_simple_keeps s (Err reason) keeps room space fits = tt
and_simple_keeps s (Ok read) keeps room space fits = keeps_simple s read.0 keeps room space fits

and_type_keeps : (s : SoFar) (read : Result Test Reason) → Keeps s → length s.chain < max_compounds → length s.compound < max_simples → Holds (Fits s.stepped) read → Holds KeepsRead (and_type s read)
and_type_keeps s (Err reason) keeps room space fits = tt
and_type_keeps s (Ok test) keeps room space fits = keeps_simple s (record { negated = false; test = test }) keeps room space fits

and_element_keeps : (s : SoFar) (read : Read Pseudo) → Keeps s → length s.chain < max_compounds → Holds KeepsRead (and_element s read)
and_element_keeps s (Err reason) keeps room = tt
and_element_keeps s (Ok read) keeps room = keeps_element s read.0 keeps room

below : (n m : ℕ) → nat_le m n ≡ false → n < m
below n m h = grind (arith, nat_tests)

go_on_keeps : (s : SoFar) (x : Term) (xs : List Term) → Keeps s → length s.chain < max_compounds → AllByRecursion HasRange xs → Holds KeepsRead (go_on s x xs)
go_on_keeps s x xs keeps room ranged =
    either KeepsRead (begins_simple x xs) _ _
    (λ h. either KeepsRead (nat_le max_simples (length s.compound)) _ _ (λ k. tt)
    (λ k. and_simple_keeps s (simple_at s.stepped x xs) keeps room (below (length s.compound) max_simples k) (simple_fits s.stepped x xs ranged)))
    (λ h. either KeepsRead (is_sign_of colon x.kind) _ _ (λ k. and_element_keeps s (pseudo_element_at (right_behind x.gap xs)) keeps room) (λ k. tt))

begin_keeps : (s : SoFar) (x : Term) (xs : List Term) → Keeps s → s.compound ≡ [] → AllByRecursion HasRange xs → Holds KeepsRead (begin s x xs)
begin_keeps s x xs keeps none ranged =
    let empty : length s.compound ≡ 0 = ap (λ c. length c) none in
    either KeepsRead (not (begins_compound x)) _ _ (λ h. tt)
    (λ h. either KeepsRead (nat_le max_compounds (length s.chain)) _ _ (λ k. tt)
    (λ k. let room = below (length s.chain) max_compounds k in
    either KeepsRead (begins_type x) _ _ (λ l. and_type_keeps s (type_at x) keeps room (omega (arith, empty)) (type_fits s.stepped x))
    (λ l. go_on_keeps s x xs keeps room ranged)))

in_compound_keeps : (s : SoFar) (o : Option Combinator) (g : Gap) (x : Term) (xs : List Term) → Keeps s → 1 ≤ length s.compound → AllByRecursion HasRange xs → Holds KeepsRead (in_compound s o g x xs)
in_compound_keeps s (Some link) g x xs keeps some ranged = keeps_link s link keeps some
in_compound_keeps s None gap.White x xs keeps some ranged = begin_keeps (with_link s Inside) x xs (keeps_link s Inside keeps some) refl ranged
in_compound_keeps s None gap.Nothing x xs keeps some ranged = go_on_keeps s x xs keeps (keeps.one_more some) ranged
in_compound_keeps s None gap.Comments x xs keeps some ranged = go_on_keeps s x xs keeps (keeps.one_more some) ranged

by_compound_keeps : (s : SoFar) (c : List Simple) (g : Gap) (x : Term) (xs : List Term) → s.compound ≡ c → Keeps s → AllByRecursion HasRange xs → Holds KeepsRead (by_compound s c g x xs)
by_compound_keeps s [] g x xs is keeps ranged = begin_keeps s x xs keeps is ranged
by_compound_keeps s (c ∷ cs) g x xs is keeps ranged =
    let len : length s.compound ≡ suc (length cs) = ap (λ xs. length xs) is in
    in_compound_keeps s (combinator_of x.kind) g x xs keeps (omega (arith, len)) ranged

pub step_keeps : (s : SoFar) (pseudo : Option Pseudo) (g : Gap) (x : Term) (xs : List Term) → Keeps s → AllByRecursion HasRange xs → Holds KeepsRead (step s pseudo g x xs)
step_keeps s (Some p) g x xs keeps ranged = tt
step_keeps s None g x xs keeps ranged = by_compound_keeps s s.compound g x xs refl keeps ranged

finish_keeps : (s : SoFar) (c : List Simple) → s.compound ≡ c → Keeps s → Holds KeepsLimits (finish s c)
finish_keeps s [] is keeps = tt
finish_keeps s (c ∷ cs) is keeps =
    let len : length s.compound ≡ suc (length cs) = ap (λ xs. length xs) is in
    let room = keeps.one_more (omega (arith, len)) in
    let whole = s.chain ++ (c ∷ cs) ∷ [] in
    let longer = length-append s.chain ((c ∷ cs) ∷ []) in
    let turned = length-reverse whole in
    let links = length-reverse s.links in
    let counts : stepped_in s.compound ≡ stepped_in (c ∷ cs) = ap stepped_in is in
    let more = sum_by-append stepped_in s.chain ((c ∷ cs) ∷ []) in
    let all = sum_reverse stepped_in whole in
    record {
      some = omega (arith, turned, longer);
      few = omega (arith, turned, longer, room);
      links = omega (arith, turned, longer, links, keeps.links);
      compounds = all_reverse KeepsCompound whole
          (all_append KeepsCompound s.chain ((c ∷ cs) ∷ []) keeps.chain
          (record { some = omega arith; few = omega (arith, len, keeps.short); tests = subst (AllByRecursion (λ x. KeepsTest x.test)) is keeps.tests }, tt));
      stepped = omega (arith, all, more, counts, keeps.counted, keeps.stepped);
    }

pub reading_keeps : (s : SoFar) (g : Gap) (left : ℕ) (xs : List Term) → Keeps s → AllByRecursion HasRange xs → Holds KeepsLimits (read_from s g left xs)
reading_keeps s g left [] keeps ranged = finish_keeps s s.compound refl keeps
reading_keeps s g (suc left) (x ∷ xs) keeps ranged = reading_keeps s x.gap left xs keeps ranged.1
reading_keeps s g zero (x ∷ xs) keeps ranged =
    answered (step s s.pseudo g x xs) (step_keeps s s.pseudo g x xs keeps ranged.1) (λ new n kept. reading_keeps new x.gap n xs kept ranged.1)
  where
    answered : (read : Read SoFar) → Holds KeepsRead read → ((new : SoFar) (n : ℕ) → Keeps new → Holds KeepsLimits (read_from new x.gap n xs))
        → Holds KeepsLimits (unless_refused read (read_from (state_after s read) x.gap (left_after read) xs))
    answered (Err reason) kept later = tt
    answered (Ok read) kept later = later read.0 (left_after (Ok read)) kept
