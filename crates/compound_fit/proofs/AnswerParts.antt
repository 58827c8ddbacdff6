-- The attributes that are given, from the answers for each name.
use Rattle.std.proofs.Common.{◌≡◌, ◌⊎◌, ℕ, Bool, true, false, ◌||◌, cond, suc, ◌+◌, ◌<◌, length, take, drop, drop-cons, get_or, List, [], ◌∷◌, ◌++◌, map, Option, Some, None, Err, refl, sym, ap, subst, inl, inr, ◌∙◌}
use Rattle.std.proofs.lemmas.Bool.{false≢true, true≢false, or_parts, or_cases}
use Rattle.std.proofs.lemmas.List.{map-append}
use Rattle.std.proofs.lemmas.List.Elements.{All-append, All-head, All-tail, All-nil, All-cons}
use Rattle.std.specs.Prelude.{codes}
use Rattle.std.specs.Bool.{MatchBool}
use Rattle.std.specs.Cmp.Lexicographic.{slice_cmp, bytes_decides, texts_ties}
use Rattle.std.specs.declared.cmp.Ordering.TheVariants.{Less}
use Rattle.std.specs.Ordering.{is_eq, nat_cmp}
use Rattle.std.specs.List.{All, AllByRecursion, list_all}
use Rattle.std.specs.List.Sorted.{IsStrictlySortedBy}
use Rattle.css_model.specs.declared.selector.AttrTest.{AttrTest}
use Rattle.css_model.specs.Documents.Document.{IsText}
use Rattle.css_model.specs.Lists.{same_text}
use Rattle.attr_values.specs.declared.solve.Fits.{Fits}
use Rattle.attr_values.specs.declared.solve.Fits.TheVariants.{Absent, Value, Nothing}
use Rattle.attr_values.specs.Asked.{PassesAsAsked, is_asked}
use Rattle.attr_values.specs.Separators.{spaces_taken}
use Rattle.attr_values.specs.Solved.{Solves}
use Rattle.list_facts.proofs.SliceRange.{take_parts}
use Rattle.compound_fit.specs.declared.compound.FitError.{FitError}
use Rattle.compound_fit.specs.declared.compound.FitError.TheVariants.{SpacesTaken, NoMemory}
use Rattle.compound_fit.specs.Answers.{AreAnswers, AreTexts, IsRefused, IsSolvedName}
use Rattle.compound_fit.specs.Attributes.{AttributeFits, given, given_one, has_nothing, is_nothing, tests_of, value_of}
use Rattle.compound_fit.specs.Fitting.{AreSolved, SolvesName, SpacesAreLeft, as_answer}
use Rattle.compound_fit.specs.FreeNames.{is_among}
use Rattle.compound_fit.specs.Ids.{ArePlain, SolvesId}
use Rattle.compound_fit.proofs.Members.{same_itself}
use Rattle.compound_fit.proofs.NameParts.{name_is, tests_are_of, unnamed}

names : List (List ℕ × Fits) → List (List ℕ)
names answers = map (λ a. a.0) answers

-- a name without an answer gets no value
value_none : (answers : List (List ℕ × Fits)) (name : List ℕ) → is_among (names answers) name ≡ false → value_of (given answers) name ≡ None
unfolding names
value_none [] name none = refl
value_none (a ∷ answers) name none =
    let both = or_parts (same_text a.0 name) (is_among (map (λ a. a.0) answers) name) none in
    cases a.1 (value_none answers name both.1) both.0
  where
    cases : (f : Fits) → value_of (given answers) name ≡ None → same_text a.0 name ≡ false → value_of (given_one a.0 f (given answers)) name ≡ None
    cases Absent later other = later
    cases Nothing later other = later
    cases (Value v) later other = subst (λ (b : Bool). cond b (Some v) (value_of (given answers) name) ≡ None) (sym other) later

-- the names behind a first one are others
behind : (n name : List ℕ) (ns : List (List ℕ)) → n ≡ name → AllByRecursion (λ m. slice_cmp nat_cmp n m ≡ Less) ns → is_among ns name ≡ false
behind n name [] same less = refl
behind n name (m ∷ ns) same less = cases (same_text m name) refl (behind n name ns same less.1)
  where
    apart : n ≡ m → ⊥
    apart e = not_less (subst (λ (t : List ℕ). slice_cmp nat_cmp n t ≡ Less) (sym e) less.0)
      where
        not_less : slice_cmp nat_cmp n n ≡ Less → ⊥
        not_less h = true≢false (sym (same_itself n) ∙ texts_ties n n ∙ ap is_eq h)

    cases : (b : Bool) → same_text m name ≡ b → is_among ns name ≡ false → (b || is_among ns name) ≡ false
    cases true is later = absurd (apart (same ∙ sym ((bytes_decides m name).0 is)))
    cases false is later = later

-- a name with an answer gets what the answer says
answered : (T : List ℕ → List (AttrTest × Bool)) (answers : List (List ℕ × Fits)) (name : List ℕ) → IsStrictlySortedBy (slice_cmp nat_cmp) (names answers) →
    All (λ a. SolvesName a.0 a.1 (T a.0)) answers → has_nothing answers ≡ false → is_among (names answers) name ≡ true → SolvesName name (as_answer (value_of (given answers) name)) (T name)
unfolding names IsStrictlySortedBy
answered T [] name sorted solved some among = absurd (false≢true among)
answered T (a ∷ answers) name sorted solved some among =
    let both = or_parts (is_nothing a.1) (has_nothing answers) some in
    cases (same_text a.0 name) refl a.1 (All-head (λ a. SolvesName a.0 a.1 (T a.0)) a answers solved) both.0 among
    (answered T answers name sorted.1 (All-tail (λ a. SolvesName a.0 a.1 (T a.0)) a answers solved) both.1)
  where
    cases : (b : Bool) → same_text a.0 name ≡ b → (f : Fits) → SolvesName a.0 f (T a.0) → is_nothing f ≡ false → (b || is_among (map (λ a. a.0) answers) name) ≡ true →
        (is_among (map (λ a. a.0) answers) name ≡ true → SolvesName name (as_answer (value_of (given answers) name)) (T name)) →
        SolvesName name (as_answer (value_of (given_one a.0 f (given answers)) name)) (T name)
    cases true is Nothing here bad among later = absurd (true≢false bad)
    cases true is (Value v) here ok among later =
        subst (λ (o : Option (List ℕ)). SolvesName name (as_answer o) (T name)) (ap (λ (b : Bool). cond b (Some v) (value_of (given answers) name)) (sym is))
        (subst (λ (n : List ℕ). SolvesName n (Value v) (T n)) ((bytes_decides a.0 name).0 is) here)
    cases true is Absent here ok among later =
        subst (λ (o : Option (List ℕ)). SolvesName name (as_answer o) (T name)) (sym (value_none answers name (behind a.0 name (map (λ a. a.0) answers) ((bytes_decides a.0 name).0 is) sorted.0)))
        (subst (λ (n : List ℕ). SolvesName n Absent (T n)) ((bytes_decides a.0 name).0 is) here)
    cases false is Nothing here bad among later = absurd (true≢false bad)
    cases false is Absent here ok among later = later among
    cases false is (Value v) here ok among later =
        subst (λ (o : Option (List ℕ)). SolvesName name (as_answer o) (T name)) (ap (λ (b : Bool). cond b (Some v) (value_of (given answers) name)) (sym is)) (later among)

-- a name without tests stays away
none_asked : (name : List ℕ) → SolvesName name Absent []
none_asked name = cases (same_text name (codes "id"))
  where
    cases : (b : Bool) → MatchBool b (SolvesId Absent []) ((spaces_taken [] ≡ false) × Solves Absent [])
    cases true = refl
    cases false = (refl, refl)

-- the names of what is given
given_below : (n : List ℕ) (answers : List (List ℕ × Fits)) → AllByRecursion (λ m. slice_cmp nat_cmp n m ≡ Less) (names answers) → AllByRecursion (λ m. slice_cmp nat_cmp n m ≡ Less) (map (λ p. p.0) (given answers))
unfolding names
given_below n [] less = tt
given_below n (a ∷ answers) less = cases a.1 (given_below n answers less.1)
  where
    cases : (f : Fits) → AllByRecursion (λ m. slice_cmp nat_cmp n m ≡ Less) (map (λ p. p.0) (given answers)) → AllByRecursion (λ m. slice_cmp nat_cmp n m ≡ Less) (map (λ p. p.0) (given_one a.0 f (given answers)))
    cases Absent later = later
    cases Nothing later = later
    cases (Value v) later = (less.0, later)

given_ascends : (answers : List (List ℕ × Fits)) → IsStrictlySortedBy (slice_cmp nat_cmp) (names answers) → IsStrictlySortedBy (slice_cmp nat_cmp) (map (λ p. p.0) (given answers))
unfolding names IsStrictlySortedBy
given_ascends [] sorted = tt
given_ascends (a ∷ answers) sorted = cases a.1 (given_ascends answers sorted.1)
  where
    cases : (f : Fits) → IsStrictlySortedBy (slice_cmp nat_cmp) (map (λ p. p.0) (given answers)) → IsStrictlySortedBy (slice_cmp nat_cmp) (map (λ p. p.0) (given_one a.0 f (given answers)))
    cases Absent later = later
    cases Nothing later = later
    cases (Value v) later = (given_below a.0 answers sorted.0, later)

pub given_solves : (answers : List (List ℕ × Fits)) (tests : List (AttrTest × Bool)) → AreAnswers answers tests → has_nothing answers ≡ false → AreSolved (given answers) tests
unfolding names
given_solves answers tests are some = record { each = each; ascending = given_ascends answers are.names.ascending }
  where
    each : (name : List ℕ) → SolvesName name (as_answer (value_of (given answers) name)) (tests_of name tests)
    each name = cases (is_among (map (λ a. a.0) answers) name) refl
      where
        cases : (b : Bool) → is_among (map (λ a. a.0) answers) name ≡ b → SolvesName name (as_answer (value_of (given answers) name)) (tests_of name tests)
        cases true among = answered (λ n. tests_of n tests) answers name are.names.ascending are.solved some among
        cases false none =
            subst (λ (ts : List (AttrTest × Bool)). SolvesName name (as_answer (value_of (given answers) name)) ts) (sym (unnamed (map (λ a. a.0) answers) tests name are.names none))
            (subst (λ (o : Option (List ℕ)). SolvesName name (as_answer o) []) (sym (value_none answers name none)) (none_asked name))

-- no attribute but `id` has its white spaces taken
left_of : (T : List ℕ → List (AttrTest × Bool)) (answers : List (List ℕ × Fits)) (name : List ℕ) → All (λ a. SolvesName a.0 a.1 (T a.0)) answers → is_among (names answers) name ≡ true →
    same_text name (codes "id") ≡ false → spaces_taken (T name) ≡ false
unfolding names
left_of T [] name solved among other = absurd (false≢true among)
left_of T (a ∷ answers) name solved among other =
    cases (or_cases (same_text a.0 name) (is_among (map (λ a. a.0) answers) name) among) (left_of T answers name (All-tail (λ a. SolvesName a.0 a.1 (T a.0)) a answers solved))
  where
    here : same_text a.0 name ≡ true → spaces_taken (T name) ≡ false
    here is =
        let solves : SolvesName name a.1 (T name) = subst (λ (n : List ℕ). SolvesName n a.1 (T n)) ((bytes_decides a.0 name).0 is) (All-head (λ a. SolvesName a.0 a.1 (T a.0)) a answers solved) in
        (subst (λ (b : Bool). MatchBool b (SolvesId a.1 (T name)) ((spaces_taken (T name) ≡ false) × Solves a.1 (T name))) other solves).0

    cases : (same_text a.0 name ≡ true) ⊎ (is_among (map (λ a. a.0) answers) name ≡ true) →
        (is_among (map (λ a. a.0) answers) name ≡ true → same_text name (codes "id") ≡ false → spaces_taken (T name) ≡ false) → spaces_taken (T name) ≡ false
    cases (inl is) later = here is
    cases (inr there) later = later there other

pub spaces_left : (answers : List (List ℕ × Fits)) (tests : List (AttrTest × Bool)) → AreAnswers answers tests → SpacesAreLeft tests
unfolding names
spaces_left answers tests are name other = cases (is_among (map (λ a. a.0) answers) name) refl
  where
    cases : (b : Bool) → is_among (map (λ a. a.0) answers) name ≡ b → spaces_taken (tests_of name tests) ≡ false
    cases true among = left_of (λ n. tests_of n tests) answers name are.solved among other
    cases false none = ap spaces_taken (unnamed (map (λ a. a.0) answers) tests name are.names none)

-- what an answer says of an attribute
no_flag : (tests : List (AttrTest × Bool)) → is_asked tests ≡ false → All (λ t. t.1 ≡ false) tests
no_flag [] e = All-nil (λ t. t.1 ≡ false)
no_flag (t ∷ tests) e = let both = or_parts t.1 (is_asked tests) e in All-cons (λ t. t.1 ≡ false) t tests both.0 (no_flag tests both.1)

flag : (tests : List (AttrTest × Bool)) → is_asked tests ≡ true → All (λ t. t.1 ≡ false) tests → ⊥
flag [] e all = false≢true e
flag (t ∷ tests) e all = cases t.1 (All-head (λ t. t.1 ≡ false) t tests all) e (flag tests)
  where
    cases : (b : Bool) → b ≡ false → (b || is_asked tests) ≡ true → (is_asked tests ≡ true → All (λ t. t.1 ≡ false) tests → ⊥) → ⊥
    cases true is e later = true≢false is
    cases false is e later = later e (All-tail (λ t. t.1 ≡ false) t tests all)

pub answer_fits : (name : List ℕ) (o : Option (List ℕ)) (tests : List (AttrTest × Bool)) → SolvesName name (as_answer o) tests → AttributeFits o tests
answer_fits name o tests h = cases (same_text name (codes "id")) o h
  where
    cases : (b : Bool) (o : Option (List ℕ)) → MatchBool b (SolvesId (as_answer o) tests) ((spaces_taken tests ≡ false) × Solves (as_answer o) tests) → AttributeFits o tests
    cases true None h = no_flag tests h
    cases true (Some v) h = h.1
    cases false None h = no_flag tests h.1
    cases false (Some v) h = h.1.1

nothing_fits : (name : List ℕ) (o : Option (List ℕ)) (tests : List (AttrTest × Bool)) → SolvesName name Nothing tests → AttributeFits o tests → ⊥
nothing_fits name o tests h fits = cases (same_text name (codes "id")) h
  where
    by : (is_asked tests ≡ true) × ((s : List ℕ) → PassesAsAsked tests s → ⊥) → (o : Option (List ℕ)) → AttributeFits o tests → ⊥
    by none None fits = flag tests none.0 fits
    by none (Some v) fits = none.1 v fits

    cases : (b : Bool) → MatchBool b (SolvesId Nothing tests) ((spaces_taken tests ≡ false) × Solves Nothing tests) → ⊥
    cases true h = by h o fits
    cases false h = by h.1 o fits

-- where some answer is that nothing fits, no attributes do
pub none_given : (T : List ℕ → List (AttrTest × Bool)) (answers : List (List ℕ × Fits)) → All (λ a. SolvesName a.0 a.1 (T a.0)) answers → has_nothing answers ≡ true →
    (value : List ℕ → Option (List ℕ)) → ((name : List ℕ) → AttributeFits (value name) (T name)) → ⊥
none_given T [] solved nothing value fits = false≢true nothing
none_given T (a ∷ answers) solved nothing value fits =
    cases a.1 (All-head (λ a. SolvesName a.0 a.1 (T a.0)) a answers solved) nothing (none_given T answers (All-tail (λ a. SolvesName a.0 a.1 (T a.0)) a answers solved))
  where
    cases : (f : Fits) → SolvesName a.0 f (T a.0) → (is_nothing f || has_nothing answers) ≡ true →
        (has_nothing answers ≡ true → (value : List ℕ → Option (List ℕ)) → ((name : List ℕ) → AttributeFits (value name) (T name)) → ⊥) → ⊥
    cases Nothing here e later = nothing_fits a.0 (value a.0) (T a.0) here (fits a.0)
    cases Absent here e later = later e value fits
    cases (Value v) here e later = later e value fits

-- one answer more
given_then : (name : List ℕ) (f : Fits) (pairs more : List (List ℕ × List ℕ)) → given_one name f (pairs ++ more) ≡ given_one name f pairs ++ more
given_then name Absent pairs more = refl
given_then name Nothing pairs more = refl
given_then name (Value v) pairs more = refl

given_more : (answers : List (List ℕ × Fits)) (a : List ℕ × Fits) → given (answers ++ a ∷ []) ≡ given answers ++ given_one a.0 a.1 []
given_more [] a = refl
given_more (b ∷ answers) a = ap (given_one b.0 b.1) (given_more answers a) ∙ given_then b.0 b.1 (given answers) (given_one a.0 a.1 [])

pub pairs_more : (answers : List (List ℕ × Fits)) (a : List ℕ × Fits) (old new : List (List ℕ × List ℕ)) → new ≡ old ++ given_one a.0 a.1 [] → old ≡ given answers → new ≡ given (answers ++ a ∷ [])
pairs_more answers a old new e h = e ∙ ap (λ (t : List (List ℕ × List ℕ)). t ++ given_one a.0 a.1 []) h ∙ sym (given_more answers a)

pub texts_more : (old more new : List (List ℕ × List ℕ)) → new ≡ old ++ more → AreTexts old → AreTexts more → AreTexts new
texts_more old more new e h k = subst AreTexts (sym e) (All-append (λ a. IsText a.0 × IsText a.1) old more h k)

-- one name more
pub names_more : (all : List (List ℕ)) (i : ℕ) (n : List ℕ) (f : Fits) (old new : List (List ℕ × Fits)) → i < length all → n ≡ get_or all i n → new ≡ old ++ (n, f) ∷ [] →
    map (λ a. a.0) old ≡ take i all → map (λ a. a.0) new ≡ take (i + 1) all
names_more all i n f old new lt is e h =
    ap (map (λ (a : List ℕ × Fits). a.0)) e ∙ map-append (λ (a : List ℕ × Fits). a.0) old ((n, f) ∷ []) ∙ ap (λ (t : List (List ℕ)). t ++ n ∷ []) h ∙
    sym (take_parts i 1 all ∙ ap (λ (t : List (List ℕ)). take i all ++ take 1 t) (drop-cons all i n lt ∙ ap (λ (m : List ℕ). m ∷ drop (suc i) all) (sym is)))

pub solved_more : (tests : List (AttrTest × Bool)) (n : List ℕ) (f : Fits) (old new : List (List ℕ × Fits)) → new ≡ old ++ (n, f) ∷ [] →
    All (λ a. SolvesName a.0 a.1 (tests_of a.0 tests)) old → SolvesName n f (tests_of n tests) → All (λ a. SolvesName a.0 a.1 (tests_of a.0 tests)) new
solved_more tests n f old new e h here =
    subst (All (λ a. SolvesName a.0 a.1 (tests_of a.0 tests))) (sym e)
    (All-append (λ a. SolvesName a.0 a.1 (tests_of a.0 tests)) old ((n, f) ∷ []) h
    (All-cons (λ a. SolvesName a.0 a.1 (tests_of a.0 tests)) (n, f) [] here (All-nil (λ a. SolvesName a.0 a.1 (tests_of a.0 tests)))))

pub solved_here : (n id : List ℕ) (f : Fits) (b : Bool) (group tests : List (AttrTest × Bool)) → id ≡ codes "id" → b ≡ same_text n id → group ≡ tests →
    MatchBool b (SolvesId f group) ((spaces_taken group ≡ false) × Solves f group) → SolvesName n f tests
solved_here n id f b group tests named is same h =
    subst (λ (b : Bool). MatchBool b (SolvesId f tests) ((spaces_taken tests ≡ false) × Solves f tests)) (is ∙ ap (same_text n) named)
    (subst (λ (ts : List (AttrTest × Bool)). MatchBool b (SolvesId f ts) ((spaces_taken ts ≡ false) × Solves f ts)) same h)

-- the tests of `id` are plain
pub plain_here : (n : List ℕ) (b : Bool) (group tests : List (AttrTest × Bool)) → b ≡ same_text n (codes "id") → group ≡ tests_of n tests → ArePlain (tests_of (codes "id") tests) → b ≡ true → ArePlain group
plain_here n b group tests is same plain id =
    subst ArePlain (sym same) (subst (λ (m : List ℕ). ArePlain (tests_of m tests)) (sym ((bytes_decides n (codes "id")).0 (sym is ∙ id))) plain)

-- one answer, where all tests have its name
pub one_answers : (n : List ℕ) (f : Fits) (b : Bool) (tests : List (AttrTest × Bool)) (answers : List (List ℕ × Fits)) → b ≡ same_text n (codes "id") → list_all (λ t. same_text t.0.name n) tests ≡ true →
    answers ≡ (n, f) ∷ [] → MatchBool b (SolvesId f tests) ((spaces_taken tests ≡ false) × Solves f tests) → AreAnswers answers tests
one_answers n f b tests answers is all one h =
    subst (λ (found : List (List ℕ × Fits)). AreAnswers found tests) (sym one) (record {
      names = name_is n tests all;
      solved =
          All-cons (λ a. SolvesName a.0 a.1 (tests_of a.0 tests)) (n, f) [] (solved_here n (codes "id") f b tests (tests_of n tests) refl is (tests_are_of n tests all) h)
          (All-nil (λ a. SolvesName a.0 a.1 (tests_of a.0 tests)));
    })

pub one_refuses : (n : List ℕ) (e : FitError) (b : Bool) (tests : List (AttrTest × Bool)) → b ≡ same_text n (codes "id") → list_all (λ t. same_text t.0.name n) tests ≡ true → IsSolvedName b (Err e) tests → IsRefused e tests
one_refuses n SpacesTaken b tests is all h = (n, sym is ∙ h.0, ap spaces_taken (sym (tests_are_of n tests all)) ∙ h.1)
one_refuses n NoMemory b tests is all h = tt
