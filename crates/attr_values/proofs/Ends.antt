-- What has been put together at the end of each function.
use Rattle.std.proofs.Common.{◌≡◌, ℕ, ◌≤◌, Bool, true, false, cond, List, [], ◌∷◌, ◌++◌, Some, None, Result, Ok, Err, length, take, drop, ◌-◌, arith, sym, ap, subst, ◌∙◌, append_assoc, get_or}
use Rattle.std.specs.Prelude.{◌==◌, IfOk}
use Rattle.std.specs.List.{list_all}
use Rattle.std.proofs.lemmas.List.{append-nil, drop_all, take_all}
use Rattle.std.proofs.lemmas.Bool.{false≢true}
use Rattle.css_model.specs.declared.selector.AttrTest.{AttrTest}
use Rattle.attr_values.specs.declared.solve.Fits.TheVariants.{Value, Nothing}
use Rattle.attr_values.specs.Asked.{PassesAsAsked, passes_as_asked, asked, is_equal, is_word, is_part, is_suffix, is_dash, is_word_or_present, is_asked}
use Rattle.attr_values.specs.Separators.{free_space, spaces_taken, HasUnused, IsFirstUnused}
use Rattle.attr_values.specs.Solved.{IsCandidate, Solves}
use Rattle.attr_values.specs.Value.{once, starts, longest, followed, words_then, built, spaced, first_passing, without_equal, first_or, head_of, kept_of, more_words}
use Rattle.attr_values.proofs.Steps.{kept_once, followed_then, together, spaced_more}
use Rattle.attr_values.proofs.Candidates.{passing-decides}
use Rattle.attr_values.proofs.Separated.{candidate_passes}
use Rattle.attr_values.proofs.Unused.{some_first}

pub words_end : (tests : List (AttrTest × Bool)) (i : ℕ) (kept : List (List ℕ)) → length tests ≤ i →
    kept_of kept (asked is_word (drop i tests)) ≡ kept_of [] (asked is_word tests) → kept ≡ once (asked is_word tests)
words_end tests i kept done e =
    sym (ap (λ (rest : List (AttrTest × Bool)). kept_of kept (asked is_word rest)) (drop_all i tests done)) ∙ e ∙ kept_once (asked is_word tests)

pub push_words_end : (old out : List ℕ) (words : List (List ℕ)) (i f w : ℕ) → false ≡ (length words == 0) → length words ≤ i →
    out ++ followed w (drop i words) [] ≡ (old ++ w ∷ []) ++ followed w words [] → out ++ f ∷ [] ≡ old ++ words_then f w words []
push_words_end old out [] i f w some done e = absurd (false≢true some)
push_words_end old out (x ∷ xs) i f w some done e =
    let all : out ≡ (old ++ w ∷ []) ++ followed w (x ∷ xs) [] =
    sym (append-nil out) ∙ sym (ap (λ (rest : List (List ℕ)). out ++ followed w rest []) (drop_all i (x ∷ xs) done)) ∙ e in
    ap (λ (t : List ℕ). t ++ f ∷ []) all ∙
    append_assoc (old ++ w ∷ []) (followed w (x ∷ xs) []) (f ∷ []) ∙
    append_assoc old (w ∷ []) (followed w (x ∷ xs) [] ++ f ∷ []) ∙
    ap (λ (t : List ℕ). old ++ w ∷ t) (sym (followed_then w (x ∷ xs) (f ∷ [])))

pub built_end : (tests : List (AttrTest × Bool)) (words : List (List ℕ)) (f : ℕ) (start suffix o1 o2 o3 o4 o5 : List ℕ) →
    words ≡ once (asked is_word tests) → start ≡ longest (starts tests) → suffix ≡ longest (asked is_suffix tests) →
    o1 ≡ start → o2 ≡ o1 ++ f ∷ [] → o3 ≡ o2 ++ followed f (asked is_part tests) [] → o4 ≡ o3 ++ words_then f (free_space tests) words [] → o5 ≡ o4 ++ suffix →
    o5 ≡ built f (free_space tests) tests
built_end tests words f start suffix o1 o2 o3 o4 o5 ew es el e1 e2 e3 e4 e5 =
    let p2 : o2 ≡ start ++ f ∷ [] = e2 ∙ ap (λ (t : List ℕ). t ++ f ∷ []) e1 in
    let p3 : o3 ≡ (start ++ f ∷ []) ++ followed f (asked is_part tests) [] = e3 ∙ ap (λ (t : List ℕ). t ++ followed f (asked is_part tests) []) p2 in
    let p4 : o4 ≡ ((start ++ f ∷ []) ++ followed f (asked is_part tests) []) ++ words_then f (free_space tests) words [] = e4 ∙ ap (λ (t : List ℕ). t ++ words_then f (free_space tests) words []) p3 in
    e5 ∙ ap (λ (t : List ℕ). t ++ suffix) p4 ∙ together start f (free_space tests) (asked is_part tests) words suffix ∙
    ap (λ (t : List ℕ). t ++ f ∷ followed f (asked is_part tests) (words_then f (free_space tests) words suffix)) es ∙
    ap (λ (t : List (List ℕ)). longest (starts tests) ++ f ∷ followed f (asked is_part tests) (words_then f (free_space tests) t suffix)) ew ∙
    ap (λ (t : List ℕ). longest (starts tests) ++ f ∷ followed f (asked is_part tests) (words_then f (free_space tests) (once (asked is_word tests)) t)) el

-- what is tried where no Equal is asked for, for some separator that is the first unused one
pub words_tried : (tests : List (AttrTest × Bool)) (v : List ℕ) → HasUnused tests → true ≡ list_all (λ t. is_word_or_present t.0.op) tests →
    v ≡ spaced (once (asked is_word tests)) → (f : ℕ) × IsFirstUnused f tests × (v ≡ without_equal f (free_space tests) tests)
words_tried tests v has all e =
    let first = some_first tests has in
    (first.0, first.1, e ∙ ap (λ (b : Bool). cond b (spaced (once (asked is_word tests))) (first_passing tests (asked is_dash tests) (built first.0 (free_space tests) tests))) all)

pub dash_tried : (tests : List (AttrTest × Bool)) (v value : List ℕ) → HasUnused tests → false ≡ list_all (λ t. is_word_or_present t.0.op) tests →
    ((other : List ℕ) → first_passing tests (asked is_dash tests) other ≡ v) → value ≡ v → (f : ℕ) × IsFirstUnused f tests × (value ≡ without_equal f (free_space tests) tests)
dash_tried tests v value has none dash e =
    let first = some_first tests has in (
      first.0,
      first.1,
      e ∙ sym (dash (built first.0 (free_space tests) tests)) ∙
          ap (λ (b : Bool). cond b (spaced (once (asked is_word tests))) (first_passing tests (asked is_dash tests) (built first.0 (free_space tests) tests))) none,
    )

equal_tried : (tests : List (AttrTest × Bool)) (v value : List ℕ) → HasUnused tests → head_of (asked is_equal tests) ≡ Some v → value ≡ v → IsCandidate value tests
equal_tried tests v value has head e =
    let first = some_first tests has in
    record { separator = first.0; first = first.1; is = e ∙ cases (asked is_equal tests) (without_equal first.0 (free_space tests) tests) head }
  where
    cases : (vs : List (List ℕ)) (other : List ℕ) → head_of vs ≡ Some v → v ≡ first_or vs other
    cases [] other h = absurd (none_some h)
      where
        none_some : None ≡ Some v → ⊥
        none_some is = cc
    cases (x ∷ xs) other h = sym (some_is h)
      where
        some_is : Some x ≡ Some v → x ≡ v
        some_is is = cc

pub copy_tried : {E : Type 0} → (tests : List (AttrTest × Bool)) (v : List ℕ) (r : Result (List ℕ) E) → HasUnused tests → head_of (asked is_equal tests) ≡ Some v →
    IfOk r (λ value. value ≡ v) → IfOk r (λ value. IsCandidate value tests)
copy_tried tests v (Ok value) has head e = equal_tried tests v value has head e
copy_tried tests v (Err e) has head h = h

pub value_end : (tests : List (AttrTest × Bool)) (v : List ℕ) → false ≡ spaces_taken tests → true ≡ is_asked tests → true ≡ passes_as_asked tests v →
    IsCandidate v tests → (spaces_taken tests ≡ false) × Solves (Value v) tests
value_end tests v left some pass is = (sym left, (sym some, (passing-decides tests v).0 (sym pass), is))

pub nothing_end : (tests : List (AttrTest × Bool)) (v : List ℕ) → false ≡ spaces_taken tests → true ≡ is_asked tests → false ≡ passes_as_asked tests v →
    IsCandidate v tests → (spaces_taken tests ≡ false) × Solves Nothing tests
nothing_end tests v left some pass is = (
  sym left,
  (
    sym some,
    λ s h. false≢true (pass ∙ (passing-decides tests v).1 (subst (PassesAsAsked tests) (sym is.is) (candidate_passes tests s is.separator is.first (sym left) h))),
  ),
)

pub spaced_end : (words : List (List ℕ)) (first out : List ℕ) → 1 ≤ length words → first ≡ get_or words 0 first →
    out ≡ first ++ more_words (take (length words - 1) (drop 1 words)) → out ≡ spaced words
spaced_end [] first out some is e = absurd (let bad : ⊥ = omega arith in bad)
spaced_end (x ∷ xs) first out some is e =
    e ∙ ap (λ (t : List (List ℕ)). first ++ more_words t) (take_all (length (x ∷ xs) - 1) xs (omega arith)) ∙ ap (λ (t : List ℕ). t ++ more_words xs) is ∙ sym (spaced_more x xs)
