-- The value that is candidate passes as asked, where some text does.
use Rattle.std.proofs.Common.{◌≡◌, ◌≢◌, ◌⊎◌, ℕ, Bool, true, false, not, ◌&&◌, cond, List, [], ◌∷◌, ◌++◌, refl, sym, ap, subst, inl, inr, ◌∙◌, Decides, append_assoc}
use Rattle.std.proofs.lemmas.List.{append-nil}
use Rattle.std.specs.Bool.{MatchBool}
use Rattle.std.specs.List.{All, list_all}
use Rattle.std.proofs.lemmas.List.Elements.{All-head, All-tail, All-nil, All-cons, All-weaker}
use Rattle.std.proofs.lemmas.Bool.{false≢true, and_parts}
use Rattle.std.proofs.lemmas.Bool.Decides.{Decides-by_and, Decides-not}
use Rattle.css_model.specs.declared.selector.AttrTest.{AttrTest}
use Rattle.css_model.specs.declared.selector.Op.{Op}
use Rattle.css_model.specs.declared.selector.Op.TheVariants.{Present, Equal, Word, Dash, Prefix, Suffix, Part}
use Rattle.css_model.specs.Text.Characters.{is_white}
use Rattle.css_model.specs.Documents.Attribute.{StandsAlone, Passes, passes}
use Rattle.cascade_laws.proofs.ForCallers.{passes-decides}
use Rattle.attr_values.specs.Asked.{PassesOne, PassesAsAsked, passes_one, passes_as_asked, asked, is_equal, is_word, is_dash, is_word_or_present}
use Rattle.attr_values.specs.Separators.{IsUnused, IsFreeSpace}
use Rattle.attr_values.specs.Value.{once, built, spaced, first_passing, without_equal, first_or, candidate}
use Rattle.attr_values.proofs.WordPieces.{Alone, ends_white, ends-append, alone-stands, stands-alone, alone_splits, alone_nil, alone_whole}
use Rattle.attr_values.proofs.AskedTests.{words_pass, once_All, once_back}
use Rattle.attr_values.proofs.Built.{built_passes}

-- the test that computes
one_decides : (s : List ℕ) (t : AttrTest × Bool) → Decides (passes_one s t) (PassesOne s t)
one_decides s t = cases t.1
  where
    cases : (b : Bool) → Decides (cond b (passes t.0.op t.0.value s) (not (passes t.0.op t.0.value s))) (MatchBool b (Passes t.0.op t.0.value s) (Passes t.0.op t.0.value s → ⊥))
    cases true = passes-decides t.0.op t.0.value s
    cases false = Decides-not (passes t.0.op t.0.value s) (passes-decides t.0.op t.0.value s)

pub passing-decides : (tests : List (AttrTest × Bool)) (s : List ℕ) → Decides (passes_as_asked tests s) (PassesAsAsked tests s)
passing-decides tests s = Decides-by_and (passes_one s) (PassesOne s) (list_all (passes_one s)) (one_decides s) refl (λ _ _. refl) tests

-- an Equal that is asked to hold names the text
equal_one : (s : List ℕ) (op : Op) (v : List ℕ) (w : Bool) (vs : List (List ℕ)) → MatchBool w (Passes op v s) (Passes op v s → ⊥) →
    All (λ x. s ≡ x) vs → All (λ x. s ≡ x) (cond (w && is_equal op) (v ∷ vs) vs)
equal_one s op v false vs h rest = rest
equal_one s Equal v true vs h rest = All-cons (λ x. s ≡ x) v vs h rest
equal_one s Present v true vs h rest = rest
equal_one s Word v true vs h rest = rest
equal_one s Dash v true vs h rest = rest
equal_one s Prefix v true vs h rest = rest
equal_one s Suffix v true vs h rest = rest
equal_one s Part v true vs h rest = rest

equals_pass : (s : List ℕ) (tests : List (AttrTest × Bool)) → PassesAsAsked tests s → All (λ x. s ≡ x) (asked is_equal tests)
equals_pass s [] h = All-nil (λ x. s ≡ x)
equals_pass s (t ∷ tests) h = equal_one s t.0.op t.0.value t.1 (asked is_equal tests) (All-head (PassesOne s) t tests h) (equals_pass s tests (All-tail (PassesOne s) t tests h))

-- words with spaces between them
spaced_words : (xs : List (List ℕ)) (v : List ℕ) → v ≢ [] → All (λ d. is_white d ≡ false) v → All (λ x. All (λ d. is_white d ≡ false) x) xs → (s : List ℕ) → All (StandsAlone s) xs →
    Alone true true (spaced xs) v → StandsAlone s v
spaced_words [] v some dark clean s have h = absurd (alone_nil true true v some h)
spaced_words (x ∷ []) v some dark clean s have h =
    subst (StandsAlone s) (alone_whole true true x v some (All-head (λ x. All (λ d. is_white d ≡ false) x) x [] clean) h) (All-head (StandsAlone s) x [] have)
spaced_words (x ∷ y ∷ xs) v some dark clean s have h =
    cases (spaced_words (y ∷ xs) v some dark (All-tail (λ x. All (λ d. is_white d ≡ false) x) x (y ∷ xs) clean) s (All-tail (StandsAlone s) x (y ∷ xs) have))
    (alone_splits 0x20 true true x (spaced (y ∷ xs)) v (All-weaker (λ d. is_white d ≡ false) (λ d. d ≢ 0x20) (λ d no_white e. false≢true (sym no_white ∙ ap is_white e)) v dark) h)
  where
    cases : (Alone true true (spaced (y ∷ xs)) v → StandsAlone s v) → Alone true true x v ⊎ Alone true true (spaced (y ∷ xs)) v → StandsAlone s v
    cases later (inl k) = subst (StandsAlone s) (alone_whole true true x v some (All-head (λ x. All (λ d. is_white d ≡ false) x) x (y ∷ xs) clean) k) (All-head (StandsAlone s) x (y ∷ xs) have)
    cases later (inr k) = later k

alone_behind : (before behind : Bool) (front text v : List ℕ) → Alone (ends_white before front) behind text v → Alone before behind (front ++ text) v
alone_behind before behind front text v h =
    (front ++ h.0, h.1, ap (λ (t : List ℕ). front ++ t) h.2 ∙ simp append_assoc, ends-append before front h.0 ∙ h.3, h.4)

words_in_spaced : (xs : List (List ℕ)) → All (Alone true true (spaced xs)) xs
words_in_spaced [] = All-nil (Alone true true [])
words_in_spaced (x ∷ []) = All-cons (Alone true true x) x [] ([], [], sym (append-nil x), refl, refl) (All-nil (Alone true true x))
words_in_spaced (x ∷ y ∷ xs) =
    All-cons (Alone true true (spaced (x ∷ y ∷ xs))) x (y ∷ xs) ([], 0x20 ∷ spaced (y ∷ xs), refl, refl, refl)
    (All-weaker (Alone true true (spaced (y ∷ xs))) (Alone true true (spaced (x ∷ y ∷ xs)))
    (λ v h. alone_behind true true x (0x20 ∷ spaced (y ∷ xs)) v (alone_behind (ends_white true x) true (0x20 ∷ []) (spaced (y ∷ xs)) v h)) (y ∷ xs) (words_in_spaced (y ∷ xs)))

-- all tests are Word or Present
word_or_present_one : (s j : List ℕ) (op : Op) (v : List ℕ) (b : Bool) (ws : List (List ℕ)) → is_word_or_present op ≡ true → MatchBool b (Passes op v s) (Passes op v s → ⊥) →
    All (StandsAlone j) (cond (b && is_word op) (v ∷ ws) ws) → (Passes Word v j → Passes Word v s) → MatchBool b (Passes op v j) (Passes op v j → ⊥)
word_or_present_one s j Present v true ws is h words back = tt
word_or_present_one s j Present v false ws is h words back = h
word_or_present_one s j Word v true ws is h words back = (h.0, h.1, All-head (StandsAlone j) v ws words)
word_or_present_one s j Word v false ws is h words back = λ k. h (back k)
word_or_present_one s j Equal v b ws is h words back = absurd (false≢true is)
word_or_present_one s j Dash v b ws is h words back = absurd (false≢true is)
word_or_present_one s j Prefix v b ws is h words back = absurd (false≢true is)
word_or_present_one s j Suffix v b ws is h words back = absurd (false≢true is)
word_or_present_one s j Part v b ws is h words back = absurd (false≢true is)

rest_of : (P : List ℕ → Type 0) (b : Bool) (v : List ℕ) (vs : List (List ℕ)) → All P (cond b (v ∷ vs) vs) → All P vs
rest_of P true v vs h = All-tail P v vs h
rest_of P false v vs h = h

words_or_present : (s j : List ℕ) → ((v : List ℕ) → Passes Word v j → Passes Word v s) → (tests : List (AttrTest × Bool)) → list_all (λ t. is_word_or_present t.0.op) tests ≡ true → PassesAsAsked tests s →
    All (StandsAlone j) (asked is_word tests) → PassesAsAsked tests j
words_or_present s j back [] all h words = All-nil (PassesOne j)
words_or_present s j back (t ∷ tests) all h words =
    let both = and_parts (is_word_or_present t.0.op) (list_all (λ t. is_word_or_present t.0.op) tests) all in
    All-cons (PassesOne j) t tests
    (word_or_present_one s j t.0.op t.0.value t.1 (asked is_word tests) both.0 (All-head (PassesOne s) t tests h) words (back t.0.value))
    (words_or_present s j back tests both.1 (All-tail (PassesOne s) t tests h) (rest_of (StandsAlone j) (t.1 && is_word t.0.op) t.0.value (asked is_word tests) words))

pub spaced_passes : (tests : List (AttrTest × Bool)) (s : List ℕ) → list_all (λ t. is_word_or_present t.0.op) tests ≡ true → PassesAsAsked tests s → PassesAsAsked tests (spaced (once (asked is_word tests)))
spaced_passes tests s all h = words_or_present s j back tests all h
    (once_back (StandsAlone j) (asked is_word tests) (All-weaker (Alone true true j) (StandsAlone j) (λ v k. alone-stands j v k) words (words_in_spaced words)))
  where
    words : List (List ℕ)
    words = once (asked is_word tests)

    j : List ℕ
    j = spaced words

    have : All (λ x. Passes Word x s) words
    have = once_All (λ x. Passes Word x s) (asked is_word tests) (words_pass s tests h)

    back : (v : List ℕ) → Passes Word v j → Passes Word v s
    back v k = (
      k.0,
      k.1,
      spaced_words words v k.0 k.1 (All-weaker (λ x. Passes Word x s) (λ x. All (λ d. is_white d ≡ false) x) (λ x p. p.1) words have) s
          (All-weaker (λ x. Passes Word x s) (StandsAlone s) (λ x p. p.2) words have) (stands-alone j v k.2),
    )

-- the first of these values that passes
first_passes : (tests : List (AttrTest × Bool)) (s : List ℕ) → PassesAsAsked tests s → (vs : List (List ℕ)) (other : List ℕ) → (All (λ x. s ≢ x) vs → PassesAsAsked tests other) →
    PassesAsAsked tests (first_passing tests vs other)
first_passes tests s h [] other last = last (All-nil (λ x. s ≢ x))
first_passes tests s h (v ∷ vs) other last = cases (first_passes tests s h vs other) (passes_as_asked tests v) refl
  where
    cases : ((All (λ x. s ≢ x) vs → PassesAsAsked tests other) → PassesAsAsked tests (first_passing tests vs other)) → (b : Bool) → passes_as_asked tests v ≡ b →
        PassesAsAsked tests (cond b v (first_passing tests vs other))
    cases later true e = (passing-decides tests v).0 e
    cases later false e = later (λ others. last (All-cons (λ x. s ≢ x) v vs (λ same. false≢true (sym e ∙ (passing-decides tests v).1 (subst (PassesAsAsked tests) same h))) others))

-- The value that is candidate passes as asked, where some text does.
pub candidate_passes_with : (tests : List (AttrTest × Bool)) (s : List ℕ) (f w : ℕ) → is_white f ≡ false → f ≢ 0x2D → IsUnused f tests →
    (asked is_equal tests ≡ [] → once (asked is_word tests) ≢ [] → (is_white w ≡ true) × IsFreeSpace w tests) → PassesAsAsked tests s → PassesAsAsked tests (candidate f w tests)
candidate_passes_with tests s f w dark no_hyphen unused space h = cases (asked is_equal tests) refl (equals_pass s tests h)
  where
    words : asked is_equal tests ≡ [] → (b : Bool) → list_all (λ t. is_word_or_present t.0.op) tests ≡ b →
        PassesAsAsked tests (cond b (spaced (once (asked is_word tests))) (first_passing tests (asked is_dash tests) (built f w tests)))
    words none true e = spaced_passes tests s e h
    words none false e = first_passes tests s h (asked is_dash tests) (built f w tests)
        (λ no_dash. built_passes tests s f w dark no_hyphen unused (space none) none no_dash h)

    cases : (es : List (List ℕ)) → asked is_equal tests ≡ es → All (λ x. s ≡ x) es → PassesAsAsked tests (first_or es (without_equal f w tests))
    cases [] e all = words e (list_all (λ t. is_word_or_present t.0.op) tests) refl
    cases (v ∷ vs) e all = subst (PassesAsAsked tests) (All-head (λ x. s ≡ x) v vs all) h
