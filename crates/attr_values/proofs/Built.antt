-- The value that is built passes as asked, where some text does.
use Rattle.std.proofs.Common.{◌≡◌, ◌≢◌, ℕ, Bool, true, false, not, ◌&&◌, cond, List, [], ◌∷◌, ◌++◌, refl, sym, ap, subst, inl, inr, ◌∙◌, append_assoc}
use Rattle.std.specs.Bool.{MatchBool}
use Rattle.std.specs.List.{All}
use Rattle.std.proofs.lemmas.List.Elements.{All-head, All-tail, All-nil, All-cons, All-append, All-weaker}
use Rattle.std.proofs.lemmas.Bool.{false≢true}
use Rattle.css_model.specs.declared.selector.AttrTest.{AttrTest}
use Rattle.css_model.specs.declared.selector.Op.{Op}
use Rattle.css_model.specs.declared.selector.Op.TheVariants.{Present, Equal, Word, Dash, Prefix, Suffix, Part}
use Rattle.css_model.specs.Text.Characters.{is_white}
use Rattle.css_model.specs.Documents.Attribute.{BeginsWith, EndsWith, HasPart, StandsAlone, Passes}
use Rattle.attr_values.specs.Asked.{PassesOne, PassesAsAsked, asked, refused, is_equal, is_word, is_dash, is_suffix, is_part}
use Rattle.attr_values.specs.Separators.{IsUnused, IsFreeSpace}
use Rattle.attr_values.specs.Value.{start_of, starts, longest, once, followed, words_then, built}
use Rattle.attr_values.proofs.Inside.{alone-part, part_back, word_back, parts_followed, words_stand, last_there, part_behind, end_splits, begin_splits, holds_separator}
use Rattle.attr_values.proofs.AskedTests.{words_pass, parts_pass, suffixes_pass, starts_pass, begins_trans, ends_trans, longest_begins, longest_ends, once_All, once_back}

-- one test, asked to hold or not
rebuild_one : (s j : List ℕ) (op : Op) (v : List ℕ) (b : Bool) (es xs ps ss ws : List (List ℕ)) → MatchBool b (Passes op v s) (Passes op v s → ⊥) →
    cond (b && is_equal op) (v ∷ es) es ≡ [] → All (BeginsWith j) (cond b (start_of op v xs) xs) → All (HasPart j) (cond (b && is_part op) (v ∷ ps) ps) →
    All (EndsWith j) (cond (b && is_suffix op) (v ∷ ss) ss) → All (StandsAlone j) (cond (b && is_word op) (v ∷ ws) ws) →
    (b ≡ false → Passes op v j → Passes op v s) → MatchBool b (Passes op v j) (Passes op v j → ⊥)
rebuild_one s j op v false es xs ps ss ws h no_equal begins parts ends words back = λ k. h (back refl k)
rebuild_one s j Present v true es xs ps ss ws h no_equal begins parts ends words back = tt
rebuild_one s j Equal v true es xs ps ss ws h no_equal begins parts ends words back = absurd (let none : ⊥ = cc in none)
rebuild_one s j Word v true es xs ps ss ws h no_equal begins parts ends words back = (h.0, h.1, All-head (StandsAlone j) v ws words)
rebuild_one s j Dash v true es xs ps ss ws h no_equal begins parts ends words back = inr (All-head (BeginsWith j) (v ++ 0x2D ∷ []) xs begins)
rebuild_one s j Prefix v true es xs ps ss ws h no_equal begins parts ends words back = (h.0, All-head (BeginsWith j) v xs begins)
rebuild_one s j Suffix v true es xs ps ss ws h no_equal begins parts ends words back = (h.0, All-head (EndsWith j) v ss ends)
rebuild_one s j Part v true es xs ps ss ws h no_equal begins parts ends words back = (h.0, All-head (HasPart j) v ps parts)

rest_of : (P : List ℕ → Type 0) (b : Bool) (v : List ℕ) (vs : List (List ℕ)) → All P (cond b (v ∷ vs) vs) → All P vs
rest_of P true v vs h = All-tail P v vs h
rest_of P false v vs h = h

rest_of_starts : (P : List ℕ → Type 0) (b : Bool) (op : Op) (v : List ℕ) (vs : List (List ℕ)) → All P (cond b (start_of op v vs) vs) → All P vs
rest_of_starts P false op v vs h = h
rest_of_starts P true Prefix v vs h = All-tail P v vs h
rest_of_starts P true Dash v vs h = All-tail P (v ++ 0x2D ∷ []) vs h
rest_of_starts P true Present v vs h = h
rest_of_starts P true Equal v vs h = h
rest_of_starts P true Word v vs h = h
rest_of_starts P true Suffix v vs h = h
rest_of_starts P true Part v vs h = h

none_of : (b : Bool) (v : List ℕ) (vs : List (List ℕ)) → cond b (v ∷ vs) vs ≡ [] → vs ≡ []
none_of true v vs e = absurd (let none : ⊥ = cc in none)
none_of false v vs e = e

-- of a Part that is asked not to hold
clear_one : (P : List ℕ → Type 0) (op : Op) (v : List ℕ) (b : Bool) (vs : List (List ℕ)) → All P (cond (not b && is_part op) (v ∷ vs) vs) → b ≡ false → op ≡ Part → P v
clear_one P op v true vs h e is = absurd (false≢true (sym e))
clear_one P Part v false vs h e is = All-head P v vs h
clear_one P Present v false vs h e is = absurd (let none : ⊥ = cc in none)
clear_one P Equal v false vs h e is = absurd (let none : ⊥ = cc in none)
clear_one P Word v false vs h e is = absurd (let none : ⊥ = cc in none)
clear_one P Dash v false vs h e is = absurd (let none : ⊥ = cc in none)
clear_one P Prefix v false vs h e is = absurd (let none : ⊥ = cc in none)
clear_one P Suffix v false vs h e is = absurd (let none : ⊥ = cc in none)

-- all tests, given what is true of the text j
rebuild : (s j : List ℕ) (f w : ℕ) (some_word : Type 0) → (back : (op : Op) (v : List ℕ) → All (λ d. d ≢ f) v → (op ≡ Part → some_word → All (λ d. d ≢ w) v) → Passes op v j → Passes op v s) →
    (tests : List (AttrTest × Bool)) → PassesAsAsked tests s → IsUnused f tests → (some_word → IsFreeSpace w tests) → asked is_equal tests ≡ [] →
    All (BeginsWith j) (starts tests) → All (HasPart j) (asked is_part tests) → All (EndsWith j) (asked is_suffix tests) → All (StandsAlone j) (asked is_word tests) →
    PassesAsAsked tests j
rebuild s j f w some_word back [] h unused clear no_equal begins parts ends words = All-nil (PassesOne j)
rebuild s j f w some_word back (t ∷ tests) h unused clear no_equal begins parts ends words =
    let op = t.0.op in
    let v = t.0.value in
    let b = t.1 in
    let free : All (λ d. d ≢ f) v = All-head (λ x. All (λ c. c ≢ f) x.0.value) t tests unused in
    All-cons (PassesOne j) t tests
    (rebuild_one s j op v b (asked is_equal tests) (starts tests) (asked is_part tests) (asked is_suffix tests) (asked is_word tests)
    (All-head (PassesOne s) t tests h) no_equal begins parts ends words
    (λ no_hold. back op v free (λ is some. clear_one (λ x. All (λ c. c ≢ w) x) op v b (refused is_part tests) (clear some) no_hold is)))
    (rebuild s j f w some_word back tests (All-tail (PassesOne s) t tests h) (All-tail (λ x. All (λ c. c ≢ f) x.0.value) t tests unused)
    (λ some. rest_of (λ x. All (λ c. c ≢ w) x) (not b && is_part op) v (refused is_part tests) (clear some))
    (none_of (b && is_equal op) v (asked is_equal tests) no_equal)
    (rest_of_starts (BeginsWith j) b op v (starts tests) begins)
    (rest_of (HasPart j) (b && is_part op) v (asked is_part tests) parts)
    (rest_of (EndsWith j) (b && is_suffix op) v (asked is_suffix tests) ends)
    (rest_of (StandsAlone j) (b && is_word op) v (asked is_word tests) words))

-- the value of the fourth rule
pub built_passes : (tests : List (AttrTest × Bool)) (s : List ℕ) (f w : ℕ) → is_white f ≡ false → f ≢ 0x2D → IsUnused f tests →
    (once (asked is_word tests) ≢ [] → (is_white w ≡ true) × IsFreeSpace w tests) → asked is_equal tests ≡ [] → All (λ x. s ≢ x) (asked is_dash tests) →
    PassesAsAsked tests s → PassesAsAsked tests (built f w tests)
built_passes tests s f w dark no_hyphen unused space no_equal no_dash h =
    rebuild s (built f w tests) f w (words ≢ []) back tests h unused (λ some. (space some).1) no_equal
    (All-weaker (BeginsWith start) (BeginsWith (built f w tests)) (λ v k. begins_trans (built f w tests) start v (f ∷ inside, refl) k) (starts tests) begins.1)
    (All-weaker (HasPart inside) (HasPart (built f w tests)) (λ v k. part_behind start (f ∷ inside) v (part_behind (f ∷ []) inside v k)) parts (parts_followed f parts (words_then f w words last)))
    (All-weaker (EndsWith last) (EndsWith (built f w tests)) (λ v k. ends_trans (built f w tests) last v at_end k) (asked is_suffix tests) ends.1)
    (once_back (StandsAlone (built f w tests)) (asked is_word tests) (words_stand f w start parts words last white))
  where
    start : List ℕ
    start = longest (starts tests)

    parts : List (List ℕ)
    parts = asked is_part tests

    words : List (List ℕ)
    words = once (asked is_word tests)

    last : List ℕ
    last = longest (asked is_suffix tests)

    inside : List ℕ
    inside = followed f parts (words_then f w words last)

    white : words ≢ [] → is_white w ≡ true
    white some = (space some).0

    begins : BeginsWith s start × All (BeginsWith start) (starts tests)
    begins = longest_begins s (starts tests) (starts_pass s tests h no_dash)

    ends : EndsWith s last × All (EndsWith last) (asked is_suffix tests)
    ends = longest_ends s (asked is_suffix tests) (suffixes_pass s tests h)

    words_have : All (λ x. All (λ d. is_white d ≡ false) x × StandsAlone s x) words
    words_have = All-weaker (λ x. Passes Word x s) (λ x. All (λ d. is_white d ≡ false) x × StandsAlone s x) (λ x k. (k.1, k.2)) words
        (once_All (λ x. Passes Word x s) (asked is_word tests) (words_pass s tests h))

    at_end : EndsWith (built f w tests) last
    at_end = let k = last_there f w start parts words last in (k.0 ++ f ∷ [], k.1 ∙ cut k.0)
      where
        cut : (front : List ℕ) → front ++ f ∷ last ≡ (front ++ f ∷ []) ++ last
        cut front = sym (append_assoc front (f ∷ []) last)

    back : (op : Op) (v : List ℕ) → All (λ d. d ≢ f) v → (op ≡ Part → words ≢ [] → All (λ d. d ≢ w) v) → Passes op v (built f w tests) → Passes op v s
    back Present v free clear k = tt
    back Equal v free clear k = absurd (holds_separator f start inside v free k)
    back Word v free clear k = (
      k.0,
      k.1,
      word_back f w dark s start parts words last v white k.0 free
          (λ some. All-weaker (λ d. is_white d ≡ false) (λ d. d ≢ w) (λ d no_white e. false≢true (sym no_white ∙ ap is_white e ∙ white some)) v k.1)
          begins.0 (parts_pass s tests h) words_have ends.0 k.2,
    )
    back Dash v free clear (inl e) = absurd (holds_separator f start inside v free e)
    back Dash v free clear (inr k) = inr (begins_trans s start (v ++ 0x2D ∷ []) begins.0
        (begin_splits f start inside (v ++ 0x2D ∷ []) (All-append (λ d. d ≢ f) v (0x2D ∷ []) free (All-cons (λ d. d ≢ f) 0x2D [] (λ e. no_hyphen (sym e)) (All-nil (λ d. d ≢ f)))) k))
    back Prefix v free clear k = (k.0, begins_trans s start v begins.0 (begin_splits f start inside v free k.1))
    back Suffix v free clear k =
        let e = last_there f w start parts words last in
        (k.0, ends_trans s last v ends.0 (end_splits f e.0 last v free (subst (λ (t : List ℕ). EndsWith t v) e.1 k.1)))
    back Part v free clear k = (
      k.0,
      part_back f w s start parts words last v k.0 free (clear refl) begins.0 (parts_pass s tests h)
          (All-weaker (λ x. All (λ d. is_white d ≡ false) x × StandsAlone s x) (HasPart s) (λ x j. alone-part s x j.1) words words_have) ends.0 k.1,
    )
