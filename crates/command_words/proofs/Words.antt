-- Words that are read from a list of texts.
use Rattle.std.proofs.Common.{◌≡◌, ◌≤◌, ◌-◌, ◌+◌, ℕ, List, [], ◌∷◌, Bool, true, false, cond, Option, Some, None, length, map, take, drop, refl, sym, ◌∙◌, ap, subst, arith, slice_index_or}
use Rattle.std.proofs.lemmas.Bool.{false≢true}
use Rattle.std.proofs.lemmas.List.{take_all}
use Rattle.std.specs.Prelude.{codes}
use Rattle.command_words.specs.Forms.{Arguments, is_operand, is_word, most_budget, most_limit, most_number, count_up_to, number_up_to, takes_number, with_budget, with_limit, with_number, with_other_word, with_word, with_words, with_work}

-- what words behind the first ones are read as
rest_is : {X : Type 0} (rest : List X) (n m : ℕ) → n ≡ m + length rest → take (n - m) rest ≡ rest
rest_is rest n m is = take_all (n - m) rest (omega (arith, is))

-- the word behind an option that takes a number is its number
pub number_first : {X : Type 0} (f : X → List ℕ) (before : Option Arguments) (words : List X) (word next : X) → 2 ≤ length words
    → word ≡ slice_index_or words 0 word → next ≡ slice_index_or words 1 next → takes_number (f word) ≡ true
    → with_words before (map f words) ≡ with_words (with_number (f word) (f next) before) (map f (take (length words - 2) (drop 2 words)))
number_first f before [] word next many first second is = absurd (omega (arith, many))
number_first f before (a ∷ []) word next many first second is = absurd (omega (arith, many))
number_first {X = X} f before (a ∷ b ∷ rest) word next many first second is =
    by _ _ _ (subst (λ (w : X). takes_number (f w) ≡ true) first is)
    ∙ ap (λ (w : X). with_words (with_number (f w) (f b) before) (map f rest)) (sym first)
    ∙ ap (λ (w : X). with_words (with_number (f word) (f w) before) (map f rest)) (sym second)
    ∙ ap (λ (ws : List X). with_words (with_number (f word) (f next) before) (map f ws)) (sym (rest_is rest (length (a ∷ b ∷ rest)) 2 (omega arith)))
  where
    by : (b : Bool) (x y : Option Arguments) → b ≡ true → cond b x y ≡ x
    by true x y p = refl
    by false x y p = absurd (false≢true p)

-- any other word stands for itself
pub other_first : {X : Type 0} (f : X → List ℕ) (before : Option Arguments) (words : List X) (word : X) → 2 ≤ length words
    → word ≡ slice_index_or words 0 word → takes_number (f word) ≡ false
    → with_words before (map f words) ≡ with_words (with_word (f word) before) (map f (take (length words - 1) (drop 1 words)))
other_first f before [] word many first is = absurd (omega (arith, many))
other_first f before (a ∷ []) word many first is = absurd (omega (arith, many))
other_first {X = X} f before (a ∷ b ∷ rest) word many first is =
    by _ _ _ (subst (λ (w : X). takes_number (f w) ≡ false) first is)
    ∙ ap (λ (w : X). with_words (with_word (f w) before) (map f (b ∷ rest))) (sym first)
    ∙ ap (λ (ws : List X). with_words (with_word (f word) before) (map f ws)) (sym (rest_is (b ∷ rest) (length (a ∷ b ∷ rest)) 1 (omega arith)))
  where
    by : (b : Bool) (x y : Option Arguments) → b ≡ false → cond b x y ≡ y
    by true x y p = absurd (false≢true (sym p))
    by false x y p = refl

no_budget : (number : Option ℕ) → with_budget number None ≡ None
no_budget None = refl
no_budget (Some number) = refl

no_limit : (number : Option ℕ) → with_limit number None ≡ None
no_limit None = refl
no_limit (Some number) = refl

no_work : (number : Option ℕ) → with_work number None ≡ None
no_work None = refl
no_work (Some number) = refl

no_number : (option number : List ℕ) → with_number option number None ≡ None
no_number option number = by (is_word option (codes "--budget")) (is_word option (codes "--limit"))
  where
    by : (b c : Bool) → cond b (with_budget (number_up_to most_budget number) None) (cond c (with_limit (count_up_to most_limit number) None) (with_work (number_up_to most_number number) None)) ≡ None
    by true c = no_budget (number_up_to most_budget number)
    by false true = no_limit (count_up_to most_limit number)
    by false false = no_work (number_up_to most_number number)

no_other_word : (word : List ℕ) → with_other_word word None ≡ None
no_other_word word = by (is_word (take 9 word) (codes "--budget=")) (is_word (take 8 word) (codes "--limit=")) (is_word (take 7 word) (codes "--work=")) (is_operand word)
  where
    by : (b c d e : Bool)
        → cond b (with_budget (number_up_to most_budget (drop 9 word)) None) (cond c (with_limit (count_up_to most_limit (drop 8 word)) None) (cond d (with_work (number_up_to most_number (drop 7 word)) None) (cond {A = Option Arguments} e None None))) ≡ None
    by true c d e = no_budget (number_up_to most_budget (drop 9 word))
    by false true d e = no_limit (count_up_to most_limit (drop 8 word))
    by false false true e = no_work (number_up_to most_number (drop 7 word))
    by false false false true = refl
    by false false false false = refl

no_word : (word : List ℕ) → with_word word None ≡ None
no_word word = by (is_word word (codes "--log")) (is_word word (codes "--report"))
  where
    by : (b c : Bool) → cond {A = Option Arguments} b None (cond {A = Option Arguments} c None (with_other_word word None)) ≡ None
    by true c = refl
    by false true = refl
    by false false = no_other_word word

-- words behind one that does not fit
pub none_left : (words : List (List ℕ)) → with_words None words ≡ None
none_left [] = refl
none_left (word ∷ []) = no_word word
none_left (word ∷ next ∷ words) =
    by (takes_number word) (ap (λ (before : Option Arguments). with_words before words) (no_number word next) ∙ none_left words)
    (ap (λ (before : Option Arguments). with_words before (next ∷ words)) (no_word word) ∙ none_left (next ∷ words))
  where
    by : {x y : Option Arguments} (b : Bool) → x ≡ None → y ≡ None → cond b x y ≡ None
    by true p q = p
    by false p q = q
