-- The tests as they are asked, and the value that is built for them.
use Rattle.std.proofs.Common.{◌≡◌, ◌≢◌, ◌⊎◌, ℕ, ◌<◌, ◌≤◌, nat_le, Bool, true, false, not, ◌&&◌, cond, List, [], ◌∷◌, ◌++◌, length, refl, sym, ap, ap₂, subst, inl, inr, ◌∙◌, append_assoc, arith}
use Rattle.std.specs.Bool.{MatchBool}
use Rattle.std.specs.List.{All, filter}
use Rattle.std.proofs.lemmas.List.Elements.{All-head, All-tail, All-nil, All-cons, All-weaker}
use Rattle.std.proofs.lemmas.List.{append-nil, length-append}
use Rattle.std.proofs.lemmas.Bool.{leb-true, leb-false}
use Rattle.std.specs.Cmp.Lexicographic.{bytes_decides}
use Rattle.css_model.specs.declared.selector.AttrTest.{AttrTest}
use Rattle.css_model.specs.declared.selector.Op.{Op}
use Rattle.css_model.specs.declared.selector.Op.TheVariants.{Present, Equal, Word, Dash, Prefix, Suffix, Part}
use Rattle.css_model.specs.Documents.Attribute.{BeginsWith, EndsWith, HasPart, Passes}
use Rattle.css_model.specs.Lists.{same_text}
use Rattle.attr_values.specs.Asked.{PassesOne, PassesAsAsked, asked, is_word, is_dash, is_suffix, is_part}
use Rattle.attr_values.specs.Value.{start_of, starts, longest, once}

-- what a passing value says of the tests that are asked to hold
word_one : (s : List ℕ) (op : Op) (v : List ℕ) (w : Bool) (vs : List (List ℕ)) → MatchBool w (Passes op v s) (Passes op v s → ⊥) →
    All (λ x. Passes Word x s) vs → All (λ x. Passes Word x s) (cond (w && is_word op) (v ∷ vs) vs)
word_one s op v false vs h rest = rest
word_one s Word v true vs h rest = All-cons (λ x. Passes Word x s) v vs h rest
word_one s Present v true vs h rest = rest
word_one s Equal v true vs h rest = rest
word_one s Dash v true vs h rest = rest
word_one s Prefix v true vs h rest = rest
word_one s Suffix v true vs h rest = rest
word_one s Part v true vs h rest = rest

pub words_pass : (s : List ℕ) (tests : List (AttrTest × Bool)) → PassesAsAsked tests s → All (λ x. Passes Word x s) (asked is_word tests)
words_pass s [] h = All-nil (λ x. Passes Word x s)
words_pass s (t ∷ tests) h = word_one s t.0.op t.0.value t.1 (asked is_word tests) (All-head (PassesOne s) t tests h) (words_pass s tests (All-tail (PassesOne s) t tests h))

part_one : (s : List ℕ) (op : Op) (v : List ℕ) (w : Bool) (vs : List (List ℕ)) → MatchBool w (Passes op v s) (Passes op v s → ⊥) →
    All (HasPart s) vs → All (HasPart s) (cond (w && is_part op) (v ∷ vs) vs)
part_one s op v false vs h rest = rest
part_one s Part v true vs h rest = All-cons (HasPart s) v vs h.1 rest
part_one s Present v true vs h rest = rest
part_one s Equal v true vs h rest = rest
part_one s Dash v true vs h rest = rest
part_one s Prefix v true vs h rest = rest
part_one s Suffix v true vs h rest = rest
part_one s Word v true vs h rest = rest

pub parts_pass : (s : List ℕ) (tests : List (AttrTest × Bool)) → PassesAsAsked tests s → All (HasPart s) (asked is_part tests)
parts_pass s [] h = All-nil (HasPart s)
parts_pass s (t ∷ tests) h = part_one s t.0.op t.0.value t.1 (asked is_part tests) (All-head (PassesOne s) t tests h) (parts_pass s tests (All-tail (PassesOne s) t tests h))

suffix_one : (s : List ℕ) (op : Op) (v : List ℕ) (w : Bool) (vs : List (List ℕ)) → MatchBool w (Passes op v s) (Passes op v s → ⊥) →
    All (EndsWith s) vs → All (EndsWith s) (cond (w && is_suffix op) (v ∷ vs) vs)
suffix_one s op v false vs h rest = rest
suffix_one s Suffix v true vs h rest = All-cons (EndsWith s) v vs h.1 rest
suffix_one s Present v true vs h rest = rest
suffix_one s Equal v true vs h rest = rest
suffix_one s Dash v true vs h rest = rest
suffix_one s Prefix v true vs h rest = rest
suffix_one s Part v true vs h rest = rest
suffix_one s Word v true vs h rest = rest

pub suffixes_pass : (s : List ℕ) (tests : List (AttrTest × Bool)) → PassesAsAsked tests s → All (EndsWith s) (asked is_suffix tests)
suffixes_pass s [] h = All-nil (EndsWith s)
suffixes_pass s (t ∷ tests) h = suffix_one s t.0.op t.0.value t.1 (asked is_suffix tests) (All-head (PassesOne s) t tests h) (suffixes_pass s tests (All-tail (PassesOne s) t tests h))

-- s is the value of no Dash that is asked to hold
start_one : (s : List ℕ) (op : Op) (v : List ℕ) (w : Bool) (vs : List (List ℕ)) (ds : List (List ℕ)) → MatchBool w (Passes op v s) (Passes op v s → ⊥) →
    All (λ x. s ≢ x) (cond (w && is_dash op) (v ∷ ds) ds) → All (BeginsWith s) vs → All (BeginsWith s) (cond w (start_of op v vs) vs)
start_one s op v false vs ds h no_dash rest = rest
start_one s Prefix v true vs ds h no_dash rest = All-cons (BeginsWith s) v vs h.1 rest
start_one s Dash v true vs ds h no_dash rest = All-cons (BeginsWith s) (v ++ 0x2D ∷ []) vs (begins h) rest
  where
    begins : (s ≡ v) ⊎ BeginsWith s (v ++ 0x2D ∷ []) → BeginsWith s (v ++ 0x2D ∷ [])
    begins (inl e) = absurd (All-head (λ x. s ≢ x) v ds no_dash e)
    begins (inr b) = b
start_one s Present v true vs ds h no_dash rest = rest
start_one s Equal v true vs ds h no_dash rest = rest
start_one s Suffix v true vs ds h no_dash rest = rest
start_one s Part v true vs ds h no_dash rest = rest
start_one s Word v true vs ds h no_dash rest = rest

rest_of : (P : List ℕ → Type 0) (b : Bool) (v : List ℕ) (vs : List (List ℕ)) → All P (cond b (v ∷ vs) vs) → All P vs
rest_of P true v vs h = All-tail P v vs h
rest_of P false v vs h = h

pub starts_pass : (s : List ℕ) (tests : List (AttrTest × Bool)) → PassesAsAsked tests s → All (λ x. s ≢ x) (asked is_dash tests) → All (BeginsWith s) (starts tests)
starts_pass s [] h no_dash = All-nil (BeginsWith s)
starts_pass s (t ∷ tests) h no_dash =
    start_one s t.0.op t.0.value t.1 (starts tests) (asked is_dash tests) (All-head (PassesOne s) t tests h) no_dash
    (starts_pass s tests (All-tail (PassesOne s) t tests h) (rest_of (λ x. s ≢ x) (t.1 && is_dash t.0.op) t.0.value (asked is_dash tests) no_dash))

-- the longest of texts that a text begins with: it begins with it, and that begins with each
begins_shorter : (s x y : List ℕ) → BeginsWith s x → BeginsWith s y → length y ≤ length x → BeginsWith x y
begins_shorter s x [] hx hy le = (x, refl)
begins_shorter s [] (d ∷ y) hx hy le = absurd (omega arith)
begins_shorter [] (c ∷ x) (d ∷ y) hx hy le = absurd (let e : [] ≡ c ∷ x ++ hx.0 = hx.1 in cc)
begins_shorter (a ∷ s) (c ∷ x) (d ∷ y) hx hy le =
    let ex : a ∷ s ≡ c ∷ (x ++ hx.0) = hx.1 in
    let ey : a ∷ s ≡ d ∷ (y ++ hy.0) = hy.1 in
    let same : c ≡ d = cc in
    let h = begins_shorter s x y (hx.0, (let e : s ≡ x ++ hx.0 = cc in e)) (hy.0, (let e : s ≡ y ++ hy.0 = cc in e)) (omega arith) in
    (h.0, ap₂ (λ (n : ℕ) (ns : List ℕ). n ∷ ns) same h.1)

pub begins_trans : (s x y : List ℕ) → BeginsWith s x → BeginsWith x y → BeginsWith s y
begins_trans s x y h k = (k.0 ++ h.0, h.1 ∙ ap (λ (t : List ℕ). t ++ h.0) k.1 ∙ append_assoc y k.0 h.0)

pub longest_begins : (s : List ℕ) (xs : List (List ℕ)) → All (BeginsWith s) xs → BeginsWith s (longest xs) × All (BeginsWith (longest xs)) xs
longest_begins s [] h = ((s, refl), All-nil (BeginsWith []))
longest_begins s (x ∷ xs) h = cases (nat_le (length (longest xs)) (length x)) refl (longest_begins s xs (All-tail (BeginsWith s) x xs h))
  where
    first : BeginsWith s x
    first = All-head (BeginsWith s) x xs h

    cases : (b : Bool) → nat_le (length (longest xs)) (length x) ≡ b → BeginsWith s (longest xs) × All (BeginsWith (longest xs)) xs →
        BeginsWith s (cond b x (longest xs)) × All (BeginsWith (cond b x (longest xs))) (x ∷ xs)
    cases true e k =
        let less : BeginsWith x (longest xs) = begins_shorter s x (longest xs) first k.0 (leb-true (length (longest xs)) (length x) e) in
        (first, All-cons (BeginsWith x) x xs ([], sym (append-nil x)) (All-weaker (BeginsWith (longest xs)) (BeginsWith x) (λ v j. begins_trans x (longest xs) v less j) xs k.1))
    cases false e k =
        let less : BeginsWith (longest xs) x = begins_shorter s (longest xs) x k.0 first (let l : length x < length (longest xs) = leb-false (length (longest xs)) (length x) e in omega arith) in
        (k.0, All-cons (BeginsWith (longest xs)) x xs less k.1)

-- the same at the end
ends_shorter : (f g x y : List ℕ) → f ++ x ≡ g ++ y → length y ≤ length x → EndsWith x y
ends_shorter [] g x y e le = (g, e)
ends_shorter (a ∷ f) [] x y e le = absurd (let l = ap length e in let k = length-append f x in let l2 : length (a ∷ (f ++ x)) ≡ length y = l in omega arith)
ends_shorter (a ∷ f) (b ∷ g) x y e le = ends_shorter f g x y (let t : f ++ x ≡ g ++ y = cc in t) le

pub ends_trans : (s x y : List ℕ) → EndsWith s x → EndsWith x y → EndsWith s y
ends_trans s x y h k = (h.0 ++ k.0, h.1 ∙ ap (λ (t : List ℕ). h.0 ++ t) k.1 ∙ sym (append_assoc h.0 k.0 y))

pub longest_ends : (s : List ℕ) (xs : List (List ℕ)) → All (EndsWith s) xs → EndsWith s (longest xs) × All (EndsWith (longest xs)) xs
longest_ends s [] h = ((s, sym (append-nil s)), All-nil (EndsWith []))
longest_ends s (x ∷ xs) h = cases (nat_le (length (longest xs)) (length x)) refl (longest_ends s xs (All-tail (EndsWith s) x xs h))
  where
    first : EndsWith s x
    first = All-head (EndsWith s) x xs h

    cases : (b : Bool) → nat_le (length (longest xs)) (length x) ≡ b → EndsWith s (longest xs) × All (EndsWith (longest xs)) xs →
        EndsWith s (cond b x (longest xs)) × All (EndsWith (cond b x (longest xs))) (x ∷ xs)
    cases true e k =
        let less : EndsWith x (longest xs) = ends_shorter first.0 k.0.0 x (longest xs) (sym first.1 ∙ k.0.1) (leb-true (length (longest xs)) (length x) e) in
        (first, All-cons (EndsWith x) x xs ([], refl) (All-weaker (EndsWith (longest xs)) (EndsWith x) (λ v j. ends_trans x (longest xs) v less j) xs k.1))
    cases false e k =
        let less : EndsWith (longest xs) x = ends_shorter k.0.0 first.0 (longest xs) x (sym k.0.1 ∙ first.1) (let l : length x < length (longest xs) = leb-false (length (longest xs)) (length x) e in omega arith) in
        (k.0, All-cons (EndsWith (longest xs)) x xs less k.1)

-- taking each text once keeps what holds of all, both ways
filter_All : (P : List ℕ → Type 0) (keep : List ℕ → Bool) (xs : List (List ℕ)) → All P xs → All P (filter keep xs)
filter_All P keep [] h = All-nil P
filter_All P keep (x ∷ xs) h = cases (keep x) (filter_All P keep xs (All-tail P x xs h))
  where
    cases : (b : Bool) → All P (filter keep xs) → All P (cond b (x ∷ filter keep xs) (filter keep xs))
    cases true k = All-cons P x (filter keep xs) (All-head P x xs h) k
    cases false k = k

pub once_All : (P : List ℕ → Type 0) (xs : List (List ℕ)) → All P xs → All P (once xs)
once_All P [] h = All-nil P
once_All P (x ∷ xs) h = All-cons P x (filter (λ y. not (same_text y x)) (once xs)) (All-head P x xs h) (filter_All P (λ y. not (same_text y x)) (once xs) (once_All P xs (All-tail P x xs h)))

filter_back : (P : List ℕ → Type 0) (x : List ℕ) → P x → (xs : List (List ℕ)) → All P (filter (λ y. not (same_text y x)) xs) → All P xs
filter_back P x here [] h = All-nil P
filter_back P x here (y ∷ ys) h = cases (filter_back P x here ys) (same_text y x) refl h
  where
    cases : (All P (filter (λ y. not (same_text y x)) ys) → All P ys) → (b : Bool) → same_text y x ≡ b → All P (cond (not b) (y ∷ filter (λ y. not (same_text y x)) ys) (filter (λ y. not (same_text y x)) ys)) → All P (y ∷ ys)
    cases later true e k = All-cons P y ys (subst P (sym ((bytes_decides y x).0 e)) here) (later k)
    cases later false e k = All-cons P y ys (All-head P y (filter (λ y. not (same_text y x)) ys) k) (later (All-tail P y (filter (λ y. not (same_text y x)) ys) k))

pub once_back : (P : List ℕ → Type 0) (xs : List (List ℕ)) → All P (once xs) → All P xs
once_back P [] h = All-nil P
once_back P (x ∷ xs) h =
    let rest = filter (λ y. not (same_text y x)) (once xs) in
    All-cons P x xs (All-head P x rest h) (once_back P xs (filter_back P x (All-head P x rest h) (once xs) (All-tail P x rest h)))
