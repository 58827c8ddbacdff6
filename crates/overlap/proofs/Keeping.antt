-- Answers that are kept by the places of their selectors.
use Rattle.std.proofs.Common.{◌≡◌, ◌≢◌, inl, inr, ℕ, zero, suc, ◌+◌, ◌<◌, ◌≤◌, Bool, true, false, not, cond, if◌then◌else◌, List, [], ◌∷◌, ◌++◌, map, length, get_or, Option, Some, None, Result, Ok, Err, OnOk, OnErr, refl, sym, ap, ap₂, subst, ◌∙◌, true≢false, arith, rules, lt-ltb, le-ltb}
use Rattle.std.specs.Prelude.{nat_lt, slice_get}
use Rattle.std.specs.Borrow.{Bor}
use Rattle.std.specs.Bool.{Decides}
use Rattle.std.specs.List.{All, AllByRecursion, Contains, IsDistinct, IsDistinct-prop, position, position_or_len}
use Rattle.std.specs.Map.{keys_of, lookup}
use Rattle.std.specs.Option.{option_copied, option_map}
use Rattle.std.proofs.Math.Bool.{Bool-set}
use Rattle.std.proofs.Math.ListN.{get_or-append}
use Rattle.std.proofs.Math.Logic.{∥∥₁_elim, ∥∥₁_map}
use Rattle.std.proofs.lemmas.Bool.{cases_lt}
use Rattle.std.proofs.lemmas.List.{length-append}
use Rattle.std.proofs.lemmas.List.Elements.{All-append, All-cons, All-head, All-nil, All-tail, Contains-append_right}
use Rattle.std.proofs.lemmas.Option.{get_or_from_slice_get, slice_get-map, slice_get_within}
use Rattle.css_model.proofs.ForCallers.{selector_decides}
use Rattle.css_model.specs.contracts.selector.SelectorPartialEq.TheImpl as selector
use Rattle.css_model.specs.Documents.SelectorParts.{SelectorParts}
use Rattle.indexmap.specs.IndexMap.{insert_entry}
use Rattle.overlap.specs.contracts.store.PlacesPartialEq.TheImpl as places
use Rattle.overlap.specs.declared.answer.Answer.{Answer}
use Rattle.overlap.specs.declared.store.Places.{Places}
use Rattle.overlap.specs.PairsParts.{Answered}
use Rattle.overlap.specs.Remembered.{IsOfOther, IsUnknown, Known, StandsAt}
use Rattle.overlap.specs.Stored.{Adds, AreAt, ArePlaces, HasNone, IsOnce, IsPlace, IsStore, answered, answers_of, nothing}

-- ---- Where a test passes first

abbrev IsThere : {X : Type 0} → List X → X → Option ℕ → Type 0
IsThere xs x None = All (λ y. y ≢ x) xs
IsThere xs x (Some k) = slice_get xs k ≡ Some x

passed_step : {X : Type 0} (b : Bool) (x y : X) (ys : List X) (n : ℕ) → (b ≡ true → x ≡ y) → (n < length ys → slice_get ys n ≡ Some x) →
    cond (not b) (1 + n) 0 < length (y ∷ ys) → slice_get (y ∷ ys) (cond (not b) (1 + n) 0) ≡ Some x
passed_step true x y ys n same rest l = ap Some (sym (same refl))
passed_step false x y ys n same rest l = subst (λ k. slice_get (y ∷ ys) k ≡ Some x) (let e : suc n ≡ 1 + n = omega arith in e) (rest (omega arith))

passed : {X : Type 0} (eq : X → X → Bool) → ((a b : X) → Decides (eq a b) (a ≡ b)) → (x : X) (xs : List X) → position_or_len (eq x) xs < length xs → slice_get xs (position_or_len (eq x) xs) ≡ Some x
passed eq decides x [] l = absurd (omega arith)
passed eq decides x (y ∷ ys) l = passed_step (eq x y) x y ys (position_or_len (eq x) ys) (λ e. (decides x y).0 e) (passed eq decides x ys) l

absent_step : {X : Type 0} (b : Bool) (x y : X) (ys : List X) (n : ℕ) → (x ≡ y → b ≡ true) → (length ys ≤ n → All (λ z. z ≢ x) ys) →
    length (y ∷ ys) ≤ cond (not b) (1 + n) 0 → All (λ z. z ≢ x) (y ∷ ys)
absent_step true x y ys n same rest l = absurd (omega arith)
absent_step false x y ys n same rest l = All-cons (λ z. z ≢ x) y ys (λ e. true≢false (sym (same (sym e)))) (rest (omega arith))

absent : {X : Type 0} (eq : X → X → Bool) → ((a b : X) → Decides (eq a b) (a ≡ b)) → (x : X) (xs : List X) → length xs ≤ position_or_len (eq x) xs → All (λ z. z ≢ x) xs
absent eq decides x [] l = All-nil (λ z. z ≢ x)
absent eq decides x (y ∷ ys) l = absent_step (eq x y) x y ys (position_or_len (eq x) ys) (λ e. (decides x y).1 e) (absent eq decides x ys) l

there : {X : Type 0} (eq : X → X → Bool) → ((a b : X) → Decides (eq a b) (a ≡ b)) → (x : X) (xs : List X) → IsThere xs x (position (eq x) xs)
there eq decides x xs = elim (cases_lt (position_or_len (eq x) xs) (length xs)) [
  | inl l ↦ subst (λ (b : Bool). IsThere xs x (cond b (Some (position_or_len (eq x) xs)) None)) (sym (lt-ltb (position_or_len (eq x) xs) (length xs) l)) (passed eq decides x xs l)
  | inr l ↦ subst (λ (b : Bool). IsThere xs x (cond b (Some (position_or_len (eq x) xs)) None)) (sym (le-ltb (position_or_len (eq x) xs) (length xs) l)) (absent eq decides x xs l)
]

abbrev selector_eq : SelectorParts → SelectorParts → Bool
selector_eq = (selector.ghosts).eq

abbrev places_eq : Places → Places → Bool
places_eq = (places.ghosts).eq

places_decide : (a b : Places) → Decides (places_eq a b) (a ≡ b)
places_decide a b = search rules

pub place_is : (selectors : List SelectorParts) (x : SelectorParts) (r : Option ℕ) → r ≡ position (selector_eq x) selectors → IsPlace selectors x r
place_is selectors x r e = subst (IsPlace selectors x) (sym e) (by (position (selector_eq x) selectors) (there selector_eq selector_decides x selectors))
  where
    by : (o : Option ℕ) → IsThere selectors x o → IsPlace selectors x o
    by None h = h
    by (Some k) h = h

abbrev places_of : ℕ → ℕ → Places
places_of left right = record { left = left; right = right }

abbrev entry_of : SelectorParts → SelectorParts → Answer → Answered
entry_of left right answer = record { left = left; right = right; answer = answer }

-- ---- A selector stands at one place

later : (x : SelectorParts) (xs : List SelectorParts) (j : ℕ) → AllByRecursion (λ y. selector_eq x y ≡ false) xs → j < length xs → x ≡ get_or xs j nothing → ⊥
later x [] j h l e = absurd (omega arith)
later x (y ∷ ys) zero h l e = true≢false (sym ((selector_decides x y).1 e) ∙ h.0)
later x (y ∷ ys) (suc j) h l e = later x ys j h.1 (omega arith) e

once_at : (xs : List SelectorParts) (i j : ℕ) → IsOnce xs → i < length xs → j < length xs → get_or xs i nothing ≡ get_or xs j nothing → i ≡ j
unfolding IsDistinct
once_at [] i j h l m e = absurd (omega arith)
once_at (x ∷ xs) zero zero h l m e = refl
once_at (x ∷ xs) zero (suc j) h l m e = absurd (later x xs j h.0 (omega arith) e)
once_at (x ∷ xs) (suc i) zero h l m e = absurd (later x xs i h.0 (omega arith) (sym e))
once_at (x ∷ xs) (suc i) (suc j) h l m e = ap suc (once_at xs i j h.1 (omega arith) (omega arith) e)

-- ---- What is kept for two selectors

abbrev IsWithin : List SelectorParts → Places × Answer → Type 0
IsWithin selectors e = (e.0.left < length selectors) × (e.0.right < length selectors)

read_at : (selectors : List SelectorParts) (x : SelectorParts) (k : ℕ) → slice_get selectors k ≡ Some x → get_or selectors k nothing ≡ x
read_at selectors x k e = get_or_from_slice_get selectors k x nothing e

-- no answer for the places, so none for the selectors
unknown_at : (selectors : List SelectorParts) (entries : List (Places × Answer)) (x y : SelectorParts) (places : Places) → IsOnce selectors → All (IsWithin selectors) entries →
    AreAt selectors x y places → HasNone entries places → IsUnknown (answers_of selectors entries) x y
unknown_at selectors [] x y places once within at none = All-nil (IsOfOther x y)
unknown_at selectors (e ∷ es) x y places once within at none =
    All-cons (IsOfOther x y) (answered selectors e) (answers_of selectors es)
    (λ (l, r). All-head (λ (f : Places × Answer). f.0 ≢ places) e es none (same l r))
    (unknown_at selectors es x y places once (All-tail (IsWithin selectors) e es within) at (All-tail (λ (f : Places × Answer). f.0 ≢ places) e es none))
  where
    same : get_or selectors e.0.left nothing ≡ x → get_or selectors e.0.right nothing ≡ y → e.0 ≡ places
    same l r =
        let in_list = All-head (IsWithin selectors) e es within in
        let left : e.0.left ≡ places.left = once_at selectors e.0.left places.left once in_list.0 (slice_get_within selectors places.left x at.0) (l ∙ sym (read_at selectors x places.left at.0)) in
        let right : e.0.right ≡ places.right = once_at selectors e.0.right places.right once in_list.1 (slice_get_within selectors places.right y at.1) (r ∙ sym (read_at selectors y places.right at.1)) in
        ap₂ (λ (i j : ℕ). places_of i j) left right

-- one of the selectors stands nowhere
unknown_nowhere : (selectors : List SelectorParts) (entries : List (Places × Answer)) (x y : SelectorParts) → All (IsWithin selectors) entries →
    ArePlaces selectors x y None → IsUnknown (answers_of selectors entries) x y
unknown_nowhere selectors [] x y within h = All-nil (IsOfOther x y)
unknown_nowhere selectors (e ∷ es) x y within h =
    All-cons (IsOfOther x y) (answered selectors e) (answers_of selectors es) (λ (l, r). by h l r) (unknown_nowhere selectors es x y (All-tail (IsWithin selectors) e es within) h)
  where
    by : ArePlaces selectors x y None → get_or selectors e.0.left nothing ≡ x → get_or selectors e.0.right nothing ≡ y → ⊥
    by (inl none) l r = none e.0.left nothing (All-head (IsWithin selectors) e es within).0 l
    by (inr none) l r = none e.0.right nothing (All-head (IsWithin selectors) e es within).1 r

abbrev IsKept : List SelectorParts → List (Places × Answer) → Type 0
IsKept selectors entries = ∥ IsStore selectors entries ∥₁

kept_unknown : (selectors : List SelectorParts) (entries : List (Places × Answer)) (x y : SelectorParts) → IsKept selectors entries → (IsStore selectors entries → IsUnknown (answers_of selectors entries) x y) →
    IsUnknown (answers_of selectors entries) x y
kept_unknown selectors entries x y kept h = λ k d l same. ∥∥₁_elim kept (λ a b. absurd a) (λ s. h s k d l same)

pub known_nowhere : (selectors : List SelectorParts) (entries : List (Places × Answer)) (x y : SelectorParts) → IsKept selectors entries → ArePlaces selectors x y None → IsUnknown (answers_of selectors entries) x y
known_nowhere selectors entries x y kept h = kept_unknown selectors entries x y kept (λ s. unknown_nowhere selectors entries x y s.within h)

known_at : (selectors : List SelectorParts) (entries : List (Places × Answer)) (x y : SelectorParts) (places : Places) → IsKept selectors entries → AreAt selectors x y places → HasNone entries places →
    IsUnknown (answers_of selectors entries) x y
known_at selectors entries x y places kept at none = kept_unknown selectors entries x y kept (λ s. unknown_at selectors entries x y places s.once s.within at none)

-- what a look-up gives
abbrev Looked : List (Places × Answer) → Places → Option Answer → Type 0
Looked entries places None = HasNone entries places
Looked entries places (Some a) = Contains entries (places, a)

looked : (entries : List (Places × Answer)) (places : Places) → Looked entries places (lookup (places_eq places) entries)
looked [] places = All-nil (λ (e : Places × Answer). e.0 ≢ places)
looked (e ∷ es) places = by (places_eq places e.0) refl (lookup (places_eq places) es) (looked es places)
  where
    by : (b : Bool) → places_eq places e.0 ≡ b → (o : Option Answer) → Looked es places o → Looked (e ∷ es) places (cond b (Some e.1) o)
    by true h o rest = (0, omega arith, ap (λ (p : Places). (p, e.1)) (sym ((places_decide places e.0).0 h)))
    by false h None rest = All-cons (λ (f : Places × Answer). f.0 ≢ places) e es (λ same. true≢false (sym ((places_decide places e.0).1 (sym same)) ∙ h)) rest
    by false h (Some a) rest = Contains-append_right (e ∷ []) es (places, a) rest

answer_at : (selectors : List SelectorParts) (entries : List (Places × Answer)) (x y : SelectorParts) (places : Places) (a : Answer) → AreAt selectors x y places → Contains entries (places, a) →
    Contains (answers_of selectors entries) (record { left = x; right = y; answer = a })
answer_at selectors [] x y places a at (k, l, e) = absurd (omega arith)
answer_at selectors (f ∷ fs) x y places a at (zero, l, e) = (0, omega arith, is)
  where
    is : answered selectors f ≡ record { left = x; right = y; answer = a }
    is = ap (answered selectors) e ∙ ap₂ (λ (s t : SelectorParts). entry_of s t a) (read_at selectors x places.left at.0) (read_at selectors y places.right at.1)
answer_at selectors (f ∷ fs) x y places a at (suc k, l, e) = Contains-append_right (answered selectors f ∷ []) (answers_of selectors fs) (record { left = x; right = y; answer = a }) (answer_at selectors fs x y places a at (k, omega arith, e))

pub known_is : (selectors : List SelectorParts) (entries : List (Places × Answer)) (x y : SelectorParts) (places : Places) (r : Option (Bor Answer)) → IsKept selectors entries → AreAt selectors x y places →
    option_copied r ≡ lookup (places_eq places) entries → Known (answers_of selectors entries) x y r
known_is selectors entries x y places None kept at e = known_at selectors entries x y places kept at (subst (Looked entries places) (sym e) (looked entries places))
known_is selectors entries x y places (Some a) kept at e = answer_at selectors entries x y places a.now at (subst (Looked entries places) (sym e) (looked entries places))

-- ---- Where an answer stands

entry_at : (entries : List (Places × Answer)) (at : ℕ) (places : Places) → slice_get (map (λ (e : Places × Answer). e.0) entries) at ≡ Some places → (e : Places × Answer) × (slice_get entries at ≡ Some e) × (e.0 ≡ places)
entry_at [] at places e = cc
entry_at (e ∷ es) zero places h = (e, refl, (let s : e.0 ≡ places = cc in s))
entry_at (e ∷ es) (suc n) places h = entry_at es n places h

none_of : (entries : List (Places × Answer)) (places : Places) → All (λ p. p ≢ places) (map (λ (e : Places × Answer). e.0) entries) → HasNone entries places
none_of [] places h = All-nil (λ (e : Places × Answer). e.0 ≢ places)
none_of (e ∷ es) places h = All-cons (λ (f : Places × Answer). f.0 ≢ places) e es (All-head (λ p. p ≢ places) e.0 (map (λ (f : Places × Answer). f.0) es) h)
    (none_of es places (All-tail (λ p. p ≢ places) e.0 (map (λ (f : Places × Answer). f.0) es) h))

pub stands_is : (selectors : List SelectorParts) (entries : List (Places × Answer)) (x y : SelectorParts) (places : Places) (r : Option ℕ) → IsKept selectors entries → AreAt selectors x y places →
    r ≡ position (places_eq places) (keys_of entries) → StandsAt (answers_of selectors entries) x y r
stands_is selectors entries x y places r kept at e = by r (subst (IsThere (keys_of entries) places) (sym e) (there places_eq places_decide places (keys_of entries)))
  where
    by : (o : Option ℕ) → IsThere (keys_of entries) places o → StandsAt (answers_of selectors entries) x y o
    by None h = known_at selectors entries x y places kept at (none_of entries places h)
    by (Some k) h =
        let (f, there, same) = entry_at entries k places h in (
          answered selectors f,
          slice_get-map (answered selectors) entries k ∙ ap (λ (o : Option (Places × Answer)). option_map (answered selectors) o) there,
          ap (λ (p : Places). get_or selectors p.left nothing) same ∙ read_at selectors x places.left at.0,
          ap (λ (p : Places). get_or selectors p.right nothing) same ∙ read_at selectors y places.right at.1,
        )

value_at : (entries : List (Places × Answer)) (at : ℕ) (a : Answer) → slice_get (map (λ (e : Places × Answer). e.1) entries) at ≡ Some a → (e : Places × Answer) × (slice_get entries at ≡ Some e) × (e.1 ≡ a)
value_at [] at a e = cc
value_at (e ∷ es) zero a h = (e, refl, (let s : e.1 ≡ a = cc in s))
value_at (e ∷ es) (suc n) a h = value_at es n a h

contains_at : (answers : List Answered) (at : ℕ) (e f : Answered) → slice_get answers at ≡ Some e → e ≡ f → Contains answers f
contains_at answers at e f h same = (at, slice_get_within answers at e h, get_or_from_slice_get answers at e f h ∙ same)

-- the value that is read there is the answer
pub lent_at : (selectors : List SelectorParts) (entries : List (Places × Answer)) (x y : SelectorParts) (at : ℕ) (a : Answer) → StandsAt (answers_of selectors entries) x y (Some at) →
    slice_get (map (λ (e : Places × Answer). e.1) entries) at ≡ Some a → Contains (answers_of selectors entries) (record { left = x; right = y; answer = a })
lent_at selectors entries x y at a (e, stands, left, right) read =
    let (f, there, value) = value_at entries at a read in
    let shown : slice_get (answers_of selectors entries) at ≡ Some (answered selectors f) = slice_get-map (answered selectors) entries at ∙ ap (λ (o : Option (Places × Answer)). option_map (answered selectors) o) there in
    let same : e ≡ answered selectors f = some_same e (answered selectors f) (sym stands ∙ shown) in
    contains_at (answers_of selectors entries) at e (entry_of x y a) stands
    (ap (λ (b : Answer). entry_of e.left e.right b) (ap (λ (g : Answered). g.answer) same ∙ value) ∙ ap₂ (λ (s t : SelectorParts). entry_of s t a) left right)
  where
    some_same : (g h : Answered) → Some g ≡ Some h → g ≡ h
    some_same g h e = cc

-- ---- One answer more

more_within : (old more : List SelectorParts) (entries : List (Places × Answer)) → All (IsWithin old) entries → All (IsWithin (old ++ more)) entries
more_within old more [] h = All-nil (IsWithin (old ++ more))
more_within old more (e ∷ es) h =
    let w = All-head (IsWithin old) e es h in
    let l = length-append old more in
    All-cons (IsWithin (old ++ more)) e es (let b : e.0.left < length (old ++ more) = omega arith in b, let b : e.0.right < length (old ++ more) = omega arith in b) (more_within old more es (All-tail (IsWithin old) e es h))

same_answers : (old more : List SelectorParts) (entries : List (Places × Answer)) → All (IsWithin old) entries → answers_of (old ++ more) entries ≡ answers_of old entries
same_answers old more [] h = refl
same_answers old more (e ∷ es) h =
    let w = All-head (IsWithin old) e es h in
    ap₂ (λ (a : Answered) (rest : List Answered). a ∷ rest)
    (ap₂ (λ (s t : SelectorParts). entry_of s t e.1) (get_or-append old more nothing e.0.left w.0) (get_or-append old more nothing e.0.right w.1))
    (same_answers old more es (All-tail (IsWithin old) e es h))

-- the places of a pair without an answer have none
none_kept : (old more : List SelectorParts) (entries : List (Places × Answer)) (x y : SelectorParts) (places : Places) → All (IsWithin old) entries → IsUnknown (answers_of old entries) x y →
    AreAt (old ++ more) x y places → HasNone entries places
none_kept old more [] x y places h unknown at = All-nil (λ (e : Places × Answer). e.0 ≢ places)
none_kept old more (e ∷ es) x y places h unknown at =
    let w = All-head (IsWithin old) e es h in
    All-cons (λ (f : Places × Answer). f.0 ≢ places) e es
    (λ same. All-head (IsOfOther x y) (answered old e) (answers_of old es) unknown (
      sym (get_or-append old more nothing e.0.left w.0) ∙ ap (λ (p : Places). get_or (old ++ more) p.left nothing) same ∙ read_at (old ++ more) x places.left at.0,
      sym (get_or-append old more nothing e.0.right w.1) ∙ ap (λ (p : Places). get_or (old ++ more) p.right nothing) same ∙ read_at (old ++ more) y places.right at.1,
    ))
    (none_kept old more es x y places (All-tail (IsWithin old) e es h) (All-tail (IsOfOther x y) (answered old e) (answers_of old es) unknown) at)

pub kept_once : (selectors : List SelectorParts) (entries : List (Places × Answer)) → IsKept selectors entries → IsOnce selectors
kept_once selectors entries kept = ∥∥₁_elim kept (IsDistinct-prop selector_eq selectors) (λ s. s.once)

below_of : (m n : ℕ) → ∥ m < n ∥₁ → m < n
below_of m n h = elim (cases_lt m n) [
  | inl l ↦ l
  | inr l ↦ absurd (true≢false (sym (∥∥₁_elim h (Bool-set (nat_lt m n) true) (λ k. lt-ltb m n k)) ∙ le-ltb m n l))
]

kept_within : (selectors : List SelectorParts) (entries : List (Places × Answer)) → IsKept selectors entries → All (IsWithin selectors) entries
kept_within selectors entries kept k d l = (
  below_of (get_or entries k d).0.left (length selectors) (∥∥₁_map kept (λ s. (s.within k d l).0)),
  below_of (get_or entries k d).0.right (length selectors) (∥∥₁_map kept (λ s. (s.within k d l).1)),
)

pub no_places : (old new : List SelectorParts) (entries : List (Places × Answer)) (x y : SelectorParts) (places : Places) → IsKept old entries → IsUnknown (answers_of old entries) x y → Adds old new →
    AreAt new x y places → HasNone entries places
no_places old new entries x y places kept unknown ((more, is), once) at = λ k d l same. ∥∥₁_elim kept (λ a b. absurd a)
    (λ s. none_kept old more entries x y places s.within unknown (subst (λ (ss : List SelectorParts). AreAt ss x y places) is at) k d l same)

-- with more selectors
pub kept_added : (old new : List SelectorParts) (entries : List (Places × Answer)) → IsKept old entries → Adds old new → IsKept new entries
kept_added old new entries kept ((more, is), once) = ∥∥₁_map kept (λ s. record {
  once = once;
  within = subst (λ (ss : List SelectorParts). All (IsWithin ss) entries) (sym is) (more_within old more entries s.within);
})

-- with one answer more
within_more : (new : List SelectorParts) (entries : List (Places × Answer)) (x y : SelectorParts) (places : Places) (a : Answer) → All (IsWithin new) entries → AreAt new x y places → All (IsWithin new) (entries ++ (places, a) ∷ [])
within_more new entries x y places a h at =
    All-append (IsWithin new) entries ((places, a) ∷ []) h
    (All-cons (IsWithin new) (places, a) [] (slice_get_within new places.left x at.0, slice_get_within new places.right y at.1) (All-nil (IsWithin new)))

pub kept_more : {E : Type 0} (r : Result ℕ E) (new : List SelectorParts) (entries later : List (Places × Answer)) (x y : SelectorParts) (places : Places) (a : Answer) → IsKept new entries → AreAt new x y places →
    OnOk r (later ≡ entries ++ (places, a) ∷ []) → OnErr r (later ≡ entries) → IsKept new later
kept_more (Ok k) new entries later x y places a kept at ok err =
    ∥∥₁_map kept (λ s. record { once = s.once; within = subst (All (IsWithin new)) (sym ok) (within_more new entries x y places a s.within at) })
kept_more (Err e) new entries later x y places a kept at ok err = subst (IsKept new) (sym err) kept

answers_append : (selectors : List SelectorParts) (entries : List (Places × Answer)) (e : Places × Answer) → answers_of selectors (entries ++ e ∷ []) ≡ answers_of selectors entries ++ answered selectors e ∷ []
answers_append selectors [] e = refl
answers_append selectors (f ∷ fs) e = ap (λ (rest : List Answered). answered selectors f ∷ rest) (answers_append selectors fs e)

pub added_answers : (old new : List SelectorParts) (entries : List (Places × Answer)) → IsKept old entries → Adds old new → answers_of new entries ≡ answers_of old entries
added_answers old new entries kept ((more, is), once) = ap (λ (ss : List SelectorParts). answers_of ss entries) is ∙ same_answers old more entries (kept_within old entries kept)

pub more_answers : {E : Type 0} (r : Result ℕ E) (old new : List SelectorParts) (entries later : List (Places × Answer)) (x y : SelectorParts) (places : Places) (a : Answer) → IsKept old entries → Adds old new →
    AreAt new x y places → OnOk r (later ≡ entries ++ (places, a) ∷ []) → OnOk r (answers_of new later ≡ answers_of old entries ++ record { left = x; right = y; answer = a } ∷ [])
more_answers (Ok k) old new entries later x y places a kept adds at ok =
    ap (answers_of new) ok ∙ answers_append new entries (places, a)
    ∙ ap₂ (λ (front : List Answered) (b : Answered). front ++ b ∷ []) (added_answers old new entries kept adds)
    (ap₂ (λ (s t : SelectorParts). entry_of s t a) (read_at new x places.left at.0) (read_at new y places.right at.1))
more_answers (Err e) old new entries later x y places a kept adds at ok = tt

pub same_later : {E : Type 0} (r : Result ℕ E) (old new : List SelectorParts) (entries later : List (Places × Answer)) → IsKept old entries → Adds old new → OnErr r (later ≡ entries) →
    OnErr r (answers_of new later ≡ answers_of old entries)
same_later (Ok k) old new entries later kept adds err = tt
same_later (Err e) old new entries later kept adds err = ap (answers_of new) err ∙ added_answers old new entries kept adds

pub given_err : {A E P : Type 0} (r : Result A E) → P → OnErr r P
given_err (Ok a) p = tt
given_err (Err e) p = p

-- ---- A key that has no value goes last

other_places : (places : Places) (e : Places × Answer) → e.0 ≢ places → places_eq places e.0 ≡ false
other_places places e apart = by (places_eq places e.0) refl
  where
    by : (b : Bool) → places_eq places e.0 ≡ b → places_eq places e.0 ≡ false
    by true h = absurd (apart (sym ((places_decide places e.0).0 h)))
    by false h = h

pub appended : (entries : List (Places × Answer)) (places : Places) (a : Answer) → HasNone entries places → insert_entry places_eq entries places a ≡ entries ++ (places, a) ∷ []
appended [] places a none = refl
appended (e ∷ es) places a none =
    ap (λ (b : Bool). if b then (e.0, a) ∷ es else e ∷ insert_entry places_eq es places a) (other_places places e (All-head (λ (f : Places × Answer). f.0 ≢ places) e es none))
    ∙ ap (λ (rest : List (Places × Answer)). e ∷ rest) (appended es places a (All-tail (λ (f : Places × Answer). f.0 ≢ places) e es none))

pub last_index : (entries : List (Places × Answer)) (places : Places) → HasNone entries places → position_or_len (places_eq places) (keys_of entries) ≡ length entries
last_index [] places none = refl
last_index (e ∷ es) places none =
    let rest = last_index es places (All-tail (λ (f : Places × Answer). f.0 ≢ places) e es none) in
    ap (λ (b : Bool). cond (not b) (1 + position_or_len (places_eq places) (keys_of es)) 0) (other_places places e (All-head (λ (f : Places × Answer). f.0 ≢ places) e es none))
    ∙ (let l : 1 + position_or_len (places_eq places) (keys_of es) ≡ length (e ∷ es) = omega arith in l)

pub none_stands : (answers : List Answered) (x y : SelectorParts) (r : Option ℕ) → r ≡ None → IsUnknown answers x y → StandsAt answers x y r
none_stands answers x y r e h = subst (StandsAt answers x y) (sym e) h

pub none_known : (answers : List Answered) (x y : SelectorParts) (r : Option (Bor Answer)) → r ≡ None → IsUnknown answers x y → Known answers x y r
none_known answers x y r e h = subst (Known answers x y) (sym e) h
