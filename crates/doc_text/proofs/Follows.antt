-- Which line may stand behind others.
use Rattle.std.proofs.Common.{ℕ, suc, ◌-◌, ◌≡◌, ◌≤◌, ◌<◌, Bool, true, false, not, ◌==◌, ◌&&◌, ◌||◌, Option, Some, None, List, [], ◌∷◌, ◌++◌, length, refl, sym, ap, ◌∙◌, subst, arith}
use Rattle.std.specs.Prelude.{MatchOption, IsSomeAnd, is_none, nat_le, nat_lt, slice_get}
use Rattle.std.proofs.lemmas.Bool.{and_from, and_parts, eq-eqb, eqb-true, false≢true, leb-false, leb-true, lt-ltb, ltb-true}
use Rattle.css_model.specs.declared.example.RunLine.{RunLine}
use Rattle.css_model.specs.Documents.RunDocuments.{LinesFollow}
use Rattle.doc_text.specs.Elements.{IsLine}
use Rattle.doc_text.specs.States.{AreFirstLines, IsStart, MayFollow, StateParts, follows, may_follow}
use Rattle.doc_text.proofs.Begun.{all_push, get_front, get_next, next_is}

-- what a line behind another one has
record IsBehind (last l : RunLine) : Type 0 where
  deep : 0 < l.depth
  near : l.depth ≤ suc last.depth
  one : last.depth < l.depth → last.count ≡ 1

behind_to : (last l : RunLine) → follows (Some last) l ≡ true → IsBehind last l
behind_to last l is =
    let both = and_parts (nat_lt 0 l.depth) _ is in
    by (nat_le l.depth last.depth) refl (ltb-true 0 l.depth both.0) both.1
  where
    by : (b : Bool) → nat_le l.depth last.depth ≡ b → 0 < l.depth → (b || (l.depth - 1 == last.depth && last.count == 1)) ≡ true → IsBehind last l
    by true low deep rest = let le = leb-true l.depth last.depth low in record { deep = deep; near = omega (arith, le); one = λ less. absurd (omega (arith, le, less)) }
    by false high deep rest =
        let two = and_parts (l.depth - 1 == last.depth) (last.count == 1) rest in
        let same = eqb-true (l.depth - 1) last.depth two.0 in
        record { deep = deep; near = omega (arith, same, deep); one = λ less. eqb-true last.count 1 two.1 }

behind_from : (last l : RunLine) → IsBehind last l → follows (Some last) l ≡ true
behind_from last l is = and_from (nat_lt 0 l.depth) _ (lt-ltb 0 l.depth is.deep) (by (nat_le l.depth last.depth) refl)
  where
    by : (b : Bool) → nat_le l.depth last.depth ≡ b → (b || (l.depth - 1 == last.depth && last.count == 1)) ≡ true
    by true low = refl
    by false high =
        let less = leb-false l.depth last.depth high in
        let near = is.near in
        and_from (l.depth - 1 == last.depth) (last.count == 1) (eq-eqb (l.depth - 1) last.depth (omega (arith, less, near))) (eq-eqb last.count 1 (is.one less))

-- the last of lines
last_of : RunLine → List RunLine → RunLine
last_of x [] = x
last_of x (y ∷ xs) = last_of y xs

last_is : (x : RunLine) (xs : List RunLine) → slice_get (x ∷ xs) (length (x ∷ xs) - 1) ≡ Some (last_of x xs)
unfolding last_of
last_is x [] = refl
last_is x (y ∷ xs) = let at : length (x ∷ y ∷ xs) - 1 ≡ suc (length (y ∷ xs) - 1) = omega arith in ap (slice_get (x ∷ y ∷ xs)) at ∙ last_is y xs

push_to : (d c : ℕ) (x : RunLine) (xs : List RunLine) (l : RunLine) → 0 < l.count → IsBehind (last_of x xs) l → LinesFollow d c (x ∷ xs) → LinesFollow d c ((x ∷ xs) ++ l ∷ [])
unfolding last_of
push_to d c x [] l some is all = (all.0, all.1, all.2, all.3, (is.deep, is.near, is.one, some, tt))
push_to d c x (y ∷ xs) l some is all = (all.0, all.1, all.2, all.3, push_to x.depth x.count y xs l some is all.4)

push_from : (d c : ℕ) (x : RunLine) (xs : List RunLine) (l : RunLine) → LinesFollow d c ((x ∷ xs) ++ l ∷ []) → IsBehind (last_of x xs) l
unfolding last_of
push_from d c x [] l all = record { deep = all.4.0; near = all.4.1; one = all.4.2 }
push_from d c x (y ∷ xs) l all = push_from x.depth x.count y xs l all.4

first_to : (lines : List RunLine) (l : RunLine) → 0 < l.count → AreFirstLines lines → follows (slice_get lines (length lines - 1)) l ≡ true → AreFirstLines (lines ++ l ∷ [])
unfolding last_of
first_to [] l some first is =
    let both = and_parts (l.depth == 0) (l.count == 1) is in
    (eqb-true l.depth 0 both.0, eqb-true l.count 1 both.1, tt)
first_to (x ∷ []) l some first is =
    let b = behind_to x l is in
    let depth = first.0 in
    let deep = b.deep in
    let near = b.near in
    (first.0, first.1, (b.deep, omega (arith, near, depth), (λ less. refl), some, tt))
first_to (x ∷ y ∷ lines) l some first is =
    let at : length (x ∷ y ∷ lines) - 1 ≡ suc (length (y ∷ lines) - 1) = omega arith in
    let last : slice_get (x ∷ y ∷ lines) (length (x ∷ y ∷ lines) - 1) ≡ Some (last_of y lines) = ap (slice_get (x ∷ y ∷ lines)) at ∙ last_is y lines in
    (first.0, first.1, push_to 0 1 y lines l some (behind_to (last_of y lines) l (subst (λ (m : Option RunLine). follows m l ≡ true) last is)) first.2)

first_from : (lines : List RunLine) (l : RunLine) → AreFirstLines (lines ++ l ∷ []) → follows (slice_get lines (length lines - 1)) l ≡ true
unfolding last_of
first_from [] l first = and_from (l.depth == 0) (l.count == 1) (eq-eqb l.depth 0 first.0) (eq-eqb l.count 1 first.1)
first_from (x ∷ []) l first =
    let depth = first.0 in
    let near = first.2.1 in
    behind_from x l (record { deep = first.2.0; near = omega (arith, near, depth); one = λ less. first.1 })
first_from (x ∷ y ∷ lines) l first =
    let at : length (x ∷ y ∷ lines) - 1 ≡ suc (length (y ∷ lines) - 1) = omega arith in
    let last : slice_get (x ∷ y ∷ lines) (length (x ∷ y ∷ lines) - 1) ≡ Some (last_of y lines) = ap (slice_get (x ∷ y ∷ lines)) at ∙ last_is y lines in
    subst (λ (m : Option RunLine). follows m l ≡ true) (sym last) (behind_from (last_of y lines) l (push_from 0 1 y lines l first.2))

-- the test and the fact
pub may_to : (s : StateParts) (mark : Bool) (l : RunLine) → IsStart s → IsLine l → may_follow s mark l ≡ true → MayFollow s mark l
may_to s mark l start good is =
    let both = and_parts (not mark || (is_none s.marked && l.count == 1)) (follows (slice_get s.lines (length s.lines - 1)) l) is in
    let lines = first_to s.lines l good.some start.lines both.1 in
    by mark both.0 lines
  where
    none : (m : Option ℕ) → is_none m ≡ true → m ≡ None
    none None e = refl
    none (Some k) e = absurd (false≢true e)

    kept : (m : Option ℕ) → MatchOption m (Unit {0}) (λ k. IsSomeAnd (slice_get s.lines k) (λ l. l.count ≡ 1)) → MatchOption m (Unit {0}) (λ k. IsSomeAnd (slice_get (s.lines ++ l ∷ []) k) (λ l. l.count ≡ 1))
    kept None h = tt
    kept (Some k) h = get_front s.lines (l ∷ []) k (λ l. l.count ≡ 1) h

    by : (mark : Bool) → (not mark || (is_none s.marked && l.count == 1)) ≡ true → AreFirstLines (s.lines ++ l ∷ []) → MayFollow s mark l
    by true e lines =
        let two = and_parts (is_none s.marked) (l.count == 1) e in
        record { start = record { lines = lines; each = all_push s.lines l start.each good; marked = get_next s.lines [] l (λ l. l.count ≡ 1) (eqb-true l.count 1 two.1) }; once = λ _. none s.marked two.0 }
    by false e lines = record { start = record { lines = lines; each = all_push s.lines l start.each good; marked = kept s.marked start.marked }; once = λ h. absurd (false≢true h) }

pub may_from : (s : StateParts) (mark : Bool) (l : RunLine) → MayFollow s mark l → may_follow s mark l ≡ true
may_from s mark l may = and_from (not mark || (is_none s.marked && l.count == 1)) (follows (slice_get s.lines (length s.lines - 1)) l) (by mark may) (first_from s.lines l may.start.lines)
  where
    by : (mark : Bool) → MayFollow s mark l → (not mark || (is_none s.marked && l.count == 1)) ≡ true
    by false may = refl
    by true may =
        let none : is_none s.marked ≡ true = ap is_none (may.once refl) in
        and_from (is_none s.marked) (l.count == 1) none (eq-eqb l.count 1 (next_is s.lines [] l (λ l. l.count ≡ 1) may.start.marked))
