-- Items that stand for those of a sheet have the same faults.
use Rattle.std.proofs.Common.{◌≡◌, ℕ, suc, ◌+◌, ◌-◌, ◌*◌, ◌<◌, ◌≤◌, ◌⊎◌, inl, inr, ◌++◌, Bool, true, false, cond, List, [], ◌∷◌, length, Option, Some, None, Result, Ok, Err, refl, sym, ap, ◌∙◌, subst, lt-ltb, append_assoc, append-nil, length-append, arith}
use Rattle.std.specs.Prelude.{OnOk, nat_lt, nat_le, ◌&&◌}
use Rattle.std.specs.Result.{is_err}
use Rattle.std.proofs.lemmas.Bool.{false≢true}
use Rattle.std.proofs.Math.Nat.{mul-le-mul_right}
use Rattle.css_model.specs.declared.sheet.DeclItem.{DeclItem}
use Rattle.css_model.specs.declared.sheet.Item.{Item}
use Rattle.css_model.specs.declared.sheet.Item.TheVariants.{Rule}
use Rattle.css_model.specs.declared.sheet.Piece.{Piece}
use Rattle.css_model.specs.declared.sheet.SelItem.{SelItem}
use Rattle.css_model.specs.declared.limits.TheConstants.{MAX_PAIRS}
use Rattle.css_model.specs.Sheets.ComesFrom.{pair_count}
use Rattle.css_model.specs.Sheets.Sheet.{pairs_of, rule_of, start_of, start_of_first, too_many_pairs}
use Rattle.sheet_read.specs.Cut.{AreFirst, MayStandFor, StandFor, StandsFor, has_room}

-- ---- One item

pub stands_itself : (room : ℕ) (x : Item) → StandsFor room x x
stands_itself room x = record { start = refl; fits = λ _. refl; many = λ more. more }

pub may_itself : (room : ℕ) (x : Option Item) → MayStandFor room x x
may_itself room None = tt
may_itself room (Some x) = stands_itself room x

grows : (k m n : ℕ) → k * n ≤ (k + m) * n
grows k m n = mul-le-mul_right n (omega arith)

some_none : {A : Type 0} (x : A) → Some x ≡ None → ⊥
some_none x e = absurd cc

-- a rule that declares something
declares : (decls : ℕ) → nat_lt 0 (suc decls) ≡ true
declares decls = lt-ltb 0 (suc decls) (omega arith)

-- no room for more, in numbers
no_room : (decls room n : ℕ) → has_room (suc decls) room n ≡ false → room < n * suc decls
no_room decls room n full =
    let none : nat_le (n * suc decls) room ≡ false = ap (λ (b : Bool). b && nat_le (n * suc decls) room) (sym (declares decls)) ∙ full in
    grind (arith, none)

-- before the first selector there is
first_room : (decls room : ℕ) → has_room (suc decls) room 0 ≡ true
first_room decls room = ap (λ (b : Bool). b && nat_le (0 * suc decls) room) (declares decls) ∙ grind arith

first_start : (decls room : ℕ) (first more : List SelItem) → (more ≡ []) ⊎ (has_room (suc decls) room (length first) ≡ false) → start_of_first first ≡ start_of_first (first ++ more)
first_start decls room (s ∷ first) more enough = refl
first_start decls room [] more (inl none) = ap start_of_first (sym none)
first_start decls room [] more (inr full) = absurd (false≢true (sym full ∙ first_room decls room))

-- a rule with the first of its selectors
pub first_stands : (room : ℕ) (d : DeclItem) (ds : List DeclItem) (first all : List SelItem) → AreFirst (length (d ∷ ds)) room first all
    → StandsFor room (Rule (record { selectors = first; decls = d ∷ ds })) (Rule (record { selectors = all; decls = d ∷ ds }))
first_stands room d ds first all are =
    subst (λ (all : List SelItem). StandsFor room (rule first) (rule all)) (sym are.is) (record {
      start = first_start (length ds) room first are.more are.enough;
      fits = fits are.more are.enough;
      many = many are.more are.enough;
    })
  where
    n : ℕ
    n = suc (length ds)

    rule : List SelItem → Item
    rule selectors = Rule (record { selectors = selectors; decls = d ∷ ds })

    longer : (more : List SelItem) → length first * n ≤ length (first ++ more) * n
    longer more = subst (λ (k : ℕ). length first * n ≤ k * n) (sym (length-append first more)) (grows (length first) (length more) n)

    fits : (more : List SelItem) → (more ≡ []) ⊎ (has_room n room (length first) ≡ false) → length (first ++ more) * n ≤ room → rule first ≡ rule (first ++ more)
    fits more (inl none) few = ap rule (sym (ap (λ (xs : List SelItem). first ++ xs) none ∙ append-nil first))
    fits more (inr full) few = absurd (omega (arith, no_room (length ds) room (length first) full, longer more, few))

    many : (more : List SelItem) → (more ≡ []) ⊎ (has_room n room (length first) ≡ false) → room < length (first ++ more) * n → room < length first * n
    many more (inl none) above = subst (λ (xs : List SelItem). room < length xs * n) (ap (λ (xs : List SelItem). first ++ xs) none ∙ append-nil first) above
    many more (inr full) above = no_room (length ds) room (length first) full

pub first_may : (room : ℕ) (piece : Piece) (ds : List DeclItem) (first all : List SelItem) → AreFirst (length ds) room first all
    → MayStandFor room (rule_of piece (Ok first) ds) (rule_of piece (Ok all) ds)
first_may room piece [] first all are = tt
first_may room piece (d ∷ ds) first all are = first_stands room d ds first all are

-- what an item stands for, where it may be dropped
pub stands_for_one : (room : ℕ) (x : Item) (o : Option Item) → MayStandFor room (Some x) o → (y : Item) × (o ≡ Some y) × StandsFor room x y
stands_for_one room x None stand = absurd stand
stands_for_one room x (Some y) stand = (y, refl, stand)

pub stands_for_none : (room : ℕ) (o : Option Item) → MayStandFor room None o → o ≡ None
stands_for_none room None stand = refl
stands_for_none room (Some y) stand = absurd stand

-- ---- One more selector

pub given_ok : {X E P : Type 0} (r : Result X E) → OnOk r P → is_err r ≡ false → P
given_ok (Ok x) on is = on
given_ok (Err e) on is = absurd (false≢true (sym is))

pub AreFirst-start : (decls room : ℕ) → AreFirst decls room [] []
AreFirst-start decls room = record { more = []; is = refl; enough = inl refl }

pub one_more : (decls room : ℕ) (first all : List SelItem) (s : SelItem) → AreFirst decls room first all
    → AreFirst decls room (cond (has_room decls room (length first)) (first ++ s ∷ []) first) (all ++ s ∷ [])
one_more decls room first all s are = which (has_room decls room (length first)) refl
  where
    all_is : all ++ s ∷ [] ≡ first ++ (are.more ++ s ∷ [])
    all_is = ap (λ (xs : List SelItem). xs ++ s ∷ []) are.is ∙ append_assoc first are.more (s ∷ [])

    none_behind : (more : List SelItem) → (more ≡ []) ⊎ (has_room decls room (length first) ≡ false) → has_room decls room (length first) ≡ true → more ≡ []
    none_behind more (inl none) is = none
    none_behind more (inr full) is = absurd (false≢true (sym full ∙ is))

    which : (b : Bool) → has_room decls room (length first) ≡ b → AreFirst decls room (cond b (first ++ s ∷ []) first) (all ++ s ∷ [])
    which true is = record {
      more = [];
      is = ap (λ (xs : List SelItem). xs ++ s ∷ []) (are.is ∙ ap (λ (xs : List SelItem). first ++ xs) (none_behind are.more are.enough is) ∙ append-nil first)
          ∙ sym (append-nil (first ++ s ∷ []));
      enough = inl refl;
    }
    which false full = record { more = are.more ++ s ∷ []; is = all_is; enough = inr full }

-- ---- The items of a sheet

pub stand_length : (n : ℕ) (xs ys : List Item) → StandFor n xs ys → length xs ≡ length ys
stand_length n [] [] stand = refl
stand_length n [] (y ∷ ys) stand = absurd stand
stand_length n (x ∷ xs) [] stand = absurd stand
stand_length n (x ∷ xs) (y ∷ ys) stand = ap suc (stand_length (n + pairs_of x) xs ys stand.1)

stand_append : (n : ℕ) (xs ys : List Item) (x y : Item) → StandFor n xs ys → StandsFor (MAX_PAIRS - (n + pair_count xs)) x y
    → StandFor n (xs ++ x ∷ []) (ys ++ y ∷ [])
stand_append n [] [] x y stand one = (subst (λ (m : ℕ). StandsFor (MAX_PAIRS - m) x y) (omega arith) one, tt)
stand_append n [] (b ∷ ys) x y stand one = absurd stand
stand_append n (a ∷ xs) [] x y stand one = absurd stand
stand_append n (a ∷ xs) (b ∷ ys) x y stand one =
    (stand.0, stand_append (n + pairs_of a) xs ys x y stand.1 (subst (λ (m : ℕ). StandsFor (MAX_PAIRS - m) x y) (omega arith) one))

pub stand_behind : (xs ys : List Item) (x y : Item) (room : ℕ) → StandFor 0 xs ys → room ≡ MAX_PAIRS - pair_count xs → StandsFor room x y → StandFor 0 (xs ++ x ∷ []) (ys ++ y ∷ [])
stand_behind xs ys x y room stand is one = stand_append 0 xs ys x y stand (subst (λ (m : ℕ). StandsFor m x y) (omega (arith, is)) one)

count_append : (xs : List Item) (x : Item) → pair_count (xs ++ x ∷ []) ≡ pair_count xs + pairs_of x
count_append [] x = omega arith
count_append (a ∷ xs) x = omega (arith, count_append xs x)

-- their pairs become too many at the same place, or they are the same
pub stand_pairs : (n : ℕ) (xs ys : List Item) → n ≤ MAX_PAIRS → StandFor n xs ys
    → (too_many_pairs n xs ≡ too_many_pairs n ys) × (too_many_pairs n ys ≡ None → xs ≡ ys)
stand_pairs n [] [] few stand = (refl, λ _. refl)
stand_pairs n [] (y ∷ ys) few stand = absurd stand
stand_pairs n (x ∷ xs) [] few stand = absurd stand
stand_pairs n (x ∷ xs) (y ∷ ys) few stand = which (nat_lt MAX_PAIRS (n + pairs_of y)) refl (λ le. stand_pairs (n + pairs_of x) xs ys le stand.1)
  where
    which : (b : Bool) → nat_lt MAX_PAIRS (n + pairs_of y) ≡ b
        → (n + pairs_of x ≤ MAX_PAIRS → (too_many_pairs (n + pairs_of x) xs ≡ too_many_pairs (n + pairs_of x) ys) × (too_many_pairs (n + pairs_of x) ys ≡ None → xs ≡ ys))
        → (too_many_pairs n (x ∷ xs) ≡ too_many_pairs n (y ∷ ys)) × (too_many_pairs n (y ∷ ys) ≡ None → x ∷ xs ≡ y ∷ ys)
    which true many later =
        let above : MAX_PAIRS - n < pairs_of y = grind (arith, many, few) in
        let here : nat_lt MAX_PAIRS (n + pairs_of x) ≡ true = grind (arith, stand.0.many above, few) in
        let there : too_many_pairs n (y ∷ ys) ≡ Some (start_of y) = ap (λ (b : Bool). cond b (Some (start_of y)) (too_many_pairs (n + pairs_of y) ys)) many in (
          ap (λ (b : Bool). cond b (Some (start_of x)) (too_many_pairs (n + pairs_of x) xs)) here ∙ ap Some stand.0.start ∙ sym there,
          λ none. absurd (some_none (start_of y) (sym there ∙ none)),
        )
    which false fit later =
        let within : pairs_of y ≤ MAX_PAIRS - n = grind (arith, fit, few) in
        let same : x ≡ y = stand.0.fits within in
        let rest = later (grind (arith, ap pairs_of same, within, few)) in
        let test : nat_lt MAX_PAIRS (n + pairs_of x) ≡ false = ap (λ (z : Item). nat_lt MAX_PAIRS (n + pairs_of z)) same ∙ fit in
        let first : (zs : List Item) (z : Item) → nat_lt MAX_PAIRS (n + pairs_of z) ≡ false → too_many_pairs n (z ∷ zs) ≡ too_many_pairs (n + pairs_of z) zs =
        λ zs z no. ap (λ (b : Bool). cond b (Some (start_of z)) (too_many_pairs (n + pairs_of z) zs)) no in (
          first xs x test ∙ rest.0 ∙ ap (λ (z : Item). too_many_pairs (n + pairs_of z) ys) same ∙ sym (first ys y fit),
          λ none. ap (λ (z : Item). z ∷ xs) same
              ∙ ap (λ (zs : List Item). y ∷ zs) (rest.1 (ap (λ (z : Item). too_many_pairs (n + pairs_of z) ys) same ∙ sym (first ys y fit) ∙ none)),
        )

-- the room that is left behind one more item
pub room_left : (behind : ℕ) (xs : List Item) (x : Item) (room : ℕ) → room ≡ MAX_PAIRS - pair_count xs → behind ≡ room - pairs_of x → behind ≡ MAX_PAIRS - pair_count (xs ++ x ∷ [])
room_left behind xs x room is less = omega (arith, is, less, count_append xs x)
