-- Where the lines of a text begin.
use Rattle.std.proofs.Common.{◌≡◌, ◌≤◌, ◌<◌, ◌+◌, ℕ, zero, suc, Bool, true, false, cond, List, [], ◌∷◌, ◌++◌, length, min, take, drop, get_or, nat_le, refl, sym, ap, ap₂, ◌∙◌, subst, arith}
use Rattle.std.specs.List.{prefix_len}
use Rattle.std.specs.List.Sorted.{IsNonDecreasingBy}
use Rattle.line_places.specs.declared.place.Place.{Place}
use Rattle.line_places.specs.Lines.{ends_line, last_of, starts_within}

le_true : (a b : ℕ) → a ≤ b → nat_le a b ≡ true
le_true a b h = grind (arith, h)

le_false : (a b : ℕ) → b < a → nat_le a b ≡ false
le_false a b h = grind (arith, h)

pub min_low : (a b m : ℕ) → m ≡ min a b → (m ≤ a) × (m ≤ b)
min_low a b m is = which (nat_le a b) refl
  where
    which : (c : Bool) → nat_le a b ≡ c → (m ≤ a) × (m ≤ b)
    which true test = let low : min a b ≡ a = grind (arith, test) in let le : a ≤ b = grind (arith, test) in (omega (arith, is, low), omega (arith, is, low, le))
    which false test = let high : min a b ≡ b = grind (arith, test) in let lt : b < a = grind (arith, test) in (omega (arith, is, high, lt), omega (arith, is, high))

-- ---- One byte more

-- the start after a byte, if a line ends there
abbrev pub start_after : (at byte : ℕ) (others : List ℕ) → List ℕ
start_after at byte others = cond (ends_line byte others) (at ∷ []) []

pub starts_more : (n at byte : ℕ) (text : List ℕ) → n < length text → byte ≡ get_or text n byte →
    starts_within (suc n) at text ≡ starts_within n at text ++ start_after (suc (at + n)) byte (drop (suc n) text)
starts_more n at byte [] below is = absurd (omega (arith, below))
starts_more zero at byte (c ∷ others) below is =
    let place : suc at ≡ suc (at + 0) = omega arith in
    ap₂ (λ (p b : ℕ). start_after p b others) place (sym is)
starts_more (suc n) at byte (c ∷ others) below is =
    let place : suc (suc at + n) ≡ suc (at + suc n) = omega arith in
    let more : starts_within (suc n) (suc at) others ≡ starts_within n (suc at) others ++ start_after (suc (at + suc n)) byte (drop (suc n) others) =
    starts_more n (suc at) byte others (omega (arith, below)) is ∙ ap (λ (p : ℕ). starts_within n (suc at) others ++ start_after p byte (drop (suc n) others)) place in
    which (ends_line c others) more
  where
    which : (b : Bool) → starts_within (suc n) (suc at) others ≡ starts_within n (suc at) others ++ start_after (suc (at + suc n)) byte (drop (suc n) others)
        → cond b (suc at ∷ starts_within (suc n) (suc at) others) (starts_within (suc n) (suc at) others)
        ≡ cond b (suc at ∷ starts_within n (suc at) others) (starts_within n (suc at) others) ++ start_after (suc (at + suc n)) byte (drop (suc n) others)
    which true more = ap (λ (xs : List ℕ). suc at ∷ xs) more
    which false more = more

-- the byte at n ends a line, or does not
pub starts_one : (n byte : ℕ) (text : List ℕ) → n < length text → byte ≡ get_or text n byte → ends_line byte (drop (n + 1) text) ≡ true →
    starts_within (n + 1) 0 text ≡ starts_within n 0 text ++ (n + 1) ∷ []
starts_one n byte text below is ends =
    let next : n + 1 ≡ suc n = omega arith in
    let place : suc (0 + n) ≡ n + 1 = omega arith in
    let end : ends_line byte (drop (suc n) text) ≡ true = subst (λ (m : ℕ). ends_line byte (drop m text) ≡ true) next ends in
    ap (λ (m : ℕ). starts_within m 0 text) next ∙ starts_more n 0 byte text below is
    ∙ ap₂ (λ (p : ℕ) (b : Bool). starts_within n 0 text ++ cond b (p ∷ []) []) place end

pub starts_none : (n byte : ℕ) (text : List ℕ) → n < length text → byte ≡ get_or text n byte → ends_line byte (drop (n + 1) text) ≡ false →
    starts_within (n + 1) 0 text ≡ starts_within n 0 text
starts_none n byte text below is ends =
    let next : n + 1 ≡ suc n = omega arith in
    let end : ends_line byte (drop (suc n) text) ≡ false = subst (λ (m : ℕ). ends_line byte (drop m text) ≡ false) next ends in
    ap (λ (m : ℕ). starts_within m 0 text) next ∙ starts_more n 0 byte text below is
    ∙ ap (λ (b : Bool). starts_within n 0 text ++ cond b (suc (0 + n) ∷ []) []) end ∙ without (starts_within n 0 text)
  where
    without : (xs : List ℕ) → xs ++ [] ≡ xs
    without [] = refl
    without (x ∷ xs) = ap (λ (ys : List ℕ). x ∷ ys) (without xs)

pub starts_few : (n at : ℕ) (text : List ℕ) → length (starts_within n at text) ≤ n
starts_few zero at text = omega arith
starts_few (suc n) at [] = omega arith
starts_few (suc n) at (byte ∷ others) = which (ends_line byte others) (starts_few n (suc at) others)
  where
    which : (b : Bool) → length (starts_within n (suc at) others) ≤ n → length (cond b (suc at ∷ starts_within n (suc at) others) (starts_within n (suc at) others)) ≤ suc n
    which true few = omega (arith, few)
    which false few = omega (arith, few)

-- ---- After the end

pub starts_past : (n at : ℕ) (text : List ℕ) → length text ≤ n → starts_within n at text ≡ starts_within (length text) at text
starts_past zero at [] past = refl
starts_past zero at (byte ∷ others) past = absurd (omega (arith, past))
starts_past (suc n) at [] past = refl
starts_past (suc n) at (byte ∷ others) past = ap (λ (xs : List ℕ). cond (ends_line byte others) (suc at ∷ xs) xs) (starts_past n (suc at) others (omega (arith, past)))

pub starts_clipped : (n at : ℕ) (text : List ℕ) → starts_within (min n (length text)) at text ≡ starts_within n at text
starts_clipped n at text = which (nat_le n (length text)) refl
  where
    low : (a b : ℕ) → nat_le a b ≡ true → min a b ≡ a
    low a b h = grind (arith, h)

    high : (a b : ℕ) → nat_le a b ≡ false → (min a b ≡ b) × (b ≤ a)
    high a b h = (grind (arith, h), grind (arith, h))

    which : (b : Bool) → nat_le n (length text) ≡ b → starts_within (min n (length text)) at text ≡ starts_within n at text
    which true is = ap (λ (m : ℕ). starts_within m at text) (low n (length text) is)
    which false is = let past = high n (length text) is in ap (λ (m : ℕ). starts_within m at text) past.0 ∙ sym (starts_past n at text past.1)

-- ---- Starts ascend

starts_after_at : (n at j d : ℕ) (text : List ℕ) → j < length (starts_within n at text) → at < get_or (starts_within n at text) j d
starts_after_at zero at j d text below = absurd (omega (arith, below))
starts_after_at (suc n) at j d [] below = absurd (omega (arith, below))
starts_after_at (suc n) at j d (byte ∷ others) below = which (ends_line byte others) (λ k e under. starts_after_at n (suc at) k e others under) j below
  where
    which : (b : Bool) → ((k e : ℕ) → k < length (starts_within n (suc at) others) → suc at < get_or (starts_within n (suc at) others) k e) → (j : ℕ)
        → j < length (cond b (suc at ∷ starts_within n (suc at) others) (starts_within n (suc at) others))
        → at < get_or (cond b (suc at ∷ starts_within n (suc at) others) (starts_within n (suc at) others)) j d
    which true later zero below = omega arith
    which true later (suc j) below = omega (arith, later j d (omega (arith, below)))
    which false later j below = omega (arith, later j d below)

pub starts_rise : (n at : ℕ) (text : List ℕ) → IsNonDecreasingBy (λ start. start) (starts_within n at text)
starts_rise zero at text i j d le below = absurd (omega (arith, below))
starts_rise (suc n) at [] i j d le below = absurd (omega (arith, below))
starts_rise (suc n) at (byte ∷ others) i j d le below = which (ends_line byte others) (starts_rise n (suc at) others) i j le below
  where
    which : (b : Bool) → IsNonDecreasingBy (λ start. start) (starts_within n (suc at) others) → (i j : ℕ) → i ≤ j
        → j < length (cond b (suc at ∷ starts_within n (suc at) others) (starts_within n (suc at) others))
        → get_or (cond b (suc at ∷ starts_within n (suc at) others) (starts_within n (suc at) others)) i d
        ≤ get_or (cond b (suc at ∷ starts_within n (suc at) others) (starts_within n (suc at) others)) j d
    which true rise zero zero le below = omega arith
    which true rise zero (suc j) le below = omega (arith, starts_after_at n (suc at) j d others (omega (arith, below)))
    which true rise (suc i) zero le below = absurd (omega (arith, le))
    which true rise (suc i) (suc j) le below = rise i j d (omega (arith, le)) (omega (arith, below))
    which false rise i j le below = rise i j d le below

-- ---- What a search finds

-- no line begins at a place before the text or at its first byte
none_up_to : (n at to : ℕ) (text : List ℕ) → to ≤ at → prefix_len (λ start. nat_le start to) (starts_within n at text) ≡ 0
none_up_to zero at to text le = refl
none_up_to (suc n) at to [] le = refl
none_up_to (suc n) at to (byte ∷ others) le = which (ends_line byte others) (none_up_to n (suc at) to others (omega (arith, le)))
  where
    which : (b : Bool) → prefix_len (λ start. nat_le start to) (starts_within n (suc at) others) ≡ 0
        → prefix_len (λ start. nat_le start to) (cond b (suc at ∷ starts_within n (suc at) others) (starts_within n (suc at) others)) ≡ 0
    which true later = let no : nat_le (suc at) to ≡ false = le_false (suc at) to (omega (arith, le)) in rw no refl
    which false later = later

-- of all starts, those up to a place are the ones within it
counted_from : (m n at : ℕ) (text : List ℕ) → length text ≤ m → prefix_len (λ start. nat_le start (at + n)) (starts_within m at text) ≡ length (starts_within n at text)
counted_from m zero at text all = none_up_to m at (at + 0) text (omega arith)
counted_from zero (suc n) at [] all = refl
counted_from (suc m) (suc n) at [] all = refl
counted_from zero (suc n) at (byte ∷ others) all = absurd (omega (arith, all))
counted_from (suc m) (suc n) at (byte ∷ others) all =
    let place : suc at + n ≡ at + suc n = omega arith in
    let later : prefix_len (λ start. nat_le start (at + suc n)) (starts_within m (suc at) others) ≡ length (starts_within n (suc at) others) =
    subst (λ (to : ℕ). prefix_len (λ start. nat_le start to) (starts_within m (suc at) others) ≡ length (starts_within n (suc at) others)) place (counted_from m n (suc at) others (omega (arith, all))) in
    which (ends_line byte others) later
  where
    which : (b : Bool) → prefix_len (λ start. nat_le start (at + suc n)) (starts_within m (suc at) others) ≡ length (starts_within n (suc at) others)
        → prefix_len (λ start. nat_le start (at + suc n)) (cond b (suc at ∷ starts_within m (suc at) others) (starts_within m (suc at) others))
        ≡ length (cond b (suc at ∷ starts_within n (suc at) others) (starts_within n (suc at) others))
    which true later = let yes : nat_le (suc at) (at + suc n) ≡ true = le_true (suc at) (at + suc n) (omega arith) in rw yes (omega (arith, later))
    which false later = later

pub starts_counted : (n : ℕ) (text : List ℕ) → prefix_len (λ start. nat_le start n) (starts_within (length text) 0 text) ≡ length (starts_within n 0 text)
starts_counted n text =
    let place : 0 + n ≡ n = omega arith in
    subst (λ (to : ℕ). prefix_len (λ start. nat_le start to) (starts_within (length text) 0 text) ≡ length (starts_within n 0 text)) place (counted_from (length text) n 0 text (omega arith))

taken_from : (m n at : ℕ) (text : List ℕ) → length text ≤ m → take (length (starts_within n at text)) (starts_within m at text) ≡ starts_within n at text
taken_from m zero at text all = refl
taken_from zero (suc n) at [] all = refl
taken_from (suc m) (suc n) at [] all = refl
taken_from zero (suc n) at (byte ∷ others) all = absurd (omega (arith, all))
taken_from (suc m) (suc n) at (byte ∷ others) all = which (ends_line byte others) (taken_from m n (suc at) others (omega (arith, all)))
  where
    which : (b : Bool) → take (length (starts_within n (suc at) others)) (starts_within m (suc at) others) ≡ starts_within n (suc at) others
        → take (length (cond b (suc at ∷ starts_within n (suc at) others) (starts_within n (suc at) others))) (cond b (suc at ∷ starts_within m (suc at) others) (starts_within m (suc at) others))
        ≡ cond b (suc at ∷ starts_within n (suc at) others) (starts_within n (suc at) others)
    which true later = ap (λ (xs : List ℕ). suc at ∷ xs) later
    which false later = later

pub starts_taken : (n : ℕ) (text : List ℕ) → take (length (starts_within n 0 text)) (starts_within (length text) 0 text) ≡ starts_within n 0 text
starts_taken n text = taken_from (length text) n 0 text (omega arith)

-- ---- The last start

pub last_taken : (first k d : ℕ) (starts : List ℕ) → k < length starts → last_of first (take (suc k) starts) ≡ get_or starts k d
last_taken first k d [] below = absurd (omega (arith, below))
last_taken first zero d (s ∷ starts) below = refl
last_taken first (suc k) d (s ∷ starts) below = last_taken s k d starts (omega (arith, below))

pub last_push : (first start : ℕ) (starts : List ℕ) → last_of first (starts ++ start ∷ []) ≡ start
last_push first start [] = refl
last_push first start (s ∷ starts) = last_push s start starts

-- ---- A place

abbrev placed : ℕ → ℕ → Place
placed a b = record { line = a; column = b }

pub place_is : (l m c d : ℕ) → l ≡ m → c ≡ d → ◌≡◌ {A = Place} (record { line = l + 1; column = c + 1 }) (record { line = suc m; column = suc d })
place_is l m c d lines columns =
    let line : l + 1 ≡ suc m = omega (arith, lines) in
    let column : c + 1 ≡ suc d = omega (arith, columns) in
    ap₂ placed line column
