-- The lines of a text: together they are the text, and each place is in one of them.
use Rattle.std.proofs.Common.{◌≡◌, ◌≤◌, ◌<◌, ◌+◌, ◌-◌, ◌⊎◌, inl, inr, ℕ, zero, suc, Bool, true, false, cond, List, [], ◌∷◌, ◌++◌, length, take, drop, slice_range, refl, sym, ap, ◌∙◌, subst, arith, append_assoc, length-append, drop_at}
use Rattle.std.proofs.lemmas.List.{take-append-le}
use Rattle.std.proofs.lemmas.Slice.{between_is}
use Rattle.std.specs.List.{concat, onto_first}
use Rattle.line_places.specs.Laws.{lines_of, IsPlaceIn, LinesPartTheText, PlacesAreInTheirLines, unseen}
use Rattle.line_places.specs.Lines.{code_points, ends_line, first_start, last_of, place_of, starts_within}
use Rattle.line_places.specs.declared.place.Place.{Place}

-- ---- Lines part the text

onto_joined : (byte : ℕ) (lines : List (List ℕ)) → concat (onto_first byte lines) ≡ byte ∷ concat lines
onto_joined byte [] = refl
onto_joined byte (line ∷ lines) = refl

pub parts : LinesPartTheText
parts [] = refl
parts (byte ∷ others) = which (ends_line byte others) (parts others)
  where
    which : (b : Bool) → concat (lines_of others) ≡ others → concat (cond b ((byte ∷ []) ∷ lines_of others) (onto_first byte (lines_of others))) ≡ byte ∷ others
    which true later = ap (λ (text : List ℕ). byte ∷ text) later
    which false later = onto_joined byte (lines_of others) ∙ ap (λ (text : List ℕ). byte ∷ text) later

-- ---- A place is in its line

-- where a line begins, by the lines before it
abbrev start_of : (front : List (List ℕ)) (first at : ℕ) → ℕ
start_of [] first at = first
start_of (line ∷ front) first at = at + length (concat (line ∷ front))

-- what the starts up to a place say of its line
record IsInLine (starts : List ℕ) (front : List (List ℕ)) (first at : ℕ) : Type 0 where
  number : length starts ≡ length front
  begins : last_of first starts ≡ start_of front first at

heads_of : {A : Type 0} (x y : A) (xs ys : List A) → x ∷ xs ≡ y ∷ ys → (x ≡ y) × (xs ≡ ys)
heads_of x y xs ys e = (cc, cc)

some_lines : (text : List ℕ) → lines_of text ≡ [] → ⊥
some_lines [] none = absurd (let bad : ⊥ = cc in bad)
some_lines (byte ∷ others) none = which (ends_line byte others) (lines_of others) none
  where
    which : (b : Bool) (lines : List (List ℕ)) → cond b ((byte ∷ []) ∷ lines) (onto_first byte lines) ≡ [] → ⊥
    which true lines none = absurd (let bad : ⊥ = cc in bad)
    which false [] none = absurd (let bad : ⊥ = cc in bad)
    which false (line ∷ lines) none = absurd (let bad : ⊥ = cc in bad)

-- the starts up to a place in a text with one more byte, after which a line ends or not
abbrev one_more : (ends : Bool) (m at : ℕ) (others : List ℕ) → List ℕ
one_more ends zero at others = []
one_more ends (suc m) at others = cond ends (suc at ∷ starts_within m (suc at) others) (starts_within m (suc at) others)

is_one_more : (m at byte : ℕ) (others : List ℕ) → starts_within m at (byte ∷ others) ≡ one_more (ends_line byte others) m at others
is_one_more zero at byte others = refl
is_one_more (suc m) at byte others = refl

none_of_nothing : (m at : ℕ) → starts_within m at [] ≡ []
none_of_nothing zero at = refl
none_of_nothing (suc m) at = refl

some_back : (front back : List (List ℕ)) (line : List ℕ) → [] ≡ front ++ line ∷ back → ⊥
some_back [] back line is = absurd (let bad : ⊥ = cc in bad)
some_back (l ∷ front) back line is = absurd (let bad : ⊥ = cc in bad)

in_one : (n : ℕ) (line : List ℕ) (back : List (List ℕ)) → length line ≡ 1 → (back ≡ [] → ⊥) → IsPlaceIn n line back → n ≡ 0
in_one n line back one some (inl below) = omega (arith, one, below)
in_one n line back one some (inr (full, none)) = absurd (some none)

in_rest : (n byte : ℕ) (p line : List ℕ) (ps back : List (List ℕ)) → byte ∷ p ≡ line → ps ≡ back → IsPlaceIn (suc n) line back → IsPlaceIn n p ps
in_rest n byte p line ps back is same (inl below) = let size : suc (length p) ≡ length line = ap length is in inl (omega (arith, size, below))
in_rest n byte p line ps back is same (inr (full, none)) = let size : suc (length p) ≡ length line = ap length is in inr (omega (arith, size, full), same ∙ none)

-- what holds of each place in the rest of a text
abbrev Later : List ℕ → Type 0
Later others = (line : List ℕ) (front back : List (List ℕ)) (n first at : ℕ) → lines_of others ≡ front ++ line ∷ back → IsPlaceIn n line back
    → IsInLine (starts_within (length (concat front) + n) at others) front first at

after_one : (l : List ℕ) (front : List (List ℕ)) (at : ℕ) → length l ≡ 1 → start_of front (suc at) (suc at) ≡ at + length (concat (l ∷ front))
after_one l [] at one = let size = length-append l [] in omega (arith, size, one)
after_one l (f ∷ front) at one = let size = length-append l (concat (f ∷ front)) in omega (arith, size, one)

with_end : (byte : ℕ) (others line : List ℕ) (front back : List (List ℕ)) (n first at : ℕ) → Later others → (byte ∷ []) ∷ lines_of others ≡ front ++ line ∷ back → IsPlaceIn n line back
    → IsInLine (one_more true (length (concat front) + n) at others) front first at
with_end byte others line [] back n first at later is place =
    let heads = heads_of (byte ∷ []) line (lines_of others) back is in
    let one : length line ≡ 1 = ap length (sym heads.0) in
    let none : n ≡ 0 = in_one n line back one (λ empty. some_lines others (heads.1 ∙ empty)) place in
    let total : length (concat []) + n ≡ 0 = omega (arith, none) in
    subst (λ (m : ℕ). IsInLine (one_more true m at others) [] first at) (sym total) (record { number = refl; begins = refl })
with_end byte others line (l ∷ front) back n first at later is place =
    let heads = heads_of (byte ∷ []) l (lines_of others) (front ++ line ∷ back) is in
    let one : length l ≡ 1 = ap length (sym heads.0) in
    let size = length-append l (concat front) in
    let total : length (concat (l ∷ front)) + n ≡ suc (length (concat front) + n) = omega (arith, size, one) in
    let here = later line front back n (suc at) (suc at) heads.1 place in
    subst (λ (m : ℕ). IsInLine (one_more true m at others) (l ∷ front) first at) (sym total)
    (record { number = ap suc here.number; begins = here.begins ∙ after_one l front at one })

without_end : (byte : ℕ) (others line : List ℕ) (lines front back : List (List ℕ)) (n first at : ℕ) → Later others → lines_of others ≡ lines → onto_first byte lines ≡ front ++ line ∷ back
    → IsPlaceIn n line back → IsInLine (one_more false (length (concat front) + n) at others) front first at
without_end byte others line [] front back n first at later read is place = absurd (some_lines others read)
without_end byte others line (p ∷ ps) [] back zero first at later read is place =
    let total : length (concat []) + 0 ≡ 0 = omega arith in
    subst (λ (m : ℕ). IsInLine (one_more false m at others) [] first at) (sym total) (record { number = refl; begins = refl })
without_end byte others line (p ∷ ps) [] back (suc n) first at later read is place =
    let heads = heads_of (byte ∷ p) line ps back is in
    let total : length (concat []) + suc n ≡ suc (length (concat []) + n) = omega arith in
    let here = later p [] ps n first (suc at) read (in_rest n byte p line ps back heads.0 heads.1 place) in
    subst (λ (m : ℕ). IsInLine (one_more false m at others) [] first at) (sym total) (record { number = here.number; begins = here.begins })
without_end byte others line (p ∷ ps) (l ∷ front) back n first at later read is place =
    let heads = heads_of (byte ∷ p) l ps (front ++ line ∷ back) is in
    let longer : suc (length p) ≡ length l = ap length heads.0 in
    let size = length-append l (concat front) in
    let less = length-append p (concat front) in
    let total : length (concat (l ∷ front)) + n ≡ suc (length (concat (p ∷ front)) + n) = omega (arith, size, less, longer) in
    let here = later line (p ∷ front) back n first (suc at) (read ∙ ap (λ (xs : List (List ℕ)). p ∷ xs) heads.1) place in
    let start : suc at + length (concat (p ∷ front)) ≡ at + length (concat (l ∷ front)) = omega (arith, size, less, longer) in
    subst (λ (m : ℕ). IsInLine (one_more false m at others) (l ∷ front) first at) (sym total)
    (record { number = here.number; begins = here.begins ∙ start })

in_line : (text : List ℕ) → Later text
in_line [] line [] back n first at is place =
    subst (λ (xs : List ℕ). IsInLine xs [] first at) (sym (none_of_nothing (length (concat []) + n) at)) (record { number = refl; begins = refl })
in_line [] line (l ∷ front) back n first at is place = absurd (some_back front back line (heads_of [] l [] (front ++ line ∷ back) is).1)
in_line (byte ∷ others) line front back n first at is place =
    subst (λ (xs : List ℕ). IsInLine xs front first at) (sym (is_one_more (length (concat front) + n) at byte others)) (which (ends_line byte others) (in_line others) is)
  where
    which : (b : Bool) → Later others → cond b ((byte ∷ []) ∷ lines_of others) (onto_first byte (lines_of others)) ≡ front ++ line ∷ back
        → IsInLine (one_more b (length (concat front) + n) at others) front first at
    which true later is = with_end byte others line front back n first at later is place
    which false later is = without_end byte others line (lines_of others) front back n first at later refl is place

-- ---- Its column

concat_append : (xs ys : List (List ℕ)) → concat (xs ++ ys) ≡ concat xs ++ concat ys
concat_append [] ys = refl
concat_append (x ∷ xs) ys = ap (λ (rest : List ℕ). x ++ rest) (concat_append xs ys) ∙ sym (append_assoc x (concat xs) (concat ys))

inside : (n : ℕ) (line : List ℕ) (back : List (List ℕ)) → IsPlaceIn n line back → n ≤ length line
inside n line back (inl below) = omega (arith, below)
inside n line back (inr (full, none)) = omega (arith, full)

part : (text line : List ℕ) (front back : List (List ℕ)) (n first : ℕ) → text ≡ concat front ++ (line ++ concat back) → n ≤ length line → first ≡ first_start text
    → slice_range text (start_of front first 0) (length (concat front) + n) ≡ drop (unseen text front) (take n line)
part text line [] back n first is within same =
    let total : length (concat []) + n ≡ n = omega arith in
    between_is text first (length (concat []) + n) ∙ ap (λ (m : ℕ). drop first (take m text)) total ∙ ap (λ (t : List ℕ). drop first (take n t)) is
    ∙ ap (drop first) (take-append-le n line (concat back) within) ∙ ap (λ (f : ℕ). drop f (take n line)) same
part text line (l ∷ front) back n first is within same =
    let size = length (concat (l ∷ front)) in
    let start : size ≡ 0 + size = omega arith in
    let many : (size + n) - (0 + size) ≡ n = omega arith in
    ap (λ (m : ℕ). take m (drop (0 + size) text)) many
    ∙ ap (λ (t : List ℕ). take n (drop (0 + size) t)) is
    ∙ ap (take n) (drop_at (concat (l ∷ front)) (line ++ concat back) (0 + size) start)
    ∙ take-append-le n line (concat back) within

pub places : PlacesAreInTheirLines
places text line front back n is place =
    let starts = starts_within (length (concat front) + n) 0 text in
    let here = in_line text line front back n (first_start text) 0 is place in
    let joined : text ≡ concat front ++ (line ++ concat back) = sym (parts text) ∙ ap concat is ∙ concat_append front (line ∷ back) in
    let column : code_points (slice_range text (last_of (first_start text) starts) (length (concat front) + n)) ≡ code_points (drop (unseen text front) (take n line)) =
    ap (λ (s : ℕ). code_points (slice_range text s (length (concat front) + n))) here.begins
    ∙ ap code_points (part text line front back n (first_start text) joined (inside n line back place) refl) in
    same_place (length starts) (length front) _ _ here.number column
  where
    same_place : (l m c d : ℕ) → l ≡ m → c ≡ d → ◌≡◌ {A = Place} (record { line = suc l; column = suc c }) (record { line = suc m; column = suc d })
    same_place l m c d lines columns = cc
