-- Lines that a document's text may begin with.
use Rattle.std.proofs.Common.{ℕ, zero, suc, ◌+◌, ◌≡◌, ◌<◌, ◌^◌, Bool, true, false, cond, ◌==◌, Option, Some, None, List, [], ◌∷◌, ◌++◌, length, refl, sym, ap, ◌∙◌, subst, append_assoc, append-nil, arith, codes}
use Rattle.std.specs.Prelude.{MatchOption, IsSomeAnd, slice_get}
use Rattle.std.specs.List.{AllByRecursion}
use Rattle.std.specs.List.Sorted.{IsStrictlySortedBy}
use Rattle.std.specs.Char.{IsScalar}
use Rattle.std.proofs.lemmas.Bool.{eq-eqb, eqb-true, false≢true, ne_eqb}
use Rattle.std.proofs.lemmas.List.Elements.{All-from_recursion, recursion_from_All}
use Rattle.css_model.specs.declared.example.Example.{Example}
use Rattle.css_model.specs.declared.example.RunLine.{RunLine}
use Rattle.css_model.specs.declared.selector.Pseudo.{Pseudo}
use Rattle.css_model.specs.Documents.FeatureParts.{FeatureParts}
use Rattle.css_model.specs.Documents.RunDocuments.{AreLines, AreRunFeatures, LinesFollow}
use Rattle.doc_text.specs.DocText.{head_text, is_marked, line_text, line_texts}
use Rattle.doc_text.specs.Elements.{IsLine}
use Rattle.doc_text.specs.Reading.{Begins, HasText}
use Rattle.doc_text.specs.States.{AreFirstLines, IsStart, StateParts}
use Rattle.doc_text.proofs.LineTexts.{texts_marked, texts_push}

-- the texts of the lines that are read
abbrev pub texts_of : StateParts → List (List ℕ)
texts_of s = line_texts s.marked 0 s.lines

-- ---- Members of lists

pub get_below : (xs : List RunLine) (k : ℕ) (P : RunLine → Type 0) → IsSomeAnd (slice_get xs k) P → k < length xs
get_below [] k P is = absurd is
get_below (x ∷ xs) zero P is = omega arith
get_below (x ∷ xs) (suc k) P is = let later = get_below xs k P is in omega (arith, later)

pub get_front : (xs ys : List RunLine) (k : ℕ) (P : RunLine → Type 0) → IsSomeAnd (slice_get xs k) P → IsSomeAnd (slice_get (xs ++ ys) k) P
get_front [] ys k P is = absurd is
get_front (x ∷ xs) ys zero P is = is
get_front (x ∷ xs) ys (suc k) P is = get_front xs ys k P is

pub get_next : (xs ys : List RunLine) (y : RunLine) (P : RunLine → Type 0) → P y → IsSomeAnd (slice_get (xs ++ y ∷ ys) (length xs)) P
get_next [] ys y P is = is
get_next (x ∷ xs) ys y P is = get_next xs ys y P is

pub next_is : (xs ys : List RunLine) (y : RunLine) (P : RunLine → Type 0) → IsSomeAnd (slice_get (xs ++ y ∷ ys) (length xs)) P → P y
next_is [] ys y P is = is
next_is (x ∷ xs) ys y P is = next_is xs ys y P is

pub all_push : (xs : List RunLine) (y : RunLine) → AllByRecursion IsLine xs → IsLine y → AllByRecursion IsLine (xs ++ y ∷ [])
all_push [] y all here = (here, tt)
all_push (x ∷ xs) y all here = (all.0, all_push xs y all.1 here)

-- ---- Lines of a document

follow_front : (d c : ℕ) (xs ys : List RunLine) → LinesFollow d c (xs ++ ys) → LinesFollow d c xs
follow_front d c [] ys all = tt
follow_front d c (x ∷ xs) ys all = (all.0, all.1, all.2, all.3, follow_front x.depth x.count xs ys all.4)

pub lines_front : (xs ys : List RunLine) → AreLines (xs ++ ys) → AreFirstLines xs
lines_front [] ys all = tt
lines_front (x ∷ xs) ys all = (all.0, all.1, follow_front 0 1 xs ys all.2)

-- what a document's text has of its lines
lines_good : (lines : List RunLine) (d c : ℕ) → LinesFollow d c lines → AllByRecursion (λ l. AreRunFeatures l.element) lines → AllByRecursion (λ l. (l.depth < 2 ^ 32) × (l.count < 2 ^ 32)) lines → AllByRecursion IsLine lines
lines_good [] d c follow features fits = tt
lines_good (l ∷ lines) d c follow features fits =
    (record { features = features.0; some = follow.3; count = fits.0.1; depth = fits.0.0 }, lines_good lines l.depth l.count follow.4 features.1 fits.1)

pub text_lines_good : (x : Example) → HasText x → AllByRecursion IsLine x.doc.lines
text_lines_good x has = by x.doc.lines has.keeps.lines (recursion_from_All (λ l. AreRunFeatures l.element) x.doc.lines has.keeps.features) (recursion_from_All (λ l. (l.depth < 2 ^ 32) × (l.count < 2 ^ 32)) x.doc.lines has.fits)
  where
    by : (lines : List RunLine) → AreLines lines → AllByRecursion (λ l. AreRunFeatures l.element) lines → AllByRecursion (λ l. (l.depth < 2 ^ 32) × (l.count < 2 ^ 32)) lines → AllByRecursion IsLine lines
    by [] are features fits = tt
    by (l ∷ lines) are features fits =
        (record { features = features.0; some = (let one = are.1 in omega (arith, one)); count = fits.0.1; depth = fits.0.0 }, lines_good lines 0 1 are.2 features.1 fits.1)

-- ---- An example of lines that are read

features_all : (lines : List RunLine) → AllByRecursion IsLine lines → AllByRecursion (λ l. AreRunFeatures l.element) lines
features_all [] all = tt
features_all (l ∷ lines) all = (all.0.features, features_all lines all.1)

fits_all : (lines : List RunLine) → AllByRecursion IsLine lines → AllByRecursion (λ l. (l.depth < 2 ^ 32) × (l.count < 2 ^ 32)) lines
fits_all [] all = tt
fits_all (l ∷ lines) all = ((all.0.depth, all.0.count), fits_all lines all.1)

abbrev pub example_of : Bool → Option Pseudo → List RunLine → ℕ → Example
example_of c p lines k = record { doc = record { root_is_child = c; lines = lines }; marked = k; pseudo = p }

are_lines : (lines : List RunLine) (k : ℕ) (P : RunLine → Type 0) → AreFirstLines lines → IsSomeAnd (slice_get lines k) P → AreLines lines
are_lines [] k P first is = absurd is
are_lines (l ∷ lines) k P first is = first

pub has_text : (c : Bool) (p : Option Pseudo) (lines : List RunLine) (k : ℕ) → AreFirstLines lines → AllByRecursion IsLine lines → IsSomeAnd (slice_get lines k) (λ l. l.count ≡ 1) → HasText (example_of c p lines k)
has_text c p lines k first each marked =
    record {
      keeps = record {
        lines = are_lines lines k (λ l. l.count ≡ 1) first marked;
        features = All-from_recursion (λ l. AreRunFeatures l.element) lines (features_all lines each);
        marked = marked;
      };
      fits = All-from_recursion (λ l. (l.depth < 2 ^ 32) × (l.count < 2 ^ 32)) lines (fits_all lines each);
    }

-- ---- Lines that are read can be gone on with

plain_element : FeatureParts
plain_element = record { kind = codes "x"; attrs = []; flags = 0; text = false }

plain_line : ℕ → RunLine
plain_line depth = record { depth = depth; count = 1; element = plain_element }

plain_good : (depth : ℕ) → depth < 2 ^ 32 → IsLine (plain_line depth)
unfolding plain_line plain_element IsStrictlySortedBy
plain_good depth low =
    record {
      features = record {
        kind = (All-from_recursion IsScalar (codes "x") (refl, tt), λ e. (let size : length (codes "x") ≡ 0 = ap length e in omega (arith, size)));
        attributes = All-from_recursion _ [] tt;
        ascending = tt;
        flags = omega arith;
      };
      some = omega arith;
      count = omega arith;
      depth = low;
    }

-- a depth at which a line may follow
next_depth : List RunLine → ℕ
next_depth [] = 0
next_depth (l ∷ []) = cond (l.depth == 0) 1 l.depth
next_depth (l ∷ k ∷ lines) = next_depth (k ∷ lines)

depth_low : (lines : List RunLine) → AllByRecursion IsLine lines → next_depth lines < 2 ^ 32
unfolding next_depth
depth_low [] each = omega arith
depth_low (l ∷ []) each = by (l.depth == 0) each.0.depth
  where
    by : (b : Bool) → l.depth < 2 ^ 32 → cond b 1 l.depth < 2 ^ 32
    by true low = omega arith
    by false low = low
depth_low (l ∷ k ∷ lines) each = depth_low (k ∷ lines) each.1

next_follows : (d c : ℕ) (x : RunLine) (xs : List RunLine) → LinesFollow d c (x ∷ xs) → LinesFollow d c ((x ∷ xs) ++ plain_line (next_depth (x ∷ xs)) ∷ [])
unfolding next_depth plain_line
next_follows d c x [] all = by (x.depth == 0) refl
  where
    by : (b : Bool) → (x.depth == 0) ≡ b → LinesFollow d c (x ∷ record { depth = cond b 1 x.depth; count = 1; element = plain_element } ∷ [])
    by true is = absurd (let none = eqb-true x.depth 0 is in let deep = all.0 in omega (arith, none, deep))
    by false is = (all.0, all.1, all.2, all.3, (all.0, omega arith, (λ less. absurd (omega (arith, less))), omega arith, tt))
next_follows d c x (y ∷ xs) all = (all.0, all.1, all.2, all.3, next_follows x.depth x.count y xs all.4)

first_push : (lines : List RunLine) → AreFirstLines lines → AreFirstLines (lines ++ plain_line (next_depth lines) ∷ [])
unfolding next_depth plain_line
first_push [] first = (refl, refl, tt)
first_push (l ∷ []) first = by (l.depth == 0) refl
  where
    by : (b : Bool) → (l.depth == 0) ≡ b → AreFirstLines (l ∷ record { depth = cond b 1 l.depth; count = 1; element = plain_element } ∷ [])
    by true is = (first.0, first.1, (omega arith, omega arith, (λ less. refl), omega arith, tt))
    by false is = absurd (false≢true (sym is ∙ eq-eqb l.depth 0 first.0))
first_push (l ∷ k ∷ lines) first = (first.0, first.1, next_follows 0 1 k lines first.2)

begins_marked : (c : Bool) (p : Option Pseudo) (s : StateParts) (k : ℕ) → IsStart s → s.marked ≡ Some k → Begins (head_text c p ∷ texts_of s)
begins_marked c p s k start is =
    let marked : IsSomeAnd (slice_get s.lines k) (λ l. l.count ≡ 1) = subst (λ m. MatchOption m (Unit {0}) (λ k. IsSomeAnd (slice_get s.lines k) (λ l. l.count ≡ 1))) is start.marked in (
      example_of c p s.lines k,
      [],
      has_text c p s.lines k start.lines start.each marked,
      ap (λ (m : Option ℕ). head_text c p ∷ line_texts m 0 s.lines) (sym is) ∙ sym (append-nil (head_text c p ∷ texts_of s)),
    )

apart_marks : (n : ℕ) (j : ℕ) → j < n → is_marked (Some n) (0 + j) ≡ is_marked None (0 + j)
apart_marks n j less = ne_eqb n (0 + j) (omega (arith, less))

begins_unmarked : (c : Bool) (p : Option Pseudo) (s : StateParts) → IsStart s → s.marked ≡ None → Begins (head_text c p ∷ texts_of s)
unfolding plain_line
begins_unmarked c p s start is =
    let n = length s.lines in
    let next = plain_line (next_depth s.lines) in
    let lines = s.lines ++ next ∷ [] in
    let each = all_push s.lines next start.each (plain_good (next_depth s.lines) (depth_low s.lines start.each)) in
    let marked = get_next s.lines [] next (λ l. l.count ≡ 1) (plain_one (next_depth s.lines)) in
    let texts : line_texts (Some n) 0 lines ≡ texts_of s ++ line_text (is_marked (Some n) (0 + n)) next ∷ [] =
    texts_push (Some n) 0 s.lines next ∙ ap (λ (some : List (List ℕ)). some ++ line_text (is_marked (Some n) (0 + n)) next ∷ []) (texts_marked (Some n) None 0 s.lines (apart_marks n) ∙ ap (λ (m : Option ℕ). line_texts m 0 s.lines) (sym is)) in (
      example_of c p lines n,
      line_text (is_marked (Some n) (0 + n)) next ∷ [],
      has_text c p lines n (first_push s.lines start.lines) each marked,
      ap (λ (some : List (List ℕ)). head_text c p ∷ some) texts,
    )
  where
    plain_one : (depth : ℕ) → (plain_line depth).count ≡ 1
    plain_one depth = refl

-- lines that are read begin the text of some example
pub begins : (c : Bool) (p : Option Pseudo) (s : StateParts) → IsStart s → Begins (head_text c p ∷ texts_of s)
begins c p s start = by s.marked refl
  where
    by : (m : Option ℕ) → s.marked ≡ m → Begins (head_text c p ∷ texts_of s)
    by None is = begins_unmarked c p s start is
    by (Some k) is = begins_marked c p s k start is

-- what begins a text begins it with fewer lines too
pub begins_fewer : (xs ys : List (List ℕ)) → Begins (xs ++ ys) → Begins xs
begins_fewer xs ys b = (b.0, ys ++ b.1, b.2, b.3 ∙ append_assoc xs ys b.1)

pub begins_none : Begins []
begins_none = begins_fewer [] (head_text false None ∷ []) (begins false None (record { lines = []; marked = None }) (record { lines = tt; each = tt; marked = tt }))
