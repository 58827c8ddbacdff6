-- Lists of lines by their texts.
use Rattle.std.proofs.Common.{ℕ, zero, suc, ◌+◌, ◌≡◌, ◌<◌, Bool, false, Option, List, [], ◌∷◌, ◌++◌, length, refl, sym, ap, ◌∙◌, subst, append_assoc, arith}
use Rattle.std.specs.List.{AllByRecursion}
use Rattle.css_model.specs.declared.example.RunLine.{RunLine}
use Rattle.css_model.specs.Text.Characters.{line_feed}
use Rattle.doc_text.specs.DocText.{ended, is_marked, line_text, line_texts}
use Rattle.doc_text.specs.Elements.{IsLine}
use Rattle.doc_text.specs.Lines.{holds, lines_of}
use Rattle.doc_text.proofs.LineText.{line_end_free, line_inj}
use Rattle.doc_text.proofs.Pieces.{pieces_cut}

pub heads_same : {A : Type 0} (x y : A) (xs ys : List A) → x ∷ xs ≡ y ∷ ys → (x ≡ y) × (xs ≡ ys)
heads_same {A = A} x y xs ys e = (ap (first_or x) e, ap rest_of e)
  where
    first_or : A → List A → A
    first_or d [] = d
    first_or d (z ∷ zs) = z

    rest_of : List A → List A
    rest_of [] = []
    rest_of (z ∷ zs) = zs

-- lines that begin others
pub record BeginsWith (marked small : Option ℕ) (k : ℕ) (all some : List RunLine) (line : List ℕ) : Type 0 where
  pub next : RunLine
  pub more : List RunLine
  pub parts : all ≡ some ++ next ∷ more
  pub is : line ≡ line_text (is_marked marked (k + length some)) next
  pub good : IsLine next
  pub marks : (j : ℕ) → j < length some → is_marked marked (k + j) ≡ is_marked small (k + j)

pub begins_with : (marked small : Option ℕ) (k : ℕ) (all some : List RunLine) (line : List ℕ) (tail : List (List ℕ)) → AllByRecursion IsLine all → AllByRecursion IsLine some →
    line_texts marked k all ≡ line_texts small k some ++ line ∷ tail → BeginsWith marked small k all some line
begins_with marked small k [] [] line tail good each e = absurd (let size : 0 ≡ length (line ∷ tail) = ap length e in omega (arith, size))
begins_with marked small k (l ∷ all) [] line tail good each e =
    let both = heads_same (line_text (is_marked marked k) l) line (line_texts marked (suc k) all) tail e in
    let here : k ≡ k + 0 = omega arith in
    record {
      next = l;
      more = all;
      parts = refl;
      is = sym both.0 ∙ ap (λ (n : ℕ). line_text (is_marked marked n) l) here;
      good = good.0;
      marks = λ j below. absurd (omega (arith, below));
    }
begins_with marked small k [] (x ∷ some) line tail good each e = absurd (let size : 0 ≡ length (line_texts small k (x ∷ some) ++ line ∷ tail) = ap length e in omega (arith, size))
begins_with marked small k (l ∷ all) (x ∷ some) line tail good each e =
    let both = heads_same (line_text (is_marked marked k) l) (line_text (is_marked small k) x) (line_texts marked (suc k) all) (line_texts small (suc k) some ++ line ∷ tail) e in
    let same = line_inj (is_marked marked k) (is_marked small k) l x good.0 each.0 both.0 in
    let later = begins_with marked small (suc k) all some line tail good.1 each.1 both.1 in
    let place : suc k + length some ≡ k + suc (length some) = omega arith in
    record {
      next = later.next;
      more = later.more;
      parts = ap (λ (y : RunLine). y ∷ all) same.1 ∙ ap (λ (ys : List RunLine). x ∷ ys) later.parts;
      is = later.is ∙ ap (λ (n : ℕ). line_text (is_marked marked n) later.next) place;
      good = later.good;
      marks = marks same.0 later.marks;
    }
  where
    marks : is_marked marked k ≡ is_marked small k → ((j : ℕ) → j < length some → is_marked marked (suc k + j) ≡ is_marked small (suc k + j)) → (j : ℕ) → j < suc (length some) → is_marked marked (k + j) ≡ is_marked small (k + j)
    marks here later zero below = let at : k ≡ k + 0 = omega arith in subst (λ (n : ℕ). is_marked marked n ≡ is_marked small n) at here
    marks here later (suc j) below = let at : suc k + j ≡ k + suc j = omega arith in subst (λ (n : ℕ). is_marked marked n ≡ is_marked small n) at (later j (omega (arith, below)))

-- lines of the same texts
pub record AreSame (marked small : Option ℕ) (k : ℕ) (all some : List RunLine) : Type 0 where
  pub lines : all ≡ some
  pub marks : (j : ℕ) → j < length some → is_marked marked (k + j) ≡ is_marked small (k + j)

pub are_same : (marked small : Option ℕ) (k : ℕ) (all some : List RunLine) → AllByRecursion IsLine all → AllByRecursion IsLine some → line_texts marked k all ≡ line_texts small k some → AreSame marked small k all some
are_same marked small k [] [] good each e = record { lines = refl; marks = λ j below. absurd (omega (arith, below)) }
are_same marked small k (l ∷ all) [] good each e = absurd (let size : length (line_texts marked k (l ∷ all)) ≡ 0 = ap length e in omega (arith, size))
are_same marked small k [] (x ∷ some) good each e = absurd (let size : 0 ≡ length (line_texts small k (x ∷ some)) = ap length e in omega (arith, size))
are_same marked small k (l ∷ all) (x ∷ some) good each e =
    let both = heads_same (line_text (is_marked marked k) l) (line_text (is_marked small k) x) (line_texts marked (suc k) all) (line_texts small (suc k) some) e in
    let same = line_inj (is_marked marked k) (is_marked small k) l x good.0 each.0 both.0 in
    let later = are_same marked small (suc k) all some good.1 each.1 both.1 in
    record { lines = ap (λ (y : RunLine). y ∷ all) same.1 ∙ ap (λ (ys : List RunLine). x ∷ ys) later.lines; marks = marks same.0 later.marks }
  where
    marks : is_marked marked k ≡ is_marked small k → ((j : ℕ) → j < length some → is_marked marked (suc k + j) ≡ is_marked small (suc k + j)) → (j : ℕ) → j < suc (length some) → is_marked marked (k + j) ≡ is_marked small (k + j)
    marks here later zero below = let at : k ≡ k + 0 = omega arith in subst (λ (n : ℕ). is_marked marked n ≡ is_marked small n) at here
    marks here later (suc j) below = let at : suc k + j ≡ k + suc j = omega arith in subst (λ (n : ℕ). is_marked marked n ≡ is_marked small n) at (later j (omega (arith, below)))

-- one line more
pub texts_push : (marked : Option ℕ) (k : ℕ) (lines : List RunLine) (l : RunLine) → line_texts marked k (lines ++ l ∷ []) ≡ line_texts marked k lines ++ line_text (is_marked marked (k + length lines)) l ∷ []
texts_push marked k [] l = let here : k ≡ k + 0 = omega arith in ap (λ (n : ℕ). line_text (is_marked marked n) l ∷ []) here
texts_push marked k (x ∷ lines) l =
    let place : suc k + length lines ≡ k + suc (length lines) = omega arith in
    ap (λ (rest : List (List ℕ)). line_text (is_marked marked k) x ∷ rest) (texts_push marked (suc k) lines l ∙ ap (λ (n : ℕ). line_texts marked (suc k) lines ++ line_text (is_marked marked n) l ∷ []) place)

-- marks that lie behind the lines do not count
pub texts_marked : (marked small : Option ℕ) (k : ℕ) (lines : List RunLine) → ((j : ℕ) → j < length lines → is_marked marked (k + j) ≡ is_marked small (k + j)) → line_texts marked k lines ≡ line_texts small k lines
texts_marked marked small k [] same = refl
texts_marked marked small k (l ∷ lines) same =
    let here : k + 0 ≡ k = omega arith in
    let first : is_marked marked k ≡ is_marked small k = subst (λ (n : ℕ). is_marked marked n ≡ is_marked small n) here (same 0 (omega arith)) in
    ap (λ (m : Bool). line_text m l ∷ line_texts marked (suc k) lines) first
    ∙ ap (λ (rest : List (List ℕ)). line_text (is_marked small k) l ∷ rest) (texts_marked marked small (suc k) lines (λ j below. (let at : k + suc j ≡ suc k + j = omega arith in subst (λ (n : ℕ). is_marked marked n ≡ is_marked small n) at (same (suc j) (omega (arith, below))))))

-- no line end stands in them
abbrev pub AreWhole : List (List ℕ) → Type 0
AreWhole lines = AllByRecursion (λ line. holds line_feed line ≡ false) lines

pub texts_whole : (marked : Option ℕ) (k : ℕ) (lines : List RunLine) → AllByRecursion IsLine lines → AreWhole (line_texts marked k lines)
texts_whole marked k [] each = tt
texts_whole marked k (l ∷ lines) each = (line_end_free (is_marked marked k) l each.0, texts_whole marked (suc k) lines each.1)

-- lines are cut where they end
pub ended_cut : (lines : List (List ℕ)) (rest : List ℕ) → AreWhole lines → lines_of (ended lines ++ rest) ≡ lines ++ lines_of rest
ended_cut [] rest whole = refl
ended_cut (line ∷ lines) rest whole =
    let parts : ended (line ∷ lines) ++ rest ≡ line ++ line_feed ∷ (ended lines ++ rest) = append_assoc (line ++ line_feed ∷ []) (ended lines) rest ∙ append_assoc line (line_feed ∷ []) (ended lines ++ rest) in
    ap lines_of parts ∙ pieces_cut line_feed line (ended lines ++ rest) whole.0 ∙ ap (λ (more : List (List ℕ)). line ∷ more) (ended_cut lines rest whole.1)

pub ended_append : (xs ys : List (List ℕ)) → ended (xs ++ ys) ≡ ended xs ++ ended ys
ended_append [] ys = refl
ended_append (x ∷ xs) ys = ap (λ (rest : List ℕ). (x ++ line_feed ∷ []) ++ rest) (ended_append xs ys) ∙ sym (append_assoc (x ++ line_feed ∷ []) (ended xs) (ended ys))
