-- Which line is to blame.
use Rattle.std.proofs.Common.{ℕ, suc, ◌+◌, ◌-◌, ◌≡◌, ◌≢◌, ◌≤◌, ◌<◌, inl, inr, Bool, true, false, ◌==◌, ◌||◌, Option, Some, None, List, [], ◌∷◌, ◌++◌, length, take, drop, refl, sym, ap, ◌∙◌, subst, append_assoc, append-nil, arith}
use Rattle.std.specs.Prelude.{MatchOption, IsSomeAnd, slice_get}
use Rattle.std.proofs.lemmas.Bool.{eq-eqb, eqb-true, false≢true, true≢false}
use Rattle.std.proofs.lemmas.List.{length-append, take-append-drop, take_at}
use Rattle.css_model.specs.declared.example.Example.{Example}
use Rattle.css_model.specs.declared.example.RunLine.{RunLine}
use Rattle.css_model.specs.declared.selector.Pseudo.{Pseudo}
use Rattle.css_model.specs.declared.selector.Pseudo.TheVariants.{FirstLine, FirstLetter, Before, After}
use Rattle.css_model.specs.Documents.RunDocuments.{AreLines}
use Rattle.css_model.specs.Text.Characters.{line_feed}
use Rattle.doc_text.specs.DocText.{doc_lines, doc_text, ended, head_text, is_marked, line_text, line_texts}
use Rattle.doc_text.specs.Elements.{IsLine}
use Rattle.doc_text.specs.Lines.{holds, lines_of}
use Rattle.doc_text.specs.Reading.{Begins, HasText, IsBadLine, IsTextOf}
use Rattle.doc_text.specs.States.{IsStart, MayFollow, StateParts}
use Rattle.doc_text.proofs.Begun.{all_push, begins, begins_fewer, begins_none, example_of, get_below, get_front, get_next, has_text, lines_front, next_is, text_lines_good, texts_of}
use Rattle.doc_text.proofs.LineTexts.{AreWhole, BeginsWith, are_same, begins_with, ended_append, ended_cut, heads_same, texts_whole}
use Rattle.doc_text.proofs.Pieces.{pieces_cut, pieces_whole}

-- no line end stands in a first line
pub head_whole : (c : Bool) (p : Option Pseudo) → holds line_feed (head_text c p) ≡ false
head_whole true None = refl
head_whole true (Some FirstLine) = refl
head_whole true (Some FirstLetter) = refl
head_whole true (Some Before) = refl
head_whole true (Some After) = refl
head_whole false None = refl
head_whole false (Some FirstLine) = refl
head_whole false (Some FirstLetter) = refl
head_whole false (Some Before) = refl
head_whole false (Some After) = refl

pub doc_whole : (x : Example) → HasText x → AreWhole (doc_lines x)
doc_whole x has = (head_whole x.doc.root_is_child x.pseudo, texts_whole (Some x.marked) 0 x.doc.lines (text_lines_good x has))

-- the lines of an example's text
pub doc_cut : (x : Example) → HasText x → lines_of (doc_text x) ≡ doc_lines x
doc_cut x has = ap lines_of (sym (append-nil (doc_text x))) ∙ ended_cut (doc_lines x) [] (doc_whole x has) ∙ append-nil (doc_lines x)

cut_of : (text : List ℕ) (x : Example) → IsTextOf text x → doc_lines x ≡ lines_of text
cut_of text x is = sym (doc_cut x is.has) ∙ ap lines_of (sym is.is)

-- the lines that are read, with the first one
pub start_lines : Bool → Option Pseudo → StateParts → List (List ℕ)
start_lines c p s = head_text c p ∷ texts_of s

pub start_is : (c : Bool) (p : Option Pseudo) (s : StateParts) → start_lines c p s ≡ head_text c p ∷ texts_of s
unfolding start_lines
start_is c p s = refl

texts_count : (m : Option ℕ) (k : ℕ) (lines : List RunLine) → length (line_texts m k lines) ≡ length lines
texts_count m k [] = refl
texts_count m k (l ∷ lines) = ap suc (texts_count m (suc k) lines)

pub start_count : (c : Bool) (p : Option Pseudo) (s : StateParts) → length (start_lines c p s) ≡ length s.lines + 1
unfolding start_lines
start_count c p s = let some = texts_count s.marked 0 s.lines in omega (arith, some)

start_whole : (c : Bool) (p : Option Pseudo) (s : StateParts) → IsStart s → AreWhole (start_lines c p s)
unfolding start_lines
start_whole c p s start = (head_whole c p, texts_whole s.marked 0 s.lines start.each)

start_begins : (c : Bool) (p : Option Pseudo) (s : StateParts) → IsStart s → Begins (start_lines c p s)
unfolding start_lines
start_begins c p s start = begins c p s start

-- a line that may not follow begins no text behind them
record Refused (s : StateParts) (line : List ℕ) : Type 0 where
  none : (mark : Bool) (l : RunLine) → IsLine l → line ≡ line_text mark l → MayFollow s mark l → ⊥

follows_in : (s : StateParts) (marked : ℕ) (all : List RunLine) (line : List ℕ) → IsStart s → AreLines all → IsSomeAnd (slice_get all marked) (λ l. l.count ≡ 1) → (b : BeginsWith (Some marked) s.marked 0 all s.lines line) → MayFollow s (is_marked (Some marked) (0 + length s.lines)) b.next
follows_in s marked all line start are one b = by (is_marked (Some marked) (0 + length s.lines)) refl
  where
    parts : all ≡ (s.lines ++ b.next ∷ []) ++ b.more
    parts = b.parts ∙ sym (append_assoc s.lines (b.next ∷ []) b.more)

    counts : IsSomeAnd (slice_get (s.lines ++ b.next ∷ b.more) marked) (λ l. l.count ≡ 1)
    counts = subst (λ (lines : List RunLine). IsSomeAnd (slice_get lines marked) (λ l. l.count ≡ 1)) b.parts one

    kept : (m : Option ℕ) → MatchOption m (Unit {0}) (λ k. IsSomeAnd (slice_get s.lines k) (λ l. l.count ≡ 1)) → MatchOption m (Unit {0}) (λ k. IsSomeAnd (slice_get (s.lines ++ b.next ∷ []) k) (λ l. l.count ≡ 1))
    kept None h = tt
    kept (Some k) h = get_front s.lines (b.next ∷ []) k (λ l. l.count ≡ 1) h

    once : (m : Option ℕ) → s.marked ≡ m → MatchOption m (Unit {0}) (λ k. IsSomeAnd (slice_get s.lines k) (λ l. l.count ≡ 1)) → marked ≡ 0 + length s.lines → m ≡ None
    once None is h at = refl
    once (Some k) is h at =
        let below = get_below s.lines k (λ l. l.count ≡ 1) h in
        let same : is_marked (Some marked) (0 + k) ≡ is_marked (Some k) (0 + k) = b.marks k below ∙ ap (λ (m : Option ℕ). is_marked m (0 + k)) is in
        let self : is_marked (Some k) (0 + k) ≡ true = eq-eqb k (0 + k) (omega arith) in
        let there = eqb-true marked (0 + k) (same ∙ self) in
        absurd (omega (arith, below, there, at))

    by : (m : Bool) → is_marked (Some marked) (0 + length s.lines) ≡ m → MayFollow s m b.next
    by true is =
        let at = eqb-true marked (0 + length s.lines) is in
        let place : marked ≡ length s.lines = omega (arith, at) in
        let count = next_is s.lines b.more b.next (λ l. l.count ≡ 1) (subst (λ (k : ℕ). IsSomeAnd (slice_get (s.lines ++ b.next ∷ b.more) k) (λ l. l.count ≡ 1)) place counts) in
        record {
          start = record {
            lines = lines_front (s.lines ++ b.next ∷ []) b.more (subst AreLines parts are);
            each = all_push s.lines b.next start.each b.good;
            marked = get_next s.lines [] b.next (λ l. l.count ≡ 1) count;
          };
          once = λ _. once s.marked refl start.marked at;
        }
    by false is =
        record {
          start = record { lines = lines_front (s.lines ++ b.next ∷ []) b.more (subst AreLines parts are); each = all_push s.lines b.next start.each b.good; marked = kept s.marked start.marked };
          once = λ h. absurd (false≢true h);
        }

refused : (c : Bool) (p : Option Pseudo) (s : StateParts) (line : List ℕ) → IsStart s → Refused s line → Begins (start_lines c p s ++ line ∷ []) → ⊥
unfolding start_lines
refused c p s line start r b =
    let x = b.0 in
    let all : doc_lines x ≡ head_text c p ∷ ((texts_of s ++ line ∷ []) ++ b.1) = b.3 in
    let tail = (heads_same (head_text x.doc.root_is_child x.pseudo) (head_text c p) (line_texts (Some x.marked) 0 x.doc.lines) ((texts_of s ++ line ∷ []) ++ b.1) all).1 in
    let w = begins_with (Some x.marked) s.marked 0 x.doc.lines s.lines line b.1 (text_lines_good x b.2) start.each (tail ∙ append_assoc (texts_of s) (line ∷ []) b.1) in
    r.none (is_marked (Some x.marked) (0 + length s.lines)) w.next w.good w.is (follows_in s x.marked x.doc.lines line start b.2.keeps.lines b.2.keeps.marked w)

take_front : (xs ys : List (List ℕ)) (n : ℕ) → n ≡ length xs → take n (xs ++ ys) ≡ xs
take_front xs ys n e = ap (λ (k : ℕ). take k (xs ++ ys)) e ∙ take_at xs ys (length xs) refl

-- a text whose lines are these, and then others
record HasLines (text : List ℕ) (front rest : List (List ℕ)) : Type 0 where
  lines : lines_of text ≡ front ++ rest

-- a line with which no text begins
pub bad_line : (c : Bool) (p : Option Pseudo) (s : StateParts) (line more : List ℕ) → IsStart s → holds line_feed line ≡ false
    → ((mark : Bool) (l : RunLine) → IsLine l → line ≡ line_text mark l → MayFollow s mark l → ⊥) → IsBadLine (length s.lines + 2) (ended (start_lines c p s) ++ (line ++ line_feed ∷ more))
bad_line c p s line more start whole none =
    let front = start_lines c p s in
    let n = start_count c p s in
    let cut : lines_of (ended front ++ (line ++ line_feed ∷ more)) ≡ front ++ line ∷ lines_of more =
    ended_cut front (line ++ line_feed ∷ more) (start_whole c p s start) ∙ ap (λ (rest : List (List ℕ)). front ++ rest) (pieces_cut line_feed line more whole) in
    let split : front ++ line ∷ lines_of more ≡ (front ++ line ∷ []) ++ lines_of more = sym (append_assoc front (line ∷ []) (lines_of more)) in
    let size = length-append front (line ∷ lines_of more) in
    let longer = length-append front (line ∷ []) in
    let no = refused c p s line start (record { none = none }) in
    record {
      some = omega arith;
      there = inr (subst (λ (ls : List (List ℕ)). length s.lines + 2 ≤ length ls) (sym cut) (omega (arith, size, n)));
      before = subst (λ (ls : List (List ℕ)). Begins (take (length s.lines + 2 - 1) ls)) (sym cut) (subst Begins (sym (take_front front (line ∷ lines_of more) (length s.lines + 2 - 1) (omega (arith, n)))) (start_begins c p s start));
      bad = inl (λ b. no (subst Begins (ap (take (length s.lines + 2)) (cut ∙ split) ∙ take_front (front ++ line ∷ []) (lines_of more) (length s.lines + 2) (omega (arith, longer, n))) b));
      none = λ x is. no (x, lines_of more, is.has, cut_of _ x is ∙ cut ∙ split);
    }

-- a last line without its end
pub bad_end : (c : Bool) (p : Option Pseudo) (s : StateParts) (rest : List ℕ) → IsStart s → rest ≢ [] → holds line_feed rest ≡ false → IsBadLine (length s.lines + 2) (ended (start_lines c p s) ++ rest)
bad_end c p s rest start some whole =
    let front = start_lines c p s in
    let n = start_count c p s in
    let cut : lines_of (ended front ++ rest) ≡ front ++ rest ∷ [] = ended_cut front rest (start_whole c p s start) ∙ ap (λ (more : List (List ℕ)). front ++ more) (pieces_whole line_feed rest some whole) in
    let size = length-append front (rest ∷ []) in
    let count : length (lines_of (ended front ++ rest)) ≡ length s.lines + 2 = ap length cut ∙ omega (arith, size, n) in
    record {
      some = omega arith;
      there = inr (omega (arith, count));
      before = subst (λ (ls : List (List ℕ)). Begins (take (length s.lines + 2 - 1) ls)) (sym cut) (subst Begins (sym (take_front front (rest ∷ []) (length s.lines + 2 - 1) (omega (arith, n)))) (start_begins c p s start));
      bad = inr (omega (arith, count));
      none = λ x is. unended front (doc_text x) (cut_of _ x is ∙ cut) (sym is.is) refl;
    }
  where
    unended : (front : List (List ℕ)) (text : List ℕ) {lines : List (List ℕ)} → lines ≡ front ++ rest ∷ [] → text ≡ ended front ++ rest → text ≡ ended lines → ⊥
    unended front text same one two =
        let longer : ended (front ++ rest ∷ []) ≡ ended front ++ ((rest ++ line_feed ∷ []) ++ []) = ended_append front (rest ∷ []) in
        let both : ended front ++ rest ≡ ended front ++ ((rest ++ line_feed ∷ []) ++ []) = sym one ∙ two ∙ ap ended same ∙ longer in
        let size : length (ended front ++ rest) ≡ length (ended front ++ ((rest ++ line_feed ∷ []) ++ [])) = ap length both in
        let a = length-append (ended front) rest in
        let b = length-append (ended front) ((rest ++ line_feed ∷ []) ++ []) in
        let c = length-append (rest ++ line_feed ∷ []) [] in
        let d = length-append rest (line_feed ∷ []) in
        omega (arith, size, a, b, c, d)

-- no marked line
pub bad_unmarked : (c : Bool) (p : Option Pseudo) (s : StateParts) → IsStart s → s.marked ≡ None → IsBadLine (length s.lines + 1) (ended (start_lines c p s) ++ [])
unfolding start_lines
bad_unmarked c p s start none =
    let front = start_lines c p s in
    let n = start_count c p s in
    let cut : lines_of (ended front ++ []) ≡ front = ended_cut front [] (start_whole c p s start) ∙ append-nil front in
    let count : length (lines_of (ended front ++ [])) ≡ length s.lines + 1 = ap length cut ∙ n in
    record {
      some = omega arith;
      there = inr (omega (arith, count));
      before = subst (λ (ls : List (List ℕ)). Begins (take (length s.lines + 1 - 1) ls)) (sym cut) (begins_fewer (take (length s.lines + 1 - 1) front) (drop (length s.lines + 1 - 1) front) (subst Begins (sym (take-append-drop (length s.lines + 1 - 1) front)) (start_begins c p s start)));
      bad = inr (omega (arith, count));
      none = λ x is. unmarked x is.has (cut_of _ x is ∙ cut);
    }
  where
    unmarked : (x : Example) → HasText x → doc_lines x ≡ start_lines c p s → ⊥
    unmarked x has e =
        let tail = (heads_same (head_text x.doc.root_is_child x.pseudo) (head_text c p) (line_texts (Some x.marked) 0 x.doc.lines) (texts_of s) e).1 in
        let same = are_same (Some x.marked) s.marked 0 x.doc.lines s.lines (text_lines_good x has) start.each tail in
        let below : x.marked < length s.lines = subst (λ (lines : List RunLine). x.marked < length lines) same.lines (get_below x.doc.lines x.marked (λ l. l.count ≡ 1) has.keeps.marked) in
        let here : is_marked (Some x.marked) (0 + x.marked) ≡ true = eq-eqb x.marked (0 + x.marked) (omega arith) in
        let there : is_marked s.marked (0 + x.marked) ≡ false = ap (λ (m : Option ℕ). is_marked m (0 + x.marked)) none in
        true≢false (sym here ∙ same.marks x.marked below ∙ there)

-- all lines
pub good_end : (c : Bool) (p : Option Pseudo) (s : StateParts) (k : ℕ) → IsStart s → s.marked ≡ Some k → IsTextOf (ended (start_lines c p s) ++ []) (example_of c p s.lines k)
unfolding start_lines
good_end c p s k start is =
    let marked : IsSomeAnd (slice_get s.lines k) (λ l. l.count ≡ 1) = subst (λ m. MatchOption m (Unit {0}) (λ k. IsSomeAnd (slice_get s.lines k) (λ l. l.count ≡ 1))) is start.marked in
    record {
      has = has_text c p s.lines k start.lines start.each marked;
      is = append-nil (ended (head_text c p ∷ texts_of s)) ∙ ap (λ (m : Option ℕ). ended (head_text c p ∷ line_texts m 0 s.lines)) is;
    }

-- the first line
pub bad_head : (head more : List ℕ) → holds line_feed head ≡ false → ((c : Bool) (p : Option Pseudo) → head ≢ head_text c p) → IsBadLine 1 (head ++ line_feed ∷ more)
bad_head head more whole none =
    let cut : lines_of (head ++ line_feed ∷ more) ≡ head ∷ lines_of more = pieces_cut line_feed head more whole in
    record {
      some = omega arith;
      there = inl refl;
      before = begins_none;
      bad = inl (λ b. other b.0 (subst Begins (ap (take 1) cut) b).0 (subst Begins (ap (take 1) cut) b));
      none = λ x is. no x (lines_of more) (cut_of _ x is ∙ cut);
    }
  where
    no : (x : Example) (rest : List (List ℕ)) → doc_lines x ≡ head ∷ rest → ⊥
    no x rest e = none x.doc.root_is_child x.pseudo (sym (heads_same (head_text x.doc.root_is_child x.pseudo) head (line_texts (Some x.marked) 0 x.doc.lines) rest e).0)

    other : (y x : Example) → Begins (head ∷ []) → ⊥
    other y x b = no b.0 b.1 b.3

-- no line end at all
pub bad_whole : (text : List ℕ) → holds line_feed text ≡ false → IsBadLine 1 text
bad_whole text whole =
    record {
      some = omega arith;
      there = inl refl;
      before = begins_none;
      bad = inr (few text whole);
      none = λ x is. ends x (ap (holds line_feed) (sym is.is) ∙ whole);
    }
  where
    few : (text : List ℕ) → holds line_feed text ≡ false → length (lines_of text) ≤ 1
    few [] whole = omega arith
    few (c ∷ cs) whole = let one = ap length (pieces_whole line_feed (c ∷ cs) (λ e. (let size : length (c ∷ cs) ≡ 0 = ap length e in omega (arith, size))) whole) in omega (arith, one)

    there : (front rest : List ℕ) → holds line_feed (front ++ line_feed ∷ rest) ≡ true
    there [] rest = rw (eq-eqb line_feed line_feed refl) refl
    there (c ∷ front) rest = by (c == line_feed) (there front rest)
      where
        by : (b : Bool) → holds line_feed (front ++ line_feed ∷ rest) ≡ true → (b || holds line_feed (front ++ line_feed ∷ rest)) ≡ true
        by true h = refl
        by false h = h

    ends : (x : Example) → holds line_feed (doc_text x) ≡ false → ⊥
    ends x none =
        let head = head_text x.doc.root_is_child x.pseudo in
        let rest = ended (line_texts (Some x.marked) 0 x.doc.lines) in
        let parts : doc_text x ≡ head ++ line_feed ∷ rest = append_assoc head (line_feed ∷ []) rest in
        true≢false (sym (there head rest) ∙ ap (holds line_feed) (sym parts) ∙ none)
