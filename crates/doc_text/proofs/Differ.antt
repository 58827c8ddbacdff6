-- No text is that of two examples, and each of its lines ends.
use Rattle.std.proofs.Common.{ℕ, ◌+◌, ◌≡◌, ◌<◌, Bool, true, false, cond, ◌==◌, Option, Some, None, List, [], ◌∷◌, ◌++◌, length, refl, sym, ap, ◌∙◌, arith}
use Rattle.std.specs.Prelude.{slice_index}
use Rattle.std.proofs.lemmas.Bool.{eq-eqb, eqb-true, or_parts}
use Rattle.std.proofs.lemmas.List.Sums.{sum_by-append, sum_by-cons}
use Rattle.css_model.specs.declared.example.RunLine.{RunLine}
use Rattle.css_model.specs.declared.selector.Pseudo.{Pseudo}
use Rattle.css_model.specs.declared.selector.Pseudo.TheVariants.{FirstLine, FirstLetter, Before, After}
use Rattle.css_model.specs.Text.Characters.{line_feed}
use Rattle.doc_text.specs.DocText.{doc_lines, ended, head_text, is_marked, line_texts}
use Rattle.doc_text.specs.Lines.{holds, line_ends, lines_of}
use Rattle.doc_text.specs.Reading.{LinesEnd, TextsDiffer}
use Rattle.doc_text.proofs.BadLines.{doc_cut, doc_whole}
use Rattle.doc_text.proofs.Begun.{get_below, text_lines_good}
use Rattle.doc_text.proofs.LineTexts.{AreWhole, are_same, heads_same}

-- what a first line tells
child_of : List ℕ → Bool
child_of head = slice_index head 6 == 0x31

pseudo_of : ℕ → Option Pseudo
pseudo_of size = cond (size == 25) (Some FirstLine) (cond (size == 27) (Some FirstLetter) (cond (size == 21) (Some Before) (cond (size == 20) (Some After) None)))

child_is : (c : Bool) (p : Option Pseudo) → child_of (head_text c p) ≡ c
unfolding child_of
child_is true p = refl
child_is false p = refl

pseudo_is : (c : Bool) (p : Option Pseudo) → pseudo_of (length (head_text c p)) ≡ p
unfolding pseudo_of
pseudo_is true None = refl
pseudo_is true (Some FirstLine) = refl
pseudo_is true (Some FirstLetter) = refl
pseudo_is true (Some Before) = refl
pseudo_is true (Some After) = refl
pseudo_is false None = refl
pseudo_is false (Some FirstLine) = refl
pseudo_is false (Some FirstLetter) = refl
pseudo_is false (Some Before) = refl
pseudo_is false (Some After) = refl

marked_same : (m n : ℕ) (lines : List RunLine) → n < length lines → ((j : ℕ) → j < length lines → is_marked (Some m) (0 + j) ≡ is_marked (Some n) (0 + j)) → m ≡ n
marked_same m n lines below marks =
    let here : is_marked (Some n) (0 + n) ≡ true = eq-eqb n (0 + n) (omega arith) in
    let there = eqb-true m (0 + n) (marks n below ∙ here) in
    omega (arith, there)

pub texts_differ : TextsDiffer
texts_differ text x y p q =
    let lines : doc_lines x ≡ doc_lines y = sym (doc_cut x p.has) ∙ ap lines_of (sym p.is ∙ q.is) ∙ doc_cut y q.has in
    let parts = heads_same (head_text x.doc.root_is_child x.pseudo) (head_text y.doc.root_is_child y.pseudo) (line_texts (Some x.marked) 0 x.doc.lines) (line_texts (Some y.marked) 0 y.doc.lines) lines in
    let child = sym (child_is x.doc.root_is_child x.pseudo) ∙ ap child_of parts.0 ∙ child_is y.doc.root_is_child y.pseudo in
    let pseudo = sym (pseudo_is x.doc.root_is_child x.pseudo) ∙ ap (λ (head : List ℕ). pseudo_of (length head)) parts.0 ∙ pseudo_is y.doc.root_is_child y.pseudo in
    let same = are_same (Some x.marked) (Some y.marked) 0 x.doc.lines y.doc.lines (text_lines_good x p.has) (text_lines_good y q.has) parts.1 in
    let all = same.lines in
    let marked = marked_same x.marked y.marked y.doc.lines (get_below y.doc.lines y.marked (λ l. l.count ≡ 1) q.has.keeps.marked) same.marks in
    λ i. record { doc = record { root_is_child = child i; lines = all i }; marked = marked i; pseudo = pseudo i }

-- line ends
pub none_ends : (line : List ℕ) → holds line_feed line ≡ false → line_ends line ≡ 0
none_ends [] whole = refl
none_ends (c ∷ line) whole =
    let both = or_parts (c == line_feed) (holds line_feed line) whole in
    let first = sum_by-cons (λ (c : ℕ). cond (c == line_feed) 1 0) c line in
    let later = none_ends line both.1 in
    let here : ◌≡◌ {A = ℕ} (cond (c == line_feed) 1 0) 0 = rw both.0 refl in
    omega (arith, first, later, here)

pub ends_append : (xs ys : List ℕ) → line_ends (xs ++ ys) ≡ line_ends xs + line_ends ys
ends_append xs ys = sum_by-append (λ (c : ℕ). cond (c == line_feed) 1 0) xs ys

ends_count : (lines : List (List ℕ)) → AreWhole lines → line_ends (ended lines) ≡ length lines
ends_count [] whole = refl
ends_count (line ∷ lines) whole =
    let parts = ends_append (line ++ line_feed ∷ []) (ended lines) in
    let front = ends_append line (line_feed ∷ []) in
    let none = none_ends line whole.0 in
    let later = ends_count lines whole.1 in
    omega (arith, parts, front, none, later)

pub lines_end : LinesEnd
lines_end x has = ends_count (doc_lines x) (doc_whole x has)
