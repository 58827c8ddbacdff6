-- The lines of a text, one after the other.
use Rattle.std.proofs.Common.{ℕ, ◌+◌, ◌≡◌, ◌≢◌, ◌<◌, Bool, true, false, Option, Some, None, List, [], ◌∷◌, ◌++◌, length, refl, sym, ap, ◌∙◌, subst, append_assoc, append-nil, arith, codes}
use Rattle.std.specs.Prelude.{MatchOption, IsSomeAnd, nat_eq, slice_get}
use Rattle.std.specs.Cmp.Lexicographic.{pointwise}
use Rattle.std.proofs.lemmas.Bool.{eq-eqb, ne_eqb}
use Rattle.css_model.specs.declared.example.RunLine.{RunLine}
use Rattle.css_model.specs.declared.selector.Pseudo.{Pseudo}
use Rattle.css_model.specs.Text.Characters.{line_feed}
use Rattle.doc_text.specs.DocText.{ended, head_text, is_marked, line_text, line_texts, mark_field}
use Rattle.doc_text.specs.Elements.{IsLine}
use Rattle.doc_text.specs.Lines.{fields_of, holds, line_ends}
use Rattle.doc_text.specs.Reading.{IsBadLine, IsTextOf}
use Rattle.doc_text.specs.States.{IsStart, MayFollow, StateParts, with_line}
use Rattle.doc_text.proofs.BadLines.{bad_end, bad_line, bad_unmarked, good_end, start_is, start_lines}
use Rattle.doc_text.proofs.Begun.{example_of, get_below, texts_of}
use Rattle.doc_text.proofs.Differ.{ends_append, none_ends}
use Rattle.doc_text.proofs.LineText.{both_same}
use Rattle.doc_text.proofs.LineTexts.{ended_append, texts_marked, texts_push}

-- the first field that is taken
pub take_field : (text f g : List ℕ) (rest gs : List (List ℕ)) → (text ≢ [] → fields_of text ≡ f ∷ rest) → fields_of text ≡ g ∷ gs → (f ≡ g) × (rest ≡ gs)
take_field [] f g rest gs taken is = absurd (let size : 0 ≡ length (g ∷ gs) = ap length is in omega (arith, size))
take_field (c ∷ cs) f g rest gs taken is = both_same f g rest gs (sym (taken (λ e. (let size : length (c ∷ cs) ≡ 0 = ap length e in omega (arith, size)))) ∙ is)

pub mark_is : (m : Bool) → pointwise nat_eq (mark_field m) (codes "*") ≡ m
mark_is true = refl
mark_is false = refl

-- one line more
marks_apart : (n j : ℕ) → j < n → is_marked (Some n) (0 + j) ≡ is_marked None (0 + j)
marks_apart n j less = ne_eqb n (0 + j) (omega (arith, less))

texts_more : (s : StateParts) (mark : Bool) (l : RunLine) → IsStart s → MayFollow s mark l → texts_of (with_line s mark l) ≡ texts_of s ++ line_text mark l ∷ []
texts_more s true l start may =
    let n = length s.lines in
    let none = may.once refl in
    let here : is_marked (Some n) (0 + n) ≡ true = eq-eqb n (0 + n) (omega arith) in
    texts_push (Some n) 0 s.lines l ∙ ap (λ (m : Bool). line_texts (Some n) 0 s.lines ++ line_text m l ∷ []) here
    ∙ ap (λ (some : List (List ℕ)). some ++ line_text true l ∷ []) (texts_marked (Some n) None 0 s.lines (marks_apart n) ∙ ap (λ (m : Option ℕ). line_texts m 0 s.lines) (sym none))
texts_more s false l start may = texts_push s.marked 0 s.lines l ∙ ap (λ (m : Bool). texts_of s ++ line_text m l ∷ []) (by s.marked start.marked)
  where
    by : (m : Option ℕ) → MatchOption m (Unit {0}) (λ k. IsSomeAnd (slice_get s.lines k) (λ l. l.count ≡ 1)) → is_marked m (0 + length s.lines) ≡ false
    by None h = refl
    by (Some k) h = let below = get_below s.lines k (λ l. l.count ≡ 1) h in ne_eqb k (0 + length s.lines) (omega (arith, below))

pub body_more : (s : StateParts) (mark : Bool) (l : RunLine) (body rest line more : List ℕ) → IsStart s → MayFollow s mark l → body ≡ ended (texts_of s) ++ rest → rest ≡ line ++ line_feed ∷ more → line ≡ line_text mark l
    → body ≡ ended (texts_of (with_line s mark l)) ++ more
body_more s mark l body rest line more start may whole cut is =
    let text = line_text mark l in
    let front : ended (texts_of (with_line s mark l)) ≡ ended (texts_of s) ++ ((text ++ line_feed ∷ []) ++ []) = ap ended (texts_more s mark l start may) ∙ ended_append (texts_of s) (text ∷ []) in
    let short : ended (texts_of s) ++ ((text ++ line_feed ∷ []) ++ []) ≡ ended (texts_of s) ++ (text ++ line_feed ∷ []) = ap (λ (t : List ℕ). ended (texts_of s) ++ t) (append-nil (text ++ line_feed ∷ [])) in
    let new : ended (texts_of (with_line s mark l)) ++ more ≡ ended (texts_of s) ++ (text ++ line_feed ∷ more) =
    ap (λ (t : List ℕ). t ++ more) (front ∙ short) ∙ append_assoc (ended (texts_of s)) (text ++ line_feed ∷ []) more ∙ ap (λ (t : List ℕ). ended (texts_of s) ++ t) (append_assoc text (line_feed ∷ []) more) in
    whole ∙ ap (λ (t : List ℕ). ended (texts_of s) ++ t) (cut ∙ ap (λ (t : List ℕ). t ++ line_feed ∷ more) is) ∙ sym new

pub ends_more : (line more rest : List ℕ) → rest ≡ line ++ line_feed ∷ more → holds line_feed line ≡ false → line_ends rest ≡ 1 + line_ends more
ends_more line more rest cut whole =
    let parts = ap line_ends cut ∙ ends_append line (line_feed ∷ more) in
    let first = none_ends line whole in
    let second : line_ends (line_feed ∷ more) ≡ line_ends (line_feed ∷ []) + line_ends more = ends_append (line_feed ∷ []) more in
    omega (arith, parts, first, second)

-- the first line with the others
joined : (c : Bool) (p : Option Pseudo) (s : StateParts) (body rest : List ℕ) → body ≡ ended (texts_of s) ++ rest → head_text c p ++ line_feed ∷ body ≡ ended (start_lines c p s) ++ rest
joined c p s body rest is =
    ap (λ (t : List ℕ). head_text c p ++ line_feed ∷ t) is ∙ sym (append_assoc (head_text c p ++ line_feed ∷ []) (ended (texts_of s)) rest ∙ append_assoc (head_text c p) (line_feed ∷ []) (ended (texts_of s) ++ rest))
    ∙ ap (λ (lines : List (List ℕ)). ended lines ++ rest) (sym (start_is c p s))

pub read_bad : (c : Bool) (p : Option Pseudo) (s : StateParts) (body rest line more : List ℕ) (n : ℕ) → IsStart s → body ≡ ended (texts_of s) ++ rest → rest ≡ line ++ line_feed ∷ more → holds line_feed line ≡ false
    → ((mark : Bool) (l : RunLine) → IsLine l → line ≡ line_text mark l → MayFollow s mark l → ⊥) → n ≡ length s.lines → IsBadLine (n + 2) (head_text c p ++ line_feed ∷ body)
read_bad c p s body rest line more n start whole cut free none count =
    let text = joined c p s body rest whole ∙ ap (λ (t : List ℕ). ended (start_lines c p s) ++ t) cut in
    subst (λ (t : List ℕ). IsBadLine (n + 2) t) (sym text) (subst (λ (k : ℕ). IsBadLine (k + 2) (ended (start_lines c p s) ++ (line ++ line_feed ∷ more))) (sym count) (bad_line c p s line more start free none))

pub end_bad : (c : Bool) (p : Option Pseudo) (s : StateParts) (body rest : List ℕ) (n : ℕ) → IsStart s → body ≡ ended (texts_of s) ++ rest → rest ≢ [] → holds line_feed rest ≡ false → n ≡ length s.lines → IsBadLine (n + 2) (head_text c p ++ line_feed ∷ body)
end_bad c p s body rest n start whole some free count =
    subst (λ (t : List ℕ). IsBadLine (n + 2) t) (sym (joined c p s body rest whole)) (subst (λ (k : ℕ). IsBadLine (k + 2) (ended (start_lines c p s) ++ rest)) (sym count) (bad_end c p s rest start some free))

pub unmarked_bad : (c : Bool) (p : Option Pseudo) (s : StateParts) (body rest : List ℕ) (n : ℕ) → IsStart s → body ≡ ended (texts_of s) ++ rest → rest ≡ [] → s.marked ≡ None → n ≡ length s.lines → IsBadLine (n + 1) (head_text c p ++ line_feed ∷ body)
unmarked_bad c p s body rest n start whole none unmarked count =
    let text = joined c p s body [] (whole ∙ ap (λ (t : List ℕ). ended (texts_of s) ++ t) none) in
    subst (λ (t : List ℕ). IsBadLine (n + 1) t) (sym text) (subst (λ (k : ℕ). IsBadLine (k + 1) (ended (start_lines c p s) ++ [])) (sym count) (bad_unmarked c p s start unmarked))

pub end_good : (c : Bool) (p : Option Pseudo) (s : StateParts) (body rest : List ℕ) (k : ℕ) → IsStart s → body ≡ ended (texts_of s) ++ rest → rest ≡ [] → s.marked ≡ Some k → IsTextOf (head_text c p ++ line_feed ∷ body) (example_of c p s.lines k)
end_good c p s body rest k start whole none marked =
    let text = joined c p s body [] (whole ∙ ap (λ (t : List ℕ). ended (texts_of s) ++ t) none) in
    subst (λ (t : List ℕ). IsTextOf t (example_of c p s.lines k)) (sym text) (good_end c p s k start marked)
