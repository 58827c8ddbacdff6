-- Blanks at the front of a text: what follows one, and what follows all.
use Rattle.std.proofs.Common.{◌≡◌, ℕ, zero, suc, ◌<◌, ◌≤◌, inl, inr, true, false, ◌&&◌, ◌||◌, cond, List, [], ◌∷◌, ◌++◌, length, refl, sym, ap, subst, ◌∙◌, arith, eqb-true, append_assoc}
use Rattle.std.specs.Prelude.{Option, Some, None, ◌==◌, codes}
use Rattle.std.specs.List.{concat, AllByRecursion}
use Rattle.css_model.specs.Text.Characters.{is_white}
use Rattle.css_model.specs.Positions.Notation.{has_close, IsBlank, AreBlanks}
use Rattle.css_model.specs.Positions.Notation.{white_space, comment}
use Rattle.css_model.specs.Positions.Reading.{past_close, past_blank, skip, past_blanks}
use Rattle.nth_positions.proofs.Cases.{chosen, both_are, same_some, none_is_no_some, neither_is, not_with_false}

-- ---- what follows the first `*/`

pub past_close_short : (text : List ℕ) → length text < 2 → None ≡ past_close text
past_close_short [] h = refl
past_close_short (c ∷ []) h = refl
past_close_short (c ∷ d ∷ cs) h = absurd (omega arith)

past_close_shorter : (text rest : List ℕ) → past_close text ≡ Some rest → length rest < length text
past_close_shorter [] rest e = absurd (none_is_no_some e)
past_close_shorter (c ∷ []) rest e = absurd (none_is_no_some e)
past_close_shorter (c ∷ d ∷ cs) rest e = elim (chosen ((c == 42) && (d == 47)) (Some cs) (past_close (d ∷ cs)) (Some rest) e) [
  | inl w ↦ (let s : length cs ≡ length rest = ap length (same_some w.1) in omega arith)
  | inr w ↦ (let s : length rest < length (d ∷ cs) = past_close_shorter (d ∷ cs) rest w.1 in omega arith)
]

close_further : (c d : ℕ) (cs inside rest : List ℕ) → ((c == 42) && (d == 47)) ≡ false → has_close inside ≡ false → (d ∷ cs) ≡ inside ++ (42 ∷ 47 ∷ rest) → has_close (c ∷ inside) ≡ false
close_further c d cs [] rest f h e = refl
close_further c d cs (i ∷ inside) rest f h e = (let same : d ≡ i = cc in subst (λ (n : ℕ). (((c == 42) && (n == 47)) || has_close (i ∷ inside)) ≡ false) same (rw f h))

past_close_splits : (text rest : List ℕ) → past_close text ≡ Some rest → (inside : List ℕ) × (has_close inside ≡ false) × (text ≡ inside ++ (42 ∷ 47 ∷ rest))
past_close_splits [] rest e = absurd (none_is_no_some e)
past_close_splits (c ∷ []) rest e = absurd (none_is_no_some e)
past_close_splits (c ∷ d ∷ cs) rest e = elim (chosen ((c == 42) && (d == 47)) (Some cs) (past_close (d ∷ cs)) (Some rest) e) [
  | inl w ↦ (let b = both_are (c == 42) (d == 47) w.0 in let first : c ≡ 42 = eqb-true c 42 b.0 in let second : d ≡ 47 = eqb-true d 47 b.1 in let r : cs ≡ rest = same_some w.1 in
      ([], refl, cc))
  | inr w ↦ (let (inside, open_so_far, split) = past_close_splits (d ∷ cs) rest w.1 in (c ∷ inside, close_further c d cs inside rest w.0 open_so_far split, ap (λ (t : List ℕ). c ∷ t) split))
]

past_close_of : (inside rest : List ℕ) → has_close inside ≡ false → past_close (inside ++ (42 ∷ 47 ∷ rest)) ≡ Some rest
past_close_of [] rest h = refl
past_close_of (c ∷ []) rest h = not_with_false (c == 42) (Some (47 ∷ rest)) (Some rest)
past_close_of (c ∷ d ∷ inside) rest h = (let n = neither_is ((c == 42) && (d == 47)) (has_close (d ∷ inside)) h in
    ap (λ b. cond b (Some (inside ++ (42 ∷ 47 ∷ rest))) (past_close (d ∷ (inside ++ (42 ∷ 47 ∷ rest))))) n.0 ∙ past_close_of (d ∷ inside) rest n.1)

-- ---- what follows one blank

pub past_blank_shorter : (text rest : List ℕ) → past_blank text ≡ Some rest → length rest < length text
past_blank_shorter [] rest e = absurd (none_is_no_some e)
past_blank_shorter (c ∷ []) rest e = elim (chosen (is_white c) (Some []) None (Some rest) e) [
  | inl w ↦ (let s : 0 ≡ length rest = ap length (same_some w.1) in omega arith)
  | inr w ↦ absurd (none_is_no_some w.1)
]
past_blank_shorter (c ∷ d ∷ cs) rest e = elim (chosen (is_white c) (Some (d ∷ cs)) (cond ((c == 47) && (d == 42)) (past_close cs) None) (Some rest) e) [
  | inl w ↦ (let s : length (d ∷ cs) ≡ length rest = ap length (same_some w.1) in omega arith)
  | inr w ↦ elim (chosen ((c == 47) && (d == 42)) (past_close cs) None (Some rest) w.1) [
    | inl v ↦ (let s : length rest < length cs = past_close_shorter cs rest v.1 in omega arith)
    | inr v ↦ absurd (none_is_no_some v.1)
  ]
]

past_blank_splits : (text rest : List ℕ) → past_blank text ≡ Some rest → (blank : List ℕ) × IsBlank blank × (text ≡ blank ++ rest)
past_blank_splits [] rest e = absurd (none_is_no_some e)
past_blank_splits (c ∷ []) rest e = elim (chosen (is_white c) (Some []) None (Some rest) e) [
  | inl w ↦ (c ∷ [], white_space c refl w.0, ap (λ (t : List ℕ). c ∷ t) (same_some w.1))
  | inr w ↦ absurd (none_is_no_some w.1)
]
past_blank_splits (c ∷ d ∷ cs) rest e = elim (chosen (is_white c) (Some (d ∷ cs)) (cond ((c == 47) && (d == 42)) (past_close cs) None) (Some rest) e) [
  | inl w ↦ (c ∷ [], white_space c refl w.0, ap (λ (t : List ℕ). c ∷ t) (same_some w.1))
  | inr w ↦ elim (chosen ((c == 47) && (d == 42)) (past_close cs) None (Some rest) w.1) [
    | inl v ↦ (
        let b = both_are (c == 47) (d == 42) v.0 in
        let first : c ≡ 47 = eqb-true c 47 b.0 in
        let second : d ≡ 42 = eqb-true d 42 b.1 in
        let (inside, open_so_far, split) = past_close_splits cs rest v.1 in
        let joined : (inside ++ (42 ∷ 47 ∷ [])) ++ rest ≡ inside ++ (42 ∷ 47 ∷ rest) = append_assoc inside (42 ∷ 47 ∷ []) rest in
        (codes "/*" ++ inside ++ codes "*/", comment inside refl open_so_far, cc))
    | inr v ↦ absurd (none_is_no_some v.1)
  ]
]

past_white : (c : ℕ) (rest : List ℕ) → is_white c ≡ true → past_blank (c ∷ rest) ≡ Some rest
past_white c [] w = ap (λ b. cond b (Some []) None) w
past_white c (d ∷ cs) w = ap (λ b. cond b (Some (d ∷ cs)) (cond ((c == 47) && (d == 42)) (past_close cs) None)) w

past_blank_of : (blank rest : List ℕ) → IsBlank blank → past_blank (blank ++ rest) ≡ Some rest
past_blank_of blank rest (white_space c e w) = subst (λ (t : List ℕ). past_blank (t ++ rest) ≡ Some rest) (sym e) (past_white c rest w)
past_blank_of blank rest (comment inside e h) = subst (λ (t : List ℕ). past_blank (t ++ rest) ≡ Some rest) (sym e) (ap past_close (append_assoc inside (42 ∷ 47 ∷ []) rest) ∙ past_close_of inside rest h)

-- ---- what follows all of them

skip_none : (count : ℕ) (text : List ℕ) → past_blank text ≡ None → skip count text ≡ text
skip_none zero text e = refl
skip_none (suc count) text e = rw (e, skip) refl

skip_some : (count : ℕ) (text rest : List ℕ) → past_blank text ≡ Some rest → skip (suc count) text ≡ skip count rest
skip_some count text rest e = rw (e, skip) refl

no_blank_in_nothing : (text : List ℕ) → length text ≤ 0 → past_blank text ≡ None
no_blank_in_nothing [] h = refl
no_blank_in_nothing (c ∷ cs) h = absurd (omega arith)

-- enough is enough
skip_enough : (f g : ℕ) (text : List ℕ) → length text ≤ f → length text ≤ g → skip f text ≡ skip g text
skip_enough zero g text p q = sym (skip_none g text (no_blank_in_nothing text p))
skip_enough (suc f) zero text p q = skip_none (suc f) text (no_blank_in_nothing text q)
skip_enough (suc f) (suc g) text p q = go (past_blank text) refl (λ rest e. (let s : length rest < length text = past_blank_shorter text rest e in skip_enough f g rest (omega arith) (omega arith)))
  where
    go : (o : Option (List ℕ)) → past_blank text ≡ o → ((rest : List ℕ) → past_blank text ≡ Some rest → skip f rest ≡ skip g rest) → skip (suc f) text ≡ skip (suc g) text
    go None e h = skip_none (suc f) text e ∙ sym (skip_none (suc g) text e)
    go (Some rest) e h = skip_some f text rest e ∙ h rest e ∙ sym (skip_some g text rest e)

pub past_blanks_none : (text : List ℕ) → past_blank text ≡ None → past_blanks text ≡ text
unfolding past_blanks
past_blanks_none text e = skip_none (length text) text e

pub past_blanks_some : (text rest : List ℕ) → past_blank text ≡ Some rest → past_blanks text ≡ past_blanks rest
unfolding past_blanks
past_blanks_some text rest e = (let s : length rest < length text = past_blank_shorter text rest e in
    skip_enough (length text) (suc (length text)) text (omega arith) (omega arith) ∙ skip_some (length text) text rest e ∙ skip_enough (length text) (length rest) rest (omega arith) (omega arith))

-- blanks, and a text at which none begins
pub past_blanks_of : (front rest : List ℕ) → AreBlanks front → past_blank rest ≡ None → past_blanks (front ++ rest) ≡ rest
past_blanks_of front rest b h = subst (λ (t : List ℕ). past_blanks (t ++ rest) ≡ rest) (sym b.joined) (go b.blanks b.each)
  where
    go : (blanks : List (List ℕ)) → AllByRecursion IsBlank blanks → past_blanks (concat blanks ++ rest) ≡ rest
    go [] a = past_blanks_none rest h
    go (blank ∷ blanks) a = ap past_blanks (append_assoc blank (concat blanks) rest) ∙ past_blanks_some (blank ++ (concat blanks ++ rest)) (concat blanks ++ rest) (past_blank_of blank (concat blanks ++ rest) a.0) ∙ go blanks a.1

-- what the skipped front is, and that no blank follows
pub record Skips (text rest : List ℕ) : Type 0 where
  pub front : List ℕ
  pub blank : AreBlanks front
  pub split : text ≡ front ++ rest
  pub stops : past_blank rest ≡ None

skip_splits : (count : ℕ) (text : List ℕ) → length text ≤ count → Skips text (skip count text)
skip_splits zero text h = record { front = []; blank = record { blanks = []; each = tt; joined = refl }; split = refl; stops = no_blank_in_nothing text h }
skip_splits (suc count) text h = go (past_blank text) refl (λ rest e. (let s : length rest < length text = past_blank_shorter text rest e in skip_splits count rest (omega arith)))
  where
    go : (o : Option (List ℕ)) → past_blank text ≡ o → ((rest : List ℕ) → past_blank text ≡ Some rest → Skips rest (skip count rest)) → Skips text (skip (suc count) text)
    go None e more = subst (Skips text) (sym (skip_none (suc count) text e)) (record { front = []; blank = record { blanks = []; each = tt; joined = refl }; split = refl; stops = e })
    go (Some rest) e more = (let later = more rest e in let first = past_blank_splits text rest e in subst (Skips text) (sym (skip_some count text rest e)) (record {
      front = first.0 ++ later.front;
      blank = record { blanks = first.0 ∷ later.blank.blanks; each = (first.1, later.blank.each); joined = ap (λ (t : List ℕ). first.0 ++ t) later.blank.joined };
      split = first.2 ∙ ap (λ (t : List ℕ). first.0 ++ t) later.split ∙ sym (append_assoc first.0 later.front (skip count rest));
      stops = later.stops;
    }))

pub past_blanks_splits : (text : List ℕ) → Skips text (past_blanks text)
unfolding past_blanks
past_blanks_splits text = skip_splits (length text) text (omega arith)
