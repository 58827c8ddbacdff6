-- A part whose bit no part of the table has is not in the table.
use Rattle.std.proofs.Common.{◌≡◌, ℕ, ◌^◌, Bool, true, false, List, [], ◌∷◌, None, refl, sym, ap, ◌∙◌, arith}
use Rattle.std.specs.Prelude.{◌==◌, not, bit_and}
use Rattle.std.specs.Cmp.Lexicographic.{bytes_decides}
use Rattle.std.specs.List.{list_all, list_any}
use Rattle.std.proofs.lemmas.Bool.{false≢true, and_parts}
use Rattle.css_model.specs.Lists.{same_text}
use Rattle.css_model.specs.Cascade.Family.{Row, family_in, rows}
use Rattle.related_props.specs.Masks.{bit_of}

abbrev listed : ℕ
listed = 9445105343350469660

-- the test of the code
abbrev shows : List ℕ → Bool
shows part = not (bit_and listed (2 ^ bit_of part) == 0)

all_show : list_all (λ row. list_all shows row.parts) rows ≡ true
all_show = refl

same_shows : (word part : List ℕ) → shows word ≡ true → shows part ≡ false → same_text part word ≡ true → ⊥
same_shows word part one none e = false≢true (sym none ∙ ap shows ((bytes_decides part word).0 e) ∙ one)

not_same : (word part : List ℕ) → shows word ≡ true → shows part ≡ false → same_text part word ≡ false
not_same word part one none = which (same_text part word) refl
  where
    which : (b : Bool) → same_text part word ≡ b → same_text part word ≡ false
    which true e = absurd (same_shows word part one none e)
    which false e = e

no_word : (words : List (List ℕ)) (part : List ℕ) → list_all shows words ≡ true → shows part ≡ false → list_any (λ word. same_text part word) words ≡ false
no_word [] part all none = refl
no_word (word ∷ words) part all none =
    let w : (shows word ≡ true) × (list_all shows words ≡ true) = and_parts (shows word) (list_all shows words) all in
    let e : same_text part word ≡ false = not_same word part w.0 none in
    let again : list_any (λ other. same_text part other) words ≡ false = no_word words part w.1 none in
    grind (arith, e, again)

no_row : (table : List Row) (part : List ℕ) → list_all (λ row. list_all shows row.parts) table ≡ true → shows part ≡ false → family_in table part ≡ None
no_row [] part all none = refl
no_row (row ∷ table) part all none =
    let w : (list_all shows row.parts ≡ true) × (list_all (λ row. list_all shows row.parts) table ≡ true) = and_parts (list_all shows row.parts) (list_all (λ row. list_all shows row.parts) table) all in
    let e : list_any (λ word. same_text part word) row.parts ≡ false = no_word row.parts part w.0 none in
    let again : family_in table part ≡ None = no_row table part w.1 none in
    grind (arith, e, again)

pub none_listed : (part : List ℕ) → bit_and listed (2 ^ bit_of part) ≡ 0 → family_in rows part ≡ None
none_listed part none = no_row rows part all_show (ap (λ (n : ℕ). not (n == 0)) none)
