-- What is found in a sheet, from what is found in it and in the bodies of its opened blocks.
use Rattle.std.proofs.Common.{◌≡◌, ◌≤◌, ◌-◌, ℕ, Bool, List, [], ◌∷◌, ◌++◌, length, take, drop, get_or, append_assoc, sym, ap, ap₂, subst, ◌∙◌, arith}
use Rattle.std.specs.List.{AllByRecursion, flat_map}
use Rattle.std.proofs.lemmas.List.{take_all}
use Rattle.std.proofs.lemmas.List.Folds.{flat_map-map}
use Rattle.css_model.specs.declared.sheet.Item.{Item}
use Rattle.css_model.specs.Documents.SelectorParts.{SelectorParts}
use Rattle.media_groups.specs.declared.media.Media.{Media}
use Rattle.media_groups.specs.Levels.{Level, body_level}
use Rattle.media_groups.specs.Opened.{opened_of}
use Rattle.order_laws.specs.Places.{last_pairs}
use Rattle.lint_text.specs.Findings.{Finding, findings, found_in, seen_of}

-- ---- The next one of a list

pub next_found : {X A : Type 0} (f : X → List A) (xs : List X) (x : X) (before after total : List A) → 1 ≤ length xs → x ≡ get_or xs 0 x → after ≡ before ++ f x →
    before ++ flat_map f xs ≡ total → after ++ flat_map f (take (length xs - 1) (drop 1 xs)) ≡ total
next_found f [] x before after total some is e all = absurd (omega (arith, some))
next_found {X = X} {A = A} f (y ∷ ys) x before after total some is e all =
    ap₂ (λ (us : List A) (vs : List X). us ++ flat_map f vs) (e ∙ ap (λ (z : X). before ++ f z) is) (take_all (length (y ∷ ys) - 1) ys (omega arith)) ∙ append_assoc before (f y) (flat_map f ys) ∙ all

pub next_holds : {X : Type 0} (P : X → Type 0) (xs : List X) → 1 ≤ length xs → AllByRecursion P xs → AllByRecursion P (take (length xs - 1) (drop 1 xs))
next_holds P [] some h = absurd (omega (arith, some))
next_holds {X = X} P (y ∷ ys) some h = subst (λ (zs : List X). AllByRecursion P zs) (sym (take_all (length (y ∷ ys) - 1) ys (omega arith))) h.1

-- ---- In the sheet and in the bodies

-- in the sheet itself, with its bytes and the bytes whose lines are counted
abbrev in_sheet : (SelectorParts → Bool) → (text source : List ℕ) → List Item → List Finding
in_sheet dead text source items = found_in dead (record { text = text; start = 0; source = source; items = items; lasts = last_pairs items })

-- in bodies
abbrev in_bodies : (SelectorParts → Bool) → (text : List ℕ) → List Media → List Finding
in_bodies dead text media = flat_map (λ m. found_in dead (seen_of text (body_level text m))) media

both_found : (dead : SelectorParts → Bool) (text : List ℕ) (items : List Item) (media : List Media) (none first all : List Finding) → media ≡ opened_of items text → none ≡ [] →
    first ≡ none ++ in_sheet dead text text items → all ≡ first ++ in_bodies dead text media → all ≡ findings dead text items
both_found dead text items media none first all blocks empty outer bodies =
    bodies
    ∙ ap₂ (λ (us vs : List Finding). us ++ vs) (outer ∙ ap (λ (us : List Finding). us ++ in_sheet dead text text items) empty)
    (ap (in_bodies dead text) blocks ∙ sym (flat_map-map (λ (l : Level). found_in dead (seen_of text l)) (body_level text) (opened_of items text)))

pub all_found : (dead : SelectorParts → Bool) (text counted : List ℕ) (items read : List Item) (media : List Media) (none first all : List Finding) → counted ≡ text → read ≡ items → media ≡ opened_of items text → none ≡ [] →
    first ≡ none ++ in_sheet dead counted text read → all ≡ first ++ in_bodies dead counted media → all ≡ findings dead text items
all_found dead text counted items read media none first all same is blocks empty outer bodies =
    both_found dead text items media none first all blocks empty
    (outer ∙ ap₂ (λ (t : List ℕ) (xs : List Item). none ++ in_sheet dead t text xs) same is)
    (bodies ∙ ap (λ (t : List ℕ). first ++ in_bodies dead t media) same)
