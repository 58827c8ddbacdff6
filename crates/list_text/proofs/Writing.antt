-- Lines that are written one after the other.
use Rattle.std.proofs.Common.{◌≡◌, ◌≤◌, ◌-◌, ◌+◌, ℕ, suc, Bool, List, [], ◌∷◌, ◌++◌, length, map, take, drop, get_or, is_some, refl, sym, ap, ◌∙◌, subst, arith, append_assoc}
use Rattle.std.specs.List.{enumerate_from, flat_map}
use Rattle.std.proofs.lemmas.Grind.{flat_map-append}
use Rattle.std.proofs.lemmas.Slice.{first_rest}
use Rattle.css_model.specs.declared.sheet.Item.{Item}
use Rattle.css_model.specs.Text.Characters.{line_feed}
use Rattle.doc_text.specs.DocText.{ended}
use Rattle.media_groups.specs.declared.media.Media.{Media}
use Rattle.media_groups.specs.Levels.{Level, outer_level}
use Rattle.media_groups.specs.Opened.{opened_of}
use Rattle.list_text.specs.ListTexts.{block_of, body_lines, item_line, item_lines}
use Rattle.list_text.specs.Standing.{after_first, AreLeft, first_of}
use Rattle.list_text.proofs.Blocks.{block_here, left_after}

-- the first of items, and those after it
pub cons_of : (rest : List Item) (x : Item) → 1 ≤ length rest → x ≡ get_or rest 0 x → rest ≡ x ∷ take (length rest - 1) (drop 1 rest)
cons_of rest x some is = first_rest rest x some ∙ ap (λ (y : Item). y ∷ take (length rest - 1) (drop 1 rest)) (sym is)

ended_append : (xs ys : List (List ℕ)) → ended (xs ++ ys) ≡ ended xs ++ ended ys
ended_append xs ys = flat_map-append (λ (line : List ℕ). line ++ line_feed ∷ []) xs ys

-- a part more of a line
pub part_more : (out x y wrote next : List ℕ) → wrote ≡ out ++ x → next ≡ wrote ++ y → next ≡ out ++ (x ++ y)
part_more out x y wrote next is more = more ∙ ap (λ (text : List ℕ). text ++ y) is ∙ append_assoc out x y

-- a line more, for each of some items
pub inner_more : (f : ℕ × Item → List ℕ) (n : ℕ) (item : Item) (others rest : List Item) (out next start : List ℕ) → rest ≡ item ∷ others
    → out ++ ended (map f (enumerate_from (n + 1) rest)) ≡ start → next ≡ out ++ (f (n + 1, item) ++ 10 ∷ [])
    → next ++ ended (map f (enumerate_from (n + 1 + 1) others)) ≡ start
inner_more f n item others rest out next start cut is wrote =
    ap (λ (text : List ℕ). text ++ ended (map f (enumerate_from (n + 1 + 1) others))) wrote
    ∙ append_assoc out (f (n + 1, item) ++ 10 ∷ []) (ended (map f (enumerate_from (n + 1 + 1) others)))
    ∙ ap (λ (items : List Item). out ++ ended (map f (enumerate_from (n + 1) items))) (sym cut) ∙ is

-- the lines of an item more
pub outer_more : (text : List ℕ) (all : List Item) (level : Level) (n : ℕ) (item : Item) (others rest : List Item) (blocks : List Media) (out next start : List ℕ) → rest ≡ item ∷ others
    → level ≡ outer_level text all → first_of (n + 1) blocks ≡ block_of (n + 1) (opened_of all text)
    → out ++ ended (flat_map (item_lines text all) (enumerate_from (n + 1) rest)) ≡ start
    → next ≡ (out ++ (item_line text level (is_some (first_of (n + 1) blocks)) (n + 1, item) ++ 10 ∷ [])) ++ ended (body_lines text (first_of (n + 1) blocks))
    → next ++ ended (flat_map (item_lines text all) (enumerate_from (n + 1 + 1) others)) ≡ start
outer_more text all level n item others rest blocks out next start cut outer block is wrote =
    let later : List (List ℕ) = flat_map (item_lines text all) (enumerate_from (n + 1 + 1) others) in
    let line : List ℕ = item_line text (outer_level text all) (is_some (block_of (n + 1) (opened_of all text))) (n + 1, item) in
    let body : List (List ℕ) = body_lines text (block_of (n + 1) (opened_of all text)) in
    ap (λ (t : List ℕ). t ++ ended later) (wrote ∙ by_level outer ∙ by_block block)
    ∙ append_assoc (out ++ (line ++ 10 ∷ [])) (ended body) (ended later)
    ∙ ap (λ (t : List ℕ). (out ++ (line ++ 10 ∷ [])) ++ t) (sym (ended_append body later))
    ∙ append_assoc out (line ++ 10 ∷ []) (ended (body ++ later))
    ∙ ap (λ (items : List Item). out ++ ended (flat_map (item_lines text all) (enumerate_from (n + 1) items))) (sym cut) ∙ is
  where
    by_level : {l m : Level} → l ≡ m → (out ++ (item_line text l (is_some (first_of (n + 1) blocks)) (n + 1, item) ++ 10 ∷ [])) ++ ended (body_lines text (first_of (n + 1) blocks))
        ≡ (out ++ (item_line text m (is_some (first_of (n + 1) blocks)) (n + 1, item) ++ 10 ∷ [])) ++ ended (body_lines text (first_of (n + 1) blocks))
    by_level e = ap (λ (l : Level). (out ++ (item_line text l (is_some (first_of (n + 1) blocks)) (n + 1, item) ++ 10 ∷ [])) ++ ended (body_lines text (first_of (n + 1) blocks))) e

    by_block : first_of (n + 1) blocks ≡ block_of (n + 1) (opened_of all text)
        → (out ++ (item_line text (outer_level text all) (is_some (first_of (n + 1) blocks)) (n + 1, item) ++ 10 ∷ [])) ++ ended (body_lines text (first_of (n + 1) blocks))
        ≡ (out ++ (item_line text (outer_level text all) (is_some (block_of (n + 1) (opened_of all text))) (n + 1, item) ++ 10 ∷ [])) ++ ended (body_lines text (block_of (n + 1) (opened_of all text)))
    by_block e = ap (λ o. (out ++ (item_line text (outer_level text all) (is_some o) (n + 1, item) ++ 10 ∷ [])) ++ ended (body_lines text o)) e

-- the same of the number after n
pub block_next : (text : List ℕ) (all : List Item) (n : ℕ) (item : Item) (others rest : List Item) (media : List Media) → rest ≡ item ∷ others → AreLeft text all n rest media
    → first_of (n + 1) media ≡ block_of (n + 1) (opened_of all text)
block_next text all n item others rest media cut left =
    let next : suc n ≡ n + 1 = omega arith in
    subst (λ (m : ℕ). first_of m media ≡ block_of m (opened_of all text)) next (block_here text all n item others media (subst (λ (items : List Item). AreLeft text all n items media) cut left))

pub left_next : (text : List ℕ) (all : List Item) (n : ℕ) (item : Item) (others rest : List Item) (media next : List Media) → rest ≡ item ∷ others → AreLeft text all n rest media
    → next ≡ after_first (n + 1) media → AreLeft text all (n + 1) others next
left_next text all n item others rest media next cut left is =
    let number : suc n ≡ n + 1 = omega arith in
    subst (λ (xs : List Media). AreLeft text all (n + 1) others xs) (sym is)
    (subst (λ (m : ℕ). AreLeft text all m others (after_first m media)) number (left_after text all n item others media (subst (λ (items : List Item). AreLeft text all n items media) cut left)))
