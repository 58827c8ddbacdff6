-- What is told to win is the best of what competes.
use Rattle.std.proofs.Common.{◌≡◌, ◌⊎◌, inl, inr, ℕ, ◌+◌, Bool, true, false, List, [], ◌∷◌, ◌++◌, map, Option, Some, None, option_map, refl, sym, ap, ap₂, ◌∙◌, subst}
use Rattle.std.specs.Prelude.{if◌then◌else◌, ◌||◌, ◌&&◌}
use Rattle.std.specs.List.{AllByRecursion, Contains, filter, flat_map}
use Rattle.std.specs.Cmp.{booleans_Decides}
use Rattle.std.specs.Cmp.Lexicographic.{bytes_decides}
use Rattle.std.proofs.lemmas.Bool.{and_parts, false≢true, true≢false, false_from_ne_true}
use Rattle.std.proofs.lemmas.List.Elements.{All-nil, Contains-append_left, Contains-append_right, filter-append}
use Rattle.cascade_laws.proofs.ForCallers.{some-same}
use Rattle.css_model.specs.declared.example.Example.{Example}
use Rattle.css_model.specs.declared.sheet.DeclItem.{DeclItem}
use Rattle.css_model.specs.declared.sheet.Item.{Item}
use Rattle.css_model.specs.declared.sheet.Item.TheVariants.{Rule, KeptRule, KeptBlock}
use Rattle.css_model.specs.declared.sheet.SelItem.{SelItem}
use Rattle.css_model.specs.Cascade.Winner.{AreMeanings, Declared, Understood, Winner, applied, exceeds}
use Rattle.css_model.specs.Documents.Matching.{matches}
use Rattle.css_model.specs.Documents.RunDocuments.{expand, target_of}
use Rattle.css_model.specs.Documents.SelectorParts.{SelectorParts}
use Rattle.css_model.specs.Documents.Specificity.{specificity_of}
use Rattle.css_model.specs.Lists.{same_text}
use Rattle.css_model.specs.Sheets.KeptItems.{kept_items}
use Rattle.list_facts.proofs.Members.{Contains-nil, Contains-cons_cases, Contains-here, Contains-there}
use Rattle.media_groups.specs.declared.media.Media.{Media}
use Rattle.opened_laws.specs.Media.Scenes.{KeptScene, meanings_of}
use Rattle.order_laws.proofs.ForCallers.{any_from, any_of, flat_map_from, flat_map_has}
use Rattle.sheet_members.specs.Labels.{label_of, label_with}
use Rattle.sheet_members.specs.Layers.{Layer, body_layers, outer_layer}
use Rattle.sheet_members.specs.Occurrences.{Kept, Occurrence, Paired, Part, occurrences}
use Rattle.turned_members.specs.Turned.{Couple}
use Rattle.diff_text.specs.Winning.{agree, competes, greatest_from, later_or, name_of, part_competes, parts_agree, stands_under, stays_greater, winning}
use Rattle.diff_laws.specs.Scenes.{HoldTogether, applied_in, blocks_of, normal_applied, normal_declared}
use Rattle.diff_laws.proofs.ForCallers.{AllTally, IsSceneFor, Tally, best, best_append, chosen, flat_of, given, items_ascend, known, normal_all, normal_ascends, outer_flat, over, over_none_last, over_three, plain_normal, standing, stands, unrepeated, weight, wins_best, with_part, won}
use Rattle.told_laws.specs.Reversed.{OtherWinnersDiffer, ToldWinnerWins, is_head_of, outcome_of, part_outcome, scene_of, scene_under, value_in, values_in}
use Rattle.told_laws.proofs.All.{outer_all}

-- ---- Where kept items apply nothing

-- all of these lists are empty
abbrev AllEmpty : List (List Declared) → Type 0
AllEmpty ps = AllByRecursion (λ (p : List Declared). p ≡ []) ps

module _ (matched : SelectorParts → Bool) (holds : List ℕ → Bool) where
  nothing_standing : (head : Option (List ℕ)) → standing matched holds head [] ≡ []
  nothing_standing head = which (stands holds head)
    where
      which : (b : Bool) → ◌≡◌ {A = List Declared} (if b then [] else []) []
      which true = refl
      which false = refl

  abbrev gives : Occurrence → List Declared
  gives o = given matched holds (label_of o)

  quiet_flat : (os : List Occurrence) (ps : List (List Declared)) → AllEmpty ps → flat_of matched holds os ps ≡ flat_map gives os
  quiet_flat [] ps empty = refl
  quiet_flat (o ∷ os) ps empty = which o.part ps empty (λ qs h. quiet_flat os qs h)
    where
      which : (q : Part) (ps : List (List Declared)) → AllEmpty ps → ((qs : List (List Declared)) → AllEmpty qs → flat_of matched holds os qs ≡ flat_map gives os) →
          with_part matched holds o q (λ qs. flat_of matched holds os qs) ps ≡ given matched holds (label_with o.layer.head q false o.text) ++ flat_map gives os
      which (Paired s d) ps empty rest = ap (λ (ds : List Declared). given matched holds (label_with o.layer.head (Paired s d) false o.text) ++ ds) (rest ps empty)
      which (Kept item) [] empty rest = rest [] tt ∙ ap (λ (ds : List Declared). ds ++ flat_map gives os) (sym (nothing_standing o.layer.head))
      which (Kept item) (p ∷ ps) empty rest = ap₂ (λ (x y : List Declared). standing matched holds o.layer.head x ++ y) empty.0 (rest ps empty.1)

-- ---- The scene of a couple

module _ (c : Couple) (source : List ℕ) where
  abbrev scenes : List (Option Media) → List KeptScene
  scenes os = map (scene_of source (is_head_of c)) os

  together : (os : List (Option Media)) → HoldTogether (is_head_of c) source os (scenes os)
  together [] = tt
  together (None ∷ os) = together os
  together (Some m ∷ os) = (refl, together os)

  empty_append : (ps qs : List (List Declared)) → AllEmpty ps → AllEmpty qs → AllEmpty (ps ++ qs)
  empty_append [] qs h g = g
  empty_append (p ∷ ps) qs h g = (h.0, empty_append ps qs h.1 g)

  empty_lists : (items : List Item) → AllEmpty (map (λ (item : Item). []) items)
  empty_lists [] = tt
  empty_lists (item ∷ items) = (refl, empty_lists items)

  quiet : (os : List (Option Media)) → AllEmpty (applied_in os (scenes os))
  quiet [] = tt
  quiet (None ∷ os) = (refl, quiet os)
  quiet (Some m ∷ os) = empty_append (map (λ (item : Item). []) (kept_items m.sheet.items)) (applied_in os (scenes os)) (empty_lists (kept_items m.sheet.items)) (quiet os)

  quiet_normal : (ps : List (List Declared)) → AllEmpty ps → AllEmpty (normal_all ps)
  quiet_normal [] h = tt
  quiet_normal (p ∷ ps) h = (ap (map normal_declared) h.0, quiet_normal ps h.1)

  empty_meanings : (items : List Item) → AreMeanings items (map (λ (item : Item). []) (kept_items items))
  empty_meanings [] = tt
  empty_meanings (Rule r ∷ items) = empty_meanings items
  empty_meanings (KeptRule k ∷ items) = (All-nil (λ e. Contains k.decls e.decl), empty_meanings items)
  empty_meanings (KeptBlock piece ∷ items) = empty_meanings items

  scene_fits : (bodies : List Layer) (n : ℕ) (items : List Item) (os : List (Option Media)) → Tally source bodies n items os → IsSceneFor items os (scenes os)
  scene_fits bodies n [] [] tally = tt
  scene_fits bodies n [] (o ∷ os) tally = absurd tally
  scene_fits bodies n (Rule r ∷ items) os tally = scene_fits bodies (n + 1) items os tally
  scene_fits bodies n (KeptRule k ∷ items) [] tally = absurd tally
  scene_fits bodies n (KeptRule k ∷ items) (None ∷ os) tally = (All-nil (λ e. Contains k.decls e.decl), scene_fits bodies (n + 1) items os tally.1)
  scene_fits bodies n (KeptRule k ∷ items) (Some m ∷ os) tally = (All-nil (λ e. Contains k.decls e.decl), scene_fits bodies (n + 1) items os tally.1)
  scene_fits bodies n (KeptBlock piece ∷ items) [] tally = absurd tally
  scene_fits bodies n (KeptBlock piece ∷ items) (None ∷ os) tally = (tt, scene_fits bodies (n + 1) items os tally.1)
  scene_fits bodies n (KeptBlock piece ∷ items) (Some m ∷ os) tally = (empty_meanings m.sheet.items, scene_fits bodies (n + 1) items os tally.1)

-- ---- What competes

-- the declaration of a pair with its normal value
abbrev declared : Part → List ℕ → Declared
declared (Paired s d) text = record { decl = record { name = d.decl.name; value = text; important = d.decl.important }; specificity = specificity_of s.selector }
declared (Kept item) text = record { decl = record { name = []; value = text; important = false }; specificity = record { a = 0; b = 0; c = 0 } }

-- a value of a property
abbrev as_value : List ℕ → List ℕ → Understood
as_value name value = record { name = name; value = value }

abbrev of_one : Occurrence → Declared
of_one o = declared o.part o.text

module _ (x : Example) (c : Couple) (all : List Occurrence) where
  abbrev first_name : List ℕ
  first_name = name_of c.first.mine.occurrence

  abbrev second_name : List ℕ
  second_name = name_of c.second.mine.occurrence

  abbrev is_named : List ℕ → Bool
  is_named name = same_text name first_name || same_text name second_name

  abbrev us : List Understood
  us = values_in c all

  abbrev matched : SelectorParts → Bool
  matched = matches (expand x) (target_of x)

  abbrev holds : List ℕ → Bool
  holds = is_head_of c

  abbrev value_of : Occurrence → List Understood
  value_of o = value_in first_name second_name o.part o.text

  value_named : (q : Part) (text : List ℕ) (u : Understood) → Contains (value_in first_name second_name q text) u → is_named u.name ≡ true
  value_named (Paired s d) text u among = which (is_named d.decl.name) refl among
    where
      which : (b : Bool) → is_named d.decl.name ≡ b → Contains (if b then record { name = d.decl.name; value = text } ∷ [] else []) u → is_named u.name ≡ true
      which true h g = first (Contains-cons_cases (record { name = d.decl.name; value = text }) [] u g)
        where
          first : (record { name = d.decl.name; value = text } ≡ u) ⊎ Contains [] u → is_named u.name ≡ true
          first (inl e) = subst (λ (v : Understood). is_named v.name ≡ true) e h
          first (inr none) = absurd (Contains-nil u none)
      which false h g = absurd (Contains-nil u g)
  value_named (Kept item) text u among = absurd (Contains-nil u among)

  own_value : (o : Occurrence) (s : SelItem) (d : DeclItem) → o.part ≡ Paired s d → is_named d.decl.name ≡ true → Contains (value_of o) (as_value d.decl.name o.text)
  own_value o s d e named =
      subst (λ (q : Part). Contains (value_in first_name second_name q o.text) (as_value d.decl.name o.text)) (sym e)
      (subst (λ (b : Bool). Contains (if b then as_value d.decl.name o.text ∷ [] else []) (as_value d.decl.name o.text)) (sym named)
      (Contains-here (as_value d.decl.name o.text) []))

  -- exactly the values of the two properties are understood
  known_named : (o : Occurrence) (s : SelItem) (d : DeclItem) → o.part ≡ Paired s d → Contains all o → known us (declared (Paired s d) o.text) ≡ is_named d.decl.name
  known_named o s d e among = which (is_named d.decl.name) refl
    where
      which : (b : Bool) → is_named d.decl.name ≡ b → known us (declared (Paired s d) o.text) ≡ b
      which true named =
          any_of (λ (u : Understood). same_text u.name d.decl.name && same_text u.value o.text) us (as_value d.decl.name o.text)
          (flat_map_has value_of all o (as_value d.decl.name o.text) among (own_value o s d e named))
          (ap₂ (λ (a b : Bool). a && b) ((bytes_decides d.decl.name d.decl.name).1 refl) ((bytes_decides o.text o.text).1 refl))
      which false other =
          false_from_ne_true (known us (declared (Paired s d) o.text)) (λ seen.
          let w = any_from (λ (u : Understood). same_text u.name d.decl.name && same_text u.value o.text) us seen in
          let v = flat_map_from value_of all w.0 w.1 in
          let named : is_named (w.0).name ≡ true = value_named (v.0).part (v.0).text w.0 v.2 in
          let same : (w.0).name ≡ d.decl.name = (bytes_decides (w.0).name d.decl.name).0 (and_parts (same_text (w.0).name d.decl.name) (same_text (w.0).value o.text) w.2).0 in
          true≢false (sym named ∙ ap is_named same ∙ other))

  heads_stand : (head : Option (List ℕ)) → stands holds head ≡ stands_under c.first.mine.occurrence.layer.head c.second.mine.occurrence.layer.head head
  heads_stand None = refl
  heads_stand (Some head) = refl

  -- what an occurrence gives is understood where it competes
  one_chosen : (o : Occurrence) → Contains all o → (q : Part) → o.part ≡ q →
      filter (known us) (given matched holds (label_with o.layer.head q false o.text))
      ≡ (if stands_under c.first.mine.occurrence.layer.head c.second.mine.occurrence.layer.head o.layer.head && part_competes x first_name second_name q then declared q o.text ∷ [] else [])
  one_chosen o among (Paired s d) e =
      which (stands holds o.layer.head) (matched s.selector) (is_named d.decl.name) (known_named o s d e among)
      ∙ ap (λ (b : Bool). if b && (is_named d.decl.name && matched s.selector) then declared (Paired s d) o.text ∷ [] else []) (heads_stand o.layer.head)
    where
      which : (b m n : Bool) → known us (declared (Paired s d) o.text) ≡ n →
          filter (known us) (if b then (if m then declared (Paired s d) o.text ∷ [] else []) else []) ≡ (if b && (n && m) then declared (Paired s d) o.text ∷ [] else [])
      which true true n h = ap (λ (k : Bool). if k then declared (Paired s d) o.text ∷ [] else []) h ∙ both n
        where
          both : (n : Bool) → (if n then declared (Paired s d) o.text ∷ [] else []) ≡ (if n && true then declared (Paired s d) o.text ∷ [] else [])
          both true = refl
          both false = refl
      which true false true h = refl
      which true false false h = refl
      which false m n h = refl
  one_chosen o among (Kept item) e = which (stands holds o.layer.head) (stands_under c.first.mine.occurrence.layer.head c.second.mine.occurrence.layer.head o.layer.head)
    where
      which : (a b : Bool) → filter (known us) (if a then [] else []) ≡ (if b && false then declared (Kept item) o.text ∷ [] else [])
      which true true = refl
      which true false = refl
      which false true = refl
      which false false = refl

  -- ---- The greatest

  abbrev is_paired : Part → Bool
  is_paired (Paired s d) = true
  is_paired (Kept item) = false

  abbrev IsPaired : Option Occurrence → Type 0
  IsPaired None = Unit {0}
  IsPaired (Some p) = is_paired p.part ≡ true

  abbrev taken : Option Occurrence → Option Declared
  taken b = option_map of_one b

  competing_pair : (o : Occurrence) → competes x c o ≡ true → is_paired o.part ≡ true
  competing_pair o h = which o.part (and_parts (stands_under c.first.mine.occurrence.layer.head c.second.mine.occurrence.layer.head o.layer.head) (part_competes x first_name second_name o.part) h).1
    where
      which : (q : Part) → part_competes x first_name second_name q ≡ true → is_paired q ≡ true
      which (Paired s d) g = refl
      which (Kept item) g = absurd (false≢true g)

  later_taken : (b : Option Occurrence) (o : Occurrence) → IsPaired b → is_paired o.part ≡ true → taken (later_or b o) ≡ over (taken b) (Some (of_one o))
  later_taken None o is paired = refl
  later_taken (Some p) o is paired = which p.part o.part refl refl is paired
    where
      chosen_part : (b : Bool) → taken (if b then Some p else Some o) ≡ (if b then Some (of_one p) else Some (of_one o))
      chosen_part true = refl
      chosen_part false = refl

      which : (q r : Part) → p.part ≡ q → o.part ≡ r → is_paired q ≡ true → is_paired r ≡ true → taken (if stays_greater p.part o.part then Some p else Some o) ≡ (if exceeds (weight (of_one p)) (weight (of_one o)) then Some (of_one p) else Some (of_one o))
      which (Paired s d) (Paired t f) e g h k =
          chosen_part (stays_greater p.part o.part)
          ∙ ap (λ (b : Bool). if b then Some (of_one p) else Some (of_one o))
          (ap₂ stays_greater e g ∙ ap₂ (λ (q r : Part). exceeds (weight (declared q p.text)) (weight (declared r o.text))) (sym e) (sym g))
      which (Paired s d) (Kept item) e g h k = absurd (false≢true k)
      which (Kept item) r e g h k = absurd (false≢true h)

  later_paired : (b : Option Occurrence) (o : Occurrence) → IsPaired b → is_paired o.part ≡ true → IsPaired (later_or b o)
  later_paired None o is paired = paired
  later_paired (Some p) o is paired = which (stays_greater p.part o.part)
    where
      which : (b : Bool) → IsPaired (if b then Some p else Some o)
      which true = is
      which false = paired

  abbrev gives_one : Occurrence → List Declared
  gives_one o = given matched holds (label_of o)

  greatest_is : (b : Option Occurrence) (os : List Occurrence) → IsPaired b → ((o : Occurrence) → Contains os o → Contains all o) →
      taken (greatest_from x c b os) ≡ over (taken b) (best (filter (known us) (flat_map gives_one os)))
  greatest_is b [] is inside = sym (over_none_last (taken b))
  greatest_is b (o ∷ os) is inside =
      which (competes x c o) refl (λ p h. greatest_is p os h (λ q g. inside q (Contains-there o os q g)))
      ∙ ap (over (taken b)) (sym (ap best (filter-append (known us) (gives_one o) (flat_map gives_one os)) ∙ best_append (filter (known us) (gives_one o)) (filter (known us) (flat_map gives_one os))))
    where
      here : filter (known us) (gives_one o) ≡ (if competes x c o then of_one o ∷ [] else [])
      here = one_chosen o (inside o (Contains-here o os)) o.part refl

      which : (g : Bool) → competes x c o ≡ g → ((p : Option Occurrence) → IsPaired p → taken (greatest_from x c p os) ≡ over (taken p) (best (filter (known us) (flat_map gives_one os)))) →
          taken (if g then greatest_from x c (later_or b o) os else greatest_from x c b os) ≡ over (taken b) (over (best (filter (known us) (gives_one o))) (best (filter (known us) (flat_map gives_one os))))
      which true e rest =
          let paired : is_paired o.part ≡ true = competing_pair o e in
          rest (later_or b o) (later_paired b o is paired)
          ∙ ap (λ (a : Option Declared). over a (best (filter (known us) (flat_map gives_one os)))) (later_taken b o is paired)
          ∙ sym (over_three (taken b) (Some (of_one o)) (best (filter (known us) (flat_map gives_one os))))
          ∙ ap (λ (ds : List Declared). over (taken b) (over (best ds) (best (filter (known us) (flat_map gives_one os))))) (sym (here ∙ ap (λ (g : Bool). if g then of_one o ∷ [] else []) e))
      which false e rest =
          rest b is ∙ ap (λ (ds : List Declared). over (taken b) (over (best ds) (best (filter (known us) (flat_map gives_one os))))) (sym (here ∙ ap (λ (g : Bool). if g then of_one o ∷ [] else []) e))

  -- without its place the one that is taken wins
  won_outcome : (b : Option Occurrence) → option_map won (taken b) ≡ option_map outcome_of b
  won_outcome None = refl
  won_outcome (Some o) = ap Some (which o.part)
    where
      which : (q : Part) → won (declared q o.text) ≡ part_outcome q o.text
      which (Paired s d) = refl
      which (Kept item) = refl

  -- ---- What is taken is a pair

  taken_paired : (b : Option Occurrence) (os : List Occurrence) → IsPaired b → IsPaired (greatest_from x c b os)
  taken_paired b [] is = is
  taken_paired b (o ∷ os) is = which (competes x c o) refl (λ p h. taken_paired p os h)
    where
      which : (g : Bool) → competes x c o ≡ g → ((p : Option Occurrence) → IsPaired p → IsPaired (greatest_from x c p os)) → IsPaired (if g then greatest_from x c (later_or b o) os else greatest_from x c b os)
      which true e rest = rest (later_or b o) (later_paired b o is (competing_pair o e))
      which false e rest = rest b is

  -- two pairs of one outcome agree
  parts_agreed : (q r : Part) (text other : List ℕ) → is_paired q ≡ true → is_paired r ≡ true → part_outcome q text ≡ part_outcome r other → parts_agree q text r other ≡ true
  parts_agreed (Paired s d) (Paired t f) text other h g same =
      ap₂ (λ (a b : Bool). a && b) ((bytes_decides d.decl.name f.decl.name).1 (ap (λ (w : Winner). w.name) same))
      (ap₂ (λ (a b : Bool). a && b) ((bytes_decides text other).1 (ap (λ (w : Winner). w.value) same)) ((booleans_Decides d.decl.important f.decl.important).1 (ap (λ (w : Winner). w.important) same)))
  parts_agreed (Paired s d) (Kept item) text other h g same = absurd (false≢true g)
  parts_agreed (Kept item) r text other h g same = absurd (false≢true h)

  pub agreed : (b e : Option Occurrence) → IsPaired b → IsPaired e → option_map outcome_of b ≡ option_map outcome_of e → agree b e ≡ true
  agreed None None h g same = refl
  agreed None (Some p) h g same = absurd (let none : ⊥ = cc in none)
  agreed (Some o) None h g same = absurd (let none : ⊥ = cc in none)
  agreed (Some o) (Some p) h g same = parts_agreed o.part p.part o.text p.text h g (some-same same)

-- ---- The laws

module _ (tallies : AllTally) where
  pub told_wins : ToldWinnerWins
  told_wins source s reads x c os inside =
      wins_best (values_in c os) (map normal_applied (applied (expand x) (target_of x) (meanings_of (expand x) (target_of x) (blocks_of source s) (scene_under c source s)) s)) (normal_ascends (applied (expand x) (target_of x) (meanings_of (expand x) (target_of x) (blocks_of source s) (scene_under c source s)) s) (items_ascend (matches (expand x) (target_of x)) 0 (meanings_of (expand x) (target_of x) (blocks_of source s) (scene_under c source s)) s))
      ∙ ap (option_map won)
      (ap (chosen (known (values_in c os))) (plain_normal (applied (expand x) (target_of x) (meanings_of (expand x) (target_of x) (blocks_of source s) (scene_under c source s)) s))
      ∙ sym (outer_flat (known (values_in c os)) (expand x) (target_of x) (is_head_of c) source (body_layers source s) s 0 0 s (blocks_of source s) (scene_under c source s) tally
      (scene_fits c source (body_layers source s) 0 s (blocks_of source s) tally) (together c source (blocks_of source s)))
      ∙ ap (chosen (known (values_in c os))) (quiet_flat (matches (expand x) (target_of x)) (is_head_of c) (unrepeated (occurrences source s)) (normal_all (applied_in (blocks_of source s) (scene_under c source s)))
      (quiet_normal c source (applied_in (blocks_of source s) (scene_under c source s)) (quiet c source (blocks_of source s))))
      ∙ sym (outer_all (known (values_in c os)) (matches (expand x) (target_of x)) (is_head_of c) (body_layers source s) (outer_layer source s) 0 s)
      ∙ sym (greatest_is x c os None (occurrences source s) tt inside))
      ∙ won_outcome x c os (winning x c (occurrences source s))
    where
      tally : Tally source (body_layers source s) 0 s (blocks_of source s)
      tally = tallies source s reads

  pub others_differ : OtherWinnersDiffer
  others_differ source s other t reads reads' x c differ same =
      true≢false (sym (agreed x c (occurrences source s ++ occurrences other t) (winning x c (occurrences source s)) (winning x c (occurrences other t))
      (taken_paired x c (occurrences source s ++ occurrences other t) None (occurrences source s) tt) (taken_paired x c (occurrences source s ++ occurrences other t) None (occurrences other t) tt)
      (sym (told_wins source s reads x c (occurrences source s ++ occurrences other t) (λ o among. Contains-append_left (occurrences source s) (occurrences other t) o among))
      ∙ same
      ∙ told_wins other t reads' x c (occurrences source s ++ occurrences other t) (λ o among. Contains-append_right (occurrences source s) (occurrences other t) o among))) ∙ differ)
