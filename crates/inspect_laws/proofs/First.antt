-- The winner in a scene is the first entry that competes there.
use Rattle.std.proofs.Common.{◌≡◌, ◌⊎◌, inl, inr, ◌<◌, ℕ, zero, suc, ◌+◌, Bool, true, false, cond, List, [], ◌∷◌, ◌++◌, map, length, get_or, Option, Some, None, Ok, option_map, refl, sym, ap, subst, ◌∙◌, append-nil, arith, add-one}
use Rattle.std.specs.Prelude.{◌&&◌, ◌||◌, IsTrue, IsPermutation, codes, find}
use Rattle.std.specs.List.{All, AllByRecursion, Contains, filter, list_any}
use Rattle.std.proofs.lemmas.Bool.{and_from, and_parts, cases_order, false≢true, false_from_ne_true}
use Rattle.std.proofs.lemmas.Bool.Decides.{nat_tests}
use Rattle.std.proofs.lemmas.List.Elements.{All-append, All-from_get_or, All-from_recursion, All-get_or, All-nil, Contains-append_left, Contains-get_or}
use Rattle.std.proofs.lemmas.List.Sorted.{Contains-permutation, IsPermutation-sym, IsPermutation-trans}
use Rattle.cascade_laws.specs.Meaning.Meanings.{SheetMeansItsWinner, winner_of, without_place}
use Rattle.cascade_laws.specs.Winning.{GreatestIsWinner, IsGreatest, NoWinnerIsNoneUnderstood}
use Rattle.css_model.specs.declared.sheet.Item.{Item}
use Rattle.css_model.specs.declared.sheet.Item.TheVariants.{KeptBlock}
use Rattle.css_model.specs.Cascade.Winner.{AppliedDeclaration, Declared, Understood, Winner, applied_by_kept, exceeds, is_understood, outcome, winner}
use Rattle.css_model.specs.Cascade.Winner as cascade
use Rattle.css_model.specs.Documents.Document.{Document, Target}
use Rattle.css_model.specs.Documents.Matching.{matches}
use Rattle.css_model.specs.Documents.SelectorParts.{SelectorParts}
use Rattle.css_model.specs.Lists.{same_text}
use Rattle.css_model.specs.Sheets.Sheet.{sheet_of}
use Rattle.list_facts.proofs.Members.{Contains-cons_cases, Contains-filtered, Contains-here, Contains-nil, Contains-there}
use Rattle.media_groups.specs.declared.media.Media.{Media}
use Rattle.media_groups.specs.Opened.{opened_of}
use Rattle.opened_laws.specs.Media.Scenes.{kept_blocks}
use Rattle.inspect_laws.specs.Entries.{Entry, entries_by}
use Rattle.inspect_laws.specs.Groups.{is_all}
use Rattle.inspect_laws.specs.Laws.{FirstWins, competes, outcome_of, stands, values_in_all, winner_where}
use Rattle.inspect_laws.specs.Order.{AreOrdered, numbers_of, outranks, rank}
use Rattle.inspect_laws.proofs.Applying.{applies, declared_of, meanings, standing_in}
use Rattle.inspect_laws.proofs.Ascending.{Ascends, IsBefore}
use Rattle.inspect_laws.proofs.Descending.{descends_from, first_among, none_above, none_passes}
use Rattle.inspect_laws.proofs.Giving.{understood}
use Rattle.inspect_laws.proofs.Walking.{ascends, owns, walked, walks_all}

-- ---- A list of declarations as what the one item of a sheet means

abbrev one : List Item
one = KeptBlock (record { start = 0; «end» = 0 }) ∷ []

placeless : (k : ℕ) (m : List Declared) → map without_place (applied_by_kept 0 k m ++ []) ≡ m
placeless k [] = refl
placeless k (d ∷ m) = ap (λ (ds : List Declared). d ∷ ds) (placeless (suc k) m)

one_means : SheetMeansItsWinner → (doc : Document) (target : Target) (us : List Understood) (m : List Declared) → winner_of us m ≡ winner doc target (m ∷ []) one us
one_means law doc target us m = ap (winner_of us) (sym (placeless 0 m)) ∙ law doc target one us (m ∷ [])

-- ---- Its members

-- an entry as the member of this number
abbrev put : ℕ → Entry → AppliedDeclaration
put k e = record { decl = e.decl; specificity = e.specificity; place = record { item = 0; position = k } }

length_kept : (k : ℕ) (m : List Declared) → length (applied_by_kept 0 k m) ≡ length m
length_kept k [] = refl
length_kept k (d ∷ m) = ap suc (length_kept (suc k) m)

kept_at : (k : ℕ) (es : List Entry) (j n : ℕ) (d : AppliedDeclaration) (e : Entry) → k + j ≡ n → j < length es → get_or (applied_by_kept 0 k (map declared_of es)) j d ≡ put n (get_or es j e)
kept_at k [] j n d e is within = absurd (omega arith)
kept_at k (x ∷ es) zero n d e is within = ap (λ (m : ℕ). put m x) (let same : k ≡ n = omega (arith, is) in same)
kept_at k (x ∷ es) (suc j) n d e is within = kept_at (suc k) es j n d e (omega (arith, is)) (omega (arith, within))

length_map : (es : List Entry) → length (map declared_of es) ≡ length es
length_map [] = refl
length_map (e ∷ es) = ap suc (length_map es)

-- a member
is_member : (es : List Entry) (e : Entry) (at : Contains es e) → Contains (applied_by_kept 0 0 (map declared_of es) ++ []) (put at.0 e)
is_member es e at =
    let within : at.0 < length (applied_by_kept 0 0 (map declared_of es)) = (let n = length_kept 0 (map declared_of es) in let m = length_map es in let w = at.1 in omega (arith, n, m, w)) in
    let same : get_or (applied_by_kept 0 0 (map declared_of es)) at.0 (put at.0 e) ≡ put at.0 e = kept_at 0 es at.0 at.0 (put at.0 e) e (omega arith) at.1 ∙ ap (put at.0) at.2 in
    Contains-append_left (applied_by_kept 0 0 (map declared_of es)) [] (put at.0 e) (at.0, within, same)

-- what holds of each entry holds of each member
all_members : (P : AppliedDeclaration → Type 0) (es : List Entry) (d : Entry) → ((j : ℕ) → j < length es → P (put j (get_or es j d))) → All P (applied_by_kept 0 0 (map declared_of es) ++ [])
all_members P es d each =
    All-append P (applied_by_kept 0 0 (map declared_of es)) []
    (All-from_get_or P (applied_by_kept 0 0 (map declared_of es)) (put 0 d) (λ j within.
    let inside : j < length es = (let n = length_kept 0 (map declared_of es) in let m = length_map es in omega (arith, n, m, within)) in
    subst P (sym (kept_at 0 es j j (put 0 d) d (omega arith) inside)) (each j inside)))
    (All-nil P)

-- ---- The order of members

ascends_at : (es : List Entry) → Ascends es → (i j : ℕ) (d : Entry) → i < j → j < length es → IsBefore (get_or es i d) (get_or es j d)
ascends_at [] up i j d before within = absurd (omega arith)
ascends_at (e ∷ es) up i zero d before within = absurd (omega arith)
ascends_at (e ∷ es) up zero (suc j) d before within =
    All-get_or (IsBefore e) es j d (omega (arith, within)) (All-from_recursion (IsBefore e) es up.0)
ascends_at (e ∷ es) up (suc i) (suc j) d before within = ascends_at es up.1 i j d (omega (arith, before)) (omega (arith, within))

more : (x y : ℕ) (xs ys us vs : List ℕ) → (exceeds xs ys ≡ true → exceeds us vs ≡ true) → exceeds (x ∷ xs) (y ∷ ys) ≡ true → exceeds (x ∷ us) (y ∷ vs) ≡ true
more x y xs ys us vs rest h = grind (arith, nat_tests, rest)

later_number : (j i : ℕ) → exceeds (0 ∷ j ∷ []) (0 ∷ i ∷ []) ≡ true → i < j
later_number j i h = grind (arith, nat_tests)

-- the numbers of an entry from its importance on, and before its spot
abbrev importance : Entry → ℕ
importance e = cond e.decl.important 1 0

abbrev counts : Entry → List ℕ → List ℕ
counts e place = e.specificity.a ∷ e.specificity.b ∷ e.specificity.c ∷ place

abbrev counts_b : Entry → List ℕ → List ℕ
counts_b e place = e.specificity.b ∷ e.specificity.c ∷ place

abbrev counts_c : Entry → List ℕ → List ℕ
counts_c e place = e.specificity.c ∷ place

-- where the places decide alike
by_places : (f e : Entry) (xs ys us vs : List ℕ) → (exceeds xs ys ≡ true → exceeds us vs ≡ true) →
    exceeds (importance f ∷ counts f xs) (importance e ∷ counts e ys) ≡ true → exceeds (importance f ∷ counts f us) (importance e ∷ counts e vs) ≡ true
by_places f e xs ys us vs rest =
    more (importance f) (importance e) (counts f xs) (counts e ys) (counts f us) (counts e vs)
    (more f.specificity.a e.specificity.a (counts_b f xs) (counts_b e ys) (counts_b f us) (counts_b e vs)
    (more f.specificity.b e.specificity.b (counts_c f xs) (counts_c e ys) (counts_c f us) (counts_c e vs)
    (more f.specificity.c e.specificity.c xs ys us vs rest)))

-- a member that outranks another one is a greater entry
greater_entry : (f e : Entry) (j i : ℕ) → (i < j → IsBefore e f) → cascade.outranks (put j f) (put i e) ≡ true → outranks f e ≡ true
greater_entry f e j i before over = by_places f e (0 ∷ j ∷ []) (0 ∷ i ∷ []) (numbers_of f.spot) (numbers_of e.spot) (λ h. before (later_number j i h)) over

-- ---- The entries that apply in a scene

filter_all : (p : Entry → Bool) (P : Entry → Type 0) (es : List Entry) → AllByRecursion P es → AllByRecursion P (filter p es)
filter_all p P [] all = tt
filter_all p P (e ∷ es) all = which (p e) (filter_all p P es all.1)
  where
    which : (b : Bool) → AllByRecursion P (filter p es) → AllByRecursion P (cond b (e ∷ filter p es) (filter p es))
    which true rest = (all.0, rest)
    which false rest = rest

filter_ascends : (p : Entry → Bool) (es : List Entry) → Ascends es → Ascends (filter p es)
filter_ascends p [] up = tt
filter_ascends p (e ∷ es) up = which (p e) (filter_ascends p es up.1)
  where
    which : (b : Bool) → Ascends (filter p es) → Ascends (cond b (e ∷ filter p es) (filter p es))
    which true rest = (filter_all p (IsBefore e) es up.0, rest)
    which false rest = rest

-- one of them is one of all, and passes
filtered_parts : (p : Entry → Bool) (es : List Entry) (e : Entry) → Contains (filter p es) e → Contains es e × (p e ≡ true)
filtered_parts p [] e among = absurd (Contains-nil e among)
filtered_parts p (x ∷ es) e among = which (p x) refl among (λ later. filtered_parts p es e later)
  where
    which : (b : Bool) → p x ≡ b → Contains (cond b (x ∷ filter p es) (filter p es)) e → (Contains (filter p es) e → Contains es e × (p e ≡ true)) → Contains (x ∷ es) e × (p e ≡ true)
    which false h among later = let w = later among in (Contains-there x es e w.0, w.1)
    which true h among later = first (Contains-cons_cases x (filter p es) e among)
      where
        first : (x ≡ e) ⊎ Contains (filter p es) e → Contains (x ∷ es) e × (p e ≡ true)
        first (inl same) = (subst (Contains (x ∷ es)) same (Contains-here x es), subst (λ (y : Entry). p y ≡ true) same h)
        first (inr there) = let w = later there in (Contains-there x es e w.0, w.1)

-- ---- The winner

-- the laws of the cascade that are used
pub record CascadeLaws : Type 0 where
  pub means : SheetMeansItsWinner
  pub is_winner : GreatestIsWinner
  pub is_none : NoWinnerIsNoneUnderstood

module _ (laws : CascadeLaws) (doc : Document) (target : Target) (source : List ℕ) (items : List Item) (sorted : List Entry) (name : List ℕ) (holds : List ℕ → Bool) (order : AreOrdered (entries_by (matches doc target) source items) sorted) where
  abbrev matched : SelectorParts → Bool
  matched = matches doc target

  abbrev everything : List Entry
  everything = entries_by matched source items

  -- all entries item by item, and those that apply
  abbrev in_walk : List Entry
  in_walk = walked matched source items 0 items

  abbrev standing : List Entry
  standing = standing_in doc target source holds items in_walk

  abbrev us : List Understood
  us = values_in_all source items name ++ values_in_all source items (codes "all")

  abbrev rival : Entry → Bool
  rival = competes holds name

  abbrev members : List AppliedDeclaration
  members = applied_by_kept 0 0 (map declared_of standing) ++ []

  -- from one list to another one
  walk_sorted : (e : Entry) → Contains in_walk e → Contains sorted e
  walk_sorted e among =
      Contains-permutation everything sorted e order.same
      (Contains-permutation in_walk everything e (IsPermutation-sym everything in_walk (walks_all matched source items)) among)

  sorted_walk : (e : Entry) → Contains sorted e → Contains in_walk e
  sorted_walk e among =
      Contains-permutation everything in_walk e (walks_all matched source items) (Contains-permutation sorted everything e (IsPermutation-sym everything sorted order.same) among)

  sorted_all : (e : Entry) → Contains sorted e → Contains everything e
  sorted_all e among = Contains-permutation sorted everything e (IsPermutation-sym everything sorted order.same) among

  -- one that applies is understood exactly where it competes
  competing : (k : ℕ) (e : Entry) → Contains standing e → is_understood us (put k e) ≡ true → rival e ≡ true
  competing k e among known =
      let parts = filtered_parts (λ x. stands holds x.head) in_walk e among in
      and_from (same_text e.decl.name name || is_all e) (stands holds e.head) (sym (understood matched source items e (sorted_all e (walk_sorted e parts.0)) name) ∙ known) parts.1

  known : (k : ℕ) (e : Entry) → Contains sorted e → rival e ≡ true → is_understood us (put k e) ≡ true
  known k e among competes = understood matched source items e (sorted_all e among) name ∙ (and_parts (same_text e.decl.name name || is_all e) (stands holds e.head) competes).0

  standing_sorted : (e : Entry) → Contains standing e → Contains sorted e
  standing_sorted e among = walk_sorted e (filtered_parts (λ x. stands holds x.head) in_walk e among).0

  up : Ascends standing
  up = filter_ascends (λ x. stands holds x.head) in_walk (ascends matched source items 0 items).0

  -- the first one that competes is the greatest member
  greatest : (e : Entry) → find rival sorted ≡ Some e → (at : Contains standing e) → IsGreatest us members (put at.0 e)
  greatest e is at = record {
    applied = is_member standing e at;
    understood = known at.0 e (standing_sorted e at) (first_among rival sorted e is).1;
    greatest = all_members (λ f. IsTrue (is_understood us f) → cascade.outranks f (put at.0 e) ≡ false) standing e each;
  }
    where
      each : (j : ℕ) → j < length standing → IsTrue (is_understood us (put j (get_or standing j e))) → cascade.outranks (put j (get_or standing j e)) (put at.0 e) ≡ false
      each j within seen =
          let f : Entry = get_or standing j e in
          let there : Contains standing f = Contains-get_or standing j e within in
          false_from_ne_true (cascade.outranks (put j f) (put at.0 e)) (λ over.
          none_above rival sorted e (descends_from sorted order.descending) is f (standing_sorted f there) (competing j f there seen)
          (greater_entry f e j at.0 (λ before. subst (λ (x : Entry). IsBefore x f) at.2 (ascends_at standing up at.0 j e before within)) over))

  in_standing : (e : Entry) → find rival sorted ≡ Some e → Contains standing e
  in_standing e is =
      let w = first_among rival sorted e is in
      Contains-filtered (λ x. stands holds x.head) in_walk e (sorted_walk e w.0) (and_parts (same_text e.decl.name name || is_all e) (stands holds e.head) w.1).1

  -- where none competes, none is understood
  none : find rival sorted ≡ None → All (λ f. is_understood us f ≡ false) members
  none is = which standing refl
    where
      -- with an entry at hand
      some : (d : Entry) → All (λ f. is_understood us f ≡ false) members
      some d = all_members (λ f. is_understood us f ≡ false) standing d (λ j within.
          let f : Entry = get_or standing j d in
          let there : Contains standing f = Contains-get_or standing j d within in
          false_from_ne_true (is_understood us (put j f)) (λ seen. false≢true (sym (none_passes rival sorted is f (standing_sorted f there)) ∙ competing j f there seen)))

      which : (es : List Entry) → standing ≡ es → All (λ f. is_understood us f ≡ false) members
      which [] e = subst (λ (es : List Entry). All (λ f. is_understood us f ≡ false) (applied_by_kept 0 0 (map declared_of es) ++ [])) (sym e) (All-nil (λ f. is_understood us f ≡ false))
      which (x ∷ es) e = some x

  wins : (o : Option Entry) → find rival sorted ≡ o → winner doc target (map declared_of standing ∷ []) one us ≡ option_map outcome_of o
  wins (Some e) is = let at = in_standing e is in laws.is_winner doc target (map declared_of standing ∷ []) one us (put at.0 e) (greatest e is at)
  wins None is = (laws.is_none doc target (map declared_of standing ∷ []) one us).1 (none is)

  pub first_wins : kept_blocks (opened_of items source) items ≡ owns source 0 items → winner_where holds doc target source items name ≡ option_map outcome_of (find rival sorted)
  first_wins blocks =
      ap (λ (os : List (Option Media)). winner doc target (meanings doc target source holds items os) items us) blocks
      ∙ sym (laws.means doc target items us (meanings doc target source holds items (owns source 0 items)))
      ∙ ap (winner_of us) (applies doc target source holds items 0 items)
      ∙ one_means laws.means doc target us (map declared_of standing)
      ∙ wins (find rival sorted) refl
