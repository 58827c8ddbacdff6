-- The lines of all groups.
use Rattle.std.proofs.Common.{◌≡◌, ◌⊎◌, inl, inr, ◌<◌, ◌+◌, ℕ, Bool, true, false, not, cond, List, [], ◌∷◌, ◌++◌, map, length, get_or, take, is_some, refl, sym, ap, ap₂, subst, ◌∙◌}
use Rattle.std.specs.Prelude.{IsTrue}
use Rattle.std.specs.List.{All, AllPairs, Contains, filter, flat_map, list_all}
use Rattle.std.proofs.lemmas.List.{take_more}
use Rattle.std.proofs.lemmas.List.Elements.{All-contains_itself, All-weaker}
use Rattle.std.proofs.lemmas.List.Sorted.{Contains-permutation, IsPermutation-sym}
use Rattle.list_facts.proofs.Members.{Contains-cons_cases, Contains-filtered, Contains-here, Contains-nil, Contains-there}
use Rattle.css_model.specs.declared.example.Example.{Example}
use Rattle.css_model.specs.declared.sheet.Item.{Item}
use Rattle.inspect_laws.specs.Entries.{Entry, entries_of}
use Rattle.inspect_laws.specs.Groups.{AreFamilies, family_name, is_all, is_in_group, leading}
use Rattle.inspect_laws.specs.Order.{AreOrdered, outranks}
use Rattle.inspect_laws.specs.Words.{word}
use Rattle.inspect_laws.proofs.ForCallers.{descends_from}
use Rattle.inspect_text.specs.Claims.{is_beaten}
use Rattle.inspect_text.specs.InspectTexts.{AreGroups, TellsEntries, entry_line, kept_count, kept_line, line_among, lines_in}
use Rattle.inspect_text.proofs.Beating.{beaten_is_lost, lost_among}

-- ---- The line of an entry, by those before it

pub line_is : (source : List ℕ) (sorted : List Entry) → AllPairs (λ e f. IsTrue (outranks e f)) sorted → (i : ℕ) (e : Entry) (lost : Bool) (line : List ℕ) → i < length sorted → e ≡ get_or sorted i e →
    lost ≡ is_beaten (take i sorted) e → line ≡ entry_line source (word lost (is_some e.head)) e → line_among source sorted e ≡ line
line_is source sorted down i e lost line within is beaten told =
    sym (told ∙ ap (λ (b : Bool). entry_line source (word b (is_some e.head)) e) (beaten ∙ beaten_is_lost sorted (descends_from sorted down) i e within is))

pub front_next : (sorted : List Entry) (i : ℕ) (e : Entry) → i < length sorted → e ≡ get_or sorted i e → take i sorted ++ e ∷ [] ≡ take (i + 1) sorted
front_next sorted i e within is = ap (λ (x : Entry). take i sorted ++ x ∷ []) is ∙ sym (take_more sorted i e within)

-- ---- Each family is there

pub mapped : (es : List Entry) (e : Entry) → Contains es e → Contains (map family_name es) (family_name e)
mapped [] e among = absurd (Contains-nil e among)
mapped (x ∷ es) e among = which (Contains-cons_cases x es e among) (λ there. mapped es e there)
  where
    which : (x ≡ e) ⊎ Contains es e → (Contains es e → Contains (map family_name es) (family_name e)) → Contains (map family_name (x ∷ es)) (family_name e)
    which (inl same) later = subst (λ (y : Entry). Contains (map family_name (x ∷ es)) (family_name y)) same (Contains-here (family_name x) (map family_name es))
    which (inr there) later = Contains-there (family_name x) (map family_name es) (family_name e) (later there)

leads : (all : List Entry) (e : Entry) → Contains all e → is_all e ≡ false → Contains (leading all) e
leads all e among other = which (list_all is_all all) refl
  where
    which : (b : Bool) → list_all is_all all ≡ b → Contains (cond b all (filter (λ x. not (is_all x)) all)) e
    which true h = among
    which false h = Contains-filtered (λ x. not (is_all x)) all e among (ap not other)

pub each_there : (all sorted : List Entry) (families : List (List ℕ)) → AreOrdered all sorted → AreFamilies all families → All (λ e. is_all e ≡ false → Contains families (family_name e)) sorted
each_there all sorted families order groups =
    All-weaker (Contains sorted) (λ e. is_all e ≡ false → Contains families (family_name e))
    (λ e among other. (groups.exactly (family_name e)).1
    (mapped (leading all) e (leads all e (Contains-permutation sorted all e (IsPermutation-sym all sorted order.same) among) other)))
    sorted (All-contains_itself sorted)

-- ---- All lines

same_lines : (source : List ℕ) (all sorted : List Entry) → AreOrdered all sorted → (es : List Entry) → flat_map (line_among source sorted) es ≡ flat_map (line_among source all) es
same_lines source all sorted order [] = refl
same_lines source all sorted order (e ∷ es) =
    ap₂ (λ (xs ys : List ℕ). xs ++ ys) (ap (λ (b : Bool). entry_line source (word b (is_some e.head)) e) (lost_among all sorted order e)) (same_lines source all sorted order es)

pub all_lines : (source : List ℕ) (all sorted : List Entry) → AreOrdered all sorted → (families texts : List (List ℕ)) → texts ≡ map (lines_in source sorted sorted) families →
    flat_map (λ text. 10 ∷ text) texts ≡ flat_map (λ family. 10 ∷ lines_in source all sorted family) families
all_lines source all sorted order families texts are = ap (flat_map (λ text. 10 ∷ text)) are ∙ each families
  where
    each : (xs : List (List ℕ)) → flat_map (λ text. 10 ∷ text) (map (lines_in source sorted sorted) xs) ≡ flat_map (λ family. 10 ∷ lines_in source all sorted family) xs
    each [] = refl
    each (x ∷ xs) = ap₂ (λ (us vs : List ℕ). 10 ∷ us ++ vs) (same_lines source all sorted order (filter (is_in_group x) sorted)) (each xs)

pub tells : (x : Example) (source : List ℕ) (items : List Item) (texts : List (List ℕ)) (out : List ℕ) → AreGroups source (entries_of x source items) texts →
    out ≡ kept_line (kept_count source items) ++ flat_map (λ text. 10 ∷ text) texts → TellsEntries x source items out
tells x source items texts out told is = record {
  sorted = told.sorted;
  families = told.families;
  in_order = told.in_order;
  groups = told.groups;
  text_is = is ∙ ap (λ (xs : List ℕ). kept_line (kept_count source items) ++ xs) (all_lines source (entries_of x source items) told.sorted told.in_order told.families texts told.texts_are);
}
