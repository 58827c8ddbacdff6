-- Two sheets between which nothing is found have the same winners over normal values.
use Rattle.std.proofs.Common.{◌≡◌, ◌⊎◌, inl, inr, ℕ, zero, suc, ◌+◌, ◌<◌, ◌≤◌, Bool, List, [], ◌∷◌, ◌++◌, map, Some, None, Ok, option_map, refl, sym, ap, ap₂, ◌∙◌, subst, arith}
use Rattle.std.specs.Prelude.{slice_get}
use Rattle.std.specs.List.{AllByRecursion, Contains, enumerate_from, filter, flat_map}
use Rattle.cascade_laws.proofs.ForCallers.{some-same}
use Rattle.cascade_laws.specs.Meaning.Meanings.{without_place}
use Rattle.css_model.specs.declared.sheet.Item.{Item}
use Rattle.css_model.specs.Cascade.Winner.{AppliedDeclaration, Declared, Understood, applied}
use Rattle.css_model.specs.Documents.Document.{Document, IsLegal, Target}
use Rattle.css_model.specs.Documents.Matching.{matches}
use Rattle.css_model.specs.Sheets.Sheet.{sheet_of}
use Rattle.list_facts.proofs.Members.{Contains-here, Contains-there, Contains-nil, Contains-cons_cases}
use Rattle.opened_laws.specs.Media.Scenes.{KeptScene, meanings_of}
use Rattle.order_laws.specs.Keeping.{AreRelated}
use Rattle.overlap.specs.PairsParts.{PairsParts}
use Rattle.overlap.specs.Remembered.{IsTrueList}
use Rattle.sheet_members.specs.Compared.{compared}
use Rattle.sheet_members.specs.Labels.{Label}
use Rattle.sheet_members.specs.Layers.{body_layers}
use Rattle.sheet_members.specs.Members.{Member, lasts, members}
use Rattle.sheet_members.specs.Occurrences.{Occurrence, occurrences}
use Rattle.media_groups.specs.Opened.{opened_of}
use Rattle.turned_members.specs.Turned.{turned}
use Rattle.diff_laws.specs.Same.{SameMembersWinAlike}
use Rattle.diff_laws.specs.Scenes.{IsSceneWhere, applied_in, blocks_of, normal_applied}
use Rattle.diff_laws.proofs.Applied.{normal_all, plain, unrepeated}
use Rattle.diff_laws.proofs.Best.{best}
use Rattle.diff_laws.proofs.Choice.{best_of, filter_flat, known, wins_best, won}
use Rattle.diff_laws.proofs.Best.{best_flat}
use Rattle.diff_laws.proofs.Comparing.{AreTheSame, HasTwin, are_the_same, has_twin}
use Rattle.diff_laws.proofs.Distinct.{numbered_distinct, one_place}
use Rattle.diff_laws.proofs.Flat.{chosen, flat_of}
use Rattle.diff_laws.proofs.Lasts.{lasts_flat, lasts_of_unrepeated, unrepeated_none}
use Rattle.diff_laws.proofs.Listed as listed
use Rattle.diff_laws.proofs.Numbers.{member_gives, members_flat}
use Rattle.diff_laws.proofs.Owning.{OwnAll, PartOwns, lasts_own, members_own, outer_own}
use Rattle.diff_laws.proofs.Parts.{labelled}
use Rattle.diff_laws.proofs.Scene.{IsSceneFor, Tally, outer_flat, scene_for}
use Rattle.diff_laws.proofs.Settled.{AreMatched, Laws, less_or_same, settled_couple, slice_has}
use Rattle.diff_laws.proofs.Telling.{none_told}
use Rattle.diff_laws.proofs.TwoWalks.{AreSettled, Ascends, HasAlike, one_choice}

-- ---- Members with their places

abbrev Placed : Type 0
Placed = ℕ × Member

abbrev NotPast : Placed → Placed → Type 0
NotPast p q = p.0 ≤ q.0

itself : (p : Placed) → NotPast p p
itself p = omega arith

abbrev placed : List Member → List Placed
placed ms = enumerate_from 0 ms

not_past : (n k : ℕ) (x : Member) (ms : List Member) → n ≤ k → AllByRecursion (NotPast (n, x)) (enumerate_from k ms)
not_past n k x [] h = tt
not_past n k x (m ∷ ms) h = (h, not_past n (k + 1) x ms (omega (arith, h)))

placed_ascend : (n : ℕ) (ms : List Member) → Ascends Placed NotPast itself (enumerate_from n ms)
placed_ascend n [] = tt
placed_ascend n (m ∷ ms) = (not_past n (n + 1) m ms (omega arith), placed_ascend (n + 1) ms)

place_of : (n : ℕ) (ms : List Member) (p : Placed) → Contains (enumerate_from n ms) p → (j : ℕ) × (p.0 ≡ n + j) × (slice_get ms j ≡ Some p.1)
place_of n [] p among = absurd (Contains-nil p among)
place_of n (m ∷ ms) p among = which (Contains-cons_cases (n, m) (enumerate_from (n + 1) ms) p among) (λ g. place_of (n + 1) ms p g)
  where
    which : ((n, m) ≡ p) ⊎ Contains (enumerate_from (n + 1) ms) p → (Contains (enumerate_from (n + 1) ms) p → (j : ℕ) × (p.0 ≡ (n + 1) + j) × (slice_get ms j ≡ Some p.1)) → (j : ℕ) × (p.0 ≡ n + j) × (slice_get (m ∷ ms) j ≡ Some p.1)
    which (inl same) rest = (0, sym (ap (λ (q : Placed). q.0) same) ∙ (let e : n ≡ n + 0 = omega arith in e), ap (λ (q : Placed). Some q.1) same)
    which (inr g) rest = let w = rest g in (suc w.0, (let e = w.1 in omega (arith, e)), w.2)

has_place : (n : ℕ) (ms : List Member) (j k : ℕ) (m : Member) → n + j ≡ k → slice_get ms j ≡ Some m → Contains (enumerate_from n ms) (k, m)
has_place n [] j k m is at = absurd (let e : None ≡ Some m = at in cc)
has_place n (x ∷ ms) zero k m is at =
    subst (λ (q : Placed). Contains (enumerate_from n (x ∷ ms)) q) (ap₂ (λ (i : ℕ) (y : Member). (i, y)) (let e : n ≡ k = omega (arith, is) in e) (some-same at)) (Contains-here (n, x) (enumerate_from (n + 1) ms))
has_place n (x ∷ ms) (suc j) k m is at = Contains-there (n, x) (enumerate_from (n + 1) ms) (k, m) (has_place (n + 1) ms j k m (omega (arith, is)) at)

flat_placed : (f : Member → List Declared) (n : ℕ) (ms : List Member) → flat_map f ms ≡ flat_map (λ (p : Placed). f p.1) (enumerate_from n ms)
flat_placed f n [] = refl
flat_placed f n (m ∷ ms) = ap (λ (ds : List Declared). f m ++ ds) (flat_placed f (n + 1) ms)

-- ---- Two lists of members

module _ (laws : Laws) (pairs : PairsParts) (true_list : ∥ IsTrueList pairs ∥₁) (doc : Document) (target : Target) (legal : IsLegal doc) (us : List Understood) (related : AreRelated us)
    (holds : List ℕ → Bool) (means : Label → List Declared) (ms ns : List Member) (known_of : AreMatched pairs ms ns) (own : (m : Member) → Contains ms m → PartOwns m.occurrence.part (means m.label)) where
  abbrev label_gives : Label → List Declared
  label_gives l = member_gives (matches doc target) holds means l

  abbrev gives : Placed → List Declared
  gives p = label_gives p.1.label

  settled : AreSettled Placed NotPast itself gives (placed ms) (placed ns) us
  settled o o' x x' among among' is is' under under' last last' =
      let w = place_of 0 ms o among in
      let w' = place_of 0 ns o' among' in
      let m_in : Contains ms o.1 = slice_has ms w.0 o.1 w.2 in
      let n_in : Contains ns o'.1 = slice_has ns w'.0 o'.1 w'.2 in
      let b : HasTwin ms o'.1 = has_twin ms o'.1 (known_of.from o'.1 n_in) in
      let twin_in : Contains ms b.common.yours = slice_has ms b.common.there b.common.yours b.there in
      let c : HasTwin ns b.common.yours = has_twin ns b.common.yours (known_of.to b.common.yours twin_in) in
      let d : HasTwin ns o.1 = has_twin ns o.1 (known_of.to o.1 m_in) in
      let before : b.common.there ≤ o.0 = last (b.common.there, b.common.yours) (has_place 0 ms b.common.there b.common.there b.common.yours (omega arith) b.there) (inr (ap label_gives b.same)) in
      let after : d.common.there ≤ o'.0 = last' (d.common.there, d.common.yours) (has_place 0 ns d.common.there d.common.there d.common.yours (omega arith) d.there) (inl (ap label_gives d.same)) in
      let number : o.0 ≡ w.0 = (let e = w.1 in omega (arith, e)) in
      let number' : o'.0 ≡ w'.0 = (let e = w'.1 in omega (arith, e)) in
      let there : c.common.there ≡ w'.0 = one_place ns known_of.distinct c.common.there w'.0 c.common.yours o'.1 c.there w'.2 (c.same ∙ b.same) in
      which w.0 w'.0 w.2 w'.2 m_in n_in b twin_in c d there
      (less_or_same b.common.there w.0 (subst (λ (k : ℕ). b.common.there ≤ k) number before)) (less_or_same d.common.there w'.0 (subst (λ (k : ℕ). d.common.there ≤ k) number' after))
    where
      one_label : o.1.label ≡ o'.1.label → x ≡ x'
      one_label same = some-same (sym is ∙ ap (λ (l : Label). best (filter (known us) (label_gives l))) same ∙ is')

      which : (i j : ℕ) → slice_get ms i ≡ Some o.1 → slice_get ns j ≡ Some o'.1 → Contains ms o.1 → Contains ns o'.1 → (b : HasTwin ms o'.1) → Contains ms b.common.yours → (c : HasTwin ns b.common.yours) → (d : HasTwin ns o.1) → c.common.there ≡ j →
          (b.common.there < i) ⊎ (b.common.there ≡ i) → (d.common.there < j) ⊎ (d.common.there ≡ j) → x ≡ x'
      which i j at at' m_in n_in b twin_in c d there (inr same) side =
          one_label (sym (ap (λ (y : Member). y.label) (some-same (sym b.there ∙ ap (slice_get ms) same ∙ at))) ∙ b.same)
      which i j at at' m_in n_in b twin_in c d there (inl less) (inr same) =
          one_label (sym d.same ∙ ap (λ (y : Member). y.label) (some-same (sym d.there ∙ ap (slice_get ns) same ∙ at')))
      which i j at at' m_in n_in b twin_in c d there (inl less) (inl less') =
          sym (settled_couple laws pairs true_list doc target legal us related holds means ms ns known_of own b.common.yours o.1 x' x twin_in m_in
          (ap (λ (l : Label). best (filter (known us) (label_gives l))) b.same ∙ is') is under' under c d
          (slice_has ns c.common.there c.common.yours c.there) (slice_has ns d.common.there d.common.yours d.there)
          b.common.there i b.there at less (subst (λ (k : ℕ). d.common.there < k) (sym there) less'))

  to : HasAlike Placed NotPast itself gives (placed ms) (placed ns) (placed ms) (placed ns)
  to p among =
      let w = place_of 0 ms p among in
      let t : HasTwin ns p.1 = has_twin ns p.1 (known_of.to p.1 (slice_has ms w.0 p.1 w.2)) in
      ((t.common.there, t.common.yours), has_place 0 ns t.common.there t.common.there t.common.yours (omega arith) t.there, ap label_gives t.same)

  from : HasAlike Placed NotPast itself gives (placed ms) (placed ns) (placed ns) (placed ms)
  from p among =
      let w = place_of 0 ns p among in
      let t : HasTwin ms p.1 = has_twin ms p.1 (known_of.from p.1 (slice_has ns w.0 p.1 w.2)) in
      ((t.common.there, t.common.yours), has_place 0 ms t.common.there t.common.there t.common.yours (omega arith) t.there, ap label_gives t.same)

  pub members_choose : best_of Placed us gives (placed ms) ≡ best_of Placed us gives (placed ns)
  members_choose = one_choice Placed NotPast itself gives (placed ms) (placed ns) us (placed_ascend 0 ms) (placed_ascend 0 ns) to from settled

-- ---- One sheet

pub plain_normal : (es : List AppliedDeclaration) → map without_place (map normal_applied es) ≡ map plain es
plain_normal [] = refl
plain_normal (e ∷ es) = ap (λ (ds : List Declared). plain e ∷ ds) (plain_normal es)

normal_all_past : (e : AppliedDeclaration) (es : List AppliedDeclaration) → AllByRecursion (listed.IsNotPast e) es → AllByRecursion (listed.IsNotPast (normal_applied e)) (map normal_applied es)
normal_all_past e [] all = tt
normal_all_past e (f ∷ es) all = (all.0, normal_all_past e es all.1)

pub normal_ascends : (es : List AppliedDeclaration) → listed.Ascends es → listed.Ascends (map normal_applied es)
normal_ascends [] up = tt
normal_ascends (e ∷ es) up = (normal_all_past e es up.0, normal_ascends es up.1)

module _ (doc : Document) (target : Target) (us : List Understood) (holds : List ℕ → Bool) (means : Label → List Declared) (source : List ℕ) (s : List Item) (scene : List KeptScene)
    (tally : Tally source (body_layers source s) 0 s (blocks_of source s)) (is_scene : IsSceneWhere holds means source s scene) where
  abbrev entries : List AppliedDeclaration
  entries = applied doc target (meanings_of doc target (blocks_of source s) scene) s

  abbrev all : List Occurrence
  all = occurrences source s

  abbrev ps : List (List Declared)
  ps = normal_all (applied_in (blocks_of source s) scene)

  scene_is : IsSceneFor s (blocks_of source s) scene
  scene_is = scene_for (opened_of s source) s scene is_scene.is_scene

  abbrev gives_here : Label → List Declared
  gives_here l = member_gives (matches doc target) holds means l

  pub sheet_chooses : best (filter (known us) (map without_place (map normal_applied entries))) ≡ best_of Placed us (λ (p : Placed). gives_here p.1.label) (placed (members source s))
  sheet_chooses =
      ap (chosen (known us)) (plain_normal entries)
      ∙ sym (outer_flat (known us) doc target holds source (body_layers source s) s 0 0 s (blocks_of source s) scene tally scene_is is_scene.blocks)
      ∙ lasts_flat (matches doc target) holds (known us) (unrepeated all) ps (unrepeated_none all)
      ∙ ap (λ (os : List Occurrence). chosen (known us) (flat_of (matches doc target) holds os ps)) (sym (lasts_of_unrepeated all))
      ∙ ap (λ (qs : List (List Declared)). chosen (known us) (flat_of (matches doc target) holds (lasts all) qs)) is_scene.kept
      ∙ ap (chosen (known us)) (members_flat (matches doc target) holds means [] (lasts all))
      ∙ ap (chosen (known us)) (flat_placed (λ (m : Member). gives_here m.label) 0 (members source s))
      ∙ ap best (filter_flat Placed (known us) (λ (p : Placed). gives_here p.1.label) (placed (members source s)))
      ∙ best_flat Placed (λ (p : Placed). filter (known us) (gives_here p.1.label)) (placed (members source s))

  pub sheet_owns : (m : Member) → Contains (members source s) m → PartOwns m.occurrence.part (means m.label)
  sheet_owns =
      members_own means [] (lasts all)
      (subst (λ (qs : List (List Declared)). OwnAll (lasts all) qs) is_scene.kept
      (subst (λ (os : List Occurrence). OwnAll os ps) (sym (lasts_of_unrepeated all))
      (lasts_own (unrepeated all) ps (unrepeated_none all) (outer_own source (body_layers source s) s 0 s (blocks_of source s) scene tally scene_is))))

-- ---- The law

-- the opened blocks among the kept items of a sheet are those of its layers
abbrev pub AllTally : Type 0
AllTally = (source : List ℕ) (s : List Item) → sheet_of source ≡ Ok s → Tally source (body_layers source s) 0 s (blocks_of source s)

pub win_alike : Laws → AllTally → SameMembersWinAlike
win_alike laws tallies source s other t same doc target us holds means scene scene' legal related is is' =
    wins_best us (map normal_applied (applied doc target (meanings_of doc target (blocks_of source s) scene) s)) (normal_ascends (applied doc target (meanings_of doc target (blocks_of source s) scene) s) (listed.items_ascend (matches doc target) 0 (meanings_of doc target (blocks_of source s) scene) s))
    ∙ ap (option_map won)
    (sheet_chooses doc target us holds means source s scene tally is
    ∙ members_choose laws same.pairs same.true_list doc target legal us related holds means (members source s) (members other t) matched (sheet_owns doc target us holds means source s scene tally is)
    ∙ sym (sheet_chooses doc target us holds means other t scene' tally' is'))
    ∙ sym (wins_best us (map normal_applied (applied doc target (meanings_of doc target (blocks_of other t) scene') t)) (normal_ascends (applied doc target (meanings_of doc target (blocks_of other t) scene') t) (listed.items_ascend (matches doc target) 0 (meanings_of doc target (blocks_of other t) scene') t)))
  where
    tally : Tally source (body_layers source s) 0 s (blocks_of source s)
    tally = tallies source s same.first_read

    tally' : Tally other (body_layers other t) 0 t (blocks_of other t)
    tally' = tallies other t same.second_read

    parts : AreTheSame (members source s) (members other t) (compared source s other t)
    parts = are_the_same (members source s) (members other t) (numbered_distinct [] (lasts (occurrences source s))) (numbered_distinct [] (lasts (occurrences other t))) (compared source s other t) refl
        same.none_missing same.none_extra same.none_changed

    matched : AreMatched same.pairs (members source s) (members other t)
    matched = record {
      distinct = numbered_distinct [] (lasts (occurrences other t));
      to = parts.to;
      from = parts.from;
      first_labelled = labelled [] (lasts (occurrences source s));
      second_labelled = labelled [] (lasts (occurrences other t));
      judged = λ c among. none_told same.pairs.answers same.limit same.some (turned (compared source s other t).commons) same.none_told c (subst (λ cs. Contains (turned cs) c) (sym parts.commons) among);
    }
