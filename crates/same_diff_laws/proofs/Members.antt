-- The members of two sheets in which nothing is found: both have the same ones, and two that weigh and come in another order are apart.
use Rattle.std.proofs.Common.{◌≡◌, ◌⊎◌, inl, inr, ℕ, zero, suc, ◌+◌, ◌<◌, Bool, true, false, not, List, [], ◌∷◌, ◌++◌, map, Option, Some, None, Ok, option_map, refl, sym, ap, ap₂, ◌∙◌, subst, arith}
use Rattle.std.specs.Prelude.{if◌then◌else◌, ◌&&◌, find, is_some, nat_lt, slice_get}
use Rattle.std.specs.List.{Contains, cons_option, count_by, enumerate_from, filter, filter_map}
use Rattle.std.proofs.lemmas.Bool.{and_parts, false≢true, true≢false}
use Rattle.std.proofs.lemmas.Bool.Decides.{nat_tests}
use Rattle.cascade_laws.proofs.ForCallers.{some-same}
use Rattle.css_model.specs.declared.sheet.DeclItem.{DeclItem}
use Rattle.css_model.specs.declared.sheet.Item.{Item}
use Rattle.css_model.specs.declared.sheet.SelItem.{SelItem}
use Rattle.css_model.specs.Cascade.Order.{HasPair, Pair}
use Rattle.css_model.specs.Documents.SelectorParts.{SelectorParts}
use Rattle.css_model.specs.Sheets.KeptItems.{kept_items}
use Rattle.css_model.specs.Sheets.Sheet.{sheet_of}
use Rattle.css_model.specs.Sheets.Spelling.{kept_text}
use Rattle.diff_laws.proofs.ForCallers.{AllTally, Distinct, base_same, number_of_part, numbered_again, numbered_distinct, unmarked}
use Rattle.list_facts.proofs.Elements.{member}
use Rattle.list_facts.proofs.Members.{Contains-here, Contains-there, Contains-nil, Contains-cons_cases, Contains-filter}
use Rattle.media_groups.specs.declared.media.Media.{Media}
use Rattle.media_groups.specs.Opened.{opened_of}
use Rattle.normal_text.specs.Normal.{normal_head}
use Rattle.opened_laws.specs.Media.Scenes.{kept_blocks}
use Rattle.order_laws.proofs.ForCallers.{any_of, map_from}
use Rattle.order_laws.specs.Comparing.{WeighingIsDecided, weigh}
use Rattle.sheet_members.specs.Compared.{Common, Compared, all_marked, changed, common_of, compared_of, has_member, twin_in}
use Rattle.sheet_members.specs.Labels.{Label, label_of, label_with, same_label}
use Rattle.sheet_members.specs.Layers.{body_layer, body_layers, outer_layer}
use Rattle.sheet_members.specs.Members.{Member, lasts, member_of, members, numbered, with_number}
use Rattle.sheet_members.specs.Occurrences.{Kept, Occurrence, Paired, Part, occurrences}
use Rattle.sheet_members.specs.SameLabels.{label_decides}
use Rattle.turned_members.specs.Turned.{Couple, couple, is_turned, turned, turned_with}
use Rattle.turned_members.specs.Weighing.{commons_weigh, normal_pair, pairs_weigh, parts_weigh}
use Rattle.same_diff_laws.proofs.Alike.{all_marks, match_at, opened_at, walked_is}
use Rattle.same_diff_laws.proofs.Couples.{ApartParts, Weighs, apart_moved, couple_apart}
use Rattle.same_diff_laws.proofs.Found.{IsRuleSpot, IsKeptSpot, IsSpot, append_cases, found}
use Rattle.same_diff_laws.proofs.Lasting.{HasLast, HasMember, IsMember, Mark, find_mark, is_paired, kept_member, kept_selector, label_at, last_ascends, last_fresh, last_has, last_in, last_marks, last_occur, last_spots, marks, numbered_is, pair_member, both_pairs, spotted_in}
use Rattle.same_diff_laws.proofs.Levels.{HasSpot, LevelFacts, has_spot, pair_label, pair_of_spot, place_of_spot, spot_label, stands}
use Rattle.same_diff_laws.proofs.Marks.{marks_are}
use Rattle.same_diff_laws.proofs.Sides.{BlockPair, IsInBody, IsThere, Matched, Side, bodies_in, in_body, is_there, kept_once, kept_side, kept_unpaired, opened_in, pair_side, rule_paired, sheet_spots, sheet_spots_ascend}
use Rattle.same_diff_laws.proofs.Spots.{Ascends, Less, NotPast, OneDecl, Spotted, all_occur, blocks, occurs, spots}

-- ---- The members of one sheet

abbrev pub in_spots : List Spotted → List Member
in_spots zs = numbered [] (map member_of (occurs (last_spots zs)))

pub members_are : AllTally → (source : List ℕ) (s : List Item) → sheet_of source ≡ Ok s → members source s ≡ in_spots (sheet_spots source s)
members_are tally source s reads =
    ap (λ (os : List Occurrence). numbered [] (map member_of os)) (ap lasts (sym occur) ∙ sym (last_occur (sheet_spots source s)))
  where
    occur : occurs (sheet_spots source s) ≡ occurrences source s
    occur =
        ap (λ (os : List (Option Media)). occurs (spots (outer_layer source s) 0 0 s (blocks source os))) (sym (walked_is (opened_of s source) s))
        ∙ all_occur source (body_layers source s) (outer_layer source s) 0 0 s (kept_blocks (opened_of s source) s) (tally source s reads)

distinct_in : (zs : List Spotted) → Distinct (in_spots zs)
distinct_in zs = numbered_distinct [] (occurs (last_spots zs))

slot_of : (xs : List Member) (x : Member) → Contains xs x → (k : ℕ) × (slice_get xs k ≡ Some x)
slot_of [] x h = absurd (Contains-nil x h)
slot_of (y ∷ xs) x h = which (Contains-cons_cases y xs x h) (λ g. slot_of xs x g)
  where
    which : (y ≡ x) ⊎ Contains xs x → (Contains xs x → (k : ℕ) × (slice_get xs k ≡ Some x)) → (k : ℕ) × (slice_get (y ∷ xs) k ≡ Some x)
    which (inl e) rest = (0, ap (λ (z : Member). Some z) e)
    which (inr g) rest = let w = rest g in (suc w.0, w.1)

slices_ascend : (zs : List Spotted) → Ascends zs → (k i : ℕ) (z y : Spotted) → slice_get zs k ≡ Some z → slice_get zs i ≡ Some y → k < i → NotPast z y
slices_ascend [] up k i z y at at' before = absurd (let e : None ≡ Some z = at in cc)
slices_ascend (x ∷ zs) up k zero z y at at' before = absurd (omega (arith, before))
slices_ascend (x ∷ zs) up zero (suc i) z y at at' before = subst (λ (w : Spotted). NotPast w y) (some-same at) (member (NotPast x) zs y up.0 (spotted_in zs i y at'))
slices_ascend (x ∷ zs) up (suc k) (suc i) z y at at' before = slices_ascend zs up.1 k i z y at at' (omega (arith, before))

-- a member of some spots has its spot
spot_of : (zs : List Spotted) (k : ℕ) (m : Member) → slice_get (in_spots zs) k ≡ Some m → IsMember [] (last_spots zs) k m
spot_of zs k m at = numbered_is [] (last_spots zs) (last_fresh zs) k m at

-- ---- What one sheet has, the other one has

-- a pair that is not repeated, with a label
record IsPresent (zs : List Spotted) (l : Label) : Type 0 where
  spotted : Spotted
  there : Contains zs spotted
  pair : is_paired spotted ≡ true
  first : spotted.occurrence.repeated ≡ false
  label : label_at spotted ≡ l

-- the body of an opened block, with its pairs, in the block of the other sheet with the same number
record CarriesBody (source : List ℕ) (m : Media) (other : List ℕ) (t : List Item) (j : ℕ) : Type 0 where
  y : Item
  yours : Media
  at : slice_get (kept_items t) j ≡ Some y
  block : opened_at (opened_in other t) j ≡ Some yours
  heads : kept_text source m.head ≡ kept_text other yours.head
  pairs : (p : Pair) → HasPair m.sheet.items p → HasPair yours.sheet.items p

record Carries (source : List ℕ) (s : List Item) (other : List ℕ) (t : List Item) : Type 0 where
  outer : (p : Pair) → HasPair s p → HasPair t p
  inner : (j : ℕ) (m : Media) → opened_at (opened_in source s) j ≡ Some m → CarriesBody source m other t j

label_moved : (z a : Spotted) → z.occurrence ≡ a.occurrence → label_at z ≡ label_at a
label_moved z a e = ap (λ (o : Occurrence). label_at (record { spot = []; occurrence = o })) e

paired_moved : (z a : Spotted) → z.occurrence ≡ a.occurrence → is_paired z ≡ is_paired a
paired_moved z a e = ap (λ (o : Occurrence). is_paired (record { spot = []; occurrence = o })) e

module _ (source : List ℕ) (s : List Item) (other : List ℕ) (t : List Item) (carries : Carries source s other t) where
  present : (z : Spotted) → Contains (sheet_spots source s) z → is_paired z ≡ true → IsPresent (sheet_spots other t) (label_at z)
  present z h pair = which (found (outer_layer source s) 0 0 s (bodies_in source s) z h)
    where
      outer : IsRuleSpot (outer_layer source s) 0 0 s z → IsPresent (sheet_spots other t) (label_at z)
      outer r =
          let p : Pair = pair_of_spot (outer_layer source s) s z r in
          let has : HasPair t p = carries.outer p (place_of_spot (outer_layer source s) s z r, stands (outer_layer source s) s z r) in
          let g : HasSpot (outer_layer other t) t (sheet_spots other t) p has.0 = has_spot (outer_layer other t) t (bodies_in other t) p has.0 has.1 in
          record {
            spotted = g.spotted;
            there = g.there;
            pair = rule_paired (outer_layer other t) t g.spotted g.at;
            first = g.first;
            label = spot_label (outer_layer other t) t g.spotted g.at ∙ ap (pair_label None) g.pair ∙ sym (spot_label (outer_layer source s) s z r);
          }

      inner : (b : IsInBody source s z) → IsRuleSpot (body_layer source b.block) 0 0 b.block.sheet.items b.inner → IsPresent (sheet_spots other t) (label_at z)
      inner b r =
          let p : Pair = pair_of_spot (body_layer source b.block) b.block.sheet.items b.inner r in
          let c : CarriesBody source b.block other t b.index = carries.inner b.index b.block b.block_at in
          let has : HasPair c.yours.sheet.items p = c.pairs p (place_of_spot (body_layer source b.block) b.block.sheet.items b.inner r, stands (body_layer source b.block) b.block.sheet.items b.inner r) in
          let g : HasSpot (body_layer other c.yours) c.yours.sheet.items (spots (body_layer other c.yours) 0 0 c.yours.sheet.items []) p has.0 = has_spot (body_layer other c.yours) c.yours.sheet.items [] p has.0 has.1 in
          let i : IsThere other t b.index g.spotted = is_there other t b.index c.y c.yours g.spotted c.at c.block g.there in
          record {
            spotted = i.spotted;
            there = i.there;
            pair = paired_moved i.spotted g.spotted i.occurrence ∙ rule_paired (body_layer other c.yours) c.yours.sheet.items g.spotted g.at;
            first = ap (λ (o : Occurrence). o.repeated) i.occurrence ∙ g.first;
            label = label_moved i.spotted g.spotted i.occurrence ∙ spot_label (body_layer other c.yours) c.yours.sheet.items g.spotted g.at
                ∙ ap₂ (λ (x : List ℕ) (q : Pair). pair_label (Some (normal_head x)) q) (sym c.heads) g.pair
                ∙ sym (spot_label (body_layer source b.block) b.block.sheet.items b.inner r) ∙ sym (label_moved z b.inner b.occurrence);
          }

      sided : (b : IsInBody source s z) → IsRuleSpot (body_layer source b.block) 0 0 b.block.sheet.items b.inner ⊎ IsKeptSpot (body_layer source b.block) 0 b.block.sheet.items [] b.inner → IsPresent (sheet_spots other t) (label_at z)
      sided b (inl r) = inner b r
      sided b (inr k) = absurd (true≢false (sym pair ∙ paired_moved z b.inner b.occurrence ∙ kept_unpaired (body_layer source b.block) b.block.sheet.items [] b.inner k))

      which : IsSpot (outer_layer source s) 0 0 s (bodies_in source s) z → IsPresent (sheet_spots other t) (label_at z)
      which (inl r) = outer r
      which (inr (inl k)) = absurd (true≢false (sym pair ∙ kept_unpaired (outer_layer source s) s (bodies_in source s) z k))
      which (inr (inr i)) = let b = in_body source s z i in sided b b.kind

  has_same : (ns : List Member) (l l' : Label) → HasMember ns l → l ≡ l' → has_member ns l' ≡ true
  has_same ns l l' h e = any_of (λ (m : Member). same_label m.label l') ns h.member h.there ((label_decides h.member.label l').1 (h.label ∙ e))

  -- each member of the first sheet is one of the second
  all_there : marks (last_spots (sheet_spots source s)) ≡ marks (last_spots (sheet_spots other t)) → (m : Member) → Contains (in_spots (sheet_spots source s)) m → has_member (in_spots (sheet_spots other t)) m.label ≡ true
  all_there same m h = which (is_paired r.spotted) refl
    where
      slot : (k : ℕ) × (slice_get (in_spots (sheet_spots source s)) k ≡ Some m)
      slot = slot_of (in_spots (sheet_spots source s)) m h

      r : IsMember [] (last_spots (sheet_spots source s)) slot.0 m
      r = spot_of (sheet_spots source s) slot.0 m slot.1

      z_in : Contains (sheet_spots source s) r.spotted
      z_in = last_in (sheet_spots source s) r.spotted (spotted_in (last_spots (sheet_spots source s)) slot.0 r.spotted r.at)

      which : (b : Bool) → is_paired r.spotted ≡ b → has_member (in_spots (sheet_spots other t)) m.label ≡ true
      which true pair =
          let i : IsPresent (sheet_spots other t) (label_at r.spotted) = present r.spotted z_in pair in
          let w : HasLast (sheet_spots other t) i.spotted = last_has (sheet_spots other t) (sheet_spots_ascend other t) i.spotted i.there i.pair i.first in
          let one : HasMember (in_spots (sheet_spots other t)) (label_at w.last) =
          pair_member [] (last_spots (sheet_spots other t)) (last_fresh (sheet_spots other t)) w.last w.there (both_pairs i.spotted w.last (sym w.label) i.pair) refl in
          has_same (in_spots (sheet_spots other t)) (label_at w.last) m.label one
          (w.label ∙ i.label ∙ sym (r.label ∙ ap (λ (c : ℕ). with_number c (label_at r.spotted)) (let n : count_by (same_label (label_at r.spotted)) [] + r.number ≡ 0 = ap (λ (c : ℕ). 0 + c) (r.pair pair) in n)))
      which false kept =
          let one : HasMember (in_spots (sheet_spots other t)) (with_number (count_by (same_label (label_at r.spotted)) [] + r.number) (label_at r.spotted)) =
          kept_member [] (last_spots (sheet_spots other t)) (label_at r.spotted) r.number r.spotted.spot (kept_selector r.spotted.occurrence r.spotted.occurrence.part refl kept)
          (ap (λ (ms : List Mark). find_mark (label_at r.spotted) ms r.number) (sym same) ∙ r.mark kept) in
          has_same (in_spots (sheet_spots other t)) (with_number (count_by (same_label (label_at r.spotted)) [] + r.number) (label_at r.spotted)) m.label one (sym r.label)

-- ---- Common members

record IsCommon (ns : List Member) (m : Member) (c : Common) : Type 0 where
  mine : c.mine ≡ m
  there : slice_get ns c.there ≡ Some c.yours
  label : c.yours.label ≡ m.label

record IsTwin (n : ℕ) (ns : List Member) (l : Label) (x : ℕ × Member) : Type 0 where
  index : ℕ
  number : x.0 ≡ n + index
  at : slice_get ns index ≡ Some x.1
  label : x.1.label ≡ l

found_twin : (n : ℕ) (ns : List Member) (l : Label) (x : ℕ × Member) → find (λ (y : ℕ × Member). same_label y.1.label l) (enumerate_from n ns) ≡ Some x → IsTwin n ns l x
found_twin n [] l x h = absurd (let e : None ≡ Some x = h in cc)
found_twin n (o ∷ ns) l x h = which (same_label o.label l) refl h (λ g. found_twin (n + 1) ns l x g)
  where
    which : (b : Bool) → same_label o.label l ≡ b → (if b then Some (n, o) else find (λ (y : ℕ × Member). same_label y.1.label l) (enumerate_from (n + 1) ns)) ≡ Some x →
        (find (λ (y : ℕ × Member). same_label y.1.label l) (enumerate_from (n + 1) ns) ≡ Some x → IsTwin (n + 1) ns l x) → IsTwin n (o ∷ ns) l x
    which true e g rest = subst (IsTwin n (o ∷ ns) l) (some-same g) (record { index = 0; number = omega arith; at = refl; label = (label_decides o.label l).0 e })
    which false e g rest =
        let r : IsTwin (n + 1) ns l x = rest g in
        record { index = suc r.index; number = (let f = r.number in omega (arith, f)); at = r.at; label = r.label }

common_is : (ns : List Member) (m : Member) (c : Common) → common_of ns m ≡ Some c → IsCommon ns m c
common_is ns m c h = which (twin_in ns m.label) refl h
  where
    which : (o : Option (ℕ × Member)) → twin_in ns m.label ≡ o → option_map (λ (x : ℕ × Member). record { mine = m; yours = x.1; there = x.0 }) o ≡ Some c → IsCommon ns m c
    which None e g = absurd (let f : None ≡ Some c = g in cc)
    which (Some x) e g =
        let w : IsTwin 0 ns m.label x = found_twin 0 ns m.label x e in
        subst (IsCommon ns m) (some-same g) (record {
          mine = refl;
          there = ap (slice_get ns) (let f = w.number in let k : x.0 ≡ w.index = omega (arith, f) in k) ∙ w.at;
          label = w.label;
        })

record IsTurnedIn (ns ms : List Member) (c : Couple) : Type 0 where
  k : ℕ
  i : ℕ
  m : Member
  n : Member
  at : slice_get ms k ≡ Some m
  at' : slice_get ms i ≡ Some n
  before : k < i
  first : common_of ns m ≡ Some c.first
  second : common_of ns n ≡ Some c.second
  turns : is_turned c.first c.second ≡ true

record IsSlot (ns ms : List Member) (c : Common) : Type 0 where
  i : ℕ
  n : Member
  at : slice_get ms i ≡ Some n
  is : common_of ns n ≡ Some c

common_slot : (ns ms : List Member) (c : Common) → Contains (filter_map (common_of ns) ms) c → IsSlot ns ms c
common_slot ns [] c h = absurd (Contains-nil c h)
common_slot ns (x ∷ ms) c h = which (common_of ns x) refl h (λ g. common_slot ns ms c g)
  where
    later : IsSlot ns ms c → IsSlot ns (x ∷ ms) c
    later r = record { i = suc r.i; n = r.n; at = r.at; is = r.is }

    which : (o : Option Common) → common_of ns x ≡ o → Contains (cons_option o (filter_map (common_of ns) ms)) c → (Contains (filter_map (common_of ns) ms) c → IsSlot ns ms c) → IsSlot ns (x ∷ ms) c
    which None e g rest = later (rest g)
    which (Some y) e g rest = sided (Contains-cons_cases y (filter_map (common_of ns) ms) c g)
      where
        sided : (y ≡ c) ⊎ Contains (filter_map (common_of ns) ms) c → IsSlot ns (x ∷ ms) c
        sided (inl same) = record { i = 0; n = x; at = refl; is = e ∙ ap (λ (z : Common). Some z) same }
        sided (inr k) = later (rest k)

from_turned : (ns ms : List Member) (c : Couple) → Contains (turned (filter_map (common_of ns) ms)) c → IsTurnedIn ns ms c
from_turned ns [] c h = absurd (Contains-nil c h)
from_turned ns (x ∷ ms) c h = which (common_of ns x) refl h (λ g. from_turned ns ms c g)
  where
    later : IsTurnedIn ns ms c → IsTurnedIn ns (x ∷ ms) c
    later r = record { k = suc r.k; i = suc r.i; m = r.m; n = r.n; at = r.at; at' = r.at'; before = (let b = r.before in omega (arith, b)); first = r.first; second = r.second; turns = r.turns }

    which : (o : Option Common) → common_of ns x ≡ o → Contains (turned (cons_option o (filter_map (common_of ns) ms))) c → (Contains (turned (filter_map (common_of ns) ms)) c → IsTurnedIn ns ms c) → IsTurnedIn ns (x ∷ ms) c
    which None e g rest = later (rest g)
    which (Some y) e g rest = sided (append_cases (turned_with y (filter_map (common_of ns) ms)) (turned (filter_map (common_of ns) ms)) c g)
      where
        sided : Contains (turned_with y (filter_map (common_of ns) ms)) c ⊎ Contains (turned (filter_map (common_of ns) ms)) c → IsTurnedIn ns (x ∷ ms) c
        sided (inr k) = later (rest k)
        sided (inl k) =
            let w = map_from (couple y) (filter (is_turned y) (filter_map (common_of ns) ms)) c k in
            let v = Contains-filter (is_turned y) (filter_map (common_of ns) ms) w.0 w.1 in
            let u : IsSlot ns ms w.0 = common_slot ns ms w.0 v.0 in
            subst (IsTurnedIn ns (x ∷ ms)) w.2 (record {
              k = 0;
              i = suc u.i;
              m = x;
              n = u.n;
              at = refl;
              at' = u.at;
              before = omega arith;
              first = e;
              second = u.is;
              turns = v.1;
            })

none_lacking : (test : Member → Bool) (ms : List Member) → ((m : Member) → Contains ms m → test m ≡ true) → filter (λ (m : Member). not (test m)) ms ≡ []
none_lacking test [] all = refl
none_lacking test (m ∷ ms) all =
    ap (λ (b : Bool). if not b then m ∷ filter (λ (x : Member). not (test x)) ms else filter (λ (x : Member). not (test x)) ms) (all m (Contains-here m ms))
    ∙ none_lacking test ms (λ x h. all x (Contains-there m ms x h))

none_changed : (cs : List Common) → ((c : Common) → Contains cs c → c.mine.label.changed ≡ false) → filter (λ (c : Common). c.mine.label.changed) cs ≡ []
none_changed [] all = refl
none_changed (c ∷ cs) all =
    ap (λ (b : Bool). if b then c ∷ filter (λ (x : Common). x.mine.label.changed) cs else filter (λ (x : Common). x.mine.label.changed) cs) (all c (Contains-here c cs))
    ∙ none_changed cs (λ x h. all x (Contains-there c cs x h))

unchanged : (o : Occurrence) (q : Part) → o.part ≡ q → (label_of o).changed ≡ false
unchanged o (Paired s d) e = ap (λ (r : Part). (label_with o.layer.head r false o.text).changed) e
unchanged o (Kept item) e = ap (λ (r : Part). (label_with o.layer.head r false o.text).changed) e

-- ---- Two pairs of one declaration do not weigh

module _ (weighing : WeighingIsDecided) where
  one_no_weigh : (s s' : SelItem) (d : DeclItem) (text : List ℕ) → weigh (normal_pair s d text) (normal_pair s' d text) ≡ true → ⊥
  one_no_weigh s s' d text h = ((weighing.0 (normal_pair s d text) (normal_pair s' d text)).0 h).different refl

  mine_differ : (o o' : Occurrence) → OneDecl o o' → parts_weigh o.part o.text o'.part o'.text ≡ true → ⊥
  mine_differ o o' d h =
      one_no_weigh d.selector d.other d.decl o.text
      (ap₂ (λ (q r : Part). parts_weigh q o.text r o.text) (sym d.first) (sym d.second) ∙ ap (λ (text : List ℕ). parts_weigh o.part o.text o'.part text) d.text ∙ h)

  yours_differ : (o o' : Occurrence) → OneDecl o' o → pairs_weigh o.part o.text o'.part o'.text ≡ true → ⊥
  yours_differ o o' d h =
      one_no_weigh d.other d.selector d.decl o.text
      (ap₂ (λ (q r : Part). pairs_weigh q o.text r o.text) (sym d.second) (sym d.first) ∙ ap (λ (text : List ℕ). pairs_weigh o.part o.text o'.part text) (sym d.text) ∙ h)

strictly : (z y : Spotted) → NotPast z y → (OneDecl z.occurrence y.occurrence → ⊥) → Less z.spot y.spot
strictly z y (inl h) differ = h
strictly z y (inr h) differ = absurd (differ h.1)

-- ---- Two sheets

module _ (Apart : SelectorParts → SelectorParts → Type 0) (weighing : WeighingIsDecided) (source : List ℕ) (s : List Item) (other : List ℕ) (t : List Item)
    (matches : Matched Apart source s other t) (facts : LevelFacts Apart s t) where
  abbrev zs : List Spotted
  zs = sheet_spots source s

  abbrev ys : List Spotted
  ys = sheet_spots other t

  same_marks : marks (last_spots zs) ≡ marks (last_spots ys)
  same_marks =
      last_marks zs (kept_once source s)
      ∙ marks_are (outer_layer source s) 0 0 s (bodies_in source s)
      ∙ all_marks Apart source other 0 (opened_of s source) (kept_items s) (opened_of t other) (kept_items t) matches
      ∙ sym (marks_are (outer_layer other t) 0 0 t (bodies_in other t))
      ∙ sym (last_marks ys (kept_once other t))

  there : Carries source s other t
  there = record {
    outer = λ p. (facts.pairs p).0;
    inner = λ j m e.
        let b : BlockPair Apart source s other t j =
        match_at Apart source other (opened_of s source) (kept_items s) (opened_of t other) (kept_items t) matches j (inl (ap (λ (o : Option Media). is_some o) e)) in
        let same : b.mine ≡ m = some-same (sym b.mine_is ∙ e) in
        record {
          y = b.y;
          yours = b.yours;
          at = b.yours_at;
          block = b.yours_is;
          heads = ap (λ (x : Media). kept_text source x.head) (sym same) ∙ b.heads;
          pairs = λ p h. (b.agree.facts.pairs p).0 (subst (λ (x : Media). HasPair x.sheet.items p) (sym same) h);
        };
  }

  back : Carries other t source s
  back = record {
    outer = λ p. (facts.pairs p).1;
    inner = λ j m e.
        let b : BlockPair Apart source s other t j =
        match_at Apart source other (opened_of s source) (kept_items s) (opened_of t other) (kept_items t) matches j (inr (ap (λ (o : Option Media). is_some o) e)) in
        let same : b.yours ≡ m = some-same (sym b.yours_is ∙ e) in
        record {
          y = b.x;
          yours = b.mine;
          at = b.mine_at;
          block = b.mine_is;
          heads = ap (λ (x : Media). kept_text other x.head) (sym same) ∙ sym b.heads;
          pairs = λ p h. (b.agree.facts.pairs p).1 (subst (λ (x : Media). HasPair x.sheet.items p) (sym same) h);
        };
  }

  to : (m : Member) → Contains (in_spots zs) m → has_member (in_spots ys) m.label ≡ true
  to = all_there source s other t there same_marks

  from : (m : Member) → Contains (in_spots ys) m → has_member (in_spots zs) m.label ≡ true
  from = all_there other t source s back (sym same_marks)

  abbrev The : Compared
  The = compared_of (in_spots zs) (in_spots ys)

  pub compared_is : compared_of (all_marked (in_spots ys) (in_spots zs)) (all_marked (in_spots zs) (in_spots ys)) ≡ The
  compared_is =
      ap₂ compared_of (ap (numbered []) (unmarked (in_spots ys) (in_spots zs) to) ∙ numbered_again (in_spots zs) (distinct_in zs))
      (ap (numbered []) (unmarked (in_spots zs) (in_spots ys) from) ∙ numbered_again (in_spots ys) (distinct_in ys))

  pub no_missing : The.missing ≡ []
  no_missing = none_lacking (λ (m : Member). has_member (in_spots ys) m.label) (in_spots zs) to

  pub no_extra : The.extra ≡ []
  no_extra = none_lacking (λ (m : Member). has_member (in_spots zs) m.label) (in_spots ys) from

  pub no_changed : changed The ≡ []
  no_changed = none_changed The.commons all
    where
      all : (c : Common) → Contains The.commons c → c.mine.label.changed ≡ false
      all c h =
          let u : IsSlot (in_spots ys) (in_spots zs) c = common_slot (in_spots ys) (in_spots zs) c h in
          let r : IsMember [] (last_spots zs) u.i u.n = spot_of zs u.i u.n u.at in
          ap (λ (m : Member). m.label.changed) (common_is (in_spots ys) u.n c u.is).mine
          ∙ ap (λ (l : Label). l.changed) r.label ∙ unchanged r.spotted.occurrence r.spotted.occurrence.part refl

  -- a member that both have, with its places
  record IsBoth (c : Common) (k : ℕ) : Type 0 where
    z : Spotted
    y : Spotted
    at : slice_get (last_spots zs) k ≡ Some z
    at' : slice_get (last_spots ys) c.there ≡ Some y
    mine : c.mine.occurrence ≡ z.occurrence
    yours : c.yours.occurrence ≡ y.occurrence
    label : label_at z ≡ label_at y
    side : Side Apart source s other t z y

  both : (k : ℕ) (m : Member) (c : Common) → slice_get (in_spots zs) k ≡ Some m → common_of (in_spots ys) m ≡ Some c → IsBoth c k
  both k m c at is = record {
    z = r.spotted;
    y = q.spotted;
    at = r.at;
    at' = q.at;
    mine = ap (λ (x : Member). x.occurrence) w.mine ∙ r.occurrence;
    yours = q.occurrence;
    label = parts.0;
    side = which (is_paired r.spotted) refl;
  }
    where
      w : IsCommon (in_spots ys) m c
      w = common_is (in_spots ys) m c is

      r : IsMember [] (last_spots zs) k m
      r = spot_of zs k m at

      q : IsMember [] (last_spots ys) c.there c.yours
      q = spot_of ys c.there c.yours w.there

      z_in : Contains (last_spots zs) r.spotted
      z_in = spotted_in (last_spots zs) k r.spotted r.at

      y_in : Contains (last_spots ys) q.spotted
      y_in = spotted_in (last_spots ys) c.there q.spotted q.at

      parts : (label_at r.spotted ≡ label_at q.spotted) × ((0 + r.number) ≡ (0 + q.number))
      parts =
          base_same (label_at r.spotted) (label_at q.spotted) (0 + r.number) (0 + q.number) (number_of_part r.spotted.occurrence r.spotted.occurrence.part refl) (number_of_part q.spotted.occurrence q.spotted.occurrence.part refl)
          (sym r.label ∙ sym w.label ∙ q.label)

      number : r.number ≡ q.number
      number = let e = parts.1 in omega (arith, e)

      which : (b : Bool) → is_paired r.spotted ≡ b → Side Apart source s other t r.spotted q.spotted
      which true pair = pair_side Apart source s other t matches r.spotted q.spotted z_in y_in pair parts.0
      which false kept =
          let kept' : is_paired q.spotted ≡ false = unpaired (is_paired q.spotted) refl in
          kept_side Apart source s other t matches r.spotted q.spotted (last_in zs r.spotted z_in) kept
          (some-same (sym (r.mark kept) ∙ ap (λ (ms : List Mark). find_mark (label_at r.spotted) ms r.number) same_marks
          ∙ ap₂ (λ (l : Label) (n : ℕ). find_mark l (marks (last_spots ys)) n) parts.0 number ∙ q.mark kept'))
        where
          unpaired : (b : Bool) → is_paired q.spotted ≡ b → is_paired q.spotted ≡ false
          unpaired true e = absurd (true≢false (sym (both_pairs q.spotted r.spotted (sym parts.0) e) ∙ kept))
          unpaired false e = e

  pub couples_apart : (c : Couple) → Contains (turned The.commons) c → ApartParts Apart c.first.mine.occurrence c.second.mine.occurrence
  couples_apart c h =
      apart_moved Apart c.first.mine.occurrence c.second.mine.occurrence b.z.occurrence d.z.occurrence b.mine d.mine
      (couple_apart Apart weighing source s other t facts b.z d.z b.y d.y b.side d.side b.label d.label
      (strictly b.z d.z (slices_ascend (last_spots zs) (last_ascends zs (sheet_spots_ascend source s)) u.k u.i b.z d.z b.at d.at u.before) (λ one. mine_differ weighing b.z.occurrence d.z.occurrence one mine_weighs))
      (strictly d.y b.y (slices_ascend (last_spots ys) (last_ascends ys (sheet_spots_ascend other t)) c.second.there c.first.there d.y b.y d.at' b.at' after) (λ one. yours_differ weighing b.y.occurrence d.y.occurrence one yours_weigh))
      mine_weighs)
    where
      u : IsTurnedIn (in_spots ys) (in_spots zs) c
      u = from_turned (in_spots ys) (in_spots zs) c h

      b : IsBoth c.first u.k
      b = both u.k u.m c.first u.at u.first

      d : IsBoth c.second u.i
      d = both u.i u.n c.second u.at' u.second

      tests : (nat_lt c.second.there c.first.there ≡ true) × (commons_weigh c.first c.second ≡ true)
      tests = and_parts (nat_lt c.second.there c.first.there) (commons_weigh c.first c.second) u.turns

      after : c.second.there < c.first.there
      after = let e = tests.0 in grind (arith, nat_tests, e)

      weights : (parts_weigh c.first.mine.occurrence.part c.first.mine.occurrence.text c.second.mine.occurrence.part c.second.mine.occurrence.text ≡ true)
          × (pairs_weigh c.first.yours.occurrence.part c.first.yours.occurrence.text c.second.yours.occurrence.part c.second.yours.occurrence.text ≡ true)
      weights = and_parts (parts_weigh c.first.mine.occurrence.part c.first.mine.occurrence.text c.second.mine.occurrence.part c.second.mine.occurrence.text)
          (pairs_weigh c.first.yours.occurrence.part c.first.yours.occurrence.text c.second.yours.occurrence.part c.second.yours.occurrence.text) tests.1

      mine_weighs : Weighs b.z.occurrence d.z.occurrence
      mine_weighs = ap₂ (λ (o o' : Occurrence). parts_weigh o.part o.text o'.part o'.text) (sym b.mine) (sym d.mine) ∙ weights.0

      yours_weigh : pairs_weigh b.y.occurrence.part b.y.occurrence.text d.y.occurrence.part d.y.occurrence.text ≡ true
      yours_weigh = ap₂ (λ (o o' : Occurrence). pairs_weigh o.part o.text o'.part o'.text) (sym b.yours) (sym d.yours) ∙ weights.1
