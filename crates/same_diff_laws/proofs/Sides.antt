-- Where a member that two sheets have in common is in both, where nothing is found in the two.
use Rattle.std.proofs.Common.{◌≡◌, ◌↔◌, ◌⊎◌, inl, inr, ℕ, suc, ◌+◌, ◌<◌, ◌≤◌, true, false, List, [], ◌∷◌, Option, Some, None, option_map, refl, sym, ap, ◌∙◌, subst, arith}
use Rattle.std.specs.Prelude.{is_some, slice_get}
use Rattle.std.specs.List.{Contains}
use Rattle.std.proofs.lemmas.Bool.{false≢true, true≢false}
use Rattle.cascade_laws.proofs.ForCallers.{some-same}
use Rattle.css_model.specs.declared.sheet.Item.{Item}
use Rattle.css_model.specs.Cascade.Order.{HasPair, Pair}
use Rattle.css_model.specs.Documents.SelectorParts.{SelectorParts}
use Rattle.css_model.specs.Sheets.KeptItems.{kept_items}
use Rattle.css_model.specs.Sheets.Spelling.{kept_text}
use Rattle.list_facts.proofs.Elements.{member}
use Rattle.media_groups.specs.declared.media.Media.{Media}
use Rattle.media_groups.specs.Opened.{opened_of}
use Rattle.normal_text.specs.Normal.{normal_head}
use Rattle.sheet_members.specs.Labels.{Label}
use Rattle.sheet_members.specs.Layers.{Layer, body_layer, outer_layer}
use Rattle.sheet_members.specs.Occurrences.{Kept}
use Rattle.same_diff_laws.proofs.Alike.{Match, MatchAt, block_is, match_at, opened_at, walked}
use Rattle.same_diff_laws.proofs.Found.{HasInner, IsInnerSpot, IsKeptSpot, IsRuleSpot, IsSpot, found, inner_has}
use Rattle.same_diff_laws.proofs.Lasting.{HasLast, both_pairs, is_paired, label_at, last_fresh, last_has, last_in, last_spots, one_pair}
use Rattle.same_diff_laws.proofs.Levels.{HasSpot, IsLastSpot, NoLess, has_spot, pair_label, pair_of_spot, place_of_spot, spot_label, stands}
use Rattle.same_diff_laws.proofs.Spots.{Ascends, BlocksAscend, Less, NotPast, Spotted, all_ascend, below, blocks, body_spots, spots}

-- ---- One sheet

abbrev pub opened_in : (source : List ℕ) (s : List Item) → List (Option Media)
opened_in source s = walked (opened_of s source) (kept_items s)

abbrev pub bodies_in : (source : List ℕ) (s : List Item) → List (Option (List Spotted))
bodies_in source s = blocks source (opened_in source s)

-- what occurs in a sheet, with its places
abbrev pub sheet_spots : (source : List ℕ) (s : List Item) → List Spotted
sheet_spots source s = spots (outer_layer source s) 0 0 s (bodies_in source s)

blocks_ascend : (l : Layer) (source : List ℕ) (os : List (Option Media)) → BlocksAscend l (blocks source os)
blocks_ascend l source [] = tt
blocks_ascend l source (None ∷ os) = (tt, blocks_ascend l source os)
blocks_ascend l source (Some m ∷ os) = (all_ascend (body_layer source m) 0 0 m.sheet.items [] tt, blocks_ascend l source os)

pub sheet_spots_ascend : (source : List ℕ) (s : List Item) → Ascends (sheet_spots source s)
sheet_spots_ascend source s = all_ascend (outer_layer source s) 0 0 s (bodies_in source s) (blocks_ascend (outer_layer source s) source (opened_in source s))

pub greatest : (zs : List Spotted) → Ascends zs → (z : Spotted) → Contains (last_spots zs) z → is_paired z ≡ true → (y : Spotted) → Contains zs y → y.occurrence.repeated ≡ false → label_at y ≡ label_at z → NoLess y.spot z.spot
greatest zs up z last pair y h once same =
    let r : HasLast zs y = last_has zs up y h (both_pairs z y (sym same) pair) once in
    let e : z ≡ r.last = one_pair (last_spots zs) (last_fresh zs) z r.last last r.there pair (sym same ∙ sym r.label) in
    which r.last (sym e) r.behind
  where
    which : (w : Spotted) → w ≡ z → (y ≡ w) ⊎ NotPast y w → NoLess y.spot z.spot
    which w e (inl f) = inr (ap (λ (x : Spotted). x.spot) (f ∙ e))
    which w e (inr (inl f)) = inl (subst (λ (x : Spotted). Less y.spot x.spot) e f)
    which w e (inr (inr f)) = inr (f.0 ∙ ap (λ (x : Spotted). x.spot) e)

-- what is in the body of an opened block is of a rule, or a kept item that is not opened
pub record IsInBody (source : List ℕ) (s : List Item) (z : Spotted) : Type 0 where
  pub index : ℕ
  pub block : Media
  pub block_at : opened_at (opened_in source s) index ≡ Some block
  pub inner : Spotted
  pub among : Contains (body_spots source block) inner
  pub kind : IsRuleSpot (body_layer source block) 0 0 block.sheet.items inner ⊎ IsKeptSpot (body_layer source block) 0 block.sheet.items [] inner
  pub spot : z.spot ≡ suc (index + index) ∷ inner.spot
  pub occurrence : z.occurrence ≡ inner.occurrence

pub in_body : (source : List ℕ) (s : List Item) (z : Spotted) → IsInnerSpot 0 s (bodies_in source s) z → IsInBody source s z
in_body source s z i = which (opened_at (opened_in source s) i.index) refl (sym (block_is source (opened_in source s) i.index) ∙ i.block)
  where
    number : i.run ≡ i.index
    number = let e = i.run_is in omega (arith, e)

    which : (o : Option Media) → opened_at (opened_in source s) i.index ≡ o → option_map (body_spots source) (opened_at (opened_in source s) i.index) ≡ Some i.inside → IsInBody source s z
    which None e h = absurd (let f : None ≡ Some i.inside = ap (option_map (body_spots source)) (sym e) ∙ h in cc)
    which (Some m) e h =
        let same : body_spots source m ≡ i.inside = some-same (ap (option_map (body_spots source)) (sym e) ∙ h) in
        let there : Contains (body_spots source m) i.inner = subst (λ (zs : List Spotted). Contains zs i.inner) (sym same) i.among in
        record {
          index = i.index;
          block = m;
          block_at = e;
          inner = i.inner;
          among = there;
          kind = kinds m there (found (body_layer source m) 0 0 m.sheet.items [] i.inner there);
          spot = ap (λ (x : Spotted). x.spot) i.is ∙ ap (λ (n : ℕ). suc (n + n) ∷ i.inner.spot) number;
          occurrence = ap (λ (x : Spotted). x.occurrence) i.is;
        }
      where
        kinds : (m : Media) → Contains (body_spots source m) i.inner → IsSpot (body_layer source m) 0 0 m.sheet.items [] i.inner →
            IsRuleSpot (body_layer source m) 0 0 m.sheet.items i.inner ⊎ IsKeptSpot (body_layer source m) 0 m.sheet.items [] i.inner
        kinds m there (inl r) = inl r
        kinds m there (inr (inl k)) = inr k
        kinds m there (inr (inr j)) = absurd (let f : None ≡ Some j.inside = j.block in cc)

pub rule_paired : (l : Layer) (items : List Item) (z : Spotted) → IsRuleSpot l 0 0 items z → is_paired z ≡ true
rule_paired l items z a = ap is_paired a.is

pub kept_unpaired : (l : Layer) (items : List Item) (bs : List (Option (List Spotted))) (z : Spotted) → IsKeptSpot l 0 items bs z → is_paired z ≡ false
kept_unpaired l items bs z k = ap is_paired k.is

-- a kept item is never repeated
pub kept_once : (source : List ℕ) (s : List Item) (z : Spotted) → Contains (sheet_spots source s) z → is_paired z ≡ false → z.occurrence.repeated ≡ false
kept_once source s z h kept = which (found (outer_layer source s) 0 0 s (bodies_in source s) z h)
  where
    which : IsSpot (outer_layer source s) 0 0 s (bodies_in source s) z → z.occurrence.repeated ≡ false
    which (inl r) = absurd (true≢false (sym (rule_paired (outer_layer source s) s z r) ∙ kept))
    which (inr (inl k)) = ap (λ (x : Spotted). x.occurrence.repeated) k.is
    which (inr (inr i)) = inner (in_body source s z i)
      where
        inner : IsInBody source s z → z.occurrence.repeated ≡ false
        inner b = sided b.kind
          where
            sided : IsRuleSpot (body_layer source b.block) 0 0 b.block.sheet.items b.inner ⊎ IsKeptSpot (body_layer source b.block) 0 b.block.sheet.items [] b.inner → z.occurrence.repeated ≡ false
            sided (inl r) = absurd (true≢false (sym (rule_paired (body_layer source b.block) b.block.sheet.items b.inner r) ∙ ap (λ o. is_paired (record { spot = []; occurrence = o })) (sym b.occurrence) ∙ kept))
            sided (inr k) = ap (λ o. o.repeated) b.occurrence ∙ ap (λ (x : Spotted). x.occurrence.repeated) k.is

-- ---- Labels tell what is where

rule_head : (l : Layer) (items : List Item) (z : Spotted) → IsRuleSpot l 0 0 items z → (label_at z).head ≡ l.head
rule_head l items z a = ap (λ (x : Spotted). (label_at x).head) a.is

-- ---- Two sheets

module _ (Apart : SelectorParts → SelectorParts → Type 0) (source : List ℕ) (s : List Item) (other : List ℕ) (t : List Item) where
  abbrev pub Matched : Type 0
  Matched = Match Apart source other (opened_of s source) (kept_items s) (opened_of t other) (kept_items t)

  abbrev pub BlockPair : ℕ → Type 0
  BlockPair j = MatchAt Apart source other (opened_of s source) (kept_items s) (opened_of t other) (kept_items t) j

  -- a pair of a rule in both
  pub record OuterPair (z z' : Spotted) : Type 0 where
    pub mine : IsLastSpot (outer_layer source s) s (sheet_spots source s) z
    pub yours : IsLastSpot (outer_layer other t) t (sheet_spots other t) z'

  -- a pair in the bodies of opened blocks of one number
  pub record InnerPair (z z' : Spotted) : Type 0 where
    pub index : ℕ
    pub blocks : BlockPair index
    pub a : Spotted
    pub b : Spotted
    pub mine_spot : z.spot ≡ suc (index + index) ∷ a.spot
    pub yours_spot : z'.spot ≡ suc (index + index) ∷ b.spot
    pub mine_is : z.occurrence ≡ a.occurrence
    pub yours_is : z'.occurrence ≡ b.occurrence
    pub mine : IsLastSpot (body_layer source blocks.mine) blocks.mine.sheet.items (body_spots source blocks.mine) a
    pub yours : IsLastSpot (body_layer other blocks.yours) blocks.yours.sheet.items (body_spots other blocks.yours) b

  -- a kept item of the first sheet, or of one of its bodies, that is at the same place in the second one
  pub record KeptSame (z z' : Spotted) : Type 0 where
    pub same : z.spot ≡ z'.spot
    pub item : Item
    pub part : z.occurrence.part ≡ Kept item
    pub place : ((j : ℕ) × (slice_get (kept_items s) j ≡ Some item) × (z.spot ≡ suc (j + j) ∷ []))
        ⊎ ((j i : ℕ) × (m : BlockPair j) × (slice_get (kept_items m.mine.sheet.items) i ≡ Some item) × (z.spot ≡ suc (j + j) ∷ suc (i + i) ∷ []))

  abbrev pub Side : Spotted → Spotted → Type 0
  Side z z' = OuterPair z z' ⊎ (InnerPair z z' ⊎ KeptSame z z')

-- where a body is opened, what is in it is there
module _ (source : List ℕ) (s : List Item) where
  pub record IsThere (j : ℕ) (inner : Spotted) : Type 0 where
    pub spotted : Spotted
    pub there : Contains (sheet_spots source s) spotted
    pub spot : spotted.spot ≡ suc (j + j) ∷ inner.spot
    pub occurrence : spotted.occurrence ≡ inner.occurrence

  pub is_there : (j : ℕ) (x : Item) (m : Media) (inner : Spotted) → slice_get (kept_items s) j ≡ Some x → opened_at (opened_in source s) j ≡ Some m → Contains (body_spots source m) inner → IsThere j inner
  is_there j x m inner at block among =
      let h : HasInner (outer_layer source s) 0 0 s (bodies_in source s) j inner =
      inner_has (outer_layer source s) 0 0 s (bodies_in source s) j x (body_spots source m) inner at (block_is source (opened_in source s) j ∙ ap (option_map (body_spots source)) block) among in
      record {
        spotted = below (suc (h.run + h.run)) inner;
        there = h.there;
        spot = ap (λ (n : ℕ). suc (n + n) ∷ inner.spot) (let e = h.run_is in let f : h.run ≡ j = omega (arith, e) in f);
        occurrence = refl;
      }

  -- a pair of a body that is at the last place of its label is at the last one of the body
  last_inside : (j : ℕ) (x : Item) (m : Media) (z a : Spotted) → slice_get (kept_items s) j ≡ Some x → opened_at (opened_in source s) j ≡ Some m → Contains (last_spots (sheet_spots source s)) z → is_paired z ≡ true →
      z.spot ≡ suc (j + j) ∷ a.spot → z.occurrence ≡ a.occurrence → IsRuleSpot (body_layer source m) 0 0 m.sheet.items a → IsLastSpot (body_layer source m) m.sheet.items (body_spots source m) a
  last_inside j x m z a at block last pair spot is rule = record {
    at = rule;
    greatest = λ y among once same.
        let h : IsThere j y = is_there j x m y at block among in
        let none : NoLess h.spotted.spot z.spot =
        greatest (sheet_spots source s) (sheet_spots_ascend source s) z last pair h.spotted h.there (ap (λ o. o.repeated) h.occurrence ∙ once)
        (ap (λ o. label_at (record { spot = []; occurrence = o })) h.occurrence ∙ same ∙ ap (λ o. label_at (record { spot = []; occurrence = o })) (sym is)) in
        stripped (suc (j + j)) y.spot a.spot (subst (λ (u : List ℕ). NoLess u (suc (j + j) ∷ a.spot)) h.spot (subst (λ (u : List ℕ). NoLess h.spotted.spot u) spot none));
  }
    where
      stripped : (n : ℕ) (u v : List ℕ) → NoLess (n ∷ u) (n ∷ v) → NoLess u v
      stripped n u v (inl (inl h)) = absurd (omega (arith, h))
      stripped n u v (inl (inr h)) = inl h.1
      stripped n u v (inr h) = inr (ap tail h)
        where
          tail : List ℕ → List ℕ
          tail [] = []
          tail (n ∷ ns) = ns

-- a pair that a body has is in the sheet, and so its last place is in no earlier block
reaches : (source : List ℕ) (s : List Item) (j : ℕ) (x : Item) (m : Media) (p : Pair) (z : Spotted) (i : ℕ) (us : List ℕ) → slice_get (kept_items s) j ≡ Some x → opened_at (opened_in source s) j ≡ Some m → HasPair m.sheet.items p →
    Contains (last_spots (sheet_spots source s)) z → is_paired z ≡ true → pair_label (Some (normal_head (kept_text source m.head))) p ≡ label_at z → z.spot ≡ suc (i + i) ∷ us → j ≤ i
reaches source s j x m p z i us at block has last pair same spot =
    let h : HasSpot (body_layer source m) m.sheet.items (body_spots source m) p has.0 = has_spot (body_layer source m) m.sheet.items [] p has.0 has.1 in
    let g : IsThere source s j h.spotted = is_there source s j x m h.spotted at block h.there in
    let label : label_at g.spotted ≡ label_at z =
    ap (λ o. label_at (record { spot = []; occurrence = o })) g.occurrence ∙ spot_label (body_layer source m) m.sheet.items h.spotted h.at ∙ ap (pair_label (Some (normal_head (kept_text source m.head)))) h.pair ∙ same in
    let none : NoLess g.spotted.spot z.spot = greatest (sheet_spots source s) (sheet_spots_ascend source s) z last pair g.spotted g.there (ap (λ o. o.repeated) g.occurrence ∙ h.first) label in
    which (subst (λ (u : List ℕ). NoLess u (suc (i + i) ∷ us)) g.spot (subst (λ (u : List ℕ). NoLess g.spotted.spot u) spot none))
  where
    first : List ℕ → ℕ
    first [] = 0
    first (n ∷ ns) = n

    which : {u : List ℕ} → NoLess (suc (j + j) ∷ u) (suc (i + i) ∷ us) → j ≤ i
    which (inl (inl h)) = omega (arith, h)
    which (inl (inr h)) = let e = h.0 in omega (arith, e)
    which (inr h) = let e : suc (j + j) ≡ suc (i + i) = ap first h in omega (arith, e)

module _ (Apart : SelectorParts → SelectorParts → Type 0) (source : List ℕ) (s : List Item) (other : List ℕ) (t : List Item) (matches : Matched Apart source s other t) where
  abbrev InSheet : Spotted → Type 0
  InSheet z = Contains (last_spots (sheet_spots source s)) z

  abbrev InOther : Spotted → Type 0
  InOther z = Contains (last_spots (sheet_spots other t)) z

  some_opened : (o : Option Media) (m : Media) → o ≡ Some m → is_some o ≡ true
  some_opened o m e = ap (λ (p : Option Media). is_some p) e

  inner_label : (text : List ℕ) (m : Media) (z a : Spotted) → z.occurrence ≡ a.occurrence → (r : IsRuleSpot (body_layer text m) 0 0 m.sheet.items a) → label_at z ≡ pair_label (Some (normal_head (kept_text text m.head))) (pair_of_spot (body_layer text m) m.sheet.items a r)
  inner_label text m z a is r = ap (λ o. label_at (record { spot = []; occurrence = o })) is ∙ spot_label (body_layer text m) m.sheet.items a r

  -- pairs of bodies
  inner_side : (z z' : Spotted) → InSheet z → InOther z' → is_paired z ≡ true → label_at z ≡ label_at z' → (b : IsInBody source s z) (b' : IsInBody other t z') →
      IsRuleSpot (body_layer source b.block) 0 0 b.block.sheet.items b.inner → IsRuleSpot (body_layer other b'.block) 0 0 b'.block.sheet.items b'.inner → InnerPair Apart source s other t z z'
  inner_side z z' h h' pair same b b' r r' = with_block b'.block b'.inner r' b'.spot b'.occurrence (sym yours_here)
    where
      m : BlockPair Apart source s other t b.index
      m = match_at Apart source other (opened_of s source) (kept_items s) (opened_of t other) (kept_items t) matches b.index (inl (some_opened (opened_at (opened_in source s) b.index) b.block b.block_at))

      n : BlockPair Apart source s other t b'.index
      n = match_at Apart source other (opened_of s source) (kept_items s) (opened_of t other) (kept_items t) matches b'.index (inr (some_opened (opened_at (opened_in other t) b'.index) b'.block b'.block_at))

      mine_same : b.block ≡ m.mine
      mine_same = some-same (sym b.block_at ∙ m.mine_is)

      yours_there : b'.block ≡ n.yours
      yours_there = some-same (sym b'.block_at ∙ n.yours_is)

      pair' : is_paired z' ≡ true
      pair' = both_pairs z z' same pair

      -- the pair of the first sheet, in both bodies of its number
      up : b.index ≤ b'.index
      up =
          let p : Pair = pair_of_spot (body_layer source b.block) b.block.sheet.items b.inner r in
          let has : HasPair m.mine.sheet.items p =
          subst (λ (x : Media). HasPair x.sheet.items p) mine_same (place_of_spot (body_layer source b.block) b.block.sheet.items b.inner r, stands (body_layer source b.block) b.block.sheet.items b.inner r) in
          let label : pair_label (Some (normal_head (kept_text other m.yours.head))) p ≡ label_at z' =
          ap (λ (x : List ℕ). pair_label (Some (normal_head x)) p) (sym m.heads ∙ ap (λ (x : Media). kept_text source x.head) (sym mine_same)) ∙ sym (inner_label source b.block z b.inner b.occurrence r) ∙ same in
          reaches other t b.index m.y m.yours p z' b'.index b'.inner.spot m.yours_at m.yours_is ((m.agree.facts.pairs p).0 has) h' pair' label b'.spot

      down : b'.index ≤ b.index
      down =
          let p : Pair = pair_of_spot (body_layer other b'.block) b'.block.sheet.items b'.inner r' in
          let has : HasPair n.yours.sheet.items p =
          subst (λ (x : Media). HasPair x.sheet.items p) yours_there (place_of_spot (body_layer other b'.block) b'.block.sheet.items b'.inner r', stands (body_layer other b'.block) b'.block.sheet.items b'.inner r') in
          let label : pair_label (Some (normal_head (kept_text source n.mine.head))) p ≡ label_at z =
          ap (λ (x : List ℕ). pair_label (Some (normal_head x)) p) (n.heads ∙ ap (λ (x : Media). kept_text other x.head) (sym yours_there)) ∙ sym (inner_label other b'.block z' b'.inner b'.occurrence r') ∙ sym same in
          reaches source s b'.index n.x n.mine p z b.index b.inner.spot n.mine_at n.mine_is ((n.agree.facts.pairs p).1 has) h pair label b.spot

      number : b'.index ≡ b.index
      number = let u = up in let d = down in omega (arith, u, d)

      yours_here : m.yours ≡ b'.block
      yours_here = some-same (sym m.yours_is ∙ ap (opened_at (opened_in other t)) (sym number) ∙ b'.block_at)

      mine_last : IsLastSpot (body_layer source m.mine) m.mine.sheet.items (body_spots source m.mine) b.inner
      mine_last =
          last_inside source s b.index m.x m.mine z b.inner m.mine_at m.mine_is h pair b.spot b.occurrence
          (subst (λ (x : Media). IsRuleSpot (body_layer source x) 0 0 x.sheet.items b.inner) mine_same r)

      with_block : (x : Media) (a' : Spotted) → IsRuleSpot (body_layer other x) 0 0 x.sheet.items a' → z'.spot ≡ suc (b'.index + b'.index) ∷ a'.spot → z'.occurrence ≡ a'.occurrence → x ≡ m.yours → InnerPair Apart source s other t z z'
      with_block x a' rule spot is e =
          let moved : z'.spot ≡ suc (b.index + b.index) ∷ a'.spot = spot ∙ ap (λ (k : ℕ). suc (k + k) ∷ a'.spot) number in
          record {
            index = b.index;
            blocks = m;
            a = b.inner;
            b = a';
            mine_spot = b.spot;
            yours_spot = moved;
            mine_is = b.occurrence;
            yours_is = is;
            mine = mine_last;
            yours = last_inside other t b.index m.y m.yours z' a' m.yours_at m.yours_is h' pair' moved is (subst (λ (y : Media). IsRuleSpot (body_layer other y) 0 0 y.sheet.items a') e rule);
          }

  -- a pair that both have
  pub pair_side : (z z' : Spotted) → InSheet z → InOther z' → is_paired z ≡ true → label_at z ≡ label_at z' → Side Apart source s other t z z'
  pair_side z z' h h' pair same =
      which (found (outer_layer source s) 0 0 s (bodies_in source s) z (last_in (sheet_spots source s) z h)) (found (outer_layer other t) 0 0 t (bodies_in other t) z' (last_in (sheet_spots other t) z' h'))
    where
      pair' : is_paired z' ≡ true
      pair' = both_pairs z z' same pair

      clash : (o o' : Option (List ℕ)) (text : List ℕ) → o ≡ None → o' ≡ Some text → o ≡ o' → ⊥
      clash o o' text e f g = let x : None ≡ Some text = sym e ∙ g ∙ f in cc

      body_head : (text : List ℕ) (m : Media) (y a : Spotted) → y.occurrence ≡ a.occurrence → IsRuleSpot (body_layer text m) 0 0 m.sheet.items a → (label_at y).head ≡ Some (normal_head (kept_text text m.head))
      body_head text m y a is r = ap (λ o. (label_at (record { spot = []; occurrence = o })).head) is ∙ rule_head (body_layer text m) m.sheet.items a r

      unpaired : (y a : Spotted) → y.occurrence ≡ a.occurrence → is_paired y ≡ true → is_paired a ≡ false → ⊥
      unpaired y a is p k = true≢false (sym p ∙ ap (λ o. is_paired (record { spot = []; occurrence = o })) is ∙ k)

      inner : (b : IsInBody source s z) (b' : IsInBody other t z') → IsRuleSpot (body_layer source b.block) 0 0 b.block.sheet.items b.inner ⊎ IsKeptSpot (body_layer source b.block) 0 b.block.sheet.items [] b.inner →
          IsRuleSpot (body_layer other b'.block) 0 0 b'.block.sheet.items b'.inner ⊎ IsKeptSpot (body_layer other b'.block) 0 b'.block.sheet.items [] b'.inner → Side Apart source s other t z z'
      inner b b' (inl r) (inl r') = inr (inl (inner_side z z' h h' pair same b b' r r'))
      inner b b' (inr k) side = absurd (unpaired z b.inner b.occurrence pair (kept_unpaired (body_layer source b.block) b.block.sheet.items [] b.inner k))
      inner b b' (inl r) (inr k) = absurd (unpaired z' b'.inner b'.occurrence pair' (kept_unpaired (body_layer other b'.block) b'.block.sheet.items [] b'.inner k))

      mixed : IsRuleSpot (outer_layer source s) 0 0 s z → (b' : IsInBody other t z') → IsRuleSpot (body_layer other b'.block) 0 0 b'.block.sheet.items b'.inner ⊎ IsKeptSpot (body_layer other b'.block) 0 b'.block.sheet.items [] b'.inner → ⊥
      mixed r b' (inl r') =
          clash (label_at z).head (label_at z').head (normal_head (kept_text other b'.block.head)) (rule_head (outer_layer source s) s z r) (body_head other b'.block z' b'.inner b'.occurrence r') (ap (λ (l : Label). l.head) same)
      mixed r b' (inr k) = unpaired z' b'.inner b'.occurrence pair' (kept_unpaired (body_layer other b'.block) b'.block.sheet.items [] b'.inner k)

      mixed_too : IsRuleSpot (outer_layer other t) 0 0 t z' → (b : IsInBody source s z) → IsRuleSpot (body_layer source b.block) 0 0 b.block.sheet.items b.inner ⊎ IsKeptSpot (body_layer source b.block) 0 b.block.sheet.items [] b.inner → ⊥
      mixed_too r' b (inl r) =
          clash (label_at z').head (label_at z).head (normal_head (kept_text source b.block.head)) (rule_head (outer_layer other t) t z' r') (body_head source b.block z b.inner b.occurrence r) (ap (λ (l : Label). l.head) (sym same))
      mixed_too r' b (inr k) = unpaired z b.inner b.occurrence pair (kept_unpaired (body_layer source b.block) b.block.sheet.items [] b.inner k)

      which : IsSpot (outer_layer source s) 0 0 s (bodies_in source s) z → IsSpot (outer_layer other t) 0 0 t (bodies_in other t) z' → Side Apart source s other t z z'
      which (inl r) (inl r') = inl (record {
        mine = record { at = r; greatest = greatest (sheet_spots source s) (sheet_spots_ascend source s) z h pair };
        yours = record { at = r'; greatest = greatest (sheet_spots other t) (sheet_spots_ascend other t) z' h' pair' };
      })
      which (inr (inl k)) side = absurd (true≢false (sym pair ∙ kept_unpaired (outer_layer source s) s (bodies_in source s) z k))
      which (inl r) (inr (inl k')) = absurd (true≢false (sym pair' ∙ kept_unpaired (outer_layer other t) t (bodies_in other t) z' k'))
      which (inl r) (inr (inr i')) = let b' = in_body other t z' i' in absurd (mixed r b' b'.kind)
      which (inr (inr i)) (inl r') = let b = in_body source s z i in absurd (mixed_too r' b b.kind)
      which (inr (inr i)) (inr (inl k')) = absurd (true≢false (sym pair' ∙ kept_unpaired (outer_layer other t) t (bodies_in other t) z' k'))
      which (inr (inr i)) (inr (inr i')) = let b = in_body source s z i in let b' = in_body other t z' i' in inner b b' b.kind b'.kind

  -- a kept item that both have at one place
  pub kept_side : (z z' : Spotted) → Contains (sheet_spots source s) z → is_paired z ≡ false → z.spot ≡ z'.spot → Side Apart source s other t z z'
  kept_side z z' h kept same = inr (inr (which (found (outer_layer source s) 0 0 s (bodies_in source s) z h)))
    where
      number : (run index : ℕ) → run ≡ 0 + index → run ≡ index
      number run index e = omega (arith, e)

      inner : (b : IsInBody source s z) → IsRuleSpot (body_layer source b.block) 0 0 b.block.sheet.items b.inner ⊎ IsKeptSpot (body_layer source b.block) 0 b.block.sheet.items [] b.inner → KeptSame Apart source s other t z z'
      inner b (inl r) = absurd (true≢false (sym (rule_paired (body_layer source b.block) b.block.sheet.items b.inner r) ∙ ap (λ o. is_paired (record { spot = []; occurrence = o })) (sym b.occurrence) ∙ kept))
      inner b (inr k) =
          let m : BlockPair Apart source s other t b.index =
          match_at Apart source other (opened_of s source) (kept_items s) (opened_of t other) (kept_items t) matches b.index (inl (some_opened (opened_at (opened_in source s) b.index) b.block b.block_at)) in
          let e : b.block ≡ m.mine = some-same (sym b.block_at ∙ m.mine_is) in
          record {
            same = same;
            item = k.item;
            part = ap (λ o. o.part) b.occurrence ∙ ap (λ (x : Spotted). x.occurrence.part) k.is;
            place = inr (
              b.index,
              k.index,
              m,
              subst (λ (x : Media). slice_get (kept_items x.sheet.items) k.index ≡ Some k.item) e k.at,
              b.spot ∙ ap (λ (u : List ℕ). suc (b.index + b.index) ∷ u) (ap (λ (x : Spotted). x.spot) k.is ∙ ap (λ (n : ℕ). suc (n + n) ∷ []) (number k.run k.index k.run_is)),
            );
          }

      which : IsSpot (outer_layer source s) 0 0 s (bodies_in source s) z → KeptSame Apart source s other t z z'
      which (inl r) = absurd (true≢false (sym (rule_paired (outer_layer source s) s z r) ∙ kept))
      which (inr (inl k)) = record {
        same = same;
        item = k.item;
        part = ap (λ (x : Spotted). x.occurrence.part) k.is;
        place = inl (k.index, k.at, ap (λ (x : Spotted). x.spot) k.is ∙ ap (λ (n : ℕ). suc (n + n) ∷ []) (number k.run k.index k.run_is));
      }
      which (inr (inr i)) = let b = in_body source s z i in inner b b.kind
