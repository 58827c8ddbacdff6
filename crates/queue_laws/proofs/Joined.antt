-- What tables cover behind a join.
use Rattle.std.proofs.Common.{◌≡◌, ◌≢◌, ◌⊎◌, ℕ, zero, suc, ◌<◌, not, List, [], ◌∷◌, ◌++◌, Some, None, refl, sym, ap, ◌∙◌, subst, inl, inr, arith}
use Rattle.std.specs.Prelude.{slice_get}
use Rattle.std.specs.List.{Contains, filter, flat_map, remove}
use Rattle.std.proofs.lemmas.List.Elements.{Contains-append_cases}
use Rattle.cascade_laws.proofs.ForCallers.{some-same}
use Rattle.css_model.specs.declared.sheet.DeclItem.{DeclItem}
use Rattle.css_model.specs.declared.sheet.Item.{Item}
use Rattle.css_model.specs.declared.sheet.Item.TheVariants.{Rule}
use Rattle.css_model.specs.declared.sheet.SelItem.{SelItem}
use Rattle.css_model.specs.Sheets.RuleParts.{RuleParts}
use Rattle.css_model.specs.Sheets.StyleRule.{joined}
use Rattle.pending_laws.specs.declared.way.Way.{Way}
use Rattle.pending_laws.specs.declared.way.Way.TheVariants.{Up, Down}
use Rattle.pending_laws.specs.Ways.{mover, partner, IsMove}
use Rattle.queue_laws.specs.Beside.{CoverFollows, CoverIsOfEach}
use Rattle.queue_laws.specs.MarkNames.{IsMarked}
use Rattle.queue_laws.proofs.Covered.{of_one, one_covered, other_order_key, to_one}
use Rattle.queue_laws.proofs.Kept.{from_map, to_map}
use Rattle.list_facts.proofs.Members.{Contains-filter}
use Rattle.order_laws.proofs.ForCallers.{map_from, map_has}
use Rattle.order_laws.specs.Edits.{Change, Edit, edited, slots_from}
use Rattle.order_laws.specs.Members.{has_selector}
use Rattle.order_laws.specs.Slots.{new_items}
use Rattle.indexed_sheet.specs.declared.marks.Mark.{Mark}
use Rattle.indexed_sheet.specs.IndexedParts.{IndexedParts}
use Rattle.indexed_sheet.specs.MarkList.{order_keys_of}
use Rattle.indexed_sheet.specs.Putting.{put_at}
use Rattle.indexed_sheet.proofs.ForCallers.{put_none, two_put}
use Rattle.rule_tables.specs.declared.entries.Entry.{Entry}
use Rattle.rule_tables.specs.Digests.{decl_digest, selector_digest}
use Rattle.rule_tables.specs.Entries.{decl_entries, entry, selector_entries}
use Rattle.rule_tables.specs.StepPartners.{RulesAreOrderKeyed}
use Rattle.rule_tables.specs.Tables.{Cover, PutsRule, TableParts, TakesRule, entries_by_decl, entries_by_selector, order_keyed, with_order_key}
use Rattle.step_laws.specs.declared.step.Step.{Step}
use Rattle.step_laws.specs.declared.step.Step.TheVariants.{CutDecl, CutSel, JoinSelUp, JoinSelDown, JoinDeclUp, JoinDeclDown, Share}
use Rattle.step_laws.specs.RuleParting.{both_selectors}
use Rattle.step_laws.specs.Steps.{IsStep}

-- ---- Where what is left stood

-- beside each other in two lists, in another place than this one
record StoodAt {X Y : Type 0} (n : ℕ) (xs : List X) (ys : List Y) (x : X) (y : Y) : Type 0 where
  pub number : ℕ
  pub apart : n ≢ number
  pub x_at : slice_get xs number ≡ Some x
  pub y_at : slice_get ys number ≡ Some y

stood : {X Y : Type 0} (n k : ℕ) (xs : List X) (ys : List Y) (x : X) (y : Y) → slice_get (put_at n [] xs) k ≡ Some x → slice_get (put_at n [] ys) k ≡ Some y → StoodAt n xs ys x y
stood n k [] ys x y x_at y_at = absurd (let e : None ≡ Some x = x_at in cc)
stood n k (a ∷ xs) [] x y x_at y_at = absurd (let e : None ≡ Some y = y_at in cc)
stood zero k (a ∷ xs) (b ∷ ys) x y x_at y_at = record { number = suc k; apart = (λ h. absurd (let f : 0 ≡ suc k = h in omega (arith, f))); x_at = x_at; y_at = y_at }
stood (suc n) zero (a ∷ xs) (b ∷ ys) x y x_at y_at = record { number = 0; apart = (λ h. absurd (let f : suc n ≡ 0 = h in omega (arith, f))); x_at = x_at; y_at = y_at }
stood (suc n) (suc k) (a ∷ xs) (b ∷ ys) x y x_at y_at =
    let w : StoodAt n xs ys x y = stood n k xs ys x y x_at y_at in
    record { number = suc w.number; apart = (λ h. w.apart (let f : suc n ≡ suc w.number = h in omega (arith, f))); x_at = w.x_at; y_at = w.y_at }

-- where one element was put in the place of another one
put_or_left : {X : Type 0} (n k : ℕ) (a : X) (xs : List X) (x : X) → slice_get (put_at n (a ∷ []) xs) k ≡ Some x → (slice_get xs k ≡ Some x) ⊎ ((k ≡ n) × (x ≡ a))
put_or_left n k a [] x at = inl at
put_or_left zero zero a (b ∷ xs) x at = inr (refl, sym (some-same at))
put_or_left zero (suc k) a (b ∷ xs) x at = inl at
put_or_left (suc n) zero a (b ∷ xs) x at = inl at
put_or_left {X} (suc n) (suc k) a (b ∷ xs) x at = which (put_or_left n k a xs x at)
  where
    which : (slice_get xs k ≡ Some x) ⊎ ((k ≡ n) × (x ≡ a)) → (slice_get xs k ≡ Some x) ⊎ ((suc k ≡ suc n) × (x ≡ a))
    which (inl left) = inl left
    which (inr here) = inr (ap suc here.0, here.1)

before : {X : Type 0} (n k : ℕ) (xs : List X) → k < n → slice_get (put_at n [] xs) k ≡ slice_get xs k
before n k [] less = refl
before zero k (b ∷ xs) less = absurd (omega (arith, less))
before (suc n) zero (b ∷ xs) less = refl
before (suc n) (suc k) (b ∷ xs) less = before n k xs (omega (arith, less))

-- ---- What stands behind a join

-- an item stood with its order key, and is not the one that moved, or it was made and has the order key of the other one
abbrev Comes : List Item → List ℕ → (moved other : ℕ) → (made x : Item) → ℕ → Type 0
Comes items order_keys moved other made x order_key = StoodAt moved items order_keys x order_key ⊎ ((slice_get order_keys other ≡ Some order_key) × (x ≡ made))

comes_up : (items : List Item) (order_keys : List ℕ) (x y k : ℕ) (made z : Item) (order_key : ℕ) → x < y → slice_get (put_at x (made ∷ []) (put_at y [] items)) k ≡ Some z → slice_get (put_at y [] order_keys) k ≡ Some order_key →
    Comes items order_keys y x made z order_key
comes_up items order_keys x y k made z order_key less z_at order_key_at = which (put_or_left x k made (put_at y [] items) z z_at)
  where
    which : (slice_get (put_at y [] items) k ≡ Some z) ⊎ ((k ≡ x) × (z ≡ made)) → Comes items order_keys y x made z order_key
    which (inl at) = inl (stood y k items order_keys z order_key at order_key_at)
    which (inr here) = inr (sym (before y x order_keys less) ∙ subst (λ (i : ℕ). slice_get (put_at y [] order_keys) i ≡ Some order_key) here.0 order_key_at, here.1)

comes_down : (items : List Item) (order_keys : List ℕ) (x y k : ℕ) (made z : Item) (order_key : ℕ) → slice_get (put_at x [] (put_at y (made ∷ []) items)) k ≡ Some z → slice_get (put_at x [] order_keys) k ≡ Some order_key →
    Comes items order_keys x y made z order_key
comes_down items order_keys x y k made z order_key z_at order_key_at = which (put_or_left y w.number made items z w.x_at)
  where
    w : StoodAt x (put_at y (made ∷ []) items) order_keys z order_key
    w = stood x k (put_at y (made ∷ []) items) order_keys z order_key z_at order_key_at

    which : (slice_get items w.number ≡ Some z) ⊎ ((w.number ≡ y) × (z ≡ made)) → Comes items order_keys x y made z order_key
    which (inl at) = inl (record { number = w.number; apart = w.apart; x_at = at; y_at = w.y_at })
    which (inr here) = inr (subst (λ (i : ℕ). slice_get order_keys i ≡ Some order_key) here.0 w.y_at, here.1)

-- ---- What a join makes

-- the parts of a rule are those of two others
record IsOfBoth (made r q : RuleParts) : Type 0 where
  pub selectors : (s : SelItem) → Contains made.selectors s → Contains r.selectors s ⊎ Contains q.selectors s
  pub decls : (d : DeclItem) → Contains made.decls d → Contains r.decls d ⊎ Contains q.decls d

turned : {A B : Type 0} → A ⊎ B → B ⊎ A
turned (inl a) = inr a
turned (inr b) = inl b

of_both_selectors : (u l : RuleParts) (s : SelItem) → Contains (both_selectors u l) s → Contains u.selectors s ⊎ Contains l.selectors s
of_both_selectors u l s h = which (Contains-append_cases u.selectors (filter (λ s. not (has_selector u.selectors s.selector)) l.selectors) s h)
  where
    which : Contains u.selectors s ⊎ Contains (filter (λ s. not (has_selector u.selectors s.selector)) l.selectors) s → Contains u.selectors s ⊎ Contains l.selectors s
    which (inl above) = inl above
    which (inr new) = inr (Contains-filter (λ s. not (has_selector u.selectors s.selector)) l.selectors s new).0

of_decls : (u l : RuleParts) (d : DeclItem) → Contains (u.decls ++ l.decls) d → Contains u.decls d ⊎ Contains l.decls d
of_decls u l d h = Contains-append_cases u.decls l.decls d h

-- the rule that moves, the one that it moves into, what they become, and what stands behind it
record IsJoined (items : List Item) (order_keys : List ℕ) (moved other : ℕ) (e : Edit) : Type 0 where
  pub mine : RuleParts
  pub theirs : RuleParts
  pub made : RuleParts
  pub mine_at : slice_get items moved ≡ Some (Rule mine)
  pub theirs_at : slice_get items other ≡ Some (Rule theirs)
  pub apart : moved ≢ other
  pub of_both : IsOfBoth made mine theirs
  pub comes : (n : ℕ) (x : Item) (order_key : ℕ) → slice_get (edited e items) n ≡ Some x → slice_get (remove order_keys moved) n ≡ Some order_key → Comes items order_keys moved other (Rule made) x order_key

abbrev change : ℕ → List Item → Change
change n by = record { at = n; by = by }

join_up : (items : List Item) (order_keys : List ℕ) (x y : ℕ) (e : Edit) (u l made : RuleParts) → slice_get items x ≡ Some (Rule u) → slice_get items y ≡ Some (Rule l) → x < y →
    e.changes ≡ change x (Rule made ∷ []) ∷ change y [] ∷ [] → IsOfBoth made l u → IsJoined items order_keys y x e
join_up items order_keys x y e u l made u_at l_at less is both = record {
  mine = l;
  theirs = u;
  made = made;
  mine_at = l_at;
  theirs_at = u_at;
  apart = λ same. absurd (omega (arith, less, same));
  of_both = both;
  comes = λ n z order_key z_at order_key_at. comes_up items order_keys x y n (Rule made) z order_key less (ap (λ (xs : List Item). slice_get xs n) (sym put) ∙ z_at) (ap (λ (ls : List ℕ). slice_get ls n) (sym (put_none y order_keys)) ∙ order_key_at);
}
  where
    put : edited e items ≡ put_at x (Rule made ∷ []) (put_at y [] items)
    put = ap (λ (cs : List Change). new_items (slots_from 0 cs items)) is ∙ two_put x y (Rule made ∷ []) [] items less

join_down : (items : List Item) (order_keys : List ℕ) (x y : ℕ) (e : Edit) (u l made : RuleParts) → slice_get items x ≡ Some (Rule u) → slice_get items y ≡ Some (Rule l) → x < y →
    e.changes ≡ change x [] ∷ change y (Rule made ∷ []) ∷ [] → IsOfBoth made u l → IsJoined items order_keys x y e
join_down items order_keys x y e u l made u_at l_at less is both = record {
  mine = u;
  theirs = l;
  made = made;
  mine_at = u_at;
  theirs_at = l_at;
  apart = λ same. absurd (omega (arith, less, same));
  of_both = both;
  comes = λ n z order_key z_at order_key_at. comes_down items order_keys x y n (Rule made) z order_key (ap (λ (xs : List Item). slice_get xs n) (sym put) ∙ z_at) (ap (λ (ls : List ℕ). slice_get ls n) (sym (put_none x order_keys)) ∙ order_key_at);
}
  where
    put : edited e items ≡ put_at x [] (put_at y (Rule made ∷ []) items)
    put = ap (λ (cs : List Change). new_items (slots_from 0 cs items)) is ∙ two_put x y [] (Rule made ∷ []) items less

is_joined : (way : Way) (items : List Item) (order_keys : List ℕ) (k : Step) (e : Edit) → IsMove way k → IsStep items k e → IsJoined items order_keys (mover way k) (partner way k) e
is_joined Up items order_keys (JoinSelUp x y) e move j = join_up items order_keys x y e j.upper j.lower (joined j.upper j.lower) j.rules.upper_at j.rules.lower_at j.rules.in_order (ap (λ (d : Edit). d.changes) j.is)
    (record { selectors = λ s h. inr h; decls = λ d h. turned (of_decls j.upper j.lower d h) })
is_joined Up items order_keys (JoinDeclUp x y) e move j = join_up items order_keys x y e j.upper j.lower (record { selectors = both_selectors j.upper j.lower; decls = j.upper.decls }) j.rules.upper_at j.rules.lower_at j.rules.in_order (ap (λ (d : Edit). d.changes) j.is)
    (record { selectors = λ s h. turned (of_both_selectors j.upper j.lower s h); decls = λ d h. inr h })
is_joined Down items order_keys (JoinSelDown x y) e move j = join_down items order_keys x y e j.upper j.lower (record { selectors = j.lower.selectors; decls = j.upper.decls ++ j.lower.decls }) j.rules.upper_at j.rules.lower_at j.rules.in_order (ap (λ (d : Edit). d.changes) j.is)
    (record { selectors = λ s h. inr h; decls = of_decls j.upper j.lower })
is_joined Down items order_keys (JoinDeclDown x y) e move j = join_down items order_keys x y e j.upper j.lower (record { selectors = both_selectors j.upper j.lower; decls = j.lower.decls }) j.rules.upper_at j.rules.lower_at j.rules.in_order (ap (λ (d : Edit). d.changes) j.is)
    (record { selectors = of_both_selectors j.upper j.lower; decls = λ d h. inr h })
is_joined Up items order_keys (CutDecl n i) e move j = absurd move
is_joined Up items order_keys (CutSel n i) e move j = absurd move
is_joined Up items order_keys (JoinSelDown x y) e move j = absurd move
is_joined Up items order_keys (JoinDeclDown x y) e move j = absurd move
is_joined Up items order_keys (Share x y) e move j = absurd move
is_joined Down items order_keys (CutDecl n i) e move j = absurd move
is_joined Down items order_keys (CutSel n i) e move j = absurd move
is_joined Down items order_keys (JoinSelUp x y) e move j = absurd move
is_joined Down items order_keys (JoinDeclUp x y) e move j = absurd move
is_joined Down items order_keys (Share x y) e move j = absurd move

-- ---- The tables

-- a rule was put in under the order key of another one, and taken out under its own
module _ (tables put later : TableParts) (r : RuleParts) (own order_key : ℕ) (puts : PutsRule tables r order_key put) (takes : TakesRule put r own later) where
  -- entries with other order keys than its own stay
  selector_stays : (e : Entry) → e.order_key ≢ own → Contains put.selectors e → Contains later.selectors e
  selector_stays e other has = (takes.selectors e).1 (has, λ gone. (let w = map_from (λ (s : SelItem). entry (selector_digest s.selector) own) r.selectors e gone in other (sym (ap (λ (x : Entry). x.order_key) w.2))))

  decl_stays : (e : Entry) → e.order_key ≢ own → Contains put.decls e → Contains later.decls e
  decl_stays e other has = (takes.decls e).1 (has, λ gone. (let w = map_from (λ (d : DeclItem). entry (decl_digest d.decl) own) r.decls e gone in other (sym (ap (λ (x : Entry). x.order_key) w.2))))

  -- so that a rule with another order key stays covered
  left_covered : (q : RuleParts) (l : ℕ) → l ≢ own → Cover tables (with_order_key q l ∷ []) → Cover later (with_order_key q l ∷ [])
  left_covered q l other cover = record {
    selectors = λ e h. (let w = map_from (λ (s : SelItem). entry (selector_digest s.selector) l) q.selectors e (of_one entries_by_selector (with_order_key q l) e h) in
        selector_stays e (subst (λ (n : ℕ). n ≢ own) (ap (λ (x : Entry). x.order_key) w.2) other) ((puts.selectors e).1 (inl (cover.selectors e h))));
    decls = λ e h. (let w = map_from (λ (d : DeclItem). entry (decl_digest d.decl) l) q.decls e (of_one entries_by_decl (with_order_key q l) e h) in
        decl_stays e (subst (λ (n : ℕ). n ≢ own) (ap (λ (x : Entry). x.order_key) w.2) other) ((puts.decls e).1 (inl (cover.decls e h))));
  }

  -- and what both rules became is covered
  made_covered : (q made : RuleParts) → order_key ≢ own → IsOfBoth made r q → Cover tables (with_order_key q order_key ∷ []) → Cover later (with_order_key made order_key ∷ [])
  made_covered q made other both cover = record { selectors = selectors; decls = decls }
    where
      selectors : (e : Entry) → Contains (flat_map entries_by_selector (with_order_key made order_key ∷ [])) e → Contains later.selectors e
      selectors e h = (let w = map_from (λ (s : SelItem). entry (selector_digest s.selector) order_key) made.selectors e (of_one entries_by_selector (with_order_key made order_key) e h) in
          selector_stays e (subst (λ (n : ℕ). n ≢ own) (ap (λ (x : Entry). x.order_key) w.2) other) ((puts.selectors e).1 (which w.0 w.2 (both.selectors w.0 w.1))))
        where
          which : (s : SelItem) → entry (selector_digest s.selector) order_key ≡ e → Contains r.selectors s ⊎ Contains q.selectors s → Contains tables.selectors e ⊎ Contains (selector_entries order_key r.selectors) e
          which s is (inl mine) = inr (subst (λ (x : Entry). Contains (selector_entries order_key r.selectors) x) is (map_has (λ (s : SelItem). entry (selector_digest s.selector) order_key) r.selectors s mine))
          which s is (inr theirs) = inl (cover.selectors e (to_one entries_by_selector (with_order_key q order_key) e
              (subst (λ (x : Entry). Contains (selector_entries order_key q.selectors) x) is (map_has (λ (s : SelItem). entry (selector_digest s.selector) order_key) q.selectors s theirs))))

      decls : (e : Entry) → Contains (flat_map entries_by_decl (with_order_key made order_key ∷ [])) e → Contains later.decls e
      decls e h = (let w = map_from (λ (d : DeclItem). entry (decl_digest d.decl) order_key) made.decls e (of_one entries_by_decl (with_order_key made order_key) e h) in
          decl_stays e (subst (λ (n : ℕ). n ≢ own) (ap (λ (x : Entry). x.order_key) w.2) other) ((puts.decls e).1 (which w.0 w.2 (both.decls w.0 w.1))))
        where
          which : (d : DeclItem) → entry (decl_digest d.decl) order_key ≡ e → Contains r.decls d ⊎ Contains q.decls d → Contains tables.decls e ⊎ Contains (decl_entries order_key r.decls) e
          which d is (inl mine) = inr (subst (λ (x : Entry). Contains (decl_entries order_key r.decls) x) is (map_has (λ (d : DeclItem). entry (decl_digest d.decl) order_key) r.decls d mine))
          which d is (inr theirs) = inl (cover.decls e (to_one entries_by_decl (with_order_key q order_key) e
              (subst (λ (x : Entry). Contains (decl_entries order_key q.decls) x) is (map_has (λ (d : DeclItem). entry (decl_digest d.decl) order_key) q.decls d theirs))))

-- ---- The rules behind a join

order_keys_apart : (b : IndexedParts) → IsMarked b → (i j l m : ℕ) → slice_get (order_keys_of b.marks) i ≡ Some l → slice_get (order_keys_of b.marks) j ≡ Some m → i ≢ j → l ≢ m
order_keys_apart b marked i j l m l_at m_at apart same =
    let a : (x : Mark) × (slice_get b.marks i ≡ Some x) × (x.order_key ≡ l) = from_map (λ (x : Mark). x.order_key) b.marks i l l_at in
    let o : (x : Mark) × (slice_get b.marks j ≡ Some x) × (x.order_key ≡ m) = from_map (λ (x : Mark). x.order_key) b.marks j m m_at in
    other_order_key b.marks marked.0.ascend i j a.0 o.0 a.1 o.1 apart (a.2 ∙ same ∙ sym o.2)

rule_same : (items : List Item) (n : ℕ) (r q : RuleParts) → slice_get items n ≡ Some (Rule r) → slice_get items n ≡ Some (Rule q) → r ≡ q
rule_same items n r q at at' = cc

same_rule : (r q : RuleParts) → Rule r ≡ Rule q → r ≡ q
same_rule r q is = cc

pub follows : CoverIsOfEach → RulesAreOrderKeyed → (way : Way) (b : IndexedParts) (k : Step) (e : Edit) (r : RuleParts) (own order_key : ℕ) (tables put later : TableParts) → IsMarked b → IsMove way k → IsStep b.items k e →
    slice_get b.items (mover way k) ≡ Some (Rule r) → slice_get (order_keys_of b.marks) (mover way k) ≡ Some own → slice_get (order_keys_of b.marks) (partner way k) ≡ Some order_key →
    PutsRule tables r order_key put → TakesRule put r own later → CoverFollows way b k e tables later
follows each are_order_keyed way b k e r own order_key tables put later marked move is r_at own_at order_key_at puts takes new items order_keys cover = each new later one
  where
    j : IsJoined b.items (order_keys_of b.marks) (mover way k) (partner way k) e
    j = is_joined way b.items (order_keys_of b.marks) k e move is

    covered : (n l : ℕ) (q : RuleParts) → slice_get b.items n ≡ Some (Rule q) → slice_get (order_keys_of b.marks) n ≡ Some l → Cover tables (with_order_key q l ∷ [])
    covered n l q q_at l_at = one_covered tables (order_keyed b.items (order_keys_of b.marks)) (with_order_key q l) cover (are_order_keyed b.items (order_keys_of b.marks) n q l q_at l_at)

    mine : IsOfBoth j.made r j.theirs
    mine = subst (λ (q : RuleParts). IsOfBoth j.made q j.theirs) (rule_same b.items (mover way k) j.mine r j.mine_at r_at) j.of_both

    made : Cover later (with_order_key j.made order_key ∷ [])
    made = made_covered tables put later r own order_key puts takes j.theirs j.made (order_keys_apart b marked (partner way k) (mover way k) order_key own order_key_at own_at (λ same. j.apart (sym same)))
        mine (covered (partner way k) order_key j.theirs j.theirs_at order_key_at)

    one : (n : ℕ) (m : Mark) (q : RuleParts) → slice_get new.marks n ≡ Some m → slice_get new.items n ≡ Some (Rule q) → Cover later (with_order_key q m.order_key ∷ [])
    one n m q m_at q_at = which (j.comes n (Rule q) m.order_key (subst (λ (xs : List Item). slice_get xs n ≡ Some (Rule q)) items q_at)
        (subst (λ (ls : List ℕ). slice_get ls n ≡ Some m.order_key) order_keys (to_map (λ (x : Mark). x.order_key) new.marks n m m_at)))
      where
        which : Comes b.items (order_keys_of b.marks) (mover way k) (partner way k) (Rule j.made) (Rule q) m.order_key → Cover later (with_order_key q m.order_key ∷ [])
        which (inl w) = left_covered tables put later r own order_key puts takes q m.order_key (order_keys_apart b marked w.number (mover way k) m.order_key own w.y_at own_at (λ same. w.apart (sym same)))
            (covered w.number m.order_key q w.x_at w.y_at)
        which (inr here) = subst (λ (x : RuleParts). Cover later (with_order_key x m.order_key ∷ [])) (sym (same_rule q j.made here.1))
            (subst (λ (l : ℕ). Cover later (with_order_key j.made l ∷ [])) (some-same (sym order_key_at ∙ here.0)) made)
