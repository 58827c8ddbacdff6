-- A step taken in parts: the rules lifted out, and what is left of them put in their places.
use Rattle.std.proofs.Common.{◌≡◌, ℕ, zero, suc, ◌+◌, ◌<◌, ◌≤◌, List, [], ◌∷◌, length, set, Some, refl, sym, ap, ap₂, subst, ◌∙◌, arith}
use Rattle.std.specs.Prelude.{slice_get}
use Rattle.std.specs.List.{remove}
use Rattle.css_model.specs.declared.sheet.DeclItem.{DeclItem}
use Rattle.css_model.specs.declared.sheet.Item.{Item}
use Rattle.css_model.specs.declared.sheet.Item.TheVariants.{Rule}
use Rattle.css_model.specs.declared.sheet.SelItem.{SelItem}
use Rattle.css_model.specs.Sheets.RuleParts.{RuleParts}
use Rattle.pending_laws.specs.declared.way.Way.{Way}
use Rattle.pending_laws.specs.declared.way.Way.TheVariants.{Up, Down}
use Rattle.pending_laws.specs.Ways.{IsMove, mover}
use Rattle.merge_steps.specs.StepParts.{IsCutKind, IsJoinKind}
use Rattle.order_laws.specs.Edits.{Change, Edit, edited, slots_from}
use Rattle.order_laws.specs.Slots.{new_items}
use Rattle.step_laws.specs.declared.step.Step.{Step}
use Rattle.step_laws.specs.declared.step.Step.TheVariants.{CutDecl, CutSel, JoinSelUp, JoinSelDown, JoinDeclUp, JoinDeclDown, Share}
use Rattle.step_laws.specs.RuleParting.{common_decls, item_if_any, rule_or_none, without_decls}
use Rattle.step_laws.specs.Steps.{IsStep, HasStep, edit_of, first_item, last_item}
use Rattle.step_savings.proofs.ForCallers.{edit_is}
use Rattle.indexed_sheet.specs.declared.marks.Mark.{Mark}
use Rattle.indexed_sheet.specs.IndexedParts.{IndexedParts}
use Rattle.indexed_sheet.specs.MarkList.{IsOrderKeyAt, order_keys_of}
use Rattle.indexed_sheet.specs.Marking.{AreKept, AreRenewed, HasOrderKeyBefore, HasOrderKeyFor}
use Rattle.indexed_sheet.specs.Putting.{put_at, placeholder}
use Rattle.indexed_sheet.proofs.EditPuts.{change, one_put, two_put, kept_one, kept_two}
use Rattle.indexed_sheet.proofs.Puts.{put_over, put_over_both, put_none_map, put_one_map}

abbrev IsRuleAt : List Item → ℕ → RuleParts → Type 0
IsRuleAt items n r = slice_get items n ≡ Some (Rule r)

-- ---- The rules of a step

pub in_order : (items : List Item) (k : Step) → IsJoinKind k → HasStep items k → first_item k < last_item k
in_order items (CutDecl n i) join (e, is) = absurd join
in_order items (CutSel n i) join (e, is) = absurd join
in_order items (JoinSelUp x y) join (e, is) = is.rules.in_order
in_order items (JoinSelDown x y) join (e, is) = is.rules.in_order
in_order items (JoinDeclUp x y) join (e, is) = is.rules.in_order
in_order items (JoinDeclDown x y) join (e, is) = is.rules.in_order
in_order items (Share x y) join (e, is) = is.rules.in_order

cut_last : (k : Step) → IsCutKind k → first_item k ≡ last_item k
cut_last (CutDecl n i) cut = refl
cut_last (CutSel n i) cut = refl
cut_last (JoinSelUp x y) cut = absurd cut
cut_last (JoinSelDown x y) cut = absurd cut
cut_last (JoinDeclUp x y) cut = absurd cut
cut_last (JoinDeclDown x y) cut = absurd cut
cut_last (Share x y) cut = absurd cut

pub get_other : (items : List Item) (x y : ℕ) (p : Item) → x < y → slice_get (set items x p) y ≡ slice_get items y
get_other [] x y p less = refl
get_other (z ∷ items) x zero p less = absurd (omega (arith, less))
get_other (z ∷ items) zero (suc y) p less = refl
get_other (z ∷ items) (suc x) (suc y) p less = get_other items x y p (omega (arith, less))

-- ---- How many items are left of a rule

few_left : (r : RuleParts) → length (rule_or_none r) ≤ 1
few_left r = which r.selectors r.decls
  where
    which : (selectors : List SelItem) (decls : List DeclItem) → length (item_if_any selectors decls r) ≤ 1
    which [] decls = omega arith
    which (s ∷ selectors) [] = omega arith
    which (s ∷ selectors) (d ∷ decls) = omega arith

abbrev pub first_by : List Change → List Item
first_by [] = []
first_by (c ∷ changes) = c.by

abbrev pub second_by : List Change → List Item
second_by [] = []
second_by (c ∷ changes) = first_by changes

-- of an upper rule, or of one that is cut, at most one
pub few_above : (k : Step) (u l : RuleParts) (above : List Item) (changes : List Change) → (edit_of k u l).changes ≡ change (first_item k) above ∷ changes → length above ≤ 1
few_above k u l above changes is = subst (λ (items : List Item). length items ≤ 1) (ap first_by is) (which k)
  where
    which : (k : Step) → length (first_by (edit_of k u l).changes) ≤ 1
    which (CutDecl n i) = few_left _
    which (CutSel n i) = few_left _
    which (JoinSelUp x y) = omega arith
    which (JoinSelDown x y) = omega arith
    which (JoinDeclUp x y) = omega arith
    which (JoinDeclDown x y) = omega arith
    which (Share x y) = few_left _

-- of a lower rule at most two
pub few_below : (k : Step) (u l : RuleParts) (above below : List Item) → (edit_of k u l).changes ≡ change (first_item k) above ∷ change (last_item k) below ∷ [] → length below ≤ 2
few_below k u l above below is = subst (λ (items : List Item). length items ≤ 2) (ap second_by is) (which k)
  where
    which : (k : Step) → length (second_by (edit_of k u l).changes) ≤ 2
    which (CutDecl n i) = omega arith
    which (CutSel n i) = omega arith
    which (JoinSelUp x y) = omega arith
    which (JoinSelDown x y) = omega arith
    which (JoinDeclUp x y) = omega arith
    which (JoinDeclDown x y) = omega arith
    which (Share x y) = let h : length (rule_or_none (without_decls (common_decls u l) l)) ≤ 1 = few_left (without_decls (common_decls u l) l) in omega (arith, h)

-- two in the place of the lower rule, where the step is a share
pub order_key_for : (k : Step) (u l : RuleParts) (above below : List Item) (marks : List Mark) → (edit_of k u l).changes ≡ change (first_item k) above ∷ change (last_item k) below ∷ [] →
    HasOrderKeyFor marks k → 1 < length below → HasOrderKeyBefore marks (last_item k)
order_key_for k u l above below marks is has more = which k has (subst (λ (items : List Item). 1 < length items) (sym (ap second_by is)) more)
  where
    which : (k : Step) → HasOrderKeyFor marks k → 1 < length (second_by (edit_of k u l).changes) → HasOrderKeyBefore marks (last_item k)
    which (CutDecl n i) has many = absurd (omega (arith, many))
    which (CutSel n i) has many = absurd (omega (arith, many))
    which (JoinSelUp x y) has many = absurd (omega (arith, many))
    which (JoinSelDown x y) has many = absurd (omega (arith, many))
    which (JoinDeclUp x y) has many = absurd (omega (arith, many))
    which (JoinDeclDown x y) has many = absurd (omega (arith, many))
    which (Share x y) has many = has

-- ---- Order keys behind a join

length_one : (ms : List Mark) → length ms ≡ 1 → (m : Mark) × (ms ≡ m ∷ [])
length_one [] e = absurd (let f : 0 ≡ 1 = e in omega (arith, f))
length_one (m ∷ []) e = (m, refl)
length_one (m ∷ l ∷ ms) e = absurd (let f : suc (suc (length ms)) ≡ 1 = e in omega (arith, f))

-- one in the place of another one leaves all order keys
one_renewed : (old new : List Mark) (next n count : ℕ) → count ≡ 1 → AreRenewed old new next n count → order_keys_of new ≡ order_keys_of old
one_renewed old new next n count one r =
    let w : (m : Mark) × (r.made ≡ m ∷ []) = length_one r.made (r.count_is ∙ one) in
    let at : IsOrderKeyAt old w.0.order_key n = r.order_key w.0 w.1 in
    ap order_keys_of (r.is ∙ ap (λ (made : List Mark). put_at n made old) w.1) ∙ put_one_map (λ (m : Mark). m.order_key) n w.0 at.0 old at.1 at.2

-- and none in its place takes its order key
none_renewed : (old new : List Mark) (next n count : ℕ) → count ≡ 0 → AreRenewed old new next n count → order_keys_of new ≡ remove (order_keys_of old) n
none_renewed old new next n count none r = which r.made (r.count_is ∙ none) r.is
  where
    which : (made : List Mark) → length made ≡ 0 → new ≡ put_at n made old → order_keys_of new ≡ remove (order_keys_of old) n
    which [] e is = ap order_keys_of is ∙ put_none_map (λ (m : Mark). m.order_key) n old
    which (m ∷ made) e is = absurd (let f : suc (length made) ≡ 0 = e in omega (arith, f))

order_keys_behind : (k : Step) (u l : RuleParts) (above below : List Item) (old between new : List Mark) (next next' : ℕ) → (edit_of k u l).changes ≡ change (first_item k) above ∷ change (last_item k) below ∷ [] →
    AreRenewed old between next (last_item k) (length below) → AreRenewed between new next' (first_item k) (length above) →
    (way : Way) → IsMove way k → order_keys_of new ≡ remove (order_keys_of old) (mover way k)
order_keys_behind k u l above below old between new next next' is lower upper way move = which k way move refl (sym (ap first_by is)) (sym (ap second_by is))
  where
    up : (j : Step) → k ≡ j → length above ≡ 1 → length below ≡ 0 → order_keys_of new ≡ remove (order_keys_of old) (last_item j)
    up j same one none =
        one_renewed between new next' (first_item k) (length above) one upper
        ∙ subst (λ (i : Step). order_keys_of between ≡ remove (order_keys_of old) (last_item i)) same (none_renewed old between next (last_item k) (length below) none lower)

    down : (j : Step) → k ≡ j → length above ≡ 0 → length below ≡ 1 → order_keys_of new ≡ remove (order_keys_of old) (first_item j)
    down j same none one =
        subst (λ (i : Step). order_keys_of new ≡ remove (order_keys_of between) (first_item i)) same (none_renewed between new next' (first_item k) (length above) none upper)
        ∙ ap (λ (order_keys : List ℕ). remove order_keys (first_item j)) (one_renewed old between next (last_item k) (length below) one lower)

    which : (j : Step) (way : Way) → IsMove way j → k ≡ j → above ≡ first_by (edit_of j u l).changes → below ≡ second_by (edit_of j u l).changes → order_keys_of new ≡ remove (order_keys_of old) (mover way j)
    which (JoinSelUp x y) Up move same one none = up (JoinSelUp x y) same (ap length one) (ap length none)
    which (JoinDeclUp x y) Up move same one none = up (JoinDeclUp x y) same (ap length one) (ap length none)
    which (JoinSelDown x y) Down move same none one = down (JoinSelDown x y) same (ap length none) (ap length one)
    which (JoinDeclDown x y) Down move same none one = down (JoinDeclDown x y) same (ap length none) (ap length one)
    which (CutDecl n i) Up move same e f = absurd move
    which (CutSel n i) Up move same e f = absurd move
    which (JoinSelDown x y) Up move same e f = absurd move
    which (JoinDeclDown x y) Up move same e f = absurd move
    which (Share x y) Up move same e f = absurd move
    which (CutDecl n i) Down move same e f = absurd move
    which (CutSel n i) Down move same e f = absurd move
    which (JoinSelUp x y) Down move same e f = absurd move
    which (JoinDeclUp x y) Down move same e f = absurd move
    which (Share x y) Down move same e f = absurd move

-- a join puts one item in
pub one_made : (k : Step) (u l : RuleParts) (above below : List Item) → (edit_of k u l).changes ≡ change (first_item k) above ∷ change (last_item k) below ∷ [] →
    (way : Way) → IsMove way k → length above + length below ≡ 1
one_made k u l above below is way move = which k way move (ap first_by is) (ap second_by is)
  where
    sum : (m n : ℕ) → m ≡ length above → n ≡ length below → m + n ≡ 1 → length above + length below ≡ 1
    sum m n e f one = omega (arith, e, f, one)

    which : (j : Step) (way : Way) → IsMove way j → first_by (edit_of j u l).changes ≡ above → second_by (edit_of j u l).changes ≡ below → length above + length below ≡ 1
    which (JoinSelUp x y) way move e f = sum 1 0 (ap length e) (ap length f) refl
    which (JoinSelDown x y) way move e f = sum 0 1 (ap length e) (ap length f) refl
    which (JoinDeclUp x y) way move e f = sum 1 0 (ap length e) (ap length f) refl
    which (JoinDeclDown x y) way move e f = sum 0 1 (ap length e) (ap length f) refl
    which (CutDecl n i) Up move e f = absurd move
    which (CutSel n i) Up move e f = absurd move
    which (Share x y) Up move e f = absurd move
    which (CutDecl n i) Down move e f = absurd move
    which (CutSel n i) Down move e f = absurd move
    which (Share x y) Down move e f = absurd move

-- ---- A cut

-- A cut in parts: its rule, the indexed sheet with the rule lifted out, and with what is left of it.
pub record CutInParts (old lifted new : IndexedParts) (k : Step) (n : ℕ) (r : RuleParts) (by : List Item) : Type 0 where
  pub cut : IsCutKind k
  pub number : n ≡ first_item k
  pub rule_at : slice_get old.items n ≡ Some (Rule r)
  pub as_many : length old.marks ≡ length old.items
  pub lifted_items : lifted.items ≡ set old.items n placeholder
  pub lifted_marks : lifted.marks ≡ old.marks
  pub lifted_next : lifted.next ≡ old.next
  pub changes : (edit_of k r r).changes ≡ change (first_item k) by ∷ []
  pub items : new.items ≡ put_at n by lifted.items
  pub marks : AreRenewed lifted.marks new.marks lifted.next n (length by)

cut_changes : (old lifted new : IndexedParts) (k : Step) (n : ℕ) (r : RuleParts) (by : List Item) → CutInParts old lifted new k n r by → (e : Edit) → IsStep old.items k e → e.changes ≡ change n by ∷ []
cut_changes old lifted new k n r by c e is =
    ap (λ (d : Edit). d.changes) (sym (edit_is old.items k r r
    (subst (λ (i : ℕ). IsRuleAt old.items i r) c.number c.rule_at) (subst (λ (i : ℕ). IsRuleAt old.items i r) (c.number ∙ cut_last k c.cut) c.rule_at) e is))
    ∙ c.changes ∙ ap (λ (i : ℕ). change i by ∷ []) (sym c.number)

pub cut_items : (old lifted new : IndexedParts) (k : Step) (n : ℕ) (r : RuleParts) (by : List Item) → CutInParts old lifted new k n r by → (e : Edit) → IsStep old.items k e → new.items ≡ edited e old.items
cut_items old lifted new k n r by c e is =
    c.items ∙ ap (put_at n by) c.lifted_items ∙ put_over n by placeholder old.items
    ∙ sym (ap (λ (cs : List Change). new_items (slots_from 0 cs old.items)) (cut_changes old lifted new k n r by c e is) ∙ one_put n by old.items)

pub cut_marks : (old lifted new : IndexedParts) (k : Step) (n : ℕ) (r : RuleParts) (by : List Item) → CutInParts old lifted new k n r by → (e : Edit) → IsStep old.items k e → AreKept old new e
cut_marks old lifted new k n r by c e is =
    kept_one old new e n by (cut_changes old lifted new k n r by c e is) c.as_many
    (subst (λ (next : ℕ). AreRenewed old.marks new.marks next n (length by)) c.lifted_next
    (subst (λ (ms : List Mark). AreRenewed ms new.marks lifted.next n (length by)) c.lifted_marks c.marks))

-- ---- A step of two rules

pub record TwoInParts (old lifted again between new : IndexedParts) (k : Step) (x y : ℕ) (u l : RuleParts) (above below : List Item) : Type 0 where
  pub join : IsJoinKind k
  pub first : x ≡ first_item k
  pub last : y ≡ last_item k
  pub upper_at : slice_get old.items x ≡ Some (Rule u)
  pub lower_at : slice_get lifted.items y ≡ Some (Rule l)
  pub as_many : length old.marks ≡ length old.items
  pub lifted_items : lifted.items ≡ set old.items x placeholder
  pub lifted_marks : lifted.marks ≡ old.marks
  pub lifted_next : lifted.next ≡ old.next
  pub again_items : again.items ≡ set lifted.items y placeholder
  pub again_marks : again.marks ≡ lifted.marks
  pub again_next : again.next ≡ lifted.next
  pub changes : (edit_of k u l).changes ≡ change (first_item k) above ∷ change (last_item k) below ∷ []
  pub between_items : between.items ≡ put_at y below again.items
  pub between_marks : AreRenewed again.marks between.marks again.next y (length below)
  pub between_next : between.next ≡ again.next + length below
  pub items : new.items ≡ put_at x above between.items
  pub marks : AreRenewed between.marks new.marks between.next x (length above)

less_of : (items : List Item) (k : Step) (x y : ℕ) → x ≡ first_item k → y ≡ last_item k → IsJoinKind k → (e : Edit) → IsStep items k e → x < y
less_of items k x y first last join e is = (let h : first_item k < last_item k = in_order items k join (e, is) in omega (arith, h, first, last))

two_changes_are : (old lifted again between new : IndexedParts) (k : Step) (x y : ℕ) (u l : RuleParts) (above below : List Item) → TwoInParts old lifted again between new k x y u l above below →
    (e : Edit) → IsStep old.items k e → e.changes ≡ change x above ∷ change y below ∷ []
two_changes_are old lifted again between new k x y u l above below t e is =
    let less : x < y = less_of old.items k x y t.first t.last t.join e is in
    let lower_at : slice_get old.items y ≡ Some (Rule l) = sym (get_other old.items x y placeholder less) ∙ ap (λ (items : List Item). slice_get items y) (sym t.lifted_items) ∙ t.lower_at in
    ap (λ (d : Edit). d.changes) (sym (edit_is old.items k u l
    (subst (λ (i : ℕ). IsRuleAt old.items i u) t.first t.upper_at) (subst (λ (i : ℕ). IsRuleAt old.items i l) t.last lower_at) e is))
    ∙ t.changes ∙ ap₂ (λ (i j : ℕ). change i above ∷ change j below ∷ []) (sym t.first) (sym t.last)

pub two_items : (old lifted again between new : IndexedParts) (k : Step) (x y : ℕ) (u l : RuleParts) (above below : List Item) → TwoInParts old lifted again between new k x y u l above below →
    (e : Edit) → IsStep old.items k e → new.items ≡ edited e old.items
two_items old lifted again between new k x y u l above below t e is =
    let less : x < y = less_of old.items k x y t.first t.last t.join e is in
    t.items ∙ ap (put_at x above) (t.between_items ∙ ap (put_at y below) (t.again_items ∙ ap (λ (items : List Item). set items y placeholder) t.lifted_items))
    ∙ put_over_both x y above below placeholder placeholder old.items less
    ∙ sym (ap (λ (cs : List Change). new_items (slots_from 0 cs old.items)) (two_changes_are old lifted again between new k x y u l above below t e is) ∙ two_put x y above below old.items less)

pub two_marks : (old lifted again between new : IndexedParts) (k : Step) (x y : ℕ) (u l : RuleParts) (above below : List Item) → TwoInParts old lifted again between new k x y u l above below →
    (e : Edit) → IsStep old.items k e → AreKept old new e
two_marks old lifted again between new k x y u l above below t e is =
    kept_two old between new e x y above below (less_of old.items k x y t.first t.last t.join e is) (two_changes_are old lifted again between new k x y u l above below t e is) t.as_many
    (subst (λ (next : ℕ). AreRenewed old.marks between.marks next y (length below)) (t.again_next ∙ t.lifted_next)
    (subst (λ (ms : List Mark). AreRenewed ms between.marks again.next y (length below)) (t.again_marks ∙ t.lifted_marks) t.between_marks))
    (omega (arith, t.between_next, t.again_next, t.lifted_next)) t.marks

pub two_order_keys : (old lifted again between new : IndexedParts) (k : Step) (x y : ℕ) (u l : RuleParts) (above below : List Item) → TwoInParts old lifted again between new k x y u l above below →
    (way : Way) → IsMove way k → order_keys_of new.marks ≡ remove (order_keys_of old.marks) (mover way k)
two_order_keys old lifted again between new k x y u l above below t =
    order_keys_behind k u l above below old.marks between.marks new.marks again.next between.next t.changes
    (subst (λ (i : ℕ). AreRenewed old.marks between.marks again.next i (length below)) t.last
    (subst (λ (ms : List Mark). AreRenewed ms between.marks again.next y (length below)) (t.again_marks ∙ t.lifted_marks) t.between_marks))
    (subst (λ (i : ℕ). AreRenewed between.marks new.marks between.next i (length above)) t.first t.marks)
