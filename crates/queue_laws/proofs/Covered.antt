-- What code keeps beside an indexed sheet, behind an edit.
use Rattle.std.proofs.Common.{◌≡◌, ◌≢◌, ◌⊎◌, ℕ, ◌<◌, ◌≤◌, List, [], ◌∷◌, length, get_or, Some, sym, ap, ◌∙◌, subst, inl, inr, arith}
use Rattle.std.specs.Prelude.{slice_get}
use Rattle.std.specs.List.{Contains, flat_map}
use Rattle.std.proofs.lemmas.Bool.{cases_lt}
use Rattle.std.proofs.lemmas.Option.{slice_get-get_or, slice_get_within, get_or_from_slice_get}
use Rattle.css_model.specs.declared.sheet.Item.{Item}
use Rattle.css_model.specs.declared.sheet.Item.TheVariants.{Rule}
use Rattle.css_model.specs.Sheets.RuleParts.{RuleParts}
use Rattle.queue_laws.specs.Beside.{CoverIsOfEach, AreHomes, HaveOtherOrderKeysThan, StayCovered}
use Rattle.queue_laws.specs.MarkNames.{IsMarked}
use Rattle.queue_laws.proofs.Kept.{from_map, to_map}
use Rattle.queue_laws.proofs.StepNames.{left_apart}
use Rattle.list_facts.proofs.Members.{Contains-here, Contains-nil, Contains-cons_cases}
use Rattle.order_laws.specs.Edits.{Edit, edited}
use Rattle.order_laws.proofs.ForCallers.{flat_map_has, flat_map_from}
use Rattle.indexed_sheet.specs.declared.marks.Mark.{Mark}
use Rattle.indexed_sheet.specs.IndexedParts.{IndexedParts}
use Rattle.indexed_sheet.specs.MarkList.{Ascends, order_keys_of}
use Rattle.indexed_sheet.specs.Marking.{AreKept, IsLeft}
use Rattle.rule_tables.specs.StepPartners.{RulesAreOrderKeyed, OrderKeyedRulesStand}
use Rattle.rule_tables.specs.Tables.{TableParts, OrderKeyed, Cover, order_keyed, with_order_key, entries_by_selector, entries_by_decl}
use Rattle.step_laws.specs.declared.step.Step.{Step}
use Rattle.step_laws.specs.Steps.{IsStep, first_item, last_item}
use Rattle.plan_laws.specs.Barrier.Renumbering.{new_number, ItemsStay}

-- ---- Covered rules, one by one

-- what one element brings
pub of_one : {X Y : Type 0} (f : X → List Y) (x : X) (y : Y) → Contains (flat_map f (x ∷ [])) y → Contains (f x) y
of_one {X} {Y} f x y h = which (flat_map_from f (x ∷ []) y h)
  where
    which : (z : X) × Contains (x ∷ []) z × Contains (f z) y → Contains (f x) y
    which (z, among, brings) = same (Contains-cons_cases x [] z among)
      where
        same : (x ≡ z) ⊎ Contains [] z → Contains (f x) y
        same (inl e) = subst (λ (w : X). Contains (f w) y) (sym e) brings
        same (inr none) = absurd (Contains-nil z none)

pub to_one : {X Y : Type 0} (f : X → List Y) (x : X) (y : Y) → Contains (f x) y → Contains (flat_map f (x ∷ [])) y
to_one f x y h = flat_map_has f (x ∷ []) x y (Contains-here x []) h

pub one_covered : (tables : TableParts) (rules : List OrderKeyed) (x : OrderKeyed) → Cover tables rules → Contains rules x → Cover tables (x ∷ [])
one_covered tables rules x cover among = record {
  selectors = λ e h. cover.selectors e (flat_map_has entries_by_selector rules x e among (of_one entries_by_selector x e h));
  decls = λ e h. cover.decls e (flat_map_has entries_by_decl rules x e among (of_one entries_by_decl x e h));
}

all_covered : (tables : TableParts) (rules : List OrderKeyed) → ((x : OrderKeyed) → Contains rules x → Cover tables (x ∷ [])) → Cover tables rules
all_covered tables rules all = record {
  selectors = λ e h. let w = flat_map_from entries_by_selector rules e h in (all w.0 w.1).selectors e (to_one entries_by_selector w.0 e w.2);
  decls = λ e h. let w = flat_map_from entries_by_decl rules e h in (all w.0 w.1).decls e (to_one entries_by_decl w.0 e w.2);
}

pub of_each : OrderKeyedRulesStand → (b : IndexedParts) (tables : TableParts) →
    ((n : ℕ) (m : Mark) (r : RuleParts) → slice_get b.marks n ≡ Some m → slice_get b.items n ≡ Some (Rule r) → Cover tables (with_order_key r m.order_key ∷ [])) →
    Cover tables (order_keyed b.items (order_keys_of b.marks))
of_each stand b tables each = all_covered tables (order_keyed b.items (order_keys_of b.marks)) one
  where
    one : (x : OrderKeyed) → Contains (order_keyed b.items (order_keys_of b.marks)) x → Cover tables (x ∷ [])
    one x among = at (stand b.items (order_keys_of b.marks) x.rule x.order_key among)
      where
        at : (n : ℕ) × (slice_get b.items n ≡ Some (Rule x.rule)) × (slice_get (order_keys_of b.marks) n ≡ Some x.order_key) → Cover tables (x ∷ [])
        at (n, item_at, order_key_at) =
            let w : (m : Mark) × (slice_get b.marks n ≡ Some m) × (m.order_key ≡ x.order_key) = from_map (λ (m : Mark). m.order_key) b.marks n x.order_key order_key_at in
            subst (λ (l : ℕ). Cover tables (with_order_key x.rule l ∷ [])) w.2 (each n w.0 x.rule w.1 item_at)

-- ---- Behind an edit

pub cover_on : CoverIsOfEach → RulesAreOrderKeyed → ItemsStay → (old new : IndexedParts) (e : Edit) (tables later : TableParts) → IsMarked old → AreKept old new e → new.items ≡ edited e old.items →
    Cover tables (order_keyed old.items (order_keys_of old.marks)) → StayCovered old e tables later →
    ((n : ℕ) (m : Mark) (r : RuleParts) → slice_get new.marks n ≡ Some m → slice_get new.items n ≡ Some (Rule r) → old.next ≤ m.item_id → Cover later (with_order_key r m.order_key ∷ [])) →
    Cover later (order_keyed new.items (order_keys_of new.marks))
cover_on each are_order_keyed stay old new e tables later marked are items cover left created = each new later one
  where
    one : (n : ℕ) (m : Mark) (r : RuleParts) → slice_get new.marks n ≡ Some m → slice_get new.items n ≡ Some (Rule r) → Cover later (with_order_key r m.order_key ∷ [])
    one n m r mark_at item_at = which (are.created n m mark_at)
      where
        which : (old.next ≤ m.item_id) ⊎ IsLeft old e n m → Cover later (with_order_key r m.order_key ∷ [])
        which (inl young) = created n m r mark_at item_at young
        which (inr l) =
            let within : l.number < length old.items = (let w = slice_get_within old.marks l.number m l.mark_at in let s = marked.1 in omega (arith, w, s)) in
            let x : Item = get_or old.items l.number (Rule r) in
            let before : slice_get old.items l.number ≡ Some x = slice_get-get_or old.items l.number (Rule r) within in
            let behind : slice_get (edited e old.items) (new_number e old.items l.number) ≡ Some x = stay e old.items l.number x l.leaves before in
            let there : slice_get (edited e old.items) (new_number e old.items l.number) ≡ Some (Rule r) =
            subst (λ (k : ℕ). slice_get (edited e old.items) k ≡ Some (Rule r)) l.is (subst (λ (xs : List Item). slice_get xs n ≡ Some (Rule r)) items item_at) in
            let rule_at : slice_get old.items l.number ≡ Some (Rule r) = before ∙ sym behind ∙ there in
            left l.number m r l.leaves l.mark_at rule_at
            (one_covered tables (order_keyed old.items (order_keys_of old.marks)) (with_order_key r m.order_key) cover
            (are_order_keyed old.items (order_keys_of old.marks) l.number r m.order_key rule_at (to_map (λ (y : Mark). y.order_key) old.marks l.number m l.mark_at)))

-- ---- With other order keys

order_keys_differ : (marks : List Mark) → Ascends marks → (i j : ℕ) (a b : Mark) → slice_get marks i ≡ Some a → slice_get marks j ≡ Some b → i < j → a.order_key < b.order_key
order_keys_differ marks ascend i j a b a_at b_at less =
    subst (λ (x : Mark). x.order_key < b.order_key) (get_or_from_slice_get marks i a a a_at)
    (subst (λ (x : Mark). (get_or marks i a).order_key < x.order_key) (get_or_from_slice_get marks j b a b_at) (ascend i j a less (slice_get_within marks j b b_at)))

-- items of different numbers have different order keys
pub other_order_key : (marks : List Mark) → Ascends marks → (i j : ℕ) (a b : Mark) → slice_get marks i ≡ Some a → slice_get marks j ≡ Some b → i ≢ j → a.order_key ≢ b.order_key
other_order_key marks ascend i j a b a_at b_at apart same = elim (cases_lt i j) [
  | inl l ↦ (let less : a.order_key < b.order_key = order_keys_differ marks ascend i j a b a_at b_at l in absurd (omega (arith, less, same)))
  | inr l ↦ elim (cases_lt j i) [
    | inl m ↦ (let less : b.order_key < a.order_key = order_keys_differ marks ascend j i b a b_at a_at m in absurd (omega (arith, less, same)))
    | inr m ↦ absurd (apart (omega (arith, l, m)))
  ]
]

pub others_covered : (b : IndexedParts) (k : Step) (e : Edit) (tables later : TableParts) → IsMarked b → IsStep b.items k e →
    ((rules : List OrderKeyed) → HaveOtherOrderKeysThan b.marks (first_item k) rules → HaveOtherOrderKeysThan b.marks (last_item k) rules → Cover tables rules → Cover later rules) →
    StayCovered b e tables later
others_covered b k e tables later marked is stay n m r leaves mark_at item_at covered =
    let apart : (n ≢ first_item k) × (n ≢ last_item k) = left_apart b.items k e n is leaves in
    stay (with_order_key r m.order_key ∷ []) (other (first_item k) apart.0) (other (last_item k) apart.1) covered
  where
    other : (i : ℕ) → n ≢ i → HaveOtherOrderKeysThan b.marks i (with_order_key r m.order_key ∷ [])
    other i apart own at x among same = which (Contains-cons_cases (with_order_key r m.order_key) [] x among)
      where
        which : (with_order_key r m.order_key ≡ x) ⊎ Contains [] x → ⊥
        which (inl is) = other_order_key b.marks marked.0.ascend n i m own mark_at at apart (ap (λ (y : OrderKeyed). y.order_key) is ∙ same)
        which (inr none) = Contains-nil x none

pub homes_on : (old new : IndexedParts) (e : Edit) (homes homes' : List ℕ) → IsMarked old → AreKept old new e → AreHomes old.marks homes →
    ((item_id order_key : ℕ) → item_id < old.next → slice_get homes item_id ≡ Some order_key → slice_get homes' item_id ≡ Some order_key) →
    ((n : ℕ) (m : Mark) → slice_get new.marks n ≡ Some m → old.next ≤ m.item_id → slice_get homes' m.item_id ≡ Some m.order_key) →
    AreHomes new.marks homes'
homes_on old new e homes homes' marked are here stay created n m at = which (are.created n m at)
  where
    which : (old.next ≤ m.item_id) ⊎ IsLeft old e n m → slice_get homes' m.item_id ≡ Some m.order_key
    which (inl young) = created n m at young
    which (inr l) = stay m.item_id m.order_key past (here l.number m l.mark_at)
      where
        past : m.item_id < old.next
        past = subst (λ (x : Mark). x.item_id < old.next) (get_or_from_slice_get old.marks l.number m m l.mark_at) (marked.0.past l.number m (slice_get_within old.marks l.number m l.mark_at))
