-- The marks of an indexed sheet name its items.
use Rattle.std.proofs.Common.{◌≡◌, ◌≢◌, ◌⊎◌, ℕ, ◌<◌, ◌≤◌, List, [], ◌∷◌, length, get_or, map, Some, refl, sym, ap, ◌∙◌, subst, inl, inr, arith}
use Rattle.std.specs.Prelude.{slice_get}
use Rattle.std.specs.List.{AllPairs}
use Rattle.std.specs.Option.{option_map}
use Rattle.std.proofs.lemmas.List.{get_or-map, length-map}
use Rattle.std.proofs.lemmas.List.Elements.{All-map}
use Rattle.std.proofs.lemmas.Option.{slice_get-map, slice_get_within}
use Rattle.css_model.specs.declared.sheet.Item.{Item}
use Rattle.pending_laws.specs.ItemIds.{AreItemIds, AreCreatedBehind}
use Rattle.pending_laws.specs.Candidates.{Candidate, OrderKeysStay}
use Rattle.pending_laws.specs.Priorities.{AreOrderKeys}
use Rattle.queue_laws.specs.MarkNames.{MarksAreNames, IsMarked, pending_of}
use Rattle.queue_laws.specs.Reindexed.{AreRenamed}
use Rattle.list_facts.proofs.Options.{mapped}
use Rattle.order_laws.specs.Edits.{Edit, edited}
use Rattle.indexed_sheet.specs.declared.marks.Mark.{Mark}
use Rattle.indexed_sheet.specs.IndexedParts.{IndexedParts}
use Rattle.indexed_sheet.specs.MarkList.{item_ids_of, order_keys_of}
use Rattle.indexed_sheet.specs.Marking.{AreKept, IsLeft}
use Rattle.plan_laws.specs.Barrier.Hindering.{Watched}
use Rattle.plan_laws.specs.Barrier.Renumbering.{new_number}
use Rattle.plan_laws.specs.Barrier.SideBySide.{HasCome}

-- ---- What stands beside each element

pairs_map : {X Y : Type 0} (R : Y → Y → Type 0) (f : X → Y) (xs : List X) → AllPairs (λ x y. R (f x) (f y)) xs → AllPairs R (map f xs)
pairs_map {X} {Y} R f xs all i j e before inside = which xs refl
  where
    which : (ys : List X) → xs ≡ ys → R (get_or (map f xs) i e) (get_or (map f xs) j e)
    which [] none = absurd (let n : length (map f xs) ≡ 0 = ap (λ (zs : List X). length (map f zs)) none in omega (arith, n, inside))
    which (x ∷ ys) some =
        let less : j < length xs = omega (arith, inside, length-map xs f) in
        subst (λ (y : Y). R y (get_or (map f xs) j e)) (sym (get_or-map f xs i x e (omega (arith, before, less))))
        (subst (λ (y : Y). R (f (get_or xs i x)) y) (sym (get_or-map f xs j x e less)) (all i j x before less))

pub from_map : {X Y : Type 0} (f : X → Y) (xs : List X) (n : ℕ) (y : Y) → slice_get (map f xs) n ≡ Some y → (x : X) × (slice_get xs n ≡ Some x) × (f x ≡ y)
from_map f xs n y at = mapped f (slice_get xs n) y (sym (slice_get-map f xs n) ∙ at)

pub to_map : {X Y : Type 0} (f : X → Y) (xs : List X) (n : ℕ) (x : X) → slice_get xs n ≡ Some x → slice_get (map f xs) n ≡ Some (f x)
to_map f xs n x at = slice_get-map f xs n ∙ ap (option_map f) at

-- what stands beside elements that are kept is kept
pub map_kept : {X Y : Type 0} (f : X → Y) (xs ys : List X) (to : ℕ → ℕ) (n : ℕ) (y : Y) → ((x : X) → slice_get xs n ≡ Some x → slice_get ys (to n) ≡ Some x) → slice_get (map f xs) n ≡ Some y → slice_get (map f ys) (to n) ≡ Some y
map_kept {X} {Y} f xs ys to n y kept at =
    let w : (x : X) × (slice_get xs n ≡ Some x) × (f x ≡ y) = from_map f xs n y at in
    to_map f ys (to n) w.0 (kept w.0 w.1) ∙ ap (λ (z : Y). Some z) w.2

-- ---- Names

pub are_names : (b : IndexedParts) → IsMarked b → AreItemIds b.items (item_ids_of b.marks) b.next × AreOrderKeys b.items (order_keys_of b.marks)
are_names b (are, as_many) = (
  record {
    beside = length-map b.marks (λ (m : Mark). m.item_id) ∙ as_many;
    differ = pairs_map (λ (x y : ℕ). x ≢ y) (λ (m : Mark). m.item_id) b.marks are.differ;
    past = All-map (λ (x : ℕ). x < b.next) (λ (m : Mark). m.item_id) b.marks are.past;
  },
  record {
    beside = length-map b.marks (λ (m : Mark). m.order_key) ∙ as_many;
    ascend = pairs_map (λ (x y : ℕ). x < y) (λ (m : Mark). m.order_key) b.marks are.ascend;
  },
)

module _ (names : MarksAreNames) (old new : IndexedParts) (e : Edit) (marked : IsMarked old) (marked' : IsMarked new) (are : AreKept old new e) (items : new.items ≡ edited e old.items) (later : old.next ≤ new.next) where
  item_ids : AreItemIds (edited e old.items) (item_ids_of new.marks) new.next
  item_ids = subst (λ (xs : List Item). AreItemIds xs (item_ids_of new.marks) new.next) items (names new marked').0

  order_keys : AreOrderKeys (edited e old.items) (order_keys_of new.marks)
  order_keys = subst (λ (xs : List Item). AreOrderKeys xs (order_keys_of new.marks)) items (names new marked').1

  created : (m b : ℕ) → slice_get (item_ids_of new.marks) m ≡ Some b → (old.next ≤ b) ⊎ HasCome e old.items m
  created m b at = which (from_map (λ (x : Mark). x.item_id) new.marks m b at)
    where
      which : (x : Mark) × (slice_get new.marks m ≡ Some x) × (x.item_id ≡ b) → (old.next ≤ b) ⊎ HasCome e old.items m
      which (x, x_at, same) = left (are.created m x x_at)
        where
          left : (old.next ≤ x.item_id) ⊎ IsLeft old e m x → (old.next ≤ b) ⊎ HasCome e old.items m
          left (inl young) = inl (subst (λ (n : ℕ). old.next ≤ n) same young)
          left (inr l) = inr (l.number, l.leaves, (let w = slice_get_within old.marks l.number x l.mark_at in let s = marked.1 in omega (arith, w, s)), sym l.is)

  created_behind : AreCreatedBehind old.items e (item_ids_of old.marks) (item_ids_of new.marks) old.next
  created_behind = record {
    beside = item_ids.beside;
    kept = λ n b leaves at. map_kept (λ (x : Mark). x.item_id) old.marks new.marks (new_number e old.items) n b (λ x x_at. are.kept n x leaves x_at) at;
    created = created;
  }

  order_keys_stay : OrderKeysStay old.items e (order_keys_of old.marks) (order_keys_of new.marks)
  order_keys_stay n l leaves at = map_kept (λ (x : Mark). x.order_key) old.marks new.marks (new_number e old.items) n l (λ x x_at. are.kept n x leaves x_at) at

  pub renamed : (candidates candidates' : List Candidate) (watched watched' : List Watched) → AreRenamed old.items e (pending_of old candidates watched) (pending_of new candidates' watched')
  renamed candidates candidates' watched watched' = record { item_ids = item_ids; order_keys = order_keys; created = created_behind; order_keys_stay = order_keys_stay; later = later }
