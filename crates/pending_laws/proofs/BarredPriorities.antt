-- The priorities of all steps that a barrier hinders.
use Rattle.std.proofs.Common.{◌≡◌, ◌⊎◌, ℕ, zero, suc, ◌+◌, ◌-◌, ◌<◌, ◌≤◌, Bool, true, false, if◌then◌else◌, List, [], ◌∷◌, length, refl, sym, ap, ap₂, ◌∙◌, subst, inl, inr, arith}
use Rattle.std.specs.Prelude.{slice_get, slice_index}
use Rattle.std.specs.List.{Contains, flat_map}
use Rattle.std.proofs.lemmas.Bool.{cases_lt, cond-true}
use Rattle.std.proofs.lemmas.Option.{slice_get_within}
use Rattle.std.proofs.lemmas.List.{length-append}
use Rattle.css_model.specs.declared.sheet.Decl.{Decl}
use Rattle.css_model.specs.declared.sheet.Item.{Item}
use Rattle.css_model.specs.declared.sheet.Item.TheVariants.{Rule}
use Rattle.css_model.specs.Cascade.Order.{Pair}
use Rattle.list_facts.proofs.Members.{Contains-here, Contains-there, Contains-nil, Contains-cons_cases}
use Rattle.order_laws.specs.Edits.{Edit}
use Rattle.order_laws.proofs.ForCallers.{flat_map_has, flat_map_from, map_has, map_from}
use Rattle.plan_laws.specs.Cover.{Priority}
use Rattle.step_laws.specs.declared.step.Step.{Step}
use Rattle.step_laws.specs.declared.step.Step.TheVariants.{CutDecl, CutSel, JoinSelUp, JoinSelDown, JoinDeclUp, JoinDeclDown, Share}
use Rattle.step_laws.specs.Free.{Answered, AreNotApart}
use Rattle.step_laws.specs.Sizes.{Saves}
use Rattle.step_laws.specs.Steps.{IsStep, first_item, last_item}
use Rattle.plan_laws.specs.Barrier.Hindering.{Hindrance, OfPair, Hinders, Watched}
use Rattle.plan_laws.specs.Barrier.Renumbering.{renumbered}
use Rattle.pending_laws.specs.ItemIds.{AreItemIds}
use Rattle.pending_laws.specs.declared.way.Way.{Way}
use Rattle.pending_laws.specs.declared.way.Way.TheVariants.{Up, Down}
use Rattle.pending_laws.specs.Priorities.{named}
use Rattle.pending_laws.specs.Scopes.{IsDownward, IsUp}
use Rattle.pending_laws.specs.Barred.{IsBarredBy, BarredMovesAreHindered}
use Rattle.pending_laws.specs.BarredPriorities.{numbers_from, numbers_past, barred_priorities, watched_as, watched_is}
use Rattle.pending_laws.specs.Ways.{is_rule_with, mover, moves_decl, moves_to, partner, IsPast, MovesPairs}
use Rattle.pending_laws.proofs.Created.{within}

-- ---- Numbers past one

is_among : (first count n : ℕ) → first ≤ n → n < first + count → Contains (numbers_from first count) n
is_among first zero n most less = absurd (omega (arith, most, less))
is_among first (suc count) n most less = which (cases_lt n (first + count)) (is_among first count n most)
  where
    which : (n < first + count) ⊎ (first + count ≤ n) → (n < first + count → Contains (numbers_from first count) n) → Contains ((first + count) ∷ numbers_from first count) n
    which (inl l) rest = Contains-there (first + count) (numbers_from first count) n (rest l)
    which (inr more) rest = let e : first + count ≡ n = omega (arith, more, less) in subst (Contains ((first + count) ∷ numbers_from first count)) e (Contains-here (first + count) (numbers_from first count))

among_is : (first count n : ℕ) → Contains (numbers_from first count) n → (first ≤ n) × (n < first + count)
among_is first zero n among = absurd (Contains-nil n among)
among_is first (suc count) n among = which (Contains-cons_cases (first + count) (numbers_from first count) n among) (among_is first count n)
  where
    which : (first + count ≡ n) ⊎ Contains (numbers_from first count) n → (Contains (numbers_from first count) n → (first ≤ n) × (n < first + count)) → (first ≤ n) × (n < first + suc count)
    which (inl e) rest = (omega (arith, e), omega (arith, e))
    which (inr h) rest = let w : (first ≤ n) × (n < first + count) = rest h in (w.0, (let less = w.1 in omega (arith, less)))

is_past : (way : Way) (place count n : ℕ) → n < count → IsPast way place n → Contains (numbers_past way place count) n
is_past Up place count n less past = is_among 0 place n (omega arith) (let l : n < place = past in omega (arith, l))
is_past Down place count n less past =
    let l : place < n = past in
    is_among (suc place) (count - suc place) n (omega (arith, l)) (omega (arith, l, less))

past_is : (way : Way) (place count n : ℕ) → place < count → Contains (numbers_past way place count) n → (n < count) × IsPast way place n
past_is Up place count n inside among = let w : (0 ≤ n) × (n < 0 + place) = among_is 0 place n among in let less : n < 0 + place = w.1 in (omega (arith, less, inside), (let l : n < place = omega (arith, less) in l))
past_is Down place count n inside among =
    let w : (suc place ≤ n) × (n < suc place + (count - suc place)) = among_is (suc place) (count - suc place) n among in
    let most : suc place ≤ n = w.0 in
    let less : n < suc place + (count - suc place) = w.1 in
    (omega (arith, less, inside), (let l : place < n = omega (arith, most) in l))

-- ---- What is among the priorities

-- the priority is that of a step from an item to another one, that saves so much
pub record IsMovePriority (items : List Item) (item_ids : List ℕ) (by : Hindrance) (d : Decl) (way : Way) (m place : ℕ) (a : Watched) : Type 0 where
  pub o : ℕ
  pub n : ℕ
  pub step : Step
  pub past : Contains (numbers_past way place (length items)) o
  pub move : Contains (moves_to items d way m o) step
  pub by_is : by ≡ a.by
  pub priority_is : a.priority ≡ named item_ids n step

move_priority : (items : List Item) (item_ids : List ℕ) (by : Hindrance) (d : Decl) (way : Way) (m place most : ℕ) (a : Watched) → Contains (barred_priorities items item_ids by d way m place most) a →
    IsMovePriority items item_ids by d way m place a
move_priority items item_ids by d way m place most a among =
    let w : (o : ℕ) × Contains (numbers_past way place (length items)) o × Contains (flat_map (watched_as item_ids by (moves_to items d way m o)) (numbers_from 0 (suc most))) a =
    flat_map_from (λ (o : ℕ). flat_map (watched_as item_ids by (moves_to items d way m o)) (numbers_from 0 (suc most))) (numbers_past way place (length items)) a among in
    let v : (n : ℕ) × Contains (numbers_from 0 (suc most)) n × Contains (watched_as item_ids by (moves_to items d way m w.0) n) a = flat_map_from (watched_as item_ids by (moves_to items d way m w.0)) (numbers_from 0 (suc most)) a w.2 in
    let u : (k : Step) × Contains (moves_to items d way m w.0) k × (watched_is item_ids by v.0 k ≡ a) = map_from (watched_is item_ids by v.0) (moves_to items d way m w.0) a v.2 in
    record { o = w.0; n = v.0; step = u.0; past = w.1; move = u.1; by_is = ap (λ (b : Watched). b.by) u.2; priority_is = sym (ap (λ (b : Watched). b.priority) u.2) }

-- ---- Which steps these are

-- one of them from an item to another one: of a share, the other rule has the declaration
pub record IsMoveTo (items : List Item) (d : Decl) (way : Way) (m o : ℕ) (k : Step) : Type 0 where
  pub move : MovesPairs way k
  pub moves : mover way k ≡ m
  pub into : partner way k ≡ o
  pub decl : moves_decl items k d ≡ true

one_of_two : (x y k : Step) → Contains (x ∷ y ∷ []) k → (x ≡ k) ⊎ (y ≡ k)
one_of_two x y k among = which (Contains-cons_cases x (y ∷ []) k among)
  where
    last : (y ≡ k) ⊎ Contains [] k → (x ≡ k) ⊎ (y ≡ k)
    last (inl e) = inr e
    last (inr none) = absurd (Contains-nil k none)

    which : (x ≡ k) ⊎ Contains (y ∷ []) k → (x ≡ k) ⊎ (y ≡ k)
    which (inl e) = inl e
    which (inr h) = last (Contains-cons_cases y [] k h)

if_it_has : (b : Bool) (k j : Step) → Contains (if b then k ∷ [] else []) j → (b ≡ true) × (k ≡ j)
if_it_has true k j among = which (Contains-cons_cases k [] j among)
  where
    which : (k ≡ j) ⊎ Contains [] j → (true ≡ true) × (k ≡ j)
    which (inl e) = (refl, e)
    which (inr none) = absurd (Contains-nil j none)
if_it_has false k j among = absurd (Contains-nil j among)

module _ (items : List Item) (d : Decl) (m o : ℕ) where
  -- the share, if there is one
  abbrev shares : List Step
  shares = if is_rule_with (slice_get items o) d then Share m o ∷ [] else []

  is_move_to : (way : Way) (k : Step) → Contains (moves_to items d way m o) k → IsMoveTo items d way m o k
  is_move_to Up k among = which (one_of_two (JoinSelUp o m) (JoinDeclUp o m) k among)
    where
      which : (JoinSelUp o m ≡ k) ⊎ (JoinDeclUp o m ≡ k) → IsMoveTo items d Up m o k
      which (inl e) = subst (IsMoveTo items d Up m o) e (record { move = tt; moves = refl; into = refl; decl = refl })
      which (inr e) = subst (IsMoveTo items d Up m o) e (record { move = tt; moves = refl; into = refl; decl = refl })
  is_move_to Down k among = first (Contains-cons_cases (JoinSelDown m o) (JoinDeclDown m o ∷ shares) k among)
    where
      shared : (is_rule_with (slice_get items o) d ≡ true) × (Share m o ≡ k) → IsMoveTo items d Down m o k
      shared (has, e) = subst (IsMoveTo items d Down m o) e (record { move = tt; moves = refl; into = refl; decl = has })

      second : (JoinDeclDown m o ≡ k) ⊎ Contains shares k → IsMoveTo items d Down m o k
      second (inl e) = subst (IsMoveTo items d Down m o) e (record { move = tt; moves = refl; into = refl; decl = refl })
      second (inr h) = shared (if_it_has (is_rule_with (slice_get items o) d) (Share m o) k h)

      first : (JoinSelDown m o ≡ k) ⊎ Contains (JoinDeclDown m o ∷ shares) k → IsMoveTo items d Down m o k
      first (inl e) = subst (IsMoveTo items d Down m o) e (record { move = tt; moves = refl; into = refl; decl = refl })
      first (inr h) = second (Contains-cons_cases (JoinDeclDown m o) shares k h)

  down_is_there : (k : Step) → IsDownward k → first_item k ≡ m → last_item k ≡ o → moves_decl items k d ≡ true → Contains (moves_to items d Down m o) k
  down_is_there (JoinSelDown x y) down first last decl = subst (Contains (moves_to items d Down m o)) (ap₂ JoinSelDown (sym first) (sym last))
      (Contains-here (JoinSelDown m o) (JoinDeclDown m o ∷ shares))
  down_is_there (JoinDeclDown x y) down first last decl = subst (Contains (moves_to items d Down m o)) (ap₂ JoinDeclDown (sym first) (sym last))
      (Contains-there (JoinSelDown m o) (JoinDeclDown m o ∷ shares) (JoinDeclDown m o) (Contains-here (JoinDeclDown m o) shares))
  down_is_there (Share x y) down first last decl =
      let has : is_rule_with (slice_get items o) d ≡ true = ap (λ (n : ℕ). is_rule_with (slice_get items n) d) (sym last) ∙ decl in
      subst (Contains (moves_to items d Down m o)) (ap₂ Share (sym first) (sym last))
      (Contains-there (JoinSelDown m o) (JoinDeclDown m o ∷ shares) (Share m o) (Contains-there (JoinDeclDown m o) shares (Share m o)
      (subst (λ (ks : List Step). Contains ks (Share m o)) (sym (cond-true (is_rule_with (slice_get items o) d) (Share m o ∷ []) [] has)) (Contains-here (Share m o) []))))
  down_is_there (CutDecl n i) down first last decl = absurd down
  down_is_there (CutSel n i) down first last decl = absurd down
  down_is_there (JoinSelUp x y) down first last decl = absurd down
  down_is_there (JoinDeclUp x y) down first last decl = absurd down

  up_is_there : (k : Step) → IsUp k → last_item k ≡ m → first_item k ≡ o → Contains (moves_to items d Up m o) k
  up_is_there (JoinSelUp x y) up last first = subst (Contains (moves_to items d Up m o)) (ap₂ JoinSelUp (sym first) (sym last)) (Contains-here (JoinSelUp o m) (JoinDeclUp o m ∷ []))
  up_is_there (JoinDeclUp x y) up last first = subst (Contains (moves_to items d Up m o)) (ap₂ JoinDeclUp (sym first) (sym last)) (Contains-there (JoinSelUp o m) (JoinDeclUp o m ∷ []) (JoinDeclUp o m) (Contains-here (JoinDeclUp o m) []))
  up_is_there (CutDecl n i) up last first = absurd up
  up_is_there (CutSel n i) up last first = absurd up
  up_is_there (JoinSelDown x y) up last first = absurd up
  up_is_there (JoinDeclDown x y) up last first = absurd up
  up_is_there (Share x y) up last first = absurd up

-- ---- A step with the names of another one is like it

abbrev named_step : List ℕ → Step → Step
named_step item_ids k = renumbered (λ n. slice_index item_ids n) k

-- it moves pairs in the same way, of an item and to an item of the same names, and is a share, too, or no share
pub record IsLike (item_ids : List ℕ) (way : Way) (j k : Step) : Type 0 where
  pub move : MovesPairs way k
  pub moves : slice_index item_ids (mover way j) ≡ slice_index item_ids (mover way k)
  pub into : slice_index item_ids (partner way j) ≡ slice_index item_ids (partner way k)
  pub decl : (items : List Item) (d : Decl) → last_item j ≡ last_item k → moves_decl items j d ≡ true → moves_decl items k d ≡ true

module _ (item_ids : List ℕ) where
  is_like_up : (j k : Step) → IsUp j → named_step item_ids j ≡ named_step item_ids k → IsLike item_ids Up j k
  is_like_up (JoinSelUp x y) (JoinSelUp u l) up same = record { move = tt; moves = (let e : slice_index item_ids y ≡ slice_index item_ids l = cc in e); into = (let e : slice_index item_ids x ≡ slice_index item_ids u = cc in e); decl = λ items d e has. refl }
  is_like_up (JoinDeclUp x y) (JoinDeclUp u l) up same = record { move = tt; moves = (let e : slice_index item_ids y ≡ slice_index item_ids l = cc in e); into = (let e : slice_index item_ids x ≡ slice_index item_ids u = cc in e); decl = λ items d e has. refl }
  is_like_up (JoinSelUp x y) k up same = absurd (cc)
  is_like_up (JoinDeclUp x y) k up same = absurd (cc)
  is_like_up (CutDecl n i) k up same = absurd up
  is_like_up (CutSel n i) k up same = absurd up
  is_like_up (JoinSelDown x y) k up same = absurd up
  is_like_up (JoinDeclDown x y) k up same = absurd up
  is_like_up (Share x y) k up same = absurd up

  is_like_down : (j k : Step) → IsDownward j → named_step item_ids j ≡ named_step item_ids k → IsLike item_ids Down j k
  is_like_down (JoinSelDown x y) (JoinSelDown u l) down same = record { move = tt; moves = (let e : slice_index item_ids x ≡ slice_index item_ids u = cc in e); into = (let e : slice_index item_ids y ≡ slice_index item_ids l = cc in e); decl = λ items d e has. refl }
  is_like_down (JoinDeclDown x y) (JoinDeclDown u l) down same = record { move = tt; moves = (let e : slice_index item_ids x ≡ slice_index item_ids u = cc in e); into = (let e : slice_index item_ids y ≡ slice_index item_ids l = cc in e); decl = λ items d e has. refl }
  is_like_down (Share x y) (Share u l) down same = record { move = tt; moves = (let e : slice_index item_ids x ≡ slice_index item_ids u = cc in e); into = (let e : slice_index item_ids y ≡ slice_index item_ids l = cc in e); decl = λ items d e has. ap (λ (n : ℕ). is_rule_with (slice_get items n) d) (sym e) ∙ has }
  is_like_down (JoinSelDown x y) k down same = absurd (cc)
  is_like_down (JoinDeclDown x y) k down same = absurd (cc)
  is_like_down (Share x y) k down same = absurd (cc)
  is_like_down (CutDecl n i) k down same = absurd down
  is_like_down (CutSel n i) k down same = absurd down
  is_like_down (JoinSelUp x y) k down same = absurd down
  is_like_down (JoinDeclUp x y) k down same = absurd down

  is_like : (way : Way) (j k : Step) → MovesPairs way j → named_step item_ids j ≡ named_step item_ids k → IsLike item_ids way j k
  is_like Up j k up same = is_like_up j k up same
  is_like Down j k down same = is_like_down j k down same

pub are_moves : (items : List Item) (item_ids : List ℕ) (by : Hindrance) (d : Decl) (way : Way) (m place most : ℕ) (a : Watched) → Contains (barred_priorities items item_ids by d way m place most) a →
    (by ≡ a.by) × ((k : Step) (n : ℕ) → a.priority ≡ named item_ids n k → MovesPairs way k × (slice_index item_ids m ≡ slice_index item_ids (mover way k)))
are_moves items item_ids by d way m place most a among =
    let t : IsMovePriority items item_ids by d way m place a = move_priority items item_ids by d way m place most a among in
    let u : IsMoveTo items d way m t.o t.step = is_move_to items d m t.o way t.step t.move in
    (t.by_is, λ k n same. (let l : IsLike item_ids way t.step k = is_like item_ids way t.step k u.move (ap (λ (v : Priority). v.step) (sym t.priority_is ∙ same)) in (l.move, ap (slice_index item_ids) (sym u.moves) ∙ l.moves)))

-- ---- Each such step is among them

pub moves_barred : (items : List Item) (item_ids : List ℕ) (by : Hindrance) (d : Decl) (way : Way) (m place most : ℕ) (k : Step) (n : ℕ) → MovesPairs way k → moves_decl items k d ≡ true →
    mover way k ≡ m → partner way k < length items → IsPast way place (partner way k) → n ≤ most →
    Contains (barred_priorities items item_ids by d way m place most) (record { priority = named item_ids n k; by = by })
moves_barred items item_ids by d way m place most k n move decl moves inside past few =
    flat_map_has (λ (o : ℕ). flat_map (watched_as item_ids by (moves_to items d way m o)) (numbers_from 0 (suc most))) (numbers_past way place (length items)) (partner way k) (watched_is item_ids by n k) (is_past way place (length items) (partner way k) inside past)
    (flat_map_has (watched_as item_ids by (moves_to items d way m (partner way k))) (numbers_from 0 (suc most)) n (watched_is item_ids by n k) (is_among 0 (suc most) n (omega arith) (omega (arith, few)))
    (map_has (watched_is item_ids by n) (moves_to items d way m (partner way k)) k (there way move moves)))
  where
    there : (v : Way) → MovesPairs v k → mover v k ≡ m → Contains (moves_to items d v m (partner v k)) k
    there Up up last = up_is_there items d m (first_item k) k up last refl
    there Down down first = down_is_there items d m (last_item k) k down first refl decl

-- ---- What has such a priority is hindered

-- both items of a barrier are there
barred_within : (way : Way) (items : List Item) (m place : ℕ) (p q : Pair) → IsBarredBy way items m place p q → (m < length items) × (place < length items)
barred_within Up items m place p q w =
    let long : length items ≡ length w.above + length w.below = ap length w.parts ∙ length-append w.above w.below in
    let inside : w.y < length w.below = slice_get_within w.below w.y (Rule w.lower) w.barrier.pair.rule_at in
    let m_is : m ≡ length w.above + w.y = w.mover_is in
    let place_is : place ≡ length w.above = w.place_is in
    (omega (arith, long, inside, m_is), omega (arith, long, inside, place_is))
barred_within Down items m place p q w =
    let long : length items ≡ length w.above + length w.below = ap length w.parts ∙ length-append w.above w.below in
    let inside : m < length w.above = slice_get_within w.above m (Rule w.upper) w.lower_barrier.pair.rule_at in
    let place_is : suc place ≡ length w.above = w.place_is in
    (omega (arith, long, inside), omega (arith, long, place_is))

-- where the mover and its partner are the same, the last item is
last_same : (way : Way) (j k : Step) → mover way j ≡ mover way k → partner way j ≡ partner way k → last_item j ≡ last_item k
last_same Up j k moves into = moves
last_same Down j k moves into = into

-- the items of a step by names
named_within : (item_ids : List ℕ) (next : ℕ) (k : Step) → (slice_index item_ids (first_item k) < next) × (slice_index item_ids (last_item k) < next) → (first_item (named_step item_ids k) < next) × (last_item (named_step item_ids k) < next)
named_within item_ids next (CutDecl n i) w = w
named_within item_ids next (CutSel n i) w = w
named_within item_ids next (JoinSelUp x y) w = w
named_within item_ids next (JoinSelDown x y) w = w
named_within item_ids next (JoinDeclUp x y) w = w
named_within item_ids next (JoinDeclDown x y) w = w
named_within item_ids next (Share x y) w = w

-- the items of a step are those that it tells
move_within : (way : Way) (k : Step) (count : ℕ) → (first_item k < count) × (last_item k < count) → (mover way k < count) × (partner way k < count)
move_within Up k count inside = (inside.1, inside.0)
move_within Down k count inside = inside

module _ (hindered : BarredMovesAreHindered) (answers : List Answered) (source : List ℕ) (items : List Item) (item_ids : List ℕ) (next : ℕ) (way : Way) (m place : ℕ) (p q : Pair) (most : ℕ)
    (are : AreItemIds items item_ids next) (barrier : IsBarredBy way items m place p q) (apart : AreNotApart answers p.selector q.selector) where
  there : (m < length items) × (place < length items)
  there = barred_within way items m place p q barrier

  one_item : (i n : ℕ) → i < length items → n < length items → slice_index item_ids i ≡ slice_index item_ids n → i ≡ n
  one_item i n i_in n_in same =
      let long : length item_ids ≡ length items = are.beside in
      let not_before : i < n → ⊥ = (λ less. are.differ i n 0 less (omega (arith, n_in, long)) same) in
      let not_behind : n < i → ⊥ = (λ less. are.differ n i 0 less (omega (arith, i_in, long)) (sym same)) in
      omega (arith, not_before, not_behind)

  created : (n : ℕ) → n < length items → slice_index item_ids n < next
  created n inside = are.past n 0 (let long : length item_ids ≡ length items = are.beside in omega (arith, inside, long))

  pub priorities_blocked : (a : Watched) → Contains (barred_priorities items item_ids (OfPair p q) p.decl way m place most) a → (first_item a.priority.step < next) × (last_item a.priority.step < next)
      × ((k : Step) (e : Edit) (n : ℕ) → IsStep items k e → Saves source items e n → 0 < n → a.priority ≡ named item_ids n k → Hinders answers items e a.by)
  priorities_blocked a among = (bounds.0, bounds.1, blocked)
    where
      t : IsMovePriority items item_ids (OfPair p q) p.decl way m place a
      t = move_priority items item_ids (OfPair p q) p.decl way m place most a among

      to : IsMoveTo items p.decl way m t.o t.step
      to = is_move_to items p.decl m t.o way t.step t.move

      into : (t.o < length items) × IsPast way place t.o
      into = past_is way place (length items) t.o there.1 t.past

      bounds : (first_item a.priority.step < next) × (last_item a.priority.step < next)
      bounds =
          subst (λ (u : Priority). (first_item u.step < next) × (last_item u.step < next)) (sym t.priority_is)
          (named_within item_ids next t.step (both_created way t.step to.moves to.into))
        where
          both_created : (v : Way) (k : Step) → mover v k ≡ m → partner v k ≡ t.o → (slice_index item_ids (first_item k) < next) × (slice_index item_ids (last_item k) < next)
          both_created Up k moves to = (subst (λ (n : ℕ). slice_index item_ids n < next) (sym to) (created t.o into.0), subst (λ (n : ℕ). slice_index item_ids n < next) (sym moves) (created m there.0))
          both_created Down k moves to = (subst (λ (n : ℕ). slice_index item_ids n < next) (sym moves) (created m there.0), subst (λ (n : ℕ). slice_index item_ids n < next) (sym to) (created t.o into.0))

      blocked : (k : Step) (e : Edit) (n : ℕ) → IsStep items k e → Saves source items e n → 0 < n → a.priority ≡ named item_ids n k → Hinders answers items e a.by
      blocked k e n is saves some same =
          let l : IsLike item_ids way t.step k = is_like item_ids way t.step k to.move (ap (λ (v : Priority). v.step) (sym t.priority_is ∙ same)) in
          let inside : (mover way k < length items) × (partner way k < length items) = move_within way k (length items) (within items k e is) in
          let m_is : m ≡ mover way k = one_item m (mover way k) there.0 inside.0 (ap (slice_index item_ids) (sym to.moves) ∙ l.moves) in
          let o_is : t.o ≡ partner way k = one_item t.o (partner way k) into.0 inside.1 (ap (slice_index item_ids) (sym to.into) ∙ l.into) in
          subst (Hinders answers items e) t.by_is
          (hindered answers way items m place p q barrier apart k e is l.move (l.decl items p.decl (last_same way t.step k (to.moves ∙ m_is) (to.into ∙ o_is)) to.decl) (sym m_is)
          (subst (IsPast way place) o_is into.1))
