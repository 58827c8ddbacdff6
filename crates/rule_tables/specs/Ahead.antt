-- Order keys of several lists that ascend, and the declarations that each list is of (own).
use Rattle.std.specs.Prelude.{◌≡◌, ◌↔◌, ◌⊎◌, ◌+◌, ◌^◌, ◌<◌, ◌≤◌, ◌==◌, Bool, false, cond, ℕ, List, [], ◌∷◌, Option, Some, length}
use Rattle.std.specs.List.{Contains}
use Rattle.std.specs.List.Sorted.{IsStrictlyIncreasing}
use Rattle.order_laws.specs.Members.{has_number}
use Rattle.rule_tables.specs.declared.ahead.Common.{Common}
use Rattle.rule_tables.specs.declared.ahead.Listed.{Listed}

-- order keys of rules, and the declarations that these rules may have
pub record Reached : Type 0 where
  pub order_keys : List ℕ
  pub common : Common

abbrev pub reached : Listed → Reached
reached l = record { order_keys = l.order_keys.now; common = l.common }

-- how many order keys are left in the lists
abbrev pub count_left : List Reached → ℕ
count_left [] = 0
count_left (l ∷ lists) = length l.order_keys + count_left lists

-- each of the lists ascends
abbrev pub AllAscend : List Reached → Type 0
AllAscend lists = (l : Reached) → Contains lists l → IsStrictlyIncreasing l.order_keys

-- an order key is in one of the lists
abbrev pub IsAhead : List Reached → ℕ → Type 0
IsAhead lists order_key = (l : Reached) × Contains lists l × Contains l.order_keys order_key

-- an order key is in one of the lists, and no other one comes before it
abbrev pub IsFirst : List Reached → ℕ → Type 0
IsFirst lists order_key = IsAhead lists order_key × ((k : ℕ) → IsAhead lists k → order_key ≤ k)

-- ---- The declarations of the lists that have an order key

-- the sum of what is said of them
abbrev pub total_at : (Common → ℕ) → List Reached → ℕ → ℕ
total_at f [] order_key = 0
total_at f (l ∷ lists) order_key = cond (has_number l.order_keys order_key) (f l.common) 0 + total_at f lists order_key

-- a number is at least another one, or as great as a number of 64 bits can be
abbrev pub Reaches : ℕ → ℕ → Type 0
Reaches n least = (m : ℕ) → m < 2 ^ 64 → m ≤ least → m ≤ n

-- these are at least the declarations of the lists that have an order key
abbrev pub AreAllAt : List Reached → ℕ → Common → Type 0
AreAllAt lists order_key common = Reaches common.count (total_at (λ c. c.count) lists order_key) × Reaches common.weight (total_at (λ c. c.weight) lists order_key)

-- of these order keys the lists say the same
abbrev pub SaysTheSame : (ℕ → Type 0) → List Reached → List Reached → Type 0
SaysTheSame Of old new = (f : Common → ℕ) (k : ℕ) → Of k → total_at f new k ≡ total_at f old k

-- ---- Lists that are left out

-- some declarations are no more than others, and weigh no more
abbrev pub AreWithin : Common → Common → Type 0
AreWithin left most = (left.count ≤ most.count) × (left.weight ≤ most.weight)

-- Some lists are left out, and their declarations come to those that were left out before. An order key stays ahead, or all its
-- declarations are left out. What the lists say of an order key no more is left out.
pub record LeavesOut (old : List Reached) (left : Common) (new : List Reached) (now : Common) : Type 0 where
  pub ahead : (k : ℕ) → IsAhead new k → IsAhead old k
  pub stays : (k : ℕ) → IsAhead new k ⊎ ((total_at (λ c. c.count) new k ≡ 0) × (total_at (λ c. c.weight) new k ≡ 0))
  pub count : (k : ℕ) → total_at (λ c. c.count) old k + left.count ≤ total_at (λ c. c.count) new k + now.count
  pub weight : (k : ℕ) → total_at (λ c. c.weight) old k + left.weight ≤ total_at (λ c. c.weight) new k + now.weight
  pub ascend : AllAscend old → AllAscend new

-- ---- Changes

-- the new lists are the old ones and another one, but for an empty one
pub record PutsList (old : List Reached) (more : Reached) (new : List Reached) : Type 0 where
  pub ahead : (k : ℕ) → IsAhead new k ↔ (IsAhead old k ⊎ Contains more.order_keys k)
  pub totals : (f : Common → ℕ) (k : ℕ) → total_at f new k ≡ total_at f old k + cond (has_number more.order_keys k) (f more.common) 0

-- the first order key of a list and another one, which may be missing
abbrev pub IsSooner : Option ℕ → List ℕ → Option ℕ → Type 0
IsSooner best list sooner = ((k : ℕ) → sooner ≡ Some k → (best ≡ Some k) ⊎ Contains list k)
    × ((j : ℕ) → (best ≡ Some j) ⊎ Contains list j → (k : ℕ) × (sooner ≡ Some k) × (k ≤ j))

abbrev pub starts_with : List ℕ → ℕ → Bool
starts_with [] order_key = false
starts_with (k ∷ list) order_key = k == order_key

-- the list without this order key, if it is the first one
abbrev pub without : ℕ → List ℕ → List ℕ
without order_key [] = []
without order_key (k ∷ list) = cond (k == order_key) list (k ∷ list)

abbrev pub passed : ℕ → Reached → Reached
passed order_key l = record { order_keys = without order_key l.order_keys; common = l.common }

-- the sum of what is said of the declarations of the lists that begin with an order key
abbrev pub total_of_first : (Common → ℕ) → List Reached → ℕ → ℕ
total_of_first f [] order_key = 0
total_of_first f (l ∷ lists) order_key = cond (starts_with l.order_keys order_key) (f l.common) 0 + total_of_first f lists order_key

-- the declarations of these lists that begin with an order key and those of a start are no more than these
abbrev pub AreAllOfFirst : Common → List Reached → ℕ → Common → Type 0
AreAllOfFirst start lists order_key common =
    Reaches common.count (start.count + total_of_first (λ c. c.count) lists order_key) × Reaches common.weight (start.weight + total_of_first (λ c. c.weight) lists order_key)

-- with the declarations of one more list
abbrev pub GoesWith : Common → Reached → ℕ → Common → Type 0
GoesWith start l order_key next = (behind : List Reached) (final : Common) → AreAllOfFirst next behind order_key final → AreAllOfFirst start (l ∷ behind) order_key final
