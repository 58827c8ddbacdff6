-- Declarations that are left out while partners are looked for.
use Rattle.std.proofs.Common.{◌≡◌, ◌⊎◌, ℕ, ◌+◌, ◌<◌, ◌≤◌, ◌^◌, List, Some, refl, subst, inl, inr, arith, true}
use Rattle.std.specs.Prelude.{slice_get, slice_index}
use Rattle.std.proofs.lemmas.Bool.{cases_lt}
use Rattle.css_model.specs.declared.sheet.Item.TheVariants.{Rule}
use Rattle.css_model.specs.Sheets.RuleParts.{RuleParts}
use Rattle.indexed_sheet.specs.Facts.{HasOwnSelectors}
use Rattle.indexed_sheet.specs.MarkList.{AreMarks, IsOrderKeyAt, order_keys_of}
use Rattle.plan_laws.specs.Barrier.Hindering.{priority_of}
use Rattle.rule_tables.specs.Ahead.{AreAllAt, AreWithin, IsAhead, LeavesOut, Reached, Reaches, SaysTheSame, total_at}
use Rattle.rule_tables.specs.declared.ahead.Common.{Common}
use Rattle.step_laws.specs.declared.step.Step.{Step}
use Rattle.step_laws.specs.declared.step.Step.TheVariants.{Share}
use Rattle.step_laws.specs.Steps.{first_item, last_item}
use Rattle.next_step.specs.Common.{AreInCommonAt, IsPlain, KeepsAtLeast, TellCommon}
use Rattle.next_step.specs.Kinds.{IsByDecls}
use Rattle.next_step.specs.LeftOut.{AreTooLight, LeavesLight, TellCommonBeside}
use Rattle.next_step.specs.Looking.{FoundParts, IsWith, ReachesLast}
use Rattle.next_step.specs.Viewed.{CoversIn, IsFocus, IsView}
use Rattle.next_step.specs.declared.view.Focus.{Focus}
use Rattle.next_step.specs.declared.view.Partners.{Partners}
use Rattle.next_step.specs.declared.view.View.{View}
use Rattle.next_step.proofs.ByOrderKeys.{with_above, with_below, with_itself}
use Rattle.next_step.proofs.DeclWeights.{own_apart}
use Rattle.next_step.proofs.PoorShares.{poor_covers, rule_beside}
use Rattle.next_step.proofs.RulesApart.{apart_turned}

-- ---- Rules that have little in common with the rule in focus

module _ (v : View) (is_view : IsView v) (o : Focus) (is_focus : IsFocus v o) (are : AreMarks v.indexed.now.marks v.indexed.now.next) (found : FoundParts) (own : HasOwnSelectors v.indexed.now.items o.number)
    (plain : (n : ℕ) (r : RuleParts) → slice_get v.indexed.now.items n ≡ Some (Rule r) → IsPlain v.source.now r) (most : Common) (kept spare : ℕ) (keeps : KeepsAtLeast v.source.now o.rule.now most.count kept) (some : 0 < kept)
    (fits : most.weight ≤ spare + kept) (late : (n : ℕ) (k : Step) → 0 < n → n ≤ spare → ReachesLast found.others (priority_of n k)) where
  -- what the tests of two rules are told
  abbrev beside : (upper lower : ℕ) → Partners
  beside upper lower = record { upper = upper; lower = lower; apart = true; lower_once = true }

  abbrev named_share : (upper lower : ℕ) → Step
  named_share upper lower = Share (slice_index (order_keys_of v.indexed.now.marks) upper) (slice_index (order_keys_of v.indexed.now.marks) lower)

  module _ (order_key : ℕ) (k : Step) (common : AreInCommonAt v o order_key most) (w : IsWith v.indexed.now o.number order_key k) (by : IsByDecls k) where
    is_at : IsOrderKeyAt v.indexed.now.marks order_key w.other
    is_at = (w.mark, w.mark_at, w.order_key_is)

    above_covered : w.other < o.number → first_item k ≡ w.other → last_item k ≡ o.number → CoversIn v found k
    above_covered less first last e n is =
        let theirs : (r : RuleParts) × (slice_get v.indexed.now.items w.other ≡ Some (Rule r)) = rule_beside v.indexed.now.items o w.other (beside w.other o.number) k e (inl (refl, refl)) first last is in
        poor_covers v is_view.plannable found o w.other theirs.0 (beside w.other o.number) most spare is_focus.rule theirs.1
        (apart_turned v.indexed.now.items o.number w.other (own_apart v.indexed.now.items o.number w.other (λ same. omega (arith, less, same)) own)) (inl (refl, refl))
        (plain o.number o.rule.now is_focus.rule) (plain w.other theirs.0 theirs.1) (common w.other theirs.0 is_at theirs.1) (kept, 0, keeps, inr refl, omega (arith, some), omega (arith, fits))
        (λ m more few. late m (named_share w.other o.number) more few) k by first last e n is

    below_covered : o.number < w.other → first_item k ≡ o.number → last_item k ≡ w.other → CoversIn v found k
    below_covered more first last e n is =
        let theirs : (r : RuleParts) × (slice_get v.indexed.now.items w.other ≡ Some (Rule r)) = rule_beside v.indexed.now.items o w.other (beside o.number w.other) k e (inr (refl, refl)) first last is in
        poor_covers v is_view.plannable found o w.other theirs.0 (beside o.number w.other) most spare is_focus.rule theirs.1
        (own_apart v.indexed.now.items o.number w.other (λ same. omega (arith, more, same)) own) (inr (refl, refl))
        (plain o.number o.rule.now is_focus.rule) (plain w.other theirs.0 theirs.1) (common w.other theirs.0 is_at theirs.1) (kept, 0, keeps, inr refl, omega (arith, some), omega (arith, fits))
        (λ m more few. late m (named_share o.number w.other) more few) k by first last e n is

    light_covered : CoversIn v found k
    light_covered = elim (cases_lt w.other o.number) [
      | inl less ↦ with_above v o is_focus are found order_key w.other is_at less k (above_covered less) w
      | inr least ↦ elim (cases_lt o.number w.other) [
        | inl more ↦ with_below v o is_focus are found order_key w.other is_at least k (below_covered more) w
        | inr most ↦ with_itself v o is_focus are found order_key w.other is_at least most k w
      ]
    ]

  pub are_too_light : AreTooLight v o found most
  are_too_light order_key k common w by = light_covered order_key k common w by

-- ---- Lists that are left out

abbrev Small : ℕ → Type 0
Small m = m < 2 ^ 64

-- a sum that is no more than two numbers reaches
pub reaches_beside : (n a t l : ℕ) → Reaches a t → Reaches n (a + l) → Reaches n (t + l)
reaches_beside n a t l one both m small least = elim (cases_lt t m) [
  | inl less ↦ (let h : t ≤ a = one t (omega (arith, less, small)) (omega arith) in both m small (omega (arith, h, least)))
  | inr far ↦ (let h : m ≤ a = one m small far in both m small (omega (arith, h)))
]

-- nothing was left out at first
pub tells_beside : (v : View) (o : Focus) (lists : List Reached) (left : Common) → left ≡ record { count = 0; weight = 0 } → (x : ℕ) → TellCommon v o lists x → TellCommonBeside v o lists left x
tells_beside v o lists left none x tells common count weight = tells common (
  (λ m small least. count m small (omega (arith, least))),
  (λ m small least. weight m small (omega (arith, least))),
)

-- what an order key's lists and what was left out tell
pub tells_met : (v : View) (o : Focus) (lists : List Reached) (left met common : Common) (x : ℕ) → TellCommonBeside v o lists left x → AreAllAt lists x met →
    Reaches common.count (met.count + left.count) → Reaches common.weight (met.weight + left.weight) → AreInCommonAt v o x common
tells_met v o lists left met common x tells all count weight = tells common
    (reaches_beside common.count met.count (total_at (λ c. c.count) lists x) left.count all.0 count)
    (reaches_beside common.weight met.weight (total_at (λ c. c.weight) lists x) left.weight all.1 weight)

-- lists that say the same of an order key tell the same, beside what was left out
pub tells_same_beside : (v : View) (o : Focus) (Of : ℕ → Type 0) (old new : List Reached) (left : Common) → SaysTheSame Of old new → (x : ℕ) → Of x → TellCommonBeside v o old left x → TellCommonBeside v o new left x
tells_same_beside v o Of old new left same x of tells common count weight = tells common
    (subst (λ (n : ℕ). Reaches common.count (n + left.count)) (same (λ c. c.count) x of) count)
    (subst (λ (n : ℕ). Reaches common.weight (n + left.weight)) (same (λ c. c.weight) x of) weight)

-- where nothing is left out
pub leaves_none : (v : View) (o : Focus) (found : FoundParts) (lists : List Reached) (left : Common) → ((x : ℕ) → IsAhead lists x → TellCommonBeside v o lists left x) → LeavesLight v o found lists left lists left
leaves_none v o found lists left tells = record { ahead = λ x h. h; covers = λ x k h w by. inr h; common = tells }

pub leaves_light : (v : View) (o : Focus) (found : FoundParts) (old new : List Reached) (left now most : Common) → AreTooLight v o found most → LeavesOut old left new now → AreWithin now most →
    ((x : ℕ) → IsAhead old x → TellCommonBeside v o old left x) → LeavesLight v o found old left new now
leaves_light v o found old new left now most light leaves within tells = record { ahead = leaves.ahead; covers = covers; common = common }
  where
    common : (x : ℕ) → IsAhead new x → TellCommonBeside v o new now x
    common x h c count weight = tells x (leaves.ahead x h) c
        (λ m small least. count m small (let a = leaves.count x in omega (arith, least, a)))
        (λ m small least. weight m small (let a = leaves.weight x in omega (arith, least, a)))

    covers : (x : ℕ) (k : Step) → IsAhead old x → IsWith v.indexed.now o.number x k → IsByDecls k → CoversIn v found k ⊎ IsAhead new x
    covers x k h w by = elim (leaves.stays x) [
      | inl stays ↦ inr stays
      | inr none ↦ inl (light x k (tells x h most
          (λ m small least. (let a = leaves.count x in let z = none.0 in let u = within.0 in omega (arith, least, a, z, u)))
          (λ m small least. (let a = leaves.weight x in let z = none.1 in let u = within.1 in omega (arith, least, a, z, u)))) w by)
    ]
