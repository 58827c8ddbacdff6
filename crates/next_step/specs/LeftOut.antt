-- Declarations that are left out while the partners of a rule are looked for (own).
use Rattle.std.specs.Prelude.{◌⊎◌, ◌+◌, ℕ, List}
use Rattle.rule_tables.specs.Ahead.{IsAhead, Reached, Reaches, total_at}
use Rattle.rule_tables.specs.declared.ahead.Common.{Common}
use Rattle.step_laws.specs.declared.step.Step.{Step}
use Rattle.next_step.specs.Common.{AreInCommonAt}
use Rattle.next_step.specs.Kinds.{IsByDecls}
use Rattle.next_step.specs.Looking.{FoundParts, IsWith}
use Rattle.next_step.specs.Viewed.{CoversIn}
use Rattle.next_step.specs.declared.view.Focus.{Focus}
use Rattle.next_step.specs.declared.view.View.{View}

-- a rule that has no more than these in common with the rule in focus has no step by declarations with it that is to be put
abbrev pub AreTooLight : View → Focus → FoundParts → Common → Type 0
AreTooLight v o found most = (order_key : ℕ) (k : Step) → AreInCommonAt v o order_key most → IsWith v.indexed.now o.number order_key k → IsByDecls k → CoversIn v found k

-- the lists that have this order key, and what was left out, say at least which declarations of the rule in focus the rule with it has
abbrev pub TellCommonBeside : View → Focus → List Reached → Common → ℕ → Type 0
TellCommonBeside v o lists left order_key = (common : Common) → Reaches common.count (total_at (λ c. c.count) lists order_key + left.count) →
    Reaches common.weight (total_at (λ c. c.weight) lists order_key + left.weight) → AreInCommonAt v o order_key common

-- Lists are left out. Each step by declarations with a rule that is ahead no more is covered; what is left tells what it told.
pub record LeavesLight (v : View) (o : Focus) (found : FoundParts) (old : List Reached) (left : Common) (new : List Reached) (now : Common) : Type 0 where
  pub ahead : (x : ℕ) → IsAhead new x → IsAhead old x
  pub covers : (x : ℕ) (k : Step) → IsAhead old x → IsWith v.indexed.now o.number x k → IsByDecls k → CoversIn v found k ⊎ IsAhead new x
  pub common : (x : ℕ) → IsAhead new x → TellCommonBeside v o new now x
