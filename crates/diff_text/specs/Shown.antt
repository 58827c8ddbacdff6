-- What can be told: examples that keep the rules, and parts that can be printed.
use Rattle.std.specs.List.{AllByRecursion}
use Rattle.css_model.specs.Documents.RunDocuments.{KeepsRules}
use Rattle.sheet_members.specs.Compared.{Compared}
use Rattle.sheet_members.specs.Ready.{AreReady, IsReady, IsReadyCommon}
use Rattle.turned_members.specs.declared.verdict.Verdict.{Verdict}
use Rattle.turned_members.specs.declared.verdict.Verdict.TheVariants as verdicts
use Rattle.turned_members.specs.Telling.{Told}
use Rattle.diff_text.specs.Lines.{Sides}

-- the example of a verdict, if it has one, keeps the rules
abbrev pub IsShownIn : Verdict → Type 0
IsShownIn (verdicts.Meet x) = KeepsRules x
IsShownIn verdicts.Kept = Unit {0}
IsShownIn (verdicts.Outside reason) = Unit {0}
IsShownIn verdicts.Spent = Unit {0}

-- what occurs in two sheets can be printed
abbrev pub AreReadySides : Sides → Type 0
AreReadySides x = AllByRecursion IsReady x.occurrences × AllByRecursion IsReady x.others

-- a couple that is told: its example keeps the rules, and its members can be printed
pub record IsReadyTold (t : Told) : Type 0 where
  pub shown : ∥ IsShownIn t.verdict ∥₁
  pub first : IsReadyCommon t.couple.first
  pub second : IsReadyCommon t.couple.second

-- all that is compared can be printed
pub record IsReadyCompared (c : Compared) : Type 0 where
  pub commons : AllByRecursion IsReadyCommon c.commons
  pub missing : AreReady c.missing
  pub extra : AreReady c.extra
