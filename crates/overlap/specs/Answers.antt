-- What an answer for two selectors says (own).
use Rattle.std.specs.Prelude.{◌≡◌, ◌⊎◌, ℕ, ◌+◌, ◌==◌, nat_lt, Bool, true, false, not, ◌&&◌, List, ◌++◌, length, Option, Some, None}
use Rattle.std.specs.Bool.{MatchBool}
use Rattle.std.specs.List.{All, Contains}
use Rattle.cnf.specs.Cnf.{Cnf}
use Rattle.cnf.specs.declared.lit.Lit.{Lit}
use Rattle.css_model.specs.Cascade.Order.{Meet as TheyMeet}
use Rattle.css_model.specs.declared.selector.Simple.{Simple}
use Rattle.css_model.specs.Documents.Matching.{same_pseudo}
use Rattle.css_model.specs.Documents.SelectorParts.{SelectorParts}
use Rattle.css_model.specs.Sheets.Limits.{max_stepped}
use Rattle.compound_fit.specs.Attributes.{attribute_tests}
use Rattle.compound_fit.specs.Fitting.{SpacesAreTaken, SpacesAreLeft}
use Rattle.compound_fit.specs.Table.{groups, target}
use Rattle.slot_plan.specs.Parts.{stepped_count}
use Rattle.single_examples.specs.Examples.{IsSingleExample}
use Rattle.overlap.specs.Combined.{IsEvidence, IsRefutation, IsSpentOn}
use Rattle.overlap.specs.declared.answer.Answer.{Answer}
use Rattle.overlap.specs.declared.answer.Answer.TheVariants.{Apart, Meet, Outside, Spent}

-- ---- The reasons why a pair is outside what is decided, by their numbers

-- too many positions with a step of 2 or more in size
abbrev pub too_many_stepped : ℕ
too_many_stepped = 11

-- a word of an attribute beside which no white space is left
abbrev pub no_space_left : ℕ
no_space_left = 12

-- ---- Answers

-- how many positions with a step of 2 or more in size both have together
abbrev pub pair_stepped : SelectorParts → SelectorParts → ℕ
pair_stepped x y = stepped_count x + stepped_count y

-- in some group of compounds that one element may have to pass, no white space is left beside a word; in none
abbrev pub LackSpaces : SelectorParts → SelectorParts → Type 0
LackSpaces x y = (g : List Simple) × Contains (groups x.chain y.chain) g × SpacesAreTaken (attribute_tests g)

abbrev pub HaveSpaces : SelectorParts → SelectorParts → Type 0
HaveSpaces x y = All (λ g. SpacesAreLeft (attribute_tests g)) (groups x.chain y.chain)

-- whether both selectors have one compound
abbrev pub are_single : SelectorParts → SelectorParts → Bool
are_single x y = (length x.chain == 1) && (length y.chain == 1)

-- Where nothing stands against it, a pair is decided. They do not meet, or an example shows that they do; for two
-- selectors of one compound each it is the first one of those that are tried. Only where one has a combinator, the
-- budget may be spent instead.
abbrev pub IsDecided : SelectorParts → SelectorParts → (budget : ℕ) → Answer → Type 0
IsDecided x y budget Apart = TheyMeet x y → ⊥
IsDecided x y budget (Meet e) = IsEvidence e x y × (are_single x y ≡ true → IsSingleExample e (target x.chain ++ target y.chain) x.pseudo)
IsDecided x y budget (Outside reason number) = ⊥
IsDecided x y budget (Spent ledger) = (are_single x y ≡ false) × IsSpentOn x y budget ledger

-- the answer where few positions with a large step are asked for: the white spaces come first
abbrev pub IsFewAnswer : SelectorParts → SelectorParts → (budget : ℕ) → Answer → Type 0
IsFewAnswer x y budget answer = (LackSpaces x y × (answer ≡ Outside no_space_left 0)) ⊎ (HaveSpaces x y × IsDecided x y budget answer)

-- the answer for one pseudo-element: too many positions with a large step come before that
abbrev pub IsAlikeAnswer : SelectorParts → SelectorParts → (budget : ℕ) → Answer → Type 0
IsAlikeAnswer x y budget answer =
    MatchBool (nat_lt max_stepped (pair_stepped x y)) (answer ≡ Outside too_many_stepped (pair_stepped x y)) (IsFewAnswer x y budget answer)

-- What may be answered for two selectors, with a budget of learned clauses. The first that holds:
--     different pseudo-elements              they do not meet
--     too many positions with a large step   `Outside` with the reason `too_many_stepped` and their number
--     no white space is left                 `Outside` with the reason `no_space_left`
--     otherwise                              the pair is decided
abbrev pub IsTrueAnswer : SelectorParts → SelectorParts → (budget : ℕ) → Answer → Type 0
IsTrueAnswer x y budget answer = MatchBool (same_pseudo x.pseudo y.pseudo) (IsAlikeAnswer x y budget answer) (answer ≡ Apart)

-- ---- Logs

-- whether an answer is that they do not meet by their formula: the pseudo-element is the same, and one has a combinator
abbrev pub is_refuted : SelectorParts → SelectorParts → Answer → Bool
is_refuted x y Apart = same_pseudo x.pseudo y.pseudo && not (are_single x y)
is_refuted x y (Meet e) = false
is_refuted x y (Outside reason number) = false
is_refuted x y (Spent ledger) = false

-- what is logged of an answer: exactly then the formula, with the ledger that refutes it
abbrev pub IsLogOf : SelectorParts → SelectorParts → (budget : ℕ) → Answer → Option (Cnf × List (List Lit)) → Type 0
IsLogOf x y budget answer None = is_refuted x y answer ≡ false
IsLogOf x y budget answer (Some log) = (is_refuted x y answer ≡ true) × IsRefutation x y budget log.0 log.1
