mod AddedSteps
mod RankedSteps
mod RuleNumbers
