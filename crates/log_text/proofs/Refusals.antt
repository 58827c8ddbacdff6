-- Why a text is not checked.
use Rattle.std.proofs.Common.{◌≤◌, ℕ, List, length}
use Rattle.rup_check.specs.Reading.{TextFault}
use Rattle.rup_check.specs.declared.log.LogError.{LogError}
use Rattle.rup_check.specs.declared.log.LogError.TheVariants.{BadLine, NoMemory}
use Rattle.log_text.specs.CheckedTexts.{Refuses, check_error, max_log_bytes}

pub refuses : (text : List ℕ) (error : LogError) → length text ≤ max_log_bytes → TextFault text error → Refuses text (check_error error)
refuses text (BadLine number) short fault = (short, fault)
refuses text NoMemory short fault = short
