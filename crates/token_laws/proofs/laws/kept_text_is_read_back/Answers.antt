use Rattle.token_laws.proofs.Kept.Back.{kept_reads_back, value_reads_back}
use Rattle.token_laws.proofs.Kept.Short.{kept_short}
use Rattle.token_laws.proofs.Kept.Twice.{kept_twice}
use Rattle.token_laws.proofs.laws.kept_text_is_read_back.Goals as goal

pub returns : goal.returns
returns c = record { kept = kept_reads_back; value = value_reads_back; short = kept_short; again = kept_twice }
