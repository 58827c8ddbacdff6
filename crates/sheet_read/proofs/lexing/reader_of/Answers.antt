use Rattle.std.proofs.Common.{◌<◌, length, refl}
use Rattle.std.specs.Str.Lossy.{utf8_valid_len}
use Rattle.std.proofs.lemmas.Bool.{false≢true}
use Rattle.std.proofs.lemmas.Str.{utf8_valid_len-IsUtf8}
use Rattle.css_tokens.proofs.ForCallers.{not_utf8_longer}
use Rattle.sheet_read.proofs.TokenSteps.{not_utf8, utf8}
use Rattle.sheet_read.proofs.lexing.reader_of.Goals as goal

pub returns-in-Ok : goal.returns-in-Ok
returns-in-Ok c = (c.in-Ok.ensures.all, utf8 c.args.source.now (utf8_valid_len-IsUtf8 c.args.source.now (c.in-Ok.ensures.utf8.0 refl)))

pub returns-in-Err : goal.returns-in-Err
returns-in-Err c =
    let source = c.args.source.now in
    let longer : utf8_valid_len source < length source = not_utf8_longer source (λ u. false≢true (c.in-Err.ensures.utf8.1 u)) in
    rw c.in-Err.ensures.at (not_utf8 source longer)
