use Rattle.std.proofs.Common.{◌≡◌, map, take}
use Rattle.css_model.specs.Sheets.Spelling.{kept_text}
use Rattle.inspect_text.proofs.gathering.heads_of.Given as goal

abbrev pub invariant-loop-block : goal.invariant-loop-block
invariant-loop-block l = l.heads.items ≡ map (λ m. kept_text l.reading.source.now m.head) (take l.block-index l.media)
