use Rattle.std.proofs.Common.{arith}
use Rattle.css_model.specs.Documents.Matching.{matches}
use Rattle.css_model.specs.Documents.RunDocuments.{expand, target_of}
use Rattle.inspect_laws.specs.Entries.{body_layer, by_layer}
use Rattle.inspect_text.proofs.Matches.{flat_next}
use Rattle.inspect_text.proofs.gathering.push_bodies.Goals as goal

pub loop-number-preserved : goal.loop-number-preserved
loop-number-preserved c =
    flat_next (λ m. by_layer (matches (expand c.args.x.now) (target_of c.args.x.now)) (body_layer c.args.source.now m)) c.args.found.now.items c.loop-number.found.items c.push_body.new.found.items
    c.args.media.now c.loop-number.number c.index-media-number.result (omega arith) c.index-media-number.is c.loop-number.invariant c.in_ok-push_body.ensures
