use Rattle.std.proofs.Common.{◌≡◌, ◌++◌, Some, string_bytes, codes}
use Rattle.std.specs.Prelude.{decimal}
use Rattle.std.proofs.lemmas.Result.{IfOk-weaker}
use Rattle.css_model.specs.Sheets.Fault.{fault_text}
use Rattle.cssmin_run.specs.Placed.{IsPlacedMessage}
use Rattle.cssmin_run.specs.declared.status.Status.TheVariants.{SecondRefused}
use Rattle.cssmin_run.proofs.Told.{second_message}
use Rattle.cssmin_run.proofs.telling.placed_second.Goals as goal

pub returns : goal.returns
returns c = IfOk-weaker c.format.result
    (λ s. string_bytes s ≡ codes "second refused: " ++ (fault_text c.args.fault ++ (codes " (" ++ (decimal c.args.place.line ++ (codes ":" ++ (decimal c.args.place.column ++ codes ")\n"))))))
    (λ s. IsPlacedMessage (Some c.args.place) (SecondRefused c.args.fault) (string_bytes s))
    (λ s wrote. second_message (string_bytes s) c.args.fault c.args.place wrote)
    c.format.ensures.ok
