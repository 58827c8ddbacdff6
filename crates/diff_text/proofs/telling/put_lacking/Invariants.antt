use Rattle.std.proofs.Common.{◌≡◌, ◌++◌, [], ◌∷◌, length}
use Rattle.std.specs.List.{flat_map}
use Rattle.sheet_members.specs.Ready.{AreReady}
use Rattle.diff_text.specs.Lines.{spot}
use Rattle.diff_text.proofs.telling.put_lacking.Given as goal

abbrev pub invariant-members : goal.invariant-members
invariant-members l = record {
  text : l.out.items ++ flat_map (λ m. l.word ++ spot l.lines.text.now m.occurrence ++ 10 ∷ []) l.rest
      ≡ l.fn.out.items ++ flat_map (λ m. l.word ++ spot l.lines.text.now m.occurrence ++ 10 ∷ []) l.fn.members;
  ready : AreReady l.rest;
}

abbrev pub decreases-members : goal.decreases-members
decreases-members l = length l.rest
