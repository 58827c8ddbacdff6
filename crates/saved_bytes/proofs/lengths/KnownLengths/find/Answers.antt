use Rattle.std.proofs.Common.{◌≡◌, ℕ, List, Some, length, ap, ◌∙◌, subst}
use Rattle.std.specs.Prelude.{slice_get}
use Rattle.saved_bytes.proofs.KnownLists.{known_found}
use Rattle.saved_bytes.proofs.lengths.KnownLengths.find.Goals as goal
use Rattle.saved_bytes.specs.declared.lengths.Known.{Known}
use Rattle.saved_bytes.specs.Lengths.{text_of_piece}

pub returns-in-Some : goal.returns-in-Some
returns-in-Some c = known_found c.self.inside.bytes.now c.self.inside.known.items c.args.piece.now c.in-Some.known c.self.inside.are_known
    (subst (λ (xs : List Known). slice_get xs c.args.piece.now.start ≡ Some c.in-Some.known) c.deref.ensures.value c.in-Some.ensures) c.if-known-gt0.true c.if-known-piece.true
    ∙ ap (λ (source : List ℕ). length (text_of_piece source c.args.piece.now)) c.self.view_is
