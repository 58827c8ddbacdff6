use Rattle.std.proofs.Common.{◌≡◌, ℕ, List, [], ◌++◌, ap, sym, ◌∙◌}
use Rattle.css_model.specs.Text.Kept.{Solid, kept}
use Rattle.css_print.specs.Walking.{left, solid_of}
use Rattle.css_print.specs.Words.{behind_kept, kind_of_first}
use Rattle.css_print.proofs.PieceWords.{begins_inside, begins_solids}
use Rattle.css_print.proofs.WordLemmas.{kept_more}
use Rattle.css_print.proofs.print.put_kept.Goals as goal

pub new-walk-requires-clause-start : goal.new-walk-requires-clause-start
new-walk-requires-clause-start g c = begins_inside c.tokens_restart.ensures c.args.source.now c.args.piece.start c.requires.begins

pub words-init : goal.words-init
words-init g c =
    let source = c.args.source.now in
    let piece = c.args.piece in (
      [],
      g.met.O.Output.nothing c.args.out.now,
      ap kept (c.new-walk.ensures.left ∙ begins_solids c.tokens_restart.ensures source piece c.requires.begins),
      c.new-walk.ensures.ready,
    )

pub words-preserved : goal.words-preserved
words-preserved g c =
    let done = c.words.invariant.0 in
    let s : Solid = solid_of c.in-Some.word in
    let rest = left c.next.new.self in
    let behind = c.behind.result.now in
    let text : behind ≡ behind_kept s (kind_of_first rest) = c.behind.ensures ∙ ap (behind_kept s) c.next_kind.ensures in (
      done ++ (s.bytes ++ behind),
      g.met.O.Output.joins _ _ _ done (s.bytes ++ behind) c.words.invariant.1 (g.met.O.Output.joins _ _ _ s.bytes behind c.in_ok-put.ensures c.in_ok-put-2.ensures),
      ap (λ (w : List ℕ). (done ++ (s.bytes ++ w)) ++ kept rest) text ∙ kept_more done s rest ∙ sym (ap (λ (ss : List Solid). done ++ kept ss) c.in-Some.ensures.word) ∙ c.words.invariant.2,
      c.next.ensures.ready,
    )
