use Rattle.std.proofs.Common.{drop, ap, sym, ◌∙◌, subst}
use Rattle.std.specs.List.{AllByRecursion}
use Rattle.css_model.specs.Text.Tokens.{Stream, stream}
use Rattle.css_tokens.specs.Laws.{StandsIn}
use Rattle.css_print.specs.Words.{past_white, solids_to}
use Rattle.css_print.proofs.WordLemmas.{solids_past_white, stand_all, stand_past_white}
use Rattle.css_print.proofs.walk.Walk.new.Goals as goal

pub returns-clause-left : goal.returns-clause-left
returns-clause-left c =
    let source = c.args.source.now in
    let start = c.args.piece.start in
    let place = c.args.piece.«end» in
    ap (solids_to place source)
    (c.read_solid-ahead.ensures.same ∙ ap (past_white place) (c.read-first.ensures ∙ ap (λ (s : Stream). s.tokens) c.from_place-tokens.ensures))
    ∙ solids_past_white place source (stream start (drop start source)).tokens

pub returns-clause-ready : goal.returns-clause-ready
returns-clause-ready c =
    let source = c.args.source.now in
    let start = c.args.piece.start in
    let place = c.args.piece.«end» in
    let ts = (stream start (drop start source)).tokens in
    let is = c.read_solid-ahead.ensures.same ∙ ap (past_white place) (c.read-first.ensures ∙ ap (λ (s : Stream). s.tokens) c.from_place-tokens.ensures) in
    let all = stand_past_white source place ts (stand_all source start ts (c.tokens_restart.ensures source start c.requires.start)) in
    record {
      ahead = c.read_solid-ahead.ensures.ahead;
      stand = subst (AllByRecursion (StandsIn source)) (sym is) all;
      short = c.requires.length;
    }
