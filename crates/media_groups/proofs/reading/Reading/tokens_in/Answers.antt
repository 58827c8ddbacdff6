use Rattle.std.proofs.Common.{nat_le, nat_lt, List, take, sym, ap, ◌∙◌, subst}
use Rattle.std.specs.List.{filter, prefix_len}
use Rattle.css_model.specs.declared.token.Lexeme.{Lexeme}
use Rattle.css_model.specs.Sheets.Spelling.{stands_in, lexemes_of}
use Rattle.media_groups.specs.Sorted.{AreAscending}
use Rattle.media_groups.proofs.Places.{sheet_ascends, sheet_placed, placed_filter, ascending_drop, ascending_filter, inside}
use Rattle.sheet_read.specs.Placed.{ArePlaced}
use Rattle.media_groups.proofs.reading.Reading.tokens_in.Goals as goal

pub from_place-requires : goal.from_place-requires
from_place-requires c = subst (AreAscending 0) (sym c.tokens.ensures) (sheet_ascends c.tokens_restart.ensures c.args.self.now.source.now)

pub up_to-requires : goal.up_to-requires
up_to-requires c =
    let xs = c.tokens.result.now in
    subst (AreAscending 0) (sym c.from_place.ensures)
    (ascending_drop 0 (prefix_len (λ x. nat_lt x.span.start c.args.piece.start) xs) xs (subst (AreAscending 0) (sym c.tokens.ensures) (sheet_ascends c.tokens_restart.ensures c.args.self.now.source.now)))

pub returns-clause-tokens : goal.returns-clause-tokens
returns-clause-tokens c =
    let source = c.args.self.now.source.now in
    let xs = c.tokens.result.now in
    let first : List Lexeme → List Lexeme = λ ys. take (prefix_len (λ x. nat_le x.span.«end» c.args.piece.«end») ys) ys in
    c.up_to.ensures ∙ ap first c.from_place.ensures
    ∙ sym (inside c.args.piece 0 xs (subst (AreAscending 0) (sym c.tokens.ensures) (sheet_ascends c.tokens_restart.ensures source)))
    ∙ ap (filter (stands_in c.args.piece)) c.tokens.ensures

pub returns-clause-placed : goal.returns-clause-placed
returns-clause-placed c =
    let source = c.args.self.now.source.now in
    subst (ArePlaced source) (sym (returns-clause-tokens c)) (placed_filter source (stands_in c.args.piece) (lexemes_of source) (sheet_placed c.tokens_restart.ensures source))

pub returns-clause-ascending : goal.returns-clause-ascending
returns-clause-ascending c =
    let source = c.args.self.now.source.now in
    subst (AreAscending 0) (sym (returns-clause-tokens c)) (ascending_filter (stands_in c.args.piece) 0 (lexemes_of source) (sheet_ascends c.tokens_restart.ensures source))
