-- The tokens that a reader has before it.
use Rattle.std.specs.Prelude.{drop}
use Rattle.css_model.specs.Text.Tokens.{Stream, stream}
use Rattle.css_tokens.specs.declared.reader.Tokens.{Tokens}

abbrev pub left : Tokens → Stream
left t = stream t.at (drop t.at t.source.now)
