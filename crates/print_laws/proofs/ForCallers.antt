-- What the crates above cite of the proofs here: that one more kind of text is read where it stands as the tokens that
-- are shown for it, what a source that is read gives, what the kept items of a printed text are read back as, and that a
-- text which is put together item by item is no longer than its source.
pub use Rattle.print_laws.proofs.Back.Items.{SoundItem, sound-item}
pub use Rattle.print_laws.proofs.Back.Replaced.{AreKeptBack, IsBlockAlone, IsKeptBack, IsReplacedBack, IsSourcedKeptBack, block-alone, names-of, ready-of, replaced-kept-back, whole-stands}
pub use Rattle.print_laws.proofs.Back.Sheet.{AreSound, Clean, IsReady, Tested, clean-of, ended-of, ground-of, items-utf8, marked-utf8, pairs-fit, read-all, tested-of, whole-ended}
pub use Rattle.print_laws.proofs.Back.Tokens.{HasTokens, printed-places, printed-tokens}
pub use Rattle.print_laws.proofs.Length.Filled.{AreFilled, Fills, fits_split}
pub use Rattle.print_laws.proofs.Length.Items.{BeginsAs, BeginsWith, begins_more}
pub use Rattle.print_laws.proofs.Length.Room.{Fits, cost, fits_weights, weight}
pub use Rattle.print_laws.proofs.Length.Sheet.{AreRaw, HasFilling, HasRoom, has-filling}
pub use Rattle.print_laws.proofs.Levels.Brackets.{AreLeveled, Closed, Found, IsInBlock, block-closes, curly-opens, found, length-none, leveled-append, open-append, open_behind, lexemes-open}
pub use Rattle.print_laws.proofs.Levels.Items.{IsItemOf, IsPartOf}
pub use Rattle.print_laws.proofs.Levels.Sheet.{Chain, IsFlatItem, IsFlatPiece, chain-first, chain-none, chain-then, item-chain, kept-chain, sheet-chain, sourced-chain}
pub use Rattle.print_laws.proofs.Source.Items.{Ground, filtered, ground, member, sheet-bytes}
pub use Rattle.print_laws.proofs.Source.Tokens.{IsGoodLexeme, IsGoodSolid, Source, good-solids, kept-is-lexed, source-of}
pub use Rattle.print_laws.proofs.Tokens.Chain.{IsChain, IsTold, chain-shown, closers_after_all, gap_parts, parts_of, token_part}
pub use Rattle.print_laws.proofs.Tokens.Lexed.{AreReadItems, AreReadSourced, Ends, HasParts, IsEndedBySign, IsEndedItem, IsReadAs, IsReadItem, IsReadPiece, IsSpelledBy, KeptLexed, item-lexed, kept-alone, kept-lexed, last-lexed, not-called, part-solids, sheet-lexed, sourced-lexed}
pub use Rattle.print_laws.proofs.Tokens.Parts.{closers-same, closers_after, closers_behind, closers_of, closes_first, length-closers, opened_by, shown_parts, shown_then, text-between, tokens-shown, white-stays, gap-same, gap_behind}
pub use Rattle.print_laws.proofs.Tokens.Places.{AreAt, ArePlaced, gap_size, parts-at, placed-text}
pub use Rattle.print_laws.proofs.Tokens.Reads.{kept-parts, shown-solids, to_solid}
pub use Rattle.print_laws.proofs.Tokens.Texts.{IsLoneBeforeWhite, IsTextOfItem, item-text, kept-text, parts-append, sheet-text, shown-append, shown-first, shown_text, sourced-text, text-append}
pub use Rattle.print_laws.proofs.Tokens.Utf8.{each-append, kept-utf8, one-space, shown-utf8}
