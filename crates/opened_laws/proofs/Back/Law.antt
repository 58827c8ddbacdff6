-- The printed text of a sheet whose blocks of media are opened is read back as that sheet, with the same blocks opened.
use Rattle.std.proofs.Common.{◌≡◌, ◌≤◌, ℕ, Bool, true, false, cond, nat_eq, List, [], ◌∷◌, length, map, Ok, Err, refl, sym, ◌∙◌, ap, subst, arith}
use Rattle.std.specs.Prelude.{nat_lt}
use Rattle.std.specs.List.{AllByRecursion, AllZip, starts_with}
use Rattle.std.specs.Str.Lossy.{utf8_valid_len}
use Rattle.std.proofs.lemmas.Bool.{ltb-false}
use Rattle.css_model.specs.declared.fault.FaultKind.TheVariants.{NotUtf8, TooLong}
use Rattle.css_model.specs.declared.limits.TheConstants.{MAX_BYTES}
use Rattle.css_model.specs.declared.sheet.Item.{Item}
use Rattle.css_model.specs.Sheets.ComesFrom.{ComesFrom}
use Rattle.css_model.specs.Sheets.Limits.{max_bytes}
use Rattle.css_model.specs.Sheets.Printed.{behind_mark}
use Rattle.css_model.specs.Sheets.Sheet.{sheet_of, sheet_of_stream}
use Rattle.css_model.specs.Sheets.SheetParts.{SheetParts}
use Rattle.css_model.specs.Text.Characters.{space}
use Rattle.css_model.specs.Text.Tokens.{byte_order_mark, tokens}
use Rattle.opened_laws.specs.Block.Blocks.{BlocksReadBack, ReadsBackAsBlock}
use Rattle.media_groups.specs.declared.media.Media.{Media}
use Rattle.media_groups.specs.Laws.{BlocksStay, PrintedByOldBlocks, unnumbered}
use Rattle.media_groups.specs.Opened.{opened_of}
use Rattle.media_groups.specs.Printed.{printed_with, texts_with}
use Rattle.print_laws.proofs.ForCallers.{ground-of, replaced-kept-back}
use Rattle.sheet_laws.specs.Sourced.{printed_sourced}
use Rattle.sheet_laws.proofs.ForCallers.{sheet-sound}
use Rattle.opened_laws.specs.Again.{IsBodyFrom, IsReadBackOpened, OpenedReadsBack}
use Rattle.opened_laws.proofs.Back.Rows.{row_of_items}
use Rattle.opened_laws.proofs.Back.Starts.{follow_ascend, sheet_ascends}
use Rattle.opened_laws.proofs.Back.Steps.{replaced}
use Rattle.opened_laws.proofs.Back.Walk.{walk}

-- ---- the opened blocks of the old items, and of the new ones

-- what holds of opened blocks whatever their numbers are
bodies_stay : (source : List ℕ) (ms ns : List Media) (bodies : List SheetParts) → map unnumbered ns ≡ map unnumbered ms → AllZip (IsBodyFrom source) ms bodies → AllZip (IsBodyFrom source) ns bodies
bodies_stay source ms ns bodies same z = back ns bodies (subst (λ us. AllZip (IsBodyFrom source) us bodies) (sym same) (there ms bodies z))
  where
    there : (ms : List Media) (bodies : List SheetParts) → AllZip (IsBodyFrom source) ms bodies → AllZip (IsBodyFrom source) (map unnumbered ms) bodies
    there [] [] z = tt
    there [] (body ∷ bodies) z = absurd z
    there (m ∷ ms) [] z = absurd z
    there (m ∷ ms) (body ∷ bodies) z = (z.0, there ms bodies z.1)

    back : (ms : List Media) (bodies : List SheetParts) → AllZip (IsBodyFrom source) (map unnumbered ms) bodies → AllZip (IsBodyFrom source) ms bodies
    back [] [] z = tt
    back [] (body ∷ bodies) z = absurd z
    back (m ∷ ms) [] z = absurd z
    back (m ∷ ms) (body ∷ bodies) z = (z.0, back ms bodies z.1)

printable_stay : (source : List ℕ) (ms ns : List Media) → map unnumbered ns ≡ map unnumbered ms → AllByRecursion (ReadsBackAsBlock source) ms → AllByRecursion (ReadsBackAsBlock source) ns
printable_stay source ms ns same z = back ns (subst (AllByRecursion (ReadsBackAsBlock source)) (sym same) (there ms z))
  where
    there : (ms : List Media) → AllByRecursion (ReadsBackAsBlock source) ms → AllByRecursion (ReadsBackAsBlock source) (map unnumbered ms)
    there [] z = tt
    there (m ∷ ms) z = (z.0, there ms z.1)

    back : (ms : List Media) → AllByRecursion (ReadsBackAsBlock source) (map unnumbered ms) → AllByRecursion (ReadsBackAsBlock source) ms
    back [] z = tt
    back (m ∷ ms) z = (z.0, back ms z.1)

-- a text behind its mark is no shorter
behind_longer : (text : List ℕ) → length text ≤ length (behind_mark text)
behind_longer text = which (starts_with nat_eq text byte_order_mark)
  where
    which : (b : Bool) → length text ≤ length (cond b (space ∷ text) text)
    which true = omega arith
    which false = omega arith

-- a source that is read is not too long
pub source_short : (source : List ℕ) (old : List Item) → sheet_of source ≡ Ok old → length source ≤ MAX_BYTES
source_short source old e = which (nat_lt MAX_BYTES (length source)) refl e
  where
    which : (long : Bool) → nat_lt MAX_BYTES (length source) ≡ long → cond long (Err (record { kind = TooLong; at = MAX_BYTES }))
        (cond (nat_lt (utf8_valid_len source) (length source)) (Err (record { kind = NotUtf8; at = utf8_valid_len source })) (sheet_of_stream source (tokens source true).fault (tokens source true).tokens)) ≡ Ok old → length source ≤ MAX_BYTES
    which true is e = absurd (cc)
    which false is e = ltb-false MAX_BYTES (length source) is

-- ---- the law

-- items that are printed with their own blocks
back_of_new : (source : List ℕ) (old new : List Item) (bodies : List SheetParts) → sheet_of source ≡ Ok old → ComesFrom source old new →
    AllZip (IsBodyFrom source) (opened_of new source) bodies → AllByRecursion (ReadsBackAsBlock source) (opened_of new source) →
    length (printed_with source (opened_of new source) bodies new) ≤ max_bytes →
    IsReadBackOpened source (opened_of new source) bodies new (printed_with source (opened_of new source) bodies new)
back_of_new source old new bodies e from bodies_from printable short =
    let media = opened_of new source in
    let g = ground-of source old e in
    let ascend = follow_ascend 0 new old from.follows (sheet_ascends source old g e) in
    let texts_short : length (texts_with source media bodies new) ≤ max_bytes = (let le = behind_longer (texts_with source media bodies new) in omega (arith, le, short)) in
    let row = row_of_items source g 0 0 new bodies from.sound ascend bodies_from printable texts_short in
    let same : printed_sourced (replaced source media bodies new) ≡ printed_with source media bodies new = ap behind_mark row.texts in
    let back = replaced-kept-back source old new (replaced source media bodies new) e from row.replace (subst (λ (text : List ℕ). length text ≤ max_bytes) (sym same) short) in
    let text = printed_sourced (replaced source media bodies new) in
    let g' = ground-of text back.again back.reads in
    let walked = walk source text g g' (source_short source old e) 0 0 0 0 new back.again bodies from.sound (sheet-sound text back.again back.reads) ascend (sheet_ascends text back.again g' back.reads)
    (record { from = bodies_from; printable = printable; short = texts_short; twins = back.twins; kept = back.kept }) in
    subst (IsReadBackOpened source media bodies new) same
    (record { again = back.again; reads = back.reads; prints = ap behind_mark walked.texts ∙ back.prints; opened = walked.opened })

pub law : BlocksStay → PrintedByOldBlocks → BlocksReadBack → OpenedReadsBack
law stay by_old printable source old new bodies e from bodies_from short =
    let same = stay source old new from.follows in
    let texts = by_old source old new bodies from.follows in
    subst (IsReadBackOpened source (opened_of new source) bodies new) (sym texts)
    (back_of_new source old new bodies e from (bodies_stay source (opened_of old source) (opened_of new source) bodies same bodies_from)
    (printable_stay source (opened_of old source) (opened_of new source) same (printable source old e))
    (subst (λ (text : List ℕ). length text ≤ max_bytes) texts short))
