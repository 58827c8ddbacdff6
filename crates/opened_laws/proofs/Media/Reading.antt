-- Opened bodies are read back from what is printed for them.
use Rattle.std.proofs.Common.{◌≡◌, ◌≤◌, ℕ, nat_eq, Bool, true, false, cond, List, ◌∷◌, length, refl}
use Rattle.std.specs.List.{flat_map, starts_with}
use Rattle.list_facts.proofs.Elements.{all_with}
use Rattle.css_model.specs.Sheets.Printed.{behind_mark, printed, printed_item}
use Rattle.css_model.specs.Text.Characters.{space}
use Rattle.css_model.specs.Text.Source.{text_at}
use Rattle.css_model.specs.Text.Tokens.{byte_order_mark}
use Rattle.media_groups.specs.declared.media.Media.{Media}
use Rattle.media_groups.specs.Laws.{IsBlockOf, OpenedBlocksAreSheets}
use Rattle.media_groups.specs.Opened.{opened_of}
use Rattle.print_laws.specs.Printing.{PrintedIsNoLonger, PrintedReadsBack, PrintedReadsBackAsTwin}
use Rattle.opened_laws.specs.Media.Bodies.{BodiesAreNoLonger, BodiesReadBack, ReadsBackInBody}

-- a text behind its mark begins with none
no_mark : (text : List ℕ) → starts_with nat_eq (behind_mark text) byte_order_mark ≡ false
no_mark text = which (starts_with nat_eq text byte_order_mark) refl
  where
    which : (b : Bool) → starts_with nat_eq text byte_order_mark ≡ b → starts_with nat_eq (cond b (space ∷ text) text) byte_order_mark ≡ false
    which true is = refl
    which false is = is

block_back : PrintedReadsBack → PrintedReadsBackAsTwin → (source : List ℕ) (m : Media) → IsBlockOf source m → ReadsBackInBody source m
block_back back twin source m is new from short =
    let body = text_at source m.body in
    let again = back body m.sheet.items new is.reads from short in
    record {
      again = again.0;
      reads = again.1;
      same = again.2;
      twins = twin body m.sheet.items new again.0 is.reads from short again.1;
      prints = again.3;
      unmarked = no_mark (flat_map (printed_item body) new);
    }

pub read_back : OpenedBlocksAreSheets → PrintedReadsBack → PrintedReadsBackAsTwin → BodiesReadBack
read_back sheets back twin source items =
    all_with (IsBlockOf source) (ReadsBackInBody source) (block_back back twin source) (opened_of items source) (sheets source items)

pub are_no_longer : OpenedBlocksAreSheets → PrintedIsNoLonger → BodiesAreNoLonger
are_no_longer sheets short source items =
    all_with (IsBlockOf source) (λ (m : Media). length (printed (text_at source m.body) m.sheet.items) ≤ length (text_at source m.body))
    (λ m is. short (text_at source m.body) m.sheet.items is.reads) (opened_of items source) (sheets source items)
