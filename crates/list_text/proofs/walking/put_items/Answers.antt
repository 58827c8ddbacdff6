use Rattle.std.proofs.Common.{◌≡◌, ◌-◌, ◌+◌, ℕ, Bool, List, [], ◌∷◌, ◌++◌, length, take, drop, sym, ap, ◌∙◌, subst, arith}
use Rattle.css_model.specs.Sheets.Sound.{IsSound}
use Rattle.doc_text.specs.DocText.{ended}
use Rattle.list_text.specs.ListTexts.{body_lines, item_line, list_lines}
use Rattle.list_text.specs.Standing.{first_of}
use Rattle.list_text.proofs.Writing.{block_next, cons_of, left_next, outer_more}
use Rattle.list_text.proofs.walking.put_items.Goals as goal

pub items-preserved : goal.items-preserved
items-preserved c =
    let text = c.args.lines.now.text.now in
    let level = c.args.level.now in
    let n = c.items.before in
    let blocks = c.items.blocks.now in
    let rest = c.items.rest.now in
    let others = take (length rest - 1) (drop 1 rest) in
    let item = c.item-item.result in
    let cut = cons_of rest item c.in-len1-up.len_at_least c.item-item.is in
    let out = c.items.out.items in
    let wrote = c.in_ok-put_first_body.ensures
    ∙ ap (λ (t : List ℕ). t ++ ended (body_lines text (first_of (n + 1) blocks)))
    (c.in_ok-put_line.ensures ∙ ap (λ (b : Bool). out ++ (item_line text level b (n + 1, item) ++ 10 ∷ [])) c.is_first.ensures) in
    let block = block_next text level.items n item others rest blocks cut c.items.invariant.left in
    record {
      text = outer_more text level.items level n item others rest blocks out c.put_first_body.new.out.items (c.args.out.now.items ++ ended (list_lines text level.items)) cut c.requires.outer block c.items.invariant.text wrote;
      sound = (subst (IsSound level.source) cut c.items.invariant.sound).1;
      left = left_next text level.items n item others rest blocks c.after_first-blocks.result.now cut c.items.invariant.left c.after_first-blocks.ensures;
      size = omega (arith, ap length cut, c.items.invariant.size);
    }
