use Rattle.std.proofs.Common.{ℕ, List, [], ◌∷◌, ◌++◌, ◌-◌, length, map, take, drop, sym, ap, ◌∙◌, subst}
use Rattle.std.specs.Prelude.{if◌then◌else◌}
use Rattle.std.specs.List.{AllByRecursion, join_with_byte}
use Rattle.css_model.specs.declared.sheet.SelItem.{SelItem}
use Rattle.css_model.specs.Sheets.Printed.{printed_selector}
use Rattle.css_model.specs.Sheets.Sound.{IsSoundSelector}
use Rattle.media_groups.proofs.Texts.{first_of, part_more}
use Rattle.media_groups.proofs.printing.put_selectors.Goals as goal

pub selectors-preserved : goal.selectors-preserved
selectors-preserved c =
    let source = c.args.source.now in
    let rest = c.selectors.rest.now in
    let others = take (length rest - 1) (drop 1 rest) in
    let x = c.x-item.result in
    let cut = first_of rest x c.in-len1-up.len_at_least c.x-item.is in
    let out = c.selectors.out.items in
    record {
      text = ap (λ (t : List ℕ). t ++ join_with_byte 44 (map (printed_selector source) others))
          (c.in_ok-put_sign.ensures ∙ ap (λ (t : List ℕ). t ++ (if c.is_empty.result then [] else 44 ∷ [])) c.in_ok-extend_from_slice.ensures.items)
          ∙ part_more (printed_selector source) 44 out c.as_slice.result.now x others c.is_empty.result c.is_empty.ensures (c.as_slice.ensures.value ∙ c.in_ok-print_selector.ensures)
          ∙ ap (λ (xs : List SelItem). out ++ join_with_byte 44 (map (printed_selector source) xs)) (sym cut) ∙ c.selectors.invariant.text;
      sound = (subst (AllByRecursion (IsSoundSelector source)) cut c.selectors.invariant.sound).1;
    }
