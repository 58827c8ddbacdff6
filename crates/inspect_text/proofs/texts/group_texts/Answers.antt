use Rattle.std.proofs.Common.{List, map, take, ap, subst, ◌∙◌, arith}
use Rattle.std.specs.List.{filter, flat_map}
use Rattle.std.proofs.lemmas.List.{take_all}
use Rattle.inspect_laws.specs.Entries.{Entry}
use Rattle.inspect_laws.specs.Groups.{is_in_group}
use Rattle.inspect_text.specs.Claims.{AreClaims}
use Rattle.inspect_text.specs.InspectTexts.{line_among}
use Rattle.inspect_text.proofs.Lines.{front_next, line_is}
use Rattle.inspect_text.proofs.texts.group_texts.Goals as goal

pub loop-e-preserved : goal.loop-e-preserved
loop-e-preserved c =
    let source = c.args.lines.now.text.now in
    let sorted = c.args.sorted.now in
    let i = c.loop-e.e-index in
    let e = c.e-item.result in
    let next = front_next sorted i e (omega arith) c.e-item.is in
    let line = line_is source sorted c.requires.descending i e c.is_beaten-lost.result c.deref.result.now (omega arith) c.e-item.is (c.is_beaten-lost.ensures (take i sorted) c.loop-e.invariant.claims) (c.deref.ensures.value ∙ c.in_ok-line.ensures) in
    record {
      claims = subst (λ (es : List Entry). AreClaims es c.put_claim.new.claims.keys) next (c.in_ok-put_claim.ensures (take i sorted) c.loop-e.invariant.claims);
      texts = c.in_ok-put_line.ensures (take i sorted) (line_among source sorted) line c.loop-e.invariant.texts
          ∙ ap (λ (es : List Entry). map (λ family. flat_map (line_among source sorted) (filter (is_in_group family) es)) c.args.families.now) next;
    }

pub returns : goal.returns
returns c =
    c.loop-e.invariant.texts
    ∙ ap (λ (es : List Entry). map (λ family. flat_map (line_among c.args.lines.now.text.now c.args.sorted.now) (filter (is_in_group family) es)) c.args.families.now)
    (take_all c.loop-e.e-index c.args.sorted.now (omega arith))
