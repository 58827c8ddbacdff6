use Rattle.std.proofs.Common.{◌-◌, [], ◌∷◌, ◌++◌, length, take, drop, subst}
use Rattle.sheet_members.specs.Ready.{AreReady}
use Rattle.diff_text.specs.Lines.{spot}
use Rattle.diff_text.proofs.Appended.{lines_next}
use Rattle.diff_text.proofs.Best.{cut_first}
use Rattle.diff_text.proofs.telling.put_lacking.Goals as goal

pub members-preserved : goal.members-preserved
members-preserved c =
    let rest = c.members.rest.now in
    let m = c.m-item.result in
    let others = take (length rest - 1) (drop 1 rest) in
    let cut = cut_first rest m c.in-len1-up.len_at_least c.m-item.is in
    record {
      text = lines_next (λ x. c.args.word.now ++ spot c.args.lines.now.text.now x.occurrence ++ 10 ∷ []) c.args.out.now.items c.members.out.items c.put_lacking_one.new.out.items c.args.members.now rest others m
          cut c.in_ok-put_lacking_one.ensures c.members.invariant.text;
      ready = (subst AreReady cut c.members.invariant.ready).1;
    }
