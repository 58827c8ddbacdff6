use Rattle.std.proofs.Common.{Result, Ok, Err}
use Rattle.std.specs.Prelude.{OnOk}
use Rattle.doc_text.proofs.More.{flags_pushed}
use Rattle.doc_text.proofs.element.push_flags.Goals as goal

on_ok : {T E : Type 0} (P Q : Type 0) (r : Result T E) → OnOk r P → (P → Q) → OnOk r Q
on_ok P Q (Ok x) p f = f p
on_ok P Q (Err e) p f = p

pub returns : goal.returns
returns c =
    on_ok _ _ c.push_flag-9.result c.push_flag-9.ensures
    (flags_pushed c.args.bits c.args.out.now.items c.push_flag.new.out.items c.push_flag-2.new.out.items c.push_flag-3.new.out.items c.push_flag-4.new.out.items c.push_flag-5.new.out.items c.push_flag-6.new.out.items
    c.push_flag-7.new.out.items c.push_flag-8.new.out.items c.push_flag-9.new.out.items c.in_ok-push_flag.ensures c.in_ok-push_flag-2.ensures c.in_ok-push_flag-3.ensures c.in_ok-push_flag-4.ensures
    c.in_ok-push_flag-5.ensures c.in_ok-push_flag-6.ensures c.in_ok-push_flag-7.ensures c.in_ok-push_flag-8.ensures)
