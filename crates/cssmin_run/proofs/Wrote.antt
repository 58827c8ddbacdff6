-- What a command did that writes a text which it made.
use Rattle.std.proofs.Common.{Bool, ℕ, List, [], Option}
use Rattle.overlap.specs.PairsParts.{PairsParts}
use Rattle.cssmin_run.specs.Change.{Change}
use Rattle.cssmin_run.specs.Commands.Cmp.{CmpDoes, IsAnswer}
use Rattle.cssmin_run.specs.Commands.Trial.{TrialDoes, Tries}
use Rattle.cssmin_run.specs.Writing.{Writes, WritesSome}
use Rattle.cssmin_run.specs.declared.status.Status.{Status}
use Rattle.cssmin_run.specs.declared.status.Status.TheVariants.{Done, Found, Usage, SheetRefused, NoItem, DocRefused, LogRefused, NoSplit, SecondRefused, ReadFault, WriteFault, NoMemory}

pub wrote_some : (kind : List ℕ → Type 0) (text : List ℕ) (status : Status) (output err : Change) → kind text → Writes text [] status output err → WritesSome kind status output err
wrote_some kind text Done output err is wrote = (text, is, wrote)
wrote_some kind text Found output err is wrote = absurd wrote
wrote_some kind text Usage output err is wrote = absurd wrote
wrote_some kind text (SheetRefused fault) output err is wrote = absurd wrote
wrote_some kind text (NoItem fault) output err is wrote = absurd wrote
wrote_some kind text (DocRefused fault) output err is wrote = absurd wrote
wrote_some kind text (LogRefused fault) output err is wrote = absurd wrote
wrote_some kind text (NoSplit fault) output err is wrote = absurd wrote
wrote_some kind text (SecondRefused fault) output err is wrote = absurd wrote
wrote_some kind text ReadFault output err is wrote = absurd wrote
wrote_some kind text WriteFault output err is wrote = (text, is, wrote)
wrote_some kind text NoMemory output err is wrote = absurd wrote

pub wrote_answer : (left right : List ℕ) (budget : Option ℕ) (log : Bool) (held : Option PairsParts) (text : List ℕ) (status : Status) (output err : Change) → IsAnswer left right budget log held text → Writes text [] status output err
    → CmpDoes left right budget log status output err held
wrote_answer left right budget log held text Done output err is wrote = (text, is, wrote)
wrote_answer left right budget log held text Found output err is wrote = absurd wrote
wrote_answer left right budget log held text Usage output err is wrote = absurd wrote
wrote_answer left right budget log held text (SheetRefused fault) output err is wrote = absurd wrote
wrote_answer left right budget log held text (NoItem fault) output err is wrote = absurd wrote
wrote_answer left right budget log held text (DocRefused fault) output err is wrote = absurd wrote
wrote_answer left right budget log held text (LogRefused fault) output err is wrote = absurd wrote
wrote_answer left right budget log held text (NoSplit fault) output err is wrote = absurd wrote
wrote_answer left right budget log held text (SecondRefused fault) output err is wrote = absurd wrote
wrote_answer left right budget log held text ReadFault output err is wrote = absurd wrote
wrote_answer left right budget log held text WriteFault output err is wrote = (text, is, wrote)
wrote_answer left right budget log held text NoMemory output err is wrote = absurd wrote

pub wrote_trial : (rules : ℕ) (held : Option PairsParts) (text : List ℕ) (status : Status) (output err : Change) → Tries rules text held → Writes text [] status output err → TrialDoes rules status output err held
wrote_trial rules held text Done output err is wrote = (text, is, wrote)
wrote_trial rules held text Found output err is wrote = absurd wrote
wrote_trial rules held text Usage output err is wrote = absurd wrote
wrote_trial rules held text (SheetRefused fault) output err is wrote = absurd wrote
wrote_trial rules held text (NoItem fault) output err is wrote = absurd wrote
wrote_trial rules held text (DocRefused fault) output err is wrote = absurd wrote
wrote_trial rules held text (LogRefused fault) output err is wrote = absurd wrote
wrote_trial rules held text (NoSplit fault) output err is wrote = absurd wrote
wrote_trial rules held text (SecondRefused fault) output err is wrote = absurd wrote
wrote_trial rules held text ReadFault output err is wrote = absurd wrote
wrote_trial rules held text WriteFault output err is wrote = (text, is, wrote)
wrote_trial rules held text NoMemory output err is wrote = absurd wrote
