-- What contracts see of the adapters over std's readers and writers.
use Rattle.std.specs.Prelude.{ℕ}
use Rattle.css_io.specs.declared.standard.source.StdSource.{StdSource}
use Rattle.css_io.specs.declared.standard.sink.StdSink.{StdSink}

-- the reader that a source reads from
abbrev pub source_reader : {R : Type 0} → StdSource R → R
source_reader s = s.inner

-- how many faults a source has counted
abbrev pub source_faults : {R : Type 0} → StdSource R → ℕ
source_faults s = s.faults

-- the writer that a sink writes to
abbrev pub sink_writer : {W : Type 0} → StdSink W → W
sink_writer s = s.inner

-- how many faults a sink has counted
abbrev pub sink_faults : {W : Type 0} → StdSink W → ℕ
sink_faults s = s.faults
