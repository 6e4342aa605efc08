-- Why no script was made of a source.
use Rattle.std.specs.Prelude.{List, ℕ}
use Rattle.fax_capture.specs.declared.options.CaptureOptions.{CaptureOptions}
use Rattle.fax_capture.specs.declared.reading_fault.ReadingFault.{ReadingFault}
use Rattle.fax_capture.specs.declared.reading_fault.ReadingFault.TheVariants.{Stream, Script}
use Rattle.fax_capture.specs.Answers.{Fails}

-- the capture has none; or a read failed
abbrev pub FailsSo : CaptureOptions → List ℕ → ReadingFault → Type 0
FailsSo options input Stream = Unit {0}
FailsSo options input (Script fault) = Fails options input fault
