use Rattle.std.proofs.Common.{◌≡◌, ◌*◌, ◌≤◌, take}
use Rattle.fax_answer.specs.Octets.{octets_of_readers}
use Rattle.fax_answer.proofs.image.Image.held.Given as goal

-- the readers so far are counted
abbrev pub invariant-loop-reader : goal.invariant-loop-reader
invariant-loop-reader g l = record {
  counted : l.held ≡ octets_of_readers (take l.reader-index l.reader-items);
  few : l.held ≤ 536870912 * l.reader-index;
}
