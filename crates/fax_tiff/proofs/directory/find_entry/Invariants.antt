use Rattle.std.proofs.Common.{◌≡◌, ◌-◌, ◌*◌, length}
use Rattle.fax_tiff.specs.Directories.{entry_of}
use Rattle.fax_tiff.proofs.directory.find_entry.Given as goal

-- the field is among those that are left
abbrev pub invariant-loop : goal.invariant-loop
invariant-loop l = record {
  found : entry_of l.order l.tag (l.directory.count - l.counter) l.rest ≡ entry_of l.order l.tag l.directory.count l.directory.entries.now;
  size : length l.rest ≡ 12 * (l.directory.count - l.counter);
}
