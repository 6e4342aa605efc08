use Rattle.std.proofs.Common.{◌≡◌, ◌≤◌, vec_len}
use Rattle.std.specs.Io.KnownBytes.{Consumes}
use Rattle.fax_listing.proofs.reading.read_whole.Given as goal

-- what was read so far, in as many reads as the loop has made turns
abbrev pub invariant-loop : goal.invariant-loop
invariant-loop g l =
    let source = g.I.Source in
    record {
      told : Consumes (source.remaining l.fn.source) (source.remaining l.source) l.octets.items;
      reads : l.counter ≤ source.reads l.source;
      unfailed : source.failed l.source ≡ source.failed l.fn.source;
      room : vec_len l.buffer ≡ 65536;
    }
