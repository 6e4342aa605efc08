use Rattle.std.proofs.Common.{◌≡◌, ◌+◌, ◌≤◌, vec_len}
use Rattle.std.specs.Io.KnownBytes.{Consumes}
use Rattle.fax_command.proofs.input.read_input.Given as goal

-- what was read so far, in as many reads as the loop has made turns
abbrev pub invariant-loop : goal.invariant-loop
invariant-loop g l =
    let source = g.I.Source in
    record {
      counted : source.reads l.fn.source ≡ 0 → source.reads l.source ≡ l.counter;
      reads : source.reads l.source ≤ source.reads l.fn.source + l.counter;
      added : source.given l.fn.source ≡ 0 → source.given l.source ≡ vec_len l.input;
      given : source.given l.source ≤ source.given l.fn.source + vec_len l.input;
      short : vec_len l.input ≤ 16777216;
      unfailed : source.failed l.source ≡ source.failed l.fn.source;
      told : Consumes (source.remaining l.fn.source) (source.remaining l.source) l.input.items;
      room : vec_len l.buffer ≡ 65536;
    }
