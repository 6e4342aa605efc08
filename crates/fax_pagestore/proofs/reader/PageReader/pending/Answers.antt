use Rattle.std.proofs.Common.{◌≡◌, ◌+◌, ◌/◌, length, subst, arith}
use Rattle.fax_pagestore.specs.Readers.{ReaderValue}
use Rattle.fax_pagestore.proofs.ReaderLemmas.{octets_of_bits}
use Rattle.fax_pagestore.proofs.reader.PageReader.pending.Goals as goal

pub returns-clause-octets : goal.returns-clause-octets
returns-clause-octets g c =
    subst (λ (r : ReaderValue). c.len.result ≡ (length r.left + 7) / 8) c.self.view_is
    (omega (arith, c.len.ensures, octets_of_bits c.self.inside.octets.items c.self.inside.used c.self.invariant.4 c.self.invariant.0))

pub returns-clause-few : goal.returns-clause-few
returns-clause-few g c = omega (arith, c.len.ensures, c.self.invariant.5, c.self.inside.octets.ok.0)
