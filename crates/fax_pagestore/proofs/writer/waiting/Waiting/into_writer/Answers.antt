use Rattle.std.proofs.Common.{length, drop, take, ◌∙◌, ap, arith}
use Rattle.fax_bits.specs.Bits.{bits_of}
use Rattle.fax_bits.proofs.BitsLemmas.{length-bits_of}
use Rattle.fax_pagestore.proofs.writer.waiting.Waiting.into_writer.Goals as goal

pub cut-requires : goal.cut-requires
cut-requires c =
    let within = c.self.invariant.1 in
    omega (arith, ap length (c.of_octets-writer.ensures ∙ ap bits_of (c.from_vec.ensures ∙ c.drop_front.ensures)), length-bits_of (drop c.self.inside.given c.self.inside.octets.items))

pub returns : goal.returns
returns c =
    c.cut.ensures ∙ ap (take c.self.inside.bits) (c.of_octets-writer.ensures ∙ ap bits_of (c.from_vec.ensures ∙ c.drop_front.ensures)) ∙ c.self.view_is
