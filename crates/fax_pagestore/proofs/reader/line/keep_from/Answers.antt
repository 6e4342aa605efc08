use Rattle.std.proofs.Common.{◌%◌, List, ℕ, drop, ap, ◌∙◌}
use Rattle.fax_bits.specs.Bits.{bits_of}
use Rattle.fax_pagestore.proofs.ReaderLemmas.{drop_place}
use Rattle.fax_pagestore.proofs.reader.line.keep_from.Goals as goal

pub returns-clause-kept : goal.returns-clause-kept
returns-clause-kept c =
    ap (λ (o : List ℕ). drop (c.args.place % 8) (bits_of o)) c.drop_front.ensures ∙ drop_place c.args.octets.now.items c.args.place c.requires
