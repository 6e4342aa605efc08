use Rattle.std.proofs.Common.{sym, arith}
use Rattle.fax_ifp.proofs.ReadingLemmas.{fields_after_none, fields_after_short, fields_after_many, fields_after_counted}
use Rattle.fax_ifp.proofs.packet.count_of_fields.Goals as goal

pub returns-then-not-has_bit-clause-count : goal.returns-then-not-has_bit-clause-count
returns-then-not-has_bit-clause-count c = fields_after_none c.args.first c.args.octets.now (sym c.if-not-has_bit.ensures)

pub returns-in_default-clause-fault : goal.returns-in_default-clause-fault
returns-in_default-clause-fault c = fields_after_short c.args.first c.args.octets.now (sym c.if-not-has_bit.ensures) (omega arith)

pub returns-then-count-gt-MOST_FIELDS-clause-fault : goal.returns-then-count-gt-MOST_FIELDS-clause-fault
returns-then-count-gt-MOST_FIELDS-clause-fault c = fields_after_many c.args.first c.args.octets.now (sym c.if-not-has_bit.ensures) (omega arith) (omega arith)

pub returns-clause-count : goal.returns-clause-count
returns-clause-count c = fields_after_counted c.args.first c.args.octets.now (sym c.if-not-has_bit.ensures) (omega arith) (omega arith)
