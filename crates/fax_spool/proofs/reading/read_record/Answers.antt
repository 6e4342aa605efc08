use Rattle.std.proofs.Common.{◌≡◌, ◌<◌, length, ◌∙◌, arith}
use Rattle.std.proofs.lemmas.List.{take_at}
use Rattle.fax_spool.proofs.Places.{read_right}
use Rattle.fax_spool.proofs.ReadBack.{settled_still}
use Rattle.fax_spool.proofs.reading.read_record.Goals as goal

pub returns-clause-octets : goal.returns-clause-octets
returns-clause-octets g c = λ clean rs item settled stands.
    let long : length c.read_at.new.buf ≡ c.in_ok-octets.octets.len = omega (arith, c.read_at.auto.buf, c.as_mut_slice.ensures.len) in
    let size : c.args.place.octets ≡ length c.read_at.new.buf = omega (arith, long, c.in_ok-octets.ensures.len) in
    let is : c.read_at.new.buf ≡ item =
    read_right _ _ _ c.args.file.now.disk c.args.file.now.end rs settled c.args.place item stands c.read_at.new.buf size
    (λ (some : 0 < c.args.place.octets). c.in_ok-read_at.ensures.read clean (omega (arith, some, c.as_mut_slice.ensures.len, c.in_ok-octets.ensures.len))) in
    take_at c.read_at.new.buf _ c.in_ok-octets.octets.len long ∙ is

pub returns-clause-settled : goal.returns-clause-settled
returns-clause-settled g c = λ rs settled. settled_still _ _ _ c.args.file.now.disk c.args.file.now.end rs settled c.read_at.new.self c.read_at.ensures.seen c.read_at.ensures.crash c.read_at.ensures.usable

pub returns-in_err-read_at-clause-settled : goal.returns-in_err-read_at-clause-settled
returns-in_err-read_at-clause-settled g c = λ rs settled. settled_still _ _ _ c.args.file.now.disk c.args.file.now.end rs settled c.read_at.new.self c.read_at.ensures.seen c.read_at.ensures.crash c.read_at.ensures.usable
