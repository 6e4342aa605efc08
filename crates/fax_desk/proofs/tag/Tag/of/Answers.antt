use Rattle.std.proofs.Common.{◌≤◌, length, refl, arith}
use Rattle.fax_desk.proofs.TagLemmas.{made}
use Rattle.fax_desk.proofs.tag.Tag.of.Goals as goal

pub returns : goal.returns
returns c =
    let within : length c.as_bytes-bytes.result.now ≤ 64 = omega arith in
    made c.args.text.now c.as_bytes-bytes.result.now _ _ c.as_bytes-bytes.ensures.value within c.copy_from_slice.ensures.after refl
