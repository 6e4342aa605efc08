use Rattle.std.proofs.Common.{◌≡◌, ℕ, List, ◌++◌, length, arith, ap, ◌∙◌, refl}
use Rattle.fax_udptl.specs.Datagrams.{written_length}
use Rattle.fax_udptl.proofs.WrittenLemmas.{one_octet, length_octets, length_of_short}
use Rattle.fax_udptl.proofs.sender.put_length.Goals as goal

pub push_reserved-requires : goal.push_reserved-requires
push_reserved-requires c = let one : length (written_length c.args.count) ≡ 1 = length_of_short c.args.count (omega arith) in omega (arith, one)

pub put-requires : goal.put-requires
put-requires c =
    let two : length c.to_be_bytes.result ≡ length (written_length c.args.count) =
    ap length (c.to_be_bytes.ensures ∙ length_octets c.args.count _ (omega arith) (omega arith) refl) in
    record { room = omega (arith, two) }

pub returns-then-count-lt128-clause-items : goal.returns-then-count-lt128-clause-items
returns-then-count-lt128-clause-items c =
    c.push_reserved.ensures.items ∙ ap (λ (os : List ℕ). c.args.octets.now.items ++ os) (one_octet c.args.count (omega arith))

pub returns-else-count-lt128-clause-items : goal.returns-else-count-lt128-clause-items
returns-else-count-lt128-clause-items c =
    c.put.ensures.items
    ∙ ap (λ (os : List ℕ). c.args.octets.now.items ++ os) (c.to_be_bytes.ensures ∙ length_octets c.args.count _ (omega arith) (omega arith) refl)

pub returns-then-count-lt128-clause-len : goal.returns-then-count-lt128-clause-len
returns-then-count-lt128-clause-len c =
    let one : length (written_length c.args.count) ≡ 1 = length_of_short c.args.count (omega arith) in omega (arith, one, c.push_reserved.ensures.len)

pub returns-else-count-lt128-clause-len : goal.returns-else-count-lt128-clause-len
returns-else-count-lt128-clause-len c =
    let two : length c.to_be_bytes.result ≡ length (written_length c.args.count) =
    ap length (c.to_be_bytes.ensures ∙ length_octets c.args.count _ (omega arith) (omega arith) refl) in
    omega (arith, two, c.put.ensures.len)
