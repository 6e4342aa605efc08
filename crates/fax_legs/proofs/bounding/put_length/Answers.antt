use Rattle.std.proofs.Common.{◌≡◌, ℕ, List, ◌++◌, length, take, arith, ap, ◌∙◌, refl}
use Rattle.fax_udptl.specs.Datagrams.{written_length}
use Rattle.fax_udptl.proofs.WrittenLemmas.{one_octet, length_octets, length_of_short}
use Rattle.fax_legs.proofs.bounding.put_length.Goals as goal

pub put-requires : goal.put-requires
put-requires c = let one : length (written_length c.args.size) ≡ 1 = length_of_short c.args.size (omega arith) in record { room = omega (arith, one) }

pub put-requires-else-size-lt128 : goal.put-requires-else-size-lt128
put-requires-else-size-lt128 c =
    let two : length c.to_be_bytes.result ≡ length (written_length c.args.size) =
    ap length (c.to_be_bytes.ensures ∙ length_octets c.args.size _ (omega arith) (omega arith) refl) in
    record { room = omega (arith, two) }

pub returns-then-size-lt128-clause-front : goal.returns-then-size-lt128-clause-front
returns-then-size-lt128-clause-front c =
    c.put.ensures.front ∙ ap (λ (os : List ℕ). take c.args.from c.args.room.now ++ os) (one_octet c.args.size (omega arith))

pub returns-else-size-lt128-clause-front : goal.returns-else-size-lt128-clause-front
returns-else-size-lt128-clause-front c =
    c.put-else-size-lt128.ensures.front
    ∙ ap (λ (os : List ℕ). take c.args.from c.args.room.now ++ os) (c.to_be_bytes.ensures ∙ length_octets c.args.size _ (omega arith) (omega arith) refl)

pub returns-then-size-lt128-clause-end : goal.returns-then-size-lt128-clause-end
returns-then-size-lt128-clause-end c =
    let one : length (written_length c.args.size) ≡ 1 = length_of_short c.args.size (omega arith) in omega (arith, one, c.put.ensures.end)

pub returns-else-size-lt128-clause-end : goal.returns-else-size-lt128-clause-end
returns-else-size-lt128-clause-end c =
    let two : length c.to_be_bytes.result ≡ length (written_length c.args.size) =
    ap length (c.to_be_bytes.ensures ∙ length_octets c.args.size _ (omega arith) (omega arith) refl) in
    omega (arith, two, c.put-else-size-lt128.ensures.end)
