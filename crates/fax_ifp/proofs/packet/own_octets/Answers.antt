use Rattle.std.proofs.Common.{◌≡◌, ℕ, ◌+◌, ◌*◌, List, Result, Ok, take, drop, get_or, sym, ◌∙◌, ap, ap₂, arith}
use Rattle.fax_ifp.specs.declared.fault.IfpFault.{IfpFault}
use Rattle.fax_ifp.proofs.ReadingLemmas.{rest_from, octets_at_few, octets_at_two, octets_by_ones, octets_by_short, octets_by_all}
use Rattle.fax_ifp.proofs.packet.own_octets.Goals as goal

pub returns-in_default : goal.returns-in_default
returns-in_default c = sym (octets_at_few c.args.octets.now (omega arith))

pub returns-then-word : goal.returns-then-word
returns-then-word c =
    let word : ℕ = c.from_be_bytes-word.result in
    let is : word ≡ 256 * get_or c.args.octets.now 0 0 + get_or c.args.octets.now 1 0 = omega (arith, c.from_be_bytes-word.ensures) in
    sym (octets_at_two c.args.octets.now word (omega arith) is ∙ octets_by_ones word (rest_from 2 c.args.octets.now) (omega arith))

pub returns-then-rest-count : goal.returns-then-rest-count
returns-then-rest-count c =
    let word : ℕ = c.from_be_bytes-word.result in
    let is : word ≡ 256 * get_or c.args.octets.now 0 0 + get_or c.args.octets.now 1 0 = omega (arith, c.from_be_bytes-word.ensures) in
    sym (octets_at_two c.args.octets.now word (omega arith) is ∙ octets_by_short word (rest_from 2 c.args.octets.now) c.if-word.false (omega arith))

pub returns : goal.returns
returns c =
    let word : ℕ = c.from_be_bytes-word.result in
    let rest : List ℕ = rest_from 2 c.args.octets.now in
    let is : word ≡ 256 * get_or c.args.octets.now 0 0 + get_or c.args.octets.now 1 0 = omega (arith, c.from_be_bytes-word.ensures) in
    let pair : List ℕ → List ℕ → Result (List ℕ × List ℕ) IfpFault = λ x y. Ok (x, y) in
    let count : c.from-count.result + 1 ≡ word + 1 = omega arith in
    sym
    (octets_at_two c.args.octets.now word (omega arith) is
    ∙ octets_by_all word rest c.if-word.false (omega arith)
    ∙ ap₂ pair (ap (λ (n : ℕ). take n rest) (sym count) ∙ sym c.split_at.ensures.front) (ap (λ (n : ℕ). drop n rest) (sym count) ∙ sym c.split_at.ensures.back))
