use Rattle.std.proofs.Common.{◌≡◌, ℕ, length, ◌+◌, ◌*◌, ◌%◌, ◌<◌, ◌≤◌, ◌∙◌, slice_index, inl, inr, arith}
use Rattle.std.proofs.lemmas.Bool.{cases_lt}
use borrow.Author.Tests.{ltb-true, ltb-false}
use Rattle.hex.proofs.HexLemmas.{decode_of-even}
use Rattle.hex.proofs.Pairs.{decode_step, decode_err, decode_done}
use Rattle.fax_trace.proofs.HexLemmas.{pair_ok, pair_high, pair_low, not_read}
use Rattle.fax_trace.proofs.hex_text.read_digits.Goals as goal

pub octets-preserved : goal.octets-preserved
octets-preserved c =
    let text = c.args.digits.now in
    let octets = c.octets.octets in
    let i = c.octets.i in
    let at : ℕ = 2 * i in
    let high = c.value-high.result in
    let low = c.value-low.result in
    let within : at + 1 < length text = omega arith in
    record {
      so_far = λ fits.
          let both = pair_ok (slice_index text at) (slice_index text (at + 1)) at high low c.value-high.ensures c.value-low.ensures (omega arith) (omega arith) in
          let octet : (high * 16 % 256 + low) % 256 ≡ high * 16 + low = omega arith in
          rw octet (decode_step text octets i (high * 16 + low) within (omega arith) both (c.octets.invariant.so_far (omega arith)));
      refused = λ many.
          elim (cases_lt c.octets.most 16) [
            | inl fits ↦
                elim (cases_lt high 16) [
                  | inl first ↦
                      let bad = pair_low (slice_index text at) (slice_index text (at + 1)) at high low c.value-high.ensures c.value-low.ensures first (omega arith) in
                      (_, decode_err text octets i _ within bad (c.octets.invariant.so_far fits))
                  | inr bad ↦
                      let bad = pair_high (slice_index text at) (slice_index text (at + 1)) at high c.value-high.ensures bad in
                      (_, decode_err text octets i _ within bad (c.octets.invariant.so_far fits))
                ]
            | inr before ↦ c.octets.invariant.refused before
          ];
    }

pub returns-clause-read : goal.returns-clause-read
returns-clause-read c = λ all.
    let fits = ltb-true c.octets.most 16 all in
    decode_of-even _ (omega arith) ∙ decode_done _ c.octets.octets c.octets.i (omega arith) (omega arith) (c.octets.invariant.so_far fits)

pub returns-clause-none : goal.returns-clause-none
returns-clause-none c = λ some octets good.
    let bad = c.octets.invariant.refused (ltb-false c.octets.most 16 some) in
    not_read c.args.digits.now octets bad.0 (omega arith) bad.1 good
