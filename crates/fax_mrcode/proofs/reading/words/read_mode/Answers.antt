use Rattle.std.proofs.Common.{◌≡◌, ◌≤◌, ◌<◌, length, true, refl, arith, inl, inr}
use Rattle.std.proofs.lemmas.Bool.{cases_lt}
use Rattle.fax_mrcode.proofs.VerticalLemmas.{mode_size}
use Rattle.fax_mrcode.proofs.ModeLemmas.{front, taken, no_other}
use Rattle.fax_mrcode.proofs.reading.words.read_mode.Goals as goal

pub returns-in_default-clause-fault : goal.returns-in_default-clause-fault
returns-in_default-clause-fault c = (
  refl,
  λ mode rest e. (
      let begun = front c.args.reader.now.left c.window.result c.window.ensures.bits mode rest e in
      c.in_default.ensures.none refl mode begun.0 begun.1),
)

pub has-requires : goal.has-requires
has-requires c =
    let size = mode_size c.in-Some.word.mode in
    omega (arith, c.in-Some.ensures.size)

pub returns-then-not-has-clause-fault : goal.returns-then-not-has-clause-fault
returns-then-not-has-clause-fault c =
    let few : length c.args.reader.now.left < c.in-Some.word.bits = elim (cases_lt (length c.args.reader.now.left) c.in-Some.word.bits) [
      | inl lt ↦ lt
      | inr le ↦ let yes : c.has.result ≡ true = c.has.ensures.1 (omega arith) in absurd (cc)
    ] in
    let begins = c.in-Some.ensures.begins in (
      refl,
      no_other c.args.reader.now.left c.window.result c.window.ensures.bits c.in-Some.word.mode c.in-Some.word.bits begins.0 c.in-Some.ensures.size begins.1 few,
    )

pub returns-clause-ok : goal.returns-clause-ok
returns-clause-ok c =
    let there : c.in-Some.word.bits ≤ length c.args.reader.now.left = omega arith in
    let begins = c.in-Some.ensures.begins in
    let text = taken c.args.reader.now.left c.window.result c.window.ensures.bits c.in-Some.word.mode c.in-Some.word.bits begins.0 c.in-Some.ensures.size begins.1 there in
    rw (← text) c.skip.ensures
