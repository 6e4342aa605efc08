use Rattle.std.proofs.Common.{◌≡◌, ◌+◌, ◌-◌, ℕ, suc, List, [], Ok, ap, sym, ◌∙◌, arith, append-nil}
use Rattle.std.proofs.lemmas.Result.{err_from_is_err_and}
use Rattle.fax_tiff.specs.ReadTiffs.{strips_from}
use Rattle.fax_tiff.specs.Shown.{numbers_shown}
use Rattle.fax_tiff.proofs.ChainLemmas.{no_strips, strips_fail, strips_go_on, with_no_octets, with_octets}
use Rattle.fax_tiff.proofs.strips.gather_from.Goals as goal

pub loop-i-init : goal.loop-i-init
loop-i-init c =
    let all : c.args.places.now.count - 0 ≡ c.args.places.now.count = omega arith in
    ap (λ (o : List ℕ). with_octets o (strips_from (c.args.places.now.count - 0) c.args.order c.args.octets.now (numbers_shown c.args.places.now) (numbers_shown c.args.counts.now) 0 c.args.left)) c.new-strips.ensures.items
    ∙ with_no_octets (strips_from (c.args.places.now.count - 0) c.args.order c.args.octets.now (numbers_shown c.args.places.now) (numbers_shown c.args.counts.now) 0 c.args.left)
    ∙ ap (λ (n : ℕ). strips_from n c.args.order c.args.octets.now (numbers_shown c.args.places.now) (numbers_shown c.args.counts.now) 0 c.args.left) all

pub loop-i-preserved : goal.loop-i-preserved
loop-i-preserved c =
    let less : c.args.places.now.count - c.loop-i.i ≡ suc (c.args.places.now.count - (c.loop-i.i + 1)) = omega (arith, c.loop-i-test.true) in
    ap (λ (o : List ℕ). with_octets o (strips_from (c.args.places.now.count - (c.loop-i.i + 1)) c.args.order c.args.octets.now (numbers_shown c.args.places.now) (numbers_shown c.args.counts.now) (c.loop-i.i + 1) c.in_ok-read.read.1))
    c.in_ok-extend_from_slice.ensures.items
    ∙ strips_go_on (c.args.places.now.count - c.loop-i.i) (c.args.places.now.count - (c.loop-i.i + 1)) c.args.order c.args.octets.now (numbers_shown c.args.places.now) (numbers_shown c.args.counts.now) c.loop-i.i c.loop-i.rest
    c.loop-i.strips.items c.in_ok-read.read.0.now c.in_ok-read.read.1 less c.in_ok-read.ensures
    ∙ c.loop-i.invariant

pub returns-in_err-read : goal.returns-in_err-read
returns-in_err-read c =
    let p = err_from_is_err_and c.from_residual.result c.from_residual.ensures.1 in
    let less : c.args.places.now.count - c.loop-i.i ≡ suc (c.args.places.now.count - (c.loop-i.i + 1)) = omega (arith, c.loop-i-test.true) in
    rw (p.1, p.2)
    (record {
      ok = tt;
      fault = λ apart. sym c.loop-i.invariant
          ∙ ap (with_octets c.loop-i.strips.items)
          (strips_fail (c.args.places.now.count - c.loop-i.i) (c.args.places.now.count - (c.loop-i.i + 1)) c.args.order c.args.octets.now (numbers_shown c.args.places.now) (numbers_shown c.args.counts.now) c.loop-i.i c.loop-i.rest _ less c.in_err-read.ensures);
    })

pub returns : goal.returns
returns c =
    let none : c.args.places.now.count - c.loop-i.i ≡ 0 = omega (arith, c.loop-i-test.false) in
    record {
      ok = sym c.loop-i.invariant
          ∙ ap (λ (n : ℕ). with_octets c.loop-i.strips.items (strips_from n c.args.order c.args.octets.now (numbers_shown c.args.places.now) (numbers_shown c.args.counts.now) c.loop-i.i c.loop-i.rest)) none
          ∙ ap (with_octets c.loop-i.strips.items) (no_strips c.args.order c.args.octets.now (numbers_shown c.args.places.now) (numbers_shown c.args.counts.now) c.loop-i.i c.loop-i.rest)
          ∙ ap (λ (o : List ℕ). Ok (o, c.loop-i.rest)) (append-nil c.loop-i.strips.items);
      fault = tt;
    }
