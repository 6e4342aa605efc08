use Rattle.std.proofs.Common.{◌≡◌, ◌+◌, ◌-◌, ◌++◌, ◌∷◌, ℕ, suc, List, [], Ok, length, ap, sym, ◌∙◌, arith, append-nil}
use Rattle.std.proofs.lemmas.Result.{err_from_is_err_and}
use Rattle.fax_tiff.specs.ReadTiffs.{PageRead, PageText, pages_at}
use Rattle.fax_tiff.proofs.ChainLemmas.{chain_ends, chain_fails, chain_goes_on, chain_is_full, with_no_pages, with_pages}
use Rattle.fax_tiff.proofs.reading.read_chain.Goals as goal

pub loop-init : goal.loop-init
loop-init c =
    ap (λ (t : List PageText). with_pages t (pages_at 65535 c.args.order c.args.octets.now c.args.first (length c.args.octets.now))) c.new-texts.ensures.items
    ∙ with_no_pages (pages_at 65535 c.args.order c.args.octets.now c.args.first (length c.args.octets.now))

pub returns-then-place-eq0 : goal.returns-then-place-eq0
returns-then-place-eq0 c = record {
  ok = sym c.loop.invariant ∙ ap (with_pages c.loop.texts.items) (chain_ends (65535 - c.loop.counter) c.args.order c.args.octets.now c.loop.place c.loop.left c.if-place-eq0.true)
      ∙ ap (λ (t : List PageText). Ok t) (append-nil c.loop.texts.items);
  fault = tt;
}

pub returns-in_err-read : goal.returns-in_err-read
returns-in_err-read c =
    let p = err_from_is_err_and c.from_residual.result c.from_residual.ensures.1 in
    let less : 65535 - c.loop.counter ≡ suc (65535 - (c.loop.counter + 1)) = omega (arith, c.loop-test.true) in
    rw (p.1, p.2)
    (record {
      ok = tt;
      fault = λ apart. sym c.loop.invariant
          ∙ ap (with_pages c.loop.texts.items)
          (chain_fails (65535 - c.loop.counter) (65535 - (c.loop.counter + 1)) c.args.order c.args.octets.now c.loop.place c.loop.left _ less c.if-place-eq0.false (c.in_err-read.ensures.fault apart));
    })

pub loop-preserved : goal.loop-preserved
loop-preserved c =
    let less : 65535 - c.loop.counter ≡ suc (65535 - (c.loop.counter + 1)) = omega (arith, c.loop-test.true) in
    ap (λ (t : List PageText). with_pages t (pages_at (65535 - (c.loop.counter + 1)) c.args.order c.args.octets.now c.read.inside.next c.read.inside.left)) c.in_ok-push.ensures.items
    ∙ ap (λ (r : PageRead). with_pages (c.loop.texts.items ++ r.page ∷ []) (pages_at (65535 - (c.loop.counter + 1)) c.args.order c.args.octets.now r.next r.left)) c.read.view_is
    ∙ chain_goes_on (65535 - c.loop.counter) (65535 - (c.loop.counter + 1)) c.args.order c.args.octets.now c.loop.place c.loop.left c.loop.texts.items c.in_ok-read.read less c.if-place-eq0.false c.in_ok-read.ensures.ok
    ∙ c.loop.invariant

pub returns-then-place-eq0-2-clause-ok : goal.returns-then-place-eq0-2-clause-ok
returns-then-place-eq0-2-clause-ok c =
    sym c.loop.invariant ∙ ap (with_pages c.loop.texts.items) (chain_ends (65535 - c.loop.counter) c.args.order c.args.octets.now c.loop.place c.loop.left c.if-place-eq0-2.true)
    ∙ ap (λ (t : List PageText). Ok t) (append-nil c.loop.texts.items)

pub returns-else-place-eq0-2-clause-fault : goal.returns-else-place-eq0-2-clause-fault
returns-else-place-eq0-2-clause-fault c =
    let none : 65535 - c.loop.counter ≡ 0 = omega (arith, c.loop-test.false) in
    λ apart. sym c.loop.invariant ∙ ap (λ (n : ℕ). with_pages c.loop.texts.items (pages_at n c.args.order c.args.octets.now c.loop.place c.loop.left)) none
    ∙ ap (with_pages c.loop.texts.items) (chain_is_full c.args.order c.args.octets.now c.loop.place c.loop.left c.if-place-eq0-2.false)
