use Rattle.std.proofs.Common.{None, Err}
use Rattle.std.proofs.lemmas.Result.{err_from_is_err_and}
use Rattle.fax_terminal.specs.Ends.{traffic_of}
use Rattle.fax_terminal.proofs.EndLemmas.{nothing_received, nothing_sent}
use Rattle.fax_terminal.proofs.WholeCalls.{answers_call, answers_first, answers_more, stores_confirmed, stores_until, stores_whole}
use Rattle.fax_terminal.proofs.receiving.receive_call.Goals as goal

pub loop-init : goal.loop-init
loop-init g c =
    let told = traffic_of (g.W.Wire.known c.args.end.now.wire) in
    answers_first g.K.PageStore.keeps c.args.settings c.args.first.now c.in-Some.start told c.args.store.now c.hear_one.new.self (λ setup set. c.in_ok-hear_one.ensures.heard setup None (c.in_ok-terminal.ensures setup set))

pub loop-preserved : goal.loop-preserved
loop-preserved g c =
    let keeps = g.K.PageStore.keeps in
    let known = g.W.Wire.known in
    answers_more keeps c.args.settings c.args.first.now c.in-Some-wait.now (traffic_of (known c.args.end.now.wire)) (traffic_of (known c.loop.end.wire)) (traffic_of (known c.go_on.new.self)) (traffic_of (known c.turn.new.end.wire))
    c.args.store.now c.loop.store c.turn.new.store c.loop.terminal c.turn.new.self (nothing_received (known c.loop.end.wire) (known c.go_on.new.self) c.go_on.ensures.told.received)
    (nothing_sent (known c.loop.end.wire) (known c.go_on.new.self) c.go_on.ensures.told.sent) (λ setup leg r. (c.in_ok-turn.ensures setup leg r).0) c.loop.invariant

pub returns-in_default-wait-clause-kept : goal.returns-in_default-wait-clause-kept
returns-in_default-wait-clause-kept g c = stores_confirmed g.K.PageStore.keeps c.args.settings c.requires c.args.first.now _ _ c.args.store.now c.loop.store c.loop.terminal c.loop.invariant

pub returns-clause-kept : goal.returns-clause-kept
returns-clause-kept g c = stores_confirmed g.K.PageStore.keeps c.args.settings c.requires c.args.first.now _ _ c.args.store.now c.loop.store c.loop.terminal c.loop.invariant

pub returns-in_err-turn-clause-kept : goal.returns-in_err-turn-clause-kept
returns-in_err-turn-clause-kept g c =
    let known = g.W.Wire.known in
    let p = err_from_is_err_and c.from_residual-in_err-turn.result c.from_residual-in_err-turn.ensures.1 in
    rw (p.1, p.2)
    (stores_until g.K.PageStore.keeps c.args.settings c.requires c.args.first.now c.in-Some-wait.now (traffic_of (known c.args.end.now.wire)) (traffic_of (known c.loop.end.wire)) (traffic_of (known c.go_on.new.self))
    (traffic_of (known c.turn.new.end.wire)) c.args.store.now c.loop.store c.turn.new.store c.loop.terminal c.turn.new.self (Err c.in_err-turn.field-0.0) c.in_err-turn.ensures c.loop.invariant)

pub returns-then-is_over-clause-kept : goal.returns-then-is_over-clause-kept
returns-then-is_over-clause-kept g c =
    let keeps = g.K.PageStore.keeps in
    let known = g.W.Wire.known in
    let a = answers_more keeps c.args.settings c.args.first.now c.in-Some-wait.now (traffic_of (known c.args.end.now.wire)) (traffic_of (known c.loop.end.wire)) (traffic_of (known c.go_on.new.self)) (traffic_of (known c.turn.new.end.wire))
    c.args.store.now c.loop.store c.turn.new.store c.loop.terminal c.turn.new.self (nothing_received (known c.loop.end.wire) (known c.go_on.new.self) c.go_on.ensures.told.received)
    (nothing_sent (known c.loop.end.wire) (known c.go_on.new.self) c.go_on.ensures.told.sent) (λ setup leg r. (c.in_ok-turn.ensures setup leg r).0) c.loop.invariant in
    stores_confirmed keeps c.args.settings c.requires c.args.first.now (traffic_of (known c.args.end.now.wire)) (traffic_of (known c.turn.new.end.wire)) c.args.store.now c.turn.new.store c.turn.new.self a

pub returns-then-is_over-clause-carried : goal.returns-then-is_over-clause-carried
returns-then-is_over-clause-carried g c =
    let keeps = g.K.PageStore.keeps in
    let known = g.W.Wire.known in
    let a = answers_more keeps c.args.settings c.args.first.now c.in-Some-wait.now (traffic_of (known c.args.end.now.wire)) (traffic_of (known c.loop.end.wire)) (traffic_of (known c.go_on.new.self)) (traffic_of (known c.turn.new.end.wire))
    c.args.store.now c.loop.store c.turn.new.store c.loop.terminal c.turn.new.self (nothing_received (known c.loop.end.wire) (known c.go_on.new.self) c.go_on.ensures.told.received)
    (nothing_sent (known c.loop.end.wire) (known c.go_on.new.self) c.go_on.ensures.told.sent) (λ setup leg r. (c.in_ok-turn.ensures setup leg r).0) c.loop.invariant in
    answers_call keeps c.args.settings c.args.first.now (traffic_of (known c.args.end.now.wire)) (traffic_of (known c.turn.new.end.wire)) c.args.store.now c.turn.new.store c.turn.new.self c.is_over.result c.if-is_over.true
    c.is_over.ensures.over a

pub returns-then-is_over-clause-whole : goal.returns-then-is_over-clause-whole
unfolding returns-then-is_over-clause-carried
returns-then-is_over-clause-whole g c =
    let known = g.W.Wire.known in
    stores_whole g.K.PageStore.keeps c.args.settings c.requires c.args.first.now (traffic_of (known c.args.end.now.wire)) (traffic_of (known c.turn.new.end.wire)) c.args.store.now c.turn.new.store
    (returns-then-is_over-clause-carried g c)
