use Rattle.std.proofs.Common.{◌≡◌, ◌<◌, length, Some, sym, ◌∙◌, ap, subst, arith}
use Rattle.fax_control.specs.Options.{text_of}
use Rattle.fax_control.specs.Words.{IsPeerText, Peer, moved_text}
use Rattle.fax_control.proofs.OptionLemmas.{moved_is_no_option}
use Rattle.fax_control.proofs.SayingLemmas.{no_peer, no_leg, leg_says, words_say}
use Rattle.fax_control.proofs.reading.peer_of.Goals as goal

pub returns-in_err-line-clause-only : goal.returns-in_err-line-clause-only
returns-in_err-line-clause-only c = λ order says. absurd (no_peer c.args.rest.now order c.in_err-line.ensures.none says)

pub returns-in_err-leg-clause-only : goal.returns-in_err-leg-clause-only
returns-in_err-leg-clause-only c = λ order says.
    let line = c.in_ok-line.ensures.some in
    absurd (no_leg c.args.rest.now c.in_ok-line.line.now c.in_ok-line.rest.now order line.0 line.1 c.in_err-leg.ensures.none says)

pub returns-in_err-leg-2-clause-only : goal.returns-in_err-leg-2-clause-only
returns-in_err-leg-2-clause-only c = λ order says.
    let line = c.in_ok-line.ensures.some in
    let word = c.in_ok-leg.ensures.some in
    let s = leg_says c.args.rest.now c.in_ok-line.line.now c.in_ok-line.rest.now c.in_ok-leg.leg.now c.in_ok-leg.rest.now order line.0 line.1 word.0 word.1 says in
    let found = c.in_err-leg-2.ensures.only s.leg s.word_is in
    absurd (cc)

pub returns-in_err-address-clause-only : goal.returns-in_err-address-clause-only
returns-in_err-address-clause-only c = λ order says.
    let line = c.in_ok-line.ensures.some in
    let word = c.in_ok-leg.ensures.some in
    let s = leg_says c.args.rest.now c.in_ok-line.line.now c.in_ok-line.rest.now c.in_ok-leg.leg.now c.in_ok-leg.rest.now order line.0 line.1 word.0 word.1 says in
    let read : Some c.in_ok-leg-2.leg ≡ Some s.leg = c.in_ok-leg-2.ensures.only s.leg s.word_is in
    let leg : s.leg ≡ c.in_ok-leg-2.leg = cc in
    let w = words_say order _ _ _ c.first_word.result.0.now (text_of c.first_word.result.1) s c.first_word.ensures.said c.first_word.ensures.word in
    let peer = subst (λ l. IsPeerText l c.first_word.result.0.now s.address) leg (subst (λ t. IsPeerText s.leg t s.address) (sym w.0) s.peer) in
    let found = c.in_err-address.ensures.only s.address peer in
    absurd (cc)

pub returns-in_err-bounds-clause-only : goal.returns-in_err-bounds-clause-only
returns-in_err-bounds-clause-only c = λ order says.
    let line = c.in_ok-line.ensures.some in
    let word = c.in_ok-leg.ensures.some in
    let s = leg_says c.args.rest.now c.in_ok-line.line.now c.in_ok-line.rest.now c.in_ok-leg.leg.now c.in_ok-leg.rest.now order line.0 line.1 word.0 word.1 says in
    let w = words_say order _ _ _ c.first_word.result.0.now (text_of c.first_word.result.1) s c.first_word.ensures.said c.first_word.ensures.word in
    absurd (c.in_err-bounds.ensures.only s.bounds (moved_text s.is_moved) w.1 s.range (moved_is_no_option s.is_moved))

pub returns-in_err-is_moved-clause-only : goal.returns-in_err-is_moved-clause-only
returns-in_err-is_moved-clause-only c = λ order says.
    let line = c.in_ok-line.ensures.some in
    let word = c.in_ok-leg.ensures.some in
    let s = leg_says c.args.rest.now c.in_ok-line.line.now c.in_ok-line.rest.now c.in_ok-leg.leg.now c.in_ok-leg.rest.now order line.0 line.1 word.0 word.1 says in
    let w = words_say order _ _ _ c.first_word.result.0.now (text_of c.first_word.result.1) s c.first_word.ensures.said c.first_word.ensures.word in
    let bounds = c.in_ok-bounds.ensures.only s.bounds (moved_text s.is_moved) w.1 s.range (moved_is_no_option s.is_moved) in
    let found = c.in_err-is_moved.ensures.only s.is_moved bounds.1 in
    absurd (cc)

pub returns-then-is_empty-clause-only : goal.returns-then-is_empty-clause-only
returns-then-is_empty-clause-only c = λ order says.
    let line = c.in_ok-line.ensures.some in
    let word = c.in_ok-leg.ensures.some in
    let s = leg_says c.args.rest.now c.in_ok-line.line.now c.in_ok-line.rest.now c.in_ok-leg.leg.now c.in_ok-leg.rest.now order line.0 line.1 word.0 word.1 says in
    let some : 0 < length c.in_ok-line.line.now = s.name.0 in
    grind (arith, c.if-is_empty.true, c.is_empty.ensures, some)

pub returns-else-is_empty-clause-only : goal.returns-else-is_empty-clause-only
returns-else-is_empty-clause-only c = λ order says.
    let line = c.in_ok-line.ensures.some in
    let word = c.in_ok-leg.ensures.some in
    let s = leg_says c.args.rest.now c.in_ok-line.line.now c.in_ok-line.rest.now c.in_ok-leg.leg.now c.in_ok-leg.rest.now order line.0 line.1 word.0 word.1 says in
    let read : Some c.in_ok-leg-2.leg ≡ Some s.leg = c.in_ok-leg-2.ensures.only s.leg s.word_is in
    let leg : c.in_ok-leg-2.leg ≡ s.leg = cc in
    let w = words_say order _ _ _ c.first_word.result.0.now (text_of c.first_word.result.1) s c.first_word.ensures.said c.first_word.ensures.word in
    let peer = subst (λ l. IsPeerText l c.first_word.result.0.now s.address) (sym leg) (subst (λ t. IsPeerText s.leg t s.address) (sym w.0) s.peer) in
    let read_address : Some c.in_ok-address.address ≡ Some s.address = c.in_ok-address.ensures.only s.address peer in
    let address : c.in_ok-address.address ≡ s.address = cc in
    let bounds = c.in_ok-bounds.ensures.only s.bounds (moved_text s.is_moved) w.1 s.range (moved_is_no_option s.is_moved) in
    let read_moved : Some c.in_ok-is_moved.is_moved ≡ Some s.is_moved = c.in_ok-is_moved.ensures.only s.is_moved bounds.1 in
    let moved : c.in_ok-is_moved.is_moved ≡ s.is_moved = cc in
    let name = c.in_ok-line.line.now in
    ap (λ x. Peer name x c.in_ok-address.address c.in_ok-bounds.bounds c.in_ok-is_moved.is_moved) leg
    ∙ (ap (λ x. Peer name s.leg x c.in_ok-bounds.bounds c.in_ok-is_moved.is_moved) address
    ∙ (ap (λ x. Peer name s.leg s.address x c.in_ok-is_moved.is_moved) bounds.0
    ∙ (ap (λ x. Peer name s.leg s.address s.bounds x) moved ∙ sym s.is)))
