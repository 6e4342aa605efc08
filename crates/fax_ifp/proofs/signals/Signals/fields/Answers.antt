use Rattle.std.proofs.Common.{◌≡◌, ◌++◌, ℕ, List, take, arith, subst, None}
use Rattle.std.proofs.lemmas.List.{take_all}
use Rattle.fax_ifp.specs.declared.packet.Field.{Field}
use Rattle.fax_ifp.specs.Inside.Hearing.{HasGiven}
use Rattle.fax_ifp.specs.Shown.{pieces_shown}
use Rattle.fax_ifp.proofs.SignalsLemmas.{heard_of, heard_of-take}
use Rattle.fax_ifp.proofs.signals.Signals.fields.Goals as goal

pub loop-field-preserved : goal.loop-field-preserved
loop-field-preserved c =
    let kind : ℕ = c.args.kind in
    let fields : List Field = c.args.fields.now in
    let i : ℕ = c.loop-field.field-index in
    let more = heard_of-take kind fields i (record { what = 0; octets = None }) c.loop-field-test.true in
    record {
      room = omega (arith, c.field.ensures.capacity, c.field.ensures.len, c.loop-field.invariant.room);
      given = λ heard earlier h. rw more (c.field.ensures.given (heard_of kind (take i fields) ++ heard) earlier (c.loop-field.invariant.given heard earlier h));
    }

pub returns : goal.returns
returns c = λ heard earlier h.
    let all : take c.loop-field.field-index c.args.fields.now ≡ c.args.fields.now = take_all c.loop-field.field-index c.args.fields.now (omega arith) in
    subst (λ (fs : List Field). HasGiven (heard_of c.args.kind fs ++ heard) c.loop-field.self earlier (pieces_shown c.loop-field.pieces.items)) all (c.loop-field.invariant.given heard earlier h)
