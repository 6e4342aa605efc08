use Rattle.std.proofs.Common.{ℕ, List, [], ◌∷◌, true, false, refl, sym, subst}
use Rattle.fax_gateway.specs.declared.leg.Leg.{Leg}
use Rattle.fax_gateway.specs.Driving.{DriverValue, Entry, HasMade, Sends}
use Rattle.fax_gateway.proofs.DrivingLemmas.{carries_send, made_failed_send, made_unseen, is_sent, wire_by}
use Rattle.fax_gateway.proofs.engine.Engine.send.Goals as goal

pub returns-in-Ok-clause-sent : goal.returns-in-Ok-clause-sent
returns-in-Ok-clause-sent g c earlier made =
    let at : Leg = c.args.leg in
    let octets : List ℕ = c.as_slice.result.now in
    let e : Entry = Sends at octets false in
    let h = c.in-Ok.ensures in (
      e ∷ [],
      is_sent at c.args.given.now c.in-Some.octets octets false c.in-Some.is c.as_slice.ensures,
      carries_send at octets _ _ false h.failures h.received h.sent,
      made_unseen earlier e _ refl refl refl refl made,
      wire_by g.W.Wire.receives g.W.Wire.sends e c.args.wire.now c.send.new.self h.makes,
    )

pub returns-in-Err-clause-sent : goal.returns-in-Err-clause-sent
returns-in-Err-clause-sent g c earlier made =
    let at : Leg = c.args.leg in
    let octets : List ℕ = c.as_slice.result.now in
    let e : Entry = Sends at octets true in
    let h = c.in-Err.ensures in
    let old : DriverValue = c.args.self.now in (
      e ∷ [],
      is_sent at c.args.given.now c.in-Some.octets octets true c.in-Some.is c.as_slice.ensures,
      carries_send at octets _ _ true h.failures h.received h.sent,
      made_failed_send earlier at octets _ _ c.saturating_add-self-inside.ensures (subst (λ (d : DriverValue). HasMade earlier d) (sym c.self.view_is) made),
      wire_by g.W.Wire.receives g.W.Wire.sends e c.args.wire.now c.send.new.self h.makes,
    )
