use Rattle.std.proofs.Common.{◌≡◌, ℕ, List, refl, sym, ◌∙◌, ap, subst, Bool, true, false, not, Option, Some, Result, Ok, Err, rules}
use Rattle.std.specs.Result.{OnErr}
use Rattle.fax_answer.specs.declared.pending.Pending.TheVariants.{Nothing}
use Rattle.fax_answer.specs.Replies.{ConfirmedPage}
use Rattle.fax_ifp.specs.Elements.{Slot}
use Rattle.fax_answer.specs.Calls.{AnswererCore, ticked, timed}
use Rattle.fax_answer.specs.Following.{gives_now}
use Rattle.fax_answer.specs.Reached.{Rep, IsReached}
use Rattle.fax_answer.specs.Shown.{confirmed_shown}
use Rattle.fax_answer.proofs.PacketLemmas.{short_as}
use Rattle.fax_answer.proofs.ReachedLemmas.{reached_rests, step_rests, reached_gives, step_gives, given_gives, left_if, taken_if, settled_follows}
use Rattle.fax_answer.proofs.answerer.Answerer.tick.Goals as goal

not_true : (b : Bool) → not b ≡ true → b ≡ false
not_true true h = cc
not_true false h = refl

not_false : (b : Bool) → not b ≡ false → b ≡ true
not_false true h = refl
not_false false h = cc

pub returns-then-not-gives-clause-ticked : goal.returns-then-not-gives-clause-ticked
returns-then-not-gives-clause-ticked g c heard core r =
    let now : ℕ = c.args.now in
    let s = subst (λ (k : Rep). IsReached heard core k) (sym c.self.view_is) r in
    let acted = c.act.ensures.acted core _ (settled_follows heard core _ s) in
    let off : c.gives.result ≡ false = search rules in
    let none : gives_now (timed core now) now ≡ false = sym (c.gives.ensures.gives (timed core now) _ acted) ∙ off in
    (reached_rests heard core now _ c.act.new.self s acted none, step_rests {S = g.row.S.Denot} core now none)

pub returns-clause-ticked : goal.returns-clause-ticked
returns-clause-ticked g c heard core r =
    let now : ℕ = c.args.now in
    let s = subst (λ (k : Rep). IsReached heard core k) (sym c.self.view_is) r in
    let acted = c.act.ensures.acted core _ (settled_follows heard core _ s) in
    let on : c.gives.result ≡ true = search rules in
    let gives : gives_now (timed core now) now ≡ true = sym (c.gives.ensures.gives (timed core now) _ acted) ∙ on in
    let next = c.give-ended.ensures (timed core now) _ acted in
    let last : not c.is_waiting.result ≡ true → c.give-ended.new.self.pending ≡ Nothing = λ h. c.is_waiting.ensures.none (not_true c.is_waiting.result h) in
    let more : not c.is_waiting.result ≡ false → c.give-ended.new.self.pending ≡ Nothing → ⊥ = λ h. c.is_waiting.ensures.waits.0 (not_false c.is_waiting.result h) in
    let left = left_if c.give-ended.new.self.pending (not c.is_waiting.result) c.self.inside.confirmed c.take_if-confirmed.new.confirmed (confirmed_shown {S = g.row.S.Denot}) refl last more c.take_if-confirmed.ensures.left in
    let taken = taken_if c.give-ended.new.self.pending (not c.is_waiting.result) c.self.inside.confirmed c.take_if-confirmed.result (confirmed_shown {S = g.row.S.Denot}) refl last more c.take_if-confirmed.ensures.taken in (
      subst (λ (confirmed : Option ConfirmedPage). IsReached heard (ticked core now).core (record { tracked = c.self.inside.signals; procedure = c.give-ended.new.self; image = c.self.inside.image; confirmed = confirmed; refused = c.self.inside.refused; spare = c.take.new.self })) (sym left)
          (reached_gives heard core now _ c.act.new.self c.give-ended.new.self c.give-ended.result c.take.new.self s next gives),
      step_gives {S = g.row.S.Denot} core now (confirmed_shown {S = g.row.S.Denot} c.self.inside.confirmed) c.self.inside.refused c.act.new.self c.give-ended.new.self
          (record { packet = Some c.packet-packet.result; confirmed = c.take_if-confirmed.result; refused = c.refusal_in-refused.result; ended = c.give-ended.result }) s.stands.reason next gives (ap (λ (octets : List ℕ). Some octets) c.packet-packet.ensures) taken
          c.refusal_in-refused.ensures.rtn c.refusal_in-refused.ensures.other,
    )

pub returns-clause-short : goal.returns-clause-short
returns-clause-short g c = short_as _ c.packet-packet.result c.packet-packet.ensures

on_err : {T E : Type 0} {P : Type 0} (r : Result T E) → P → OnErr r P
on_err (Ok x) p = tt
on_err (Err e) p = p

pub returns-in_err-room-clause-memory : goal.returns-in_err-room-clause-memory
returns-in_err-room-clause-memory g c =
    let now : ℕ = c.args.now in
    let on : c.gives.result ≡ true = search rules in
    on_err c.from_residual.result (λ (heard : List Slot) (core : AnswererCore) (r : IsReached heard core c.args.self.now).
    let s = subst (λ (k : Rep). IsReached heard core k) (sym c.self.view_is) r in
    let acted = c.act.ensures.acted core _ (settled_follows heard core _ s) in
    given_gives core now (sym (c.gives.ensures.gives (timed core now) _ acted) ∙ on))
