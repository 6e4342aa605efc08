use Rattle.std.proofs.Common.{◌+◌, [], ◌∷◌, ◌∙◌, List, ℕ, Option, Some, None, inl, inr, refl, sym, subst, ap, arith}
use Rattle.fax_gateway.specs.Wires.{Grows}
use Rattle.fax_gateway.proofs.DrivingLemmas.{grows_more, grows_none}
use Rattle.fax_line.specs.declared.order.Order.{Order}
use Rattle.fax_line.specs.declared.order.Order.TheVariants as order
use Rattle.fax_line.specs.Operations.{slot_before}
use Rattle.fax_line.specs.StoredRuns.{TurnEnds}
use Rattle.fax_line.specs.Pacing.{IsPaced}
use Rattle.fax_line.specs.Runs.{AskedOf, DoneOrder, Turned, Woken, words_of}
use Rattle.fax_line.specs.Words.{Asks, Word}
use Rattle.fax_line.proofs.StoredRunning.{all_free, ask_state, asks_free, begun_state, ended, on_is, paced_after, slot_back, stores_state, turn_state, wake_state}
use Rattle.fax_line.proofs.Early.{Early, early_alike, early_free, early_is, early_stored, early_turned, free_none}
use Rattle.fax_line.proofs.Recorded.{alike_woken, still_alike}
use Rattle.fax_line.proofs.Running.{no_order}
use Rattle.fax_line.proofs.run.serve.Goals as goal
use Rattle.fax_line.proofs.run.serve.Goals.{in-Turn, in-Ask, in-Wake}

pub loop-init : goal.loop-init
loop-init g c = (
  [],
  begun_state g.row.K.Denot g.K.RunStore.is_same g.K.PageStore.puts g.K.RunStore.notes g.K.RunStore.ends c.args.lines.now.slot c.args.lines.now.lines (g.P.Pace.words c.args.pace.now) c.args.store.now c.requires
      (grows_none (g.P.Pace.words c.args.pace.now)),
  refl,
  early_free c.args.lines.now.slot c.args.lines.now.lines c.requires,
)

pub loop-preserved : goal.loop-preserved
loop-preserved g c =
    let done : List DoneOrder = c.loop.invariant.0 in
    let on = c.loop.invariant.1 in
    let paced = c.loop.invariant.2 in
    let early = c.loop.invariant.3 in
    let paced_with = λ (d : List DoneOrder). λ (p : g.row.P.Denot). IsPaced g.P.Pace.gives g.P.Pace.hears g.P.Pace.sees d c.args.pace.now p in
    let paced_after_it = paced_after g.P.Pace.gives g.P.Pace.hears g.P.Pace.sees in
    let olds = c.args.lines.now.lines in
    let first = c.args.lines.now.slot in
    let before = g.P.Pace.words c.args.pace.now in
    let now_told = g.P.Pace.words c.loop.pace in
    let asked_of = g.P.Pace.words c.next.new.self in
    let K = g.row.K.Denot in
    let same = g.K.RunStore.is_same in
    let puts = g.K.PageStore.puts in
    let notes = g.K.RunStore.notes in
    let ends = g.K.RunStore.ends in
    let kept = c.args.store.now in
    elim c.match-order.branch [
      | in-Turn w ↦
          let asked = subst (λ (o : Option Order). Grows (Asks o ∷ []) now_told asked_of) (c.in-Some.is ∙ ap (λ (o : Order). Some o) w.in-Turn.is) c.next.ensures.words in
          let given = subst (λ (o : Option Order). g.P.Pace.gives o c.loop.pace c.next.new.self) (c.in-Some.is ∙ ap (λ (o : Order). Some o) w.in-Turn.is) c.next.ensures.gives in
          let told = g.P.Pace.words w.end_turn.new.pace in
          let ended_so = subst (λ (s : ℕ). TurnEnds same puts notes ends s w.turn.new.self.lines w.end_turn.new.lines.lines c.loop.store w.end_turn.new.store)
          (ap slot_before w.turn.ensures.slot ∙ slot_back c.loop.lines.slot) w.end_turn.ensures.ends in
          let it = turn_state K same puts notes ends first w.in-Turn.now c.loop.latest w.max-latest.result olds c.loop.lines.lines w.turn.new.self.lines w.end_turn.new.lines.lines c.loop.lines.slot w.turn.new.self.slot
          w.end_turn.new.lines.slot c.loop.counter before now_told asked_of told kept c.loop.store w.end_turn.new.store done on early w.max-latest.ensures w.turn.ensures.went w.turn.ensures.tells w.turn.ensures.waits
          w.turn.ensures.slot asked ended_so w.end_turn.ensures.slot w.end_turn.ensures.words in
          let still = early_alike c.loop.lines.slot c.loop.lines.lines w.turn.new.self.lines (still_alike c.loop.lines.lines w.turn.new.self.lines w.turn.ensures.waits) early in
          let early_now = early_turned K same puts notes ends c.loop.lines.slot w.turn.new.self.slot w.turn.new.self.lines w.end_turn.new.lines.lines c.loop.store w.end_turn.new.store ended_so still w.turn.ensures.slot
          w.end_turn.ensures.round (free_none K same puts notes ends c.loop.lines.slot w.turn.new.self.lines w.end_turn.new.lines.lines c.loop.store w.end_turn.new.store ended_so it.3.free) in (
            it.1,
            on_is K same puts notes ends first w.max-latest.result c.match-order.latest (c.loop.counter + 1) olds w.end_turn.new.lines c.match-order.lines before told (g.P.Pace.words c.match-order.pace) kept w.end_turn.new.store
                c.match-order.store it.1 w.latest-is w.lines-is w.store-is (ap g.P.Pace.words w.pace-is) it.3,
            subst (paced_with it.1) (sym w.pace-is)
                (paced_after_it (Turned w.in-Turn.now it.0 ∷ done) it.1 c.args.pace.now w.end_turn.new.pace it.2 (c.loop.pace, c.next.new.self, paced, given, w.end_turn.ensures.sees)),
            early_is w.turn.new.self.slot w.end_turn.new.lines c.match-order.lines w.end_turn.ensures.slot w.lines-is early_now,
          )
      | in-Ask w ↦
          let given = subst (λ (o : Option Order). g.P.Pace.gives o c.loop.pace c.next.new.self) (c.in-Some.is ∙ ap (λ (o : Order). Some o) w.in-Ask.is) c.next.ensures.gives in
          let asked_so = subst (λ (o : Option Order). Grows (Asks o ∷ []) now_told asked_of) (c.in-Some.is ∙ ap (λ (o : Order). Some o) w.in-Ask.is) c.next.ensures.words in
          let still = g.P.Pace.words w.store_before.new.pace in
          let asked = subst (λ (x : Option (List Word)). Grows (Asks (Some (order.Ask w.in-Ask.line w.in-Ask.now w.in-Ask.what)) ∷ []) now_told x) (sym w.store_before.ensures.words) asked_so in
          let told = g.P.Pace.words w.done.new.self in
          let what = w.in-Ask.what in
          let answer = w.ask-answer.result in
          let stored = w.store_before.new.lines in
          let left = w.store_before.new.store in
          let off = asks_free K same puts notes ends c.loop.store left c.loop.lines.lines stored.lines w.in-Ask.line on.free w.store_before.ensures.stores w.store_before.ensures.free in
          let it = stores_state K same puts notes ends first c.loop.latest olds c.loop.lines.lines stored.lines c.loop.lines.slot stored.slot c.loop.counter before now_told now_told kept c.loop.store left done on
          w.store_before.ensures.stores w.store_before.ensures.slot refl in
          let more = ask_state K same puts notes ends first w.in-Ask.line w.in-Ask.now c.loop.latest w.max-latest-in-Ask.result what answer olds stored.lines w.ask-answer.new.self.lines stored.slot w.ask-answer.new.self.slot c.loop.counter
          before now_told still told kept left it.0 it.2 w.max-latest-in-Ask.ensures off w.ask-answer.ensures.went w.ask-answer.ensures.frees w.ask-answer.ensures.waits w.ask-answer.ensures.slot asked w.done.ensures.words in
          let d : List DoneOrder = AskedOf w.in-Ask.line w.in-Ask.now what answer ∷ it.0 in (
            d,
            on_is K same puts notes ends first w.max-latest-in-Ask.result c.match-order.latest (c.loop.counter + 1) olds w.ask-answer.new.self c.match-order.lines before told (g.P.Pace.words c.match-order.pace) kept left
                c.match-order.store d w.latest-is w.lines-is w.store-is (ap g.P.Pace.words w.pace-is) more,
            subst (paced_with d) (sym w.pace-is)
                (c.loop.pace, c.next.new.self, w.store_before.new.pace, paced_after_it done it.0 c.args.pace.now c.loop.pace it.1 paced, given, w.store_before.ensures.sees, w.done.ensures.hears),
            early_is stored.slot w.ask-answer.new.self c.match-order.lines w.ask-answer.ensures.slot w.lines-is
                (early_alike stored.slot stored.lines w.ask-answer.new.self.lines w.ask-answer.ensures.waits
                (subst (λ (s : ℕ). Early s stored.lines) (sym w.store_before.ensures.slot) (early_stored K same puts notes ends c.loop.lines.slot c.loop.lines.lines stored.lines c.loop.store left w.store_before.ensures.stores early))),
          )
      | in-Wake w ↦
          let asked = subst (λ (o : Option Order). Grows (Asks o ∷ []) now_told asked_of) (c.in-Some.is ∙ ap (λ (o : Order). Some o) w.in-Wake.is) c.next.ensures.words in
          let given = subst (λ (o : Option Order). g.P.Pace.gives o c.loop.pace c.next.new.self) (c.in-Some.is ∙ ap (λ (o : Order). Some o) w.in-Wake.is) c.next.ensures.gives in
          let d : List DoneOrder = Woken w.in-Wake.line ∷ done in
          let more = wake_state K same puts notes ends first w.in-Wake.line c.loop.latest olds c.loop.lines.lines w.wake.new.self.lines c.loop.lines.slot w.wake.new.self.slot c.loop.counter before now_told asked_of kept c.loop.store done on
          w.wake.ensures.woken w.wake.ensures.slot asked in (
            d,
            on_is K same puts notes ends first c.loop.latest c.match-order.latest (c.loop.counter + 1) olds w.wake.new.self c.match-order.lines before asked_of (g.P.Pace.words c.match-order.pace) kept c.loop.store
                c.match-order.store d w.latest-is w.lines-is w.store-is (ap g.P.Pace.words w.pace-is) more,
            subst (paced_with d) (sym w.pace-is) (c.loop.pace, paced, given),
            early_is c.loop.lines.slot w.wake.new.self c.match-order.lines w.wake.ensures.slot w.lines-is
                (early_alike c.loop.lines.slot c.loop.lines.lines w.wake.new.self.lines (alike_woken w.in-Wake.line c.loop.lines.lines w.wake.new.self.lines w.wake.ensures.woken) early),
          )
    ]

pub returns-in_default-clause-ran : goal.returns-in_default-clause-ran
returns-in_default-clause-ran g c =
    let done : List DoneOrder = c.loop.invariant.0 in
    let on = c.loop.invariant.1 in
    let before = g.P.Pace.words c.args.pace.now in
    let now_told = g.P.Pace.words c.loop.pace in
    let asked_of = g.P.Pace.words c.next.new.self in
    let K = g.row.K.Denot in
    let same = g.K.RunStore.is_same in
    let puts = g.K.PageStore.puts in
    let notes = g.K.RunStore.notes in
    let ends = g.K.RunStore.ends in
    let kept = c.args.store.now in
    let first = c.args.lines.now.slot in
    let olds = c.args.lines.now.lines in
    let none = no_order c.next.result c.in_default.not-Some in
    let given = subst (λ (o : Option Order). g.P.Pace.gives o c.loop.pace c.next.new.self) none c.next.ensures.gives in
    let asked_so = subst (λ (o : Option Order). Grows (Asks o ∷ []) now_told asked_of) none c.next.ensures.words in
    let asked = subst (λ (x : Option (List Word)). Grows (Asks None ∷ []) now_told x) (sym c.store_waiting.ensures.words) asked_so in
    let left = c.store_waiting.new.lines in
    let it = stores_state K same puts notes ends first c.loop.latest olds c.loop.lines.lines left.lines c.loop.lines.slot left.slot c.loop.counter before now_told now_told kept c.loop.store c.store_waiting.new.store done on
    c.store_waiting.ensures.stores c.store_waiting.ensures.slot refl in
    let free = all_free K same puts notes ends c.loop.store c.store_waiting.new.store c.loop.lines.lines left.lines on.free c.store_waiting.ensures.stores c.store_waiting.ensures.free in
    let run = ended K same puts notes ends first c.loop.latest olds left.lines left.slot c.loop.counter before now_told kept c.store_waiting.new.store it.0 it.2 free in (
      it.0,
      run.went,
      run.slot_is,
      run.served,
      run.rising,
      inl (grows_more (words_of it.0) (Asks None ∷ []) before now_told (g.P.Pace.words c.store_waiting.new.pace) it.2.run.words asked),
      run.ran,
      (
        c.next.new.self,
        c.store_waiting.ensures.sees,
        inl (c.loop.pace, paced_after g.P.Pace.gives g.P.Pace.hears g.P.Pace.sees done it.0 c.args.pace.now c.loop.pace it.1 c.loop.invariant.2, given),
      ),
    )

pub returns-in_default-clause-free : goal.returns-in_default-clause-free
returns-in_default-clause-free g c =
    all_free g.row.K.Denot g.K.RunStore.is_same g.K.PageStore.puts g.K.RunStore.notes g.K.RunStore.ends c.loop.store c.store_waiting.new.store c.loop.lines.lines c.store_waiting.new.lines.lines c.loop.invariant.1.free
    c.store_waiting.ensures.stores c.store_waiting.ensures.free

pub returns-clause-ran : goal.returns-clause-ran
returns-clause-ran g c =
    let done : List DoneOrder = c.loop.invariant.0 in
    let on = c.loop.invariant.1 in
    let before = g.P.Pace.words c.args.pace.now in
    let now_told = g.P.Pace.words c.loop.pace in
    let K = g.row.K.Denot in
    let same = g.K.RunStore.is_same in
    let puts = g.K.PageStore.puts in
    let notes = g.K.RunStore.notes in
    let ends = g.K.RunStore.ends in
    let kept = c.args.store.now in
    let first = c.args.lines.now.slot in
    let olds = c.args.lines.now.lines in
    let left = c.store_waiting-2.new.lines in
    let told = g.P.Pace.words c.store_waiting-2.new.pace in
    let it = stores_state K same puts notes ends first c.loop.latest olds c.loop.lines.lines left.lines c.loop.lines.slot left.slot c.loop.counter before now_told told kept c.loop.store c.store_waiting-2.new.store done on
    c.store_waiting-2.ensures.stores c.store_waiting-2.ensures.slot c.store_waiting-2.ensures.words in
    let free = all_free K same puts notes ends c.loop.store c.store_waiting-2.new.store c.loop.lines.lines left.lines on.free c.store_waiting-2.ensures.stores c.store_waiting-2.ensures.free in
    let run = ended K same puts notes ends first c.loop.latest olds left.lines left.slot c.loop.counter before told kept c.store_waiting-2.new.store it.0 it.2 free in (
      it.0,
      run.went,
      run.slot_is,
      run.served,
      run.rising,
      inr (omega (arith, it.2.run.many), it.2.run.words),
      run.ran,
      (
        c.loop.pace,
        c.store_waiting-2.ensures.sees,
        inr (omega (arith, it.2.run.many), paced_after g.P.Pace.gives g.P.Pace.hears g.P.Pace.sees done it.0 c.args.pace.now c.loop.pace it.1 c.loop.invariant.2),
      ),
    )

pub returns-clause-free : goal.returns-clause-free
returns-clause-free g c =
    all_free g.row.K.Denot g.K.RunStore.is_same g.K.PageStore.puts g.K.RunStore.notes g.K.RunStore.ends c.loop.store c.store_waiting-2.new.store c.loop.lines.lines c.store_waiting-2.new.lines.lines c.loop.invariant.1.free
    c.store_waiting-2.ensures.stores c.store_waiting-2.ensures.free
