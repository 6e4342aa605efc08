use Rattle.std.proofs.Common.{List, [], ap, subst}
use Rattle.fax_command.proofs.PutLemmas.{OnOk-then}
use Rattle.fax_call.specs.declared.state.State.{State}
use Rattle.fax_descriptions.specs.Tellings.{Description}
use Rattle.fax_explain.specs.Given.{TellsGiven, to_called}
use Rattle.fax_explain.specs.Marks.{given_signal}
use Rattle.fax_explain.specs.declared.listener.Listener.{Listener}
use Rattle.fax_explain.proofs.GivenLemmas.{hearing_giving, keeps_to}
use Rattle.fax_explain.proofs.PictureLemmas.{keeps_grows}
use Rattle.fax_explain.proofs.PlayLemmas.{always}
use Rattle.fax_explain.proofs.stage.Stage.give_called.Goals as goal

pub returns-clause-pages : goal.returns-clause-pages
returns-clause-pages c = always c.append.result (keeps_grows _ _ _ c.in_ok-keep_found.ensures)

pub returns-clause-ear : goal.returns-clause-ear
returns-clause-ear c = always c.append.result
    (keeps_to c.args.self.now.called.ours c.give.new.self.ours c.take_page.new.self.ours (ap (λ (l : Listener). l.lane) c.take_page.ensures.ours) (ap (λ (l : Listener). l.is_outside) c.take_page.ensures.ours)
    c.in_ok-give.ensures.ear)

pub returns-clause-told : goal.returns-clause-told
returns-clause-told c = OnOk-then c.append.result c.append.ensures (λ is setup writes trace reached arrived h to.
    let state = c.called_state.result in
    let ours = c.args.self.now.called.ours in
    let told = c.in_ok-give.ensures.told (to_called (given_signal state)) (to (given_signal state)) arrived (hearing_giving arrived (given_signal state) ours h) in (
      c.give.new.tale,
      subst (λ (s : State). TellsGiven (to_called (given_signal s)) arrived c.args.given.now.called [] c.give.new.tale) (c.called_state.ensures setup writes trace reached)
          (subst (λ (first : List Description). TellsGiven (to_called (given_signal state)) arrived c.args.given.now.called first c.give.new.tale) c.new-after.ensures told),
      is,
    ))
