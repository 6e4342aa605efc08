use Rattle.std.proofs.Common.{◌≡◌, true, false, rules}
use Rattle.fax_answer.specs.declared.pending.Pending.TheVariants.{Nothing}
use Rattle.fax_answer.specs.Following.{gives_up, repeats_dis, begins_again}
use Rattle.fax_answer.proofs.FollowingLemmas.{acts_goodbye, acts_anew}
use Rattle.fax_answer.proofs.procedure.Procedure.act.Goals as goal

pub returns-then-gives_up-clause-acted : goal.returns-then-gives_up-clause-acted
returns-then-gives_up-clause-acted c core confirmed f =
    let nothing : c.args.self.now.pending ≡ Nothing = search rules in
    let up : gives_up c.args.self.now.state c.args.self.now.timers c.args.now ≡ true = search rules in
    acts_goodbye core confirmed c.args.self.now c.say_goodbye.new.self c.args.now f nothing up (c.say_goodbye.ensures core confirmed f)

pub returns-then-begins_again-clause-acted : goal.returns-then-begins_again-clause-acted
returns-then-begins_again-clause-acted c core confirmed f =
    let nothing : c.args.self.now.pending ≡ Nothing = search rules in
    let up : gives_up c.args.self.now.state c.args.self.now.timers c.args.now ≡ false = search rules in
    let again : repeats_dis c.args.self.now.state c.args.self.now.timers c.args.now ≡ false = search rules in
    let anew : begins_again c.args.self.now.state c.args.self.now.timers c.args.now ≡ true = search rules in
    acts_anew core confirmed c.args.self.now c.identify_anew.new.self c.args.now f nothing up again anew (c.identify_anew.ensures core confirmed f)
