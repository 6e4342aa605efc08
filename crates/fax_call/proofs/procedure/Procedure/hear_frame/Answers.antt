use Rattle.std.proofs.Common.{◌≡◌, ℕ, List, sym, ◌∙◌, ap, subst, rules}
use Rattle.fax_ifp.specs.Pieces.{Frame}
use Rattle.fax_call.specs.declared.pending.Pending.TheVariants.{Nothing}
use Rattle.fax_call.specs.Table.{Move}
use Rattle.fax_call.specs.Calls.{CallerCore, heard, moved}
use Rattle.fax_call.specs.Following.{Follows}
use Rattle.fax_call.specs.Rep.{move_shown}
use Rattle.fax_call.specs.Watching.{decision_of}
use Rattle.fax_call.proofs.FollowingLemmas.{core_rests, core_waits, frame_decides, passed_over, waits_decides}
use Rattle.fax_call.proofs.Tellings.{watches_one}
use Rattle.fax_call.proofs.procedure.Procedure.hear_frame.Goals as goal

pub returns-then-is_waiting-clause-heard : goal.returns-then-is_waiting-clause-heard
returns-then-is_waiting-clause-heard g c writes job core writer f =
    let some : c.args.self.now.pending ≡ Nothing → ⊥ = search rules in
    let p = c.args.self.now in
    subst (λ (a : CallerCore). Follows writes job a writer p)
    (sym (passed_over core c.args.octets.now c.args.now (core_waits writes job core writer p c.requires.fit f some))) f

pub returns-then-is_waiting-clause-told : goal.returns-then-is_waiting-clause-told
returns-then-is_waiting-clause-told g c writes job core writer f =
    let some : c.args.self.now.pending ≡ Nothing → ⊥ = search rules in
    let waiting = core_waits writes job core writer c.args.self.now c.requires.fit f some in
    watches_one g.W.Watcher.tells c.args.watcher.now c.tell.new.self _ _ _ _ _ _ _ _ f.state (sym waiting) c.requires.frame
    (sym (ap decision_of (waits_decides core c.args.octets.now c.args.now waiting))) c.tell.ensures

pub returns-clause-heard : goal.returns-clause-heard
returns-clause-heard g c writes job core writer f =
    let none : c.args.self.now.pending ≡ Nothing = search rules in
    let now : ℕ = c.args.now in
    subst (λ (m : Move). Follows writes job (moved core m) writer c.make.new.self)
    (sym (frame_decides writes job core writer c.args.self.now c.args.octets.now now _ f none (c.decide-decided.ensures.decided now)))
    (c.make.ensures.made writes job core writer writer f)

pub returns-clause-told : goal.returns-clause-told
returns-clause-told g c writes job core writer f =
    let none : c.args.self.now.pending ≡ Nothing = search rules in
    let now : ℕ = c.args.now in
    watches_one g.W.Watcher.tells c.args.watcher.now c.tell-2.new.self _ _ _ _ _ _ _ _ f.state (sym (core_rests writes job core writer c.args.self.now f none)) c.requires.frame
    (c.decision.ensures now ∙ sym (ap decision_of (frame_decides writes job core writer c.args.self.now c.args.octets.now now _ f none (c.decide-decided.ensures.decided now)))) c.tell-2.ensures
