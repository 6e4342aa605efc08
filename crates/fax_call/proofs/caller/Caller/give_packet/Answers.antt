use Rattle.std.proofs.Common.{◌≡◌, false, sym, ◌∙◌, ap, subst}
use Rattle.fax_frames.specs.declared.writing.Plain.{Plain}
use Rattle.fax_call.specs.declared.pending.Pending.{Pending}
use Rattle.fax_call.specs.declared.procedure.Procedure.{Procedure}
use Rattle.fax_call.specs.Replies.{signals_preamble}
use Rattle.fax_call.specs.Rep.{packet_of, pending_after}
use Rattle.fax_call.specs.Following.{HasText, command_kept}
use Rattle.fax_call.proofs.GivingLemmas.{given_pending, has_after}
use Rattle.fax_call.proofs.caller.Caller.give_packet.Goals as goal

pub invariant_of-self-2 : goal.invariant_of-self-2
invariant_of-self-2 c =
    let q : Pending = c.args.procedure.pending in
    let asks : Plain = command_kept c.args.procedure in
    let p : c.give.new.self.pending ≡ pending_after q asks false =
    ap (λ (p : Procedure). p.pending) c.give.ensures.given ∙ given_pending (signals_preamble (packet_of q)) (pending_after q asks false) c.args.procedure c.args.now in (
      c.give.ensures.fit,
      subst (λ (k : Pending). HasText k c.self.inside.writer) (sym p) (has_after q asks c.self.inside.writer c.requires.no_image c.requires.no_text),
    )
