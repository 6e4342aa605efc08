use Rattle.std.proofs.Common.{◌≡◌, List, Some, length, slice_get, get_or, refl, sym, ◌∙◌, subst}
use Rattle.std.proofs.lemmas.Option.{slice_get_read}
use Rattle.fax_pagestore.specs.Pages.{PageValue}
use Rattle.fax_call.specs.declared.procedure.Procedure.{Procedure}
use Rattle.fax_call.specs.Following.{Follows, GivesPacket}
use Rattle.fax_call.specs.Reached.{Rep}
use Rattle.fax_call.proofs.GivingLemmas.{text_gives}
use Rattle.fax_call.proofs.caller.Caller.give_text.Goals as goal

pub returns-clause-given : goal.returns-clause-given
returns-clause-given g c writes core f =
    let job = c.args.job.now in
    let p : Procedure = c.args.procedure in
    let page : PageValue = c.index-as_slice-procedure.result in
    let packet = c.in_ok-packet.packet in
    let told = c.in_ok-packet.ensures in
    let pages : c.as_slice.result.now ≡ job.pages = c.as_slice.ensures ∙ c.pages.ensures.same in
    let is_at : page ≡ get_or job.pages p.counts.page page = subst (λ (xs : List PageValue). page ≡ get_or xs p.counts.page page) pages c.index-as_slice-procedure.is in
    let at : slice_get job.pages p.counts.page ≡ Some page = slice_get_read job.pages (length job.pages) p.counts.page page refl c.requires.page is_at in
    let shown : Follows writes job core c.self.inside.writer p = subst (λ (k : Rep). Follows writes job core k.writer p) (sym c.self.view_is) f in
    subst (λ (n : Procedure). GivesPacket writes job core c.args.now (Some packet.octets) c.text_packet.new.writer n) (sym c.give.ensures.given)
    (text_gives writes job core c.self.inside.writer c.text_packet.new.writer p c.args.now c.args.dcs c.requires.pending.0 page packet.octets packet.is_last
    c.requires.fit shown c.requires.pending.1 at told.packet told.last told.left)
