use Rattle.std.proofs.Common.{◌≡◌, ◌≤◌, ℕ, List, length, take, drop, nat_le, sym, ◌∙◌, ap, subst}
use Rattle.fax_pagestore.specs.Writers.{HasLeft}
use Rattle.fax_call.specs.Replies.{part_length}
use Rattle.fax_call.proofs.PacketLemmas.{last_told, text_put, short_put}
use Rattle.fax_call.proofs.text.text_packet.Goals as goal
use Rattle.fax_call.proofs.text.text_packet.Given.{Over}
use Rattle.fax_call.proofs.text.text_packet.Goals.{After-drop-octets}

part_is : (g : Over) (c : After-drop-octets g) → c.from-part.result ≡ part_length c.args.dcs
part_is g c = c.from-part.ensures ∙ c.part_length.ensures.part

left_is : (g : Over) (c : After-drop-octets g) (left : List ℕ) → HasLeft c.args.page.now left c.args.writer.now → HasLeft c.args.page.now (drop (part_length c.args.dcs) left) c.next.new.self
left_is g c left has = subst (λ (n : ℕ). HasLeft c.args.page.now (drop n left) c.next.new.self) (part_is g c) (c.in_ok-octets.ensures.left left has)

last_is : (g : Over) (c : After-drop-octets g) (left : List ℕ) → HasLeft c.args.page.now left c.args.writer.now → c.ended-is_last.result ≡ nat_le (length left) (part_length c.args.dcs)
last_is g c left has =
    last_told c.args.dcs left c.ended-is_last.result (c.ended-is_last.ensures.left c.args.page.now (drop (part_length c.args.dcs) left) (left_is g c left has))

pub returns-clause-packet : goal.returns-clause-packet
returns-clause-packet g c left has =
    let own : c.as_slice.result.now ≡ take (part_length c.args.dcs) left =
    c.as_slice.ensures ∙ c.in_ok-octets.ensures.given left has ∙ ap (λ (n : ℕ). take n left) (part_is g c) in
    c.from_vec.ensures
    ∙ text_put c.args.dcs left c.as_slice.result.now c.in_ok-packet.packet.items c.put_image.new.octets.items c.kind.result c.ended-is_last.result own (last_is g c left has)
    c.kind.ensures c.in_ok-packet.ensures.items c.put_image.ensures.items

pub returns-clause-last : goal.returns-clause-last
returns-clause-last g c left has = last_is g c left has

pub returns-clause-left : goal.returns-clause-left
returns-clause-left g c left has = left_is g c left has

pub returns-clause-short : goal.returns-clause-short
returns-clause-short g c =
    let few : length c.as_slice.result.now ≤ part_length c.args.dcs =
    subst (λ (n : ℕ). length c.as_slice.result.now ≤ n) (part_is g c) (subst (λ (os : List ℕ). length os ≤ c.from-part.result) (sym c.as_slice.ensures) c.in_ok-octets.ensures.few) in
    subst (λ (os : List ℕ). length os ≤ 100) (sym c.from_vec.ensures)
    (short_put c.args.dcs c.as_slice.result.now c.in_ok-packet.packet.items c.put_image.new.octets.items c.kind.result c.ended-is_last.result few
    c.kind.ensures c.in_ok-packet.ensures.items c.put_image.ensures.items)
