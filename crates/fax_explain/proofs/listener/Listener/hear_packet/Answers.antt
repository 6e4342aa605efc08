use Rattle.std.proofs.Common.{◌≡◌, ◌-◌, List, ◌++◌, refl, sym, ◌∙◌, ap, reverse, subst}
use Rattle.fax_ifp.specs.Pieces.{Piece}
use Rattle.fax_ifp.specs.Tracked.{TrackState, IsTracked}
use Rattle.fax_explain.specs.FrameEnds.{frames_in}
use Rattle.fax_explain.specs.Heard.{Hears}
use Rattle.fax_explain.specs.Listening.{later_marks, marks_left}
use Rattle.fax_explain.specs.Openings.{octets_counted, pieces_openings}
use Rattle.fax_explain.specs.declared.mark.Mark.{Mark}
use Rattle.fax_explain.proofs.OpenedLemmas.{always, ok_then, packet_heard, packet_kept, packet_past, same_ear}
use Rattle.fax_explain.proofs.listener.Listener.hear_packet.Goals as goal

pub returns-clause-told : goal.returns-clause-told
returns-clause-told c = ok_then c.tell_lacking.result c.tell_lacking.ensures (λ tail ear is_ear slots h.
    let marks = marks_left c.args.self.now in
    let at = record c.hear_head.new.self { signals = c.slot.new.self } in
    let head = c.in_ok-ends.ensures.told ear is_ear in
    packet_heard ear marks slots c.args.number c.args.packet.now c.in_ok-pieces.pieces c.in_ok-ends.ends c.lacking-lacking.result c.args.self.now c.hear_head.new.self
    at c.hear_pieces.new.self c.args.tale.now c.hear_head.new.tale c.hear_pieces.new.tale c.tell_lacking.new.tale
    head c.in_ok-ends.ensures.stays h c.in_ok-pieces.ensures.pieces refl
    (λ before n. subst (λ (ms : List Mark). Hears ear (pieces_openings ear ms before c.in_ok-pieces.pieces) at c.hear_pieces.new.self c.hear_head.new.tale c.hear_pieces.new.tale) c.in_ok-ends.ensures.marks
    (subst (λ (ps : List Piece). Hears ear (pieces_openings ear (marks_left c.hear_head.new.self) before ps) at c.hear_pieces.new.self c.hear_head.new.tale c.hear_pieces.new.tale) c.as_slice.ensures
    (c.in_ok-hear_pieces.ensures.told ear (same_ear ear c.hear_head.new.self at refl refl refl head.is_ear) before n)))
    c.in_ok-ends.ensures.ends (c.lacking-lacking.ensures ∙ ap (λ (ps : List Piece). c.in_ok-ends.ends.good - frames_in ps) c.as_slice-2.ensures) tail)

pub returns-clause-heard : goal.returns-clause-heard
returns-clause-heard c = always c.tell_lacking.result (λ slots h.
    packet_kept slots c.args.packet.now c.in_ok-pieces.pieces c.slot.new.self c.args.self.now c.hear_head.new.self c.hear_pieces.new.self
    c.in_ok-ends.ensures.stays h c.in_ok-pieces.ensures.tracked c.in_ok-pieces.ensures.pieces c.in_ok-hear_pieces.ensures.signals
    (λ before n. subst (λ (ps : List Piece). c.hear_pieces.new.self.image.octets ≡ octets_counted (reverse ps ++ before)) c.as_slice.ensures (c.in_ok-hear_pieces.ensures.counted before n)))

pub returns-clause-marks : goal.returns-clause-marks
returns-clause-marks c = always c.tell_lacking.result (λ slots h.
    packet_past slots c.args.packet.now c.in_ok-pieces.pieces c.hear_head.new.self.signals (marks_left c.args.self.now) (marks_left c.hear_pieces.new.self) (marks_left c.hear_head.new.self)
    (subst (λ (s : TrackState). IsTracked slots s) (sym c.in_ok-ends.ensures.stays.0) h.tracked) c.in_ok-pieces.ensures.pieces c.in_ok-ends.ensures.marks
    (subst (λ (ps : List Piece). marks_left c.hear_pieces.new.self ≡ later_marks ps (marks_left c.hear_head.new.self)) c.as_slice.ensures c.in_ok-hear_pieces.ensures.marks))
