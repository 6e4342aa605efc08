use Rattle.std.proofs.Common.{refl, ◌∙◌, string_bytes, subst, sym}
use Rattle.fax_udptl.specs.Slots.{newest_slots}
use Rattle.fax_udptl.specs.Taking.{Takes}
use Rattle.fax_explain.specs.Listening.{marks_left}
use Rattle.fax_explain.specs.declared.listener.Listener.{Listener}
use Rattle.fax_explain.specs.Openings.{unread_opening}
use Rattle.fax_explain.proofs.OpenedLemmas.{adds_line, always, begins_more, datagram_kept, datagram_told, ear_of, has_ear, ok_both, ok_then, same_ear, unread_kept, unread_told}
use Rattle.fax_explain.proofs.listener.Listener.hear.Goals as goal

pub returns-clause-told : goal.returns-clause-told
returns-clause-told c = ok_then c.hear_decided.result c.hear_decided.ensures.told (λ told ear is_ear arrived h.
    let old = c.args.self.now in
    datagram_told ear (marks_left old) arrived c.args.octets.now c.number-number.result old.receiver c.take.new.self c.in-Ok-take.decided c.in-Ok.datagram c.args.tale.now c.hear_decided.new.tale
    h.after c.in-Ok-take.ensures.taken c.in-Ok.ensures c.number-number.ensures
    (told ear (same_ear ear old _ refl refl refl is_ear) (newest_slots arrived) (record { tracked = h.heard.tracked; counted = h.heard.counted })).adds)

pub returns-clause-hearing : goal.returns-clause-hearing
returns-clause-hearing c = ok_both c.hear_decided.result c.hear_decided.ensures.told c.hear_decided.ensures.heard (λ told heard arrived h.
    let old = c.args.self.now in
    let same = (told (ear_of old) (same_ear (ear_of old) old _ refl refl refl (has_ear old)) (newest_slots arrived) (record { tracked = h.heard.tracked; counted = h.heard.counted })).receiver in
    datagram_kept arrived c.args.octets.now old.receiver c.in-Ok-take.decided c.hear_decided.new.self h.after
    (subst (λ r. Takes c.args.octets.now old.receiver r c.in-Ok-take.decided) (sym same) c.in-Ok-take.ensures.taken)
    (heard (newest_slots arrived) (record { tracked = h.heard.tracked; counted = h.heard.counted })))

pub returns-clause-ear : goal.returns-clause-ear
returns-clause-ear c = ok_then c.hear_decided.result c.hear_decided.ensures.told (λ told ear is_ear arrived h.
    (told ear (same_ear ear c.args.self.now _ refl refl refl is_ear) (newest_slots arrived) (record { tracked = h.heard.tracked; counted = h.heard.counted })).is_ear)

pub returns-in-Err-clause-told : goal.returns-in-Err-clause-told
returns-in-Err-clause-told c = ok_then c.tell.result c.tell.ensures (λ line ear is_ear arrived h.
    let now : Listener = record c.args.self.now { frames = c.clear.new.self } in
    unread_told ear (marks_left c.args.self.now) arrived c.args.octets.now c.in-Err.fault c.args.tale.now c.tell.new.tale c.in-Err.ensures
    (adds_line ear unread_opening c.as_str-in-Err.result.now now c.args.tale.now c.tell.new.tale (same_ear ear c.args.self.now now refl refl refl is_ear)
    (begins_more _ (string_bytes c.in_ok-words-in-Err.words) c.as_str.result.now c.as_str-in-Err.result.now
    c.in_ok-words-in-Err.ensures.ok (c.as_str-in-Err.ensures.value ∙ c.in_ok-push_str-in-Err.ensures.bytes)) line))

pub returns-in-Err-clause-hearing : goal.returns-in-Err-clause-hearing
returns-in-Err-clause-hearing c = always c.tell.result (λ arrived h.
    unread_kept arrived c.args.octets.now c.in-Err.fault _ c.in-Err.ensures (record { after = h.after; heard = record { tracked = h.heard.tracked; counted = h.heard.counted } }))
