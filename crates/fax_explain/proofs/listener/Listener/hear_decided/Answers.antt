use Rattle.std.proofs.Common.{◌≡◌, ◌+◌, ◌%◌, ℕ, List, [], ◌++◌, Some, map, reverse, subst}
use Rattle.fax_ifp.specs.Tracked.{lost_slots}
use Rattle.fax_udptl.specs.Taking.{slots_in}
use Rattle.fax_explain.specs.Heard.{HasHeard, Hears}
use Rattle.fax_explain.specs.Listening.{marks_left}
use Rattle.fax_explain.specs.Openings.{packets_openings}
use Rattle.fax_explain.specs.declared.mark.Mark.{Mark}
use Rattle.fax_explain.proofs.OpenedLemmas.{always, decided_kept, decided_told, late_kept, late_told, ok_then}
use Rattle.fax_explain.proofs.listener.Listener.hear_decided.Goals as goal

pub returns-then-is_empty-clause-told : goal.returns-then-is_empty-clause-told
returns-then-is_empty-clause-told c = ok_then c.hear_late.result c.hear_late.ensures (λ late ear is_ear slots h.
    late_told ear (marks_left c.args.self.now) slots c.args.number c.args.decided.now c.from-from.result c.args.self.now c.args.tale.now c.hear_late.new.tale
    (c.is_empty.ensures.0 c.if-is_empty.true) c.from-from.ensures (late ear is_ear))

pub returns-then-is_empty-clause-heard : goal.returns-then-is_empty-clause-heard
returns-then-is_empty-clause-heard c = always c.hear_late.result (λ slots h. late_kept c.args.decided.now slots c.args.self.now (c.is_empty.ensures.0 c.if-is_empty.true) h)

pub returns-clause-told : goal.returns-clause-told
returns-clause-told c = ok_then c.hear_packets.result c.hear_packets.ensures.told (λ told ear is_ear slots h.
    let decided = c.args.decided.now in
    let from = c.from-from.result in
    let lost = c.lost-lost.result in
    let marks = marks_left c.args.self.now in
    let some : slots_in decided ≡ [] → ⊥ = λ none. let no = c.is_empty.ensures.1 none in cc in
    let after = c.in_ok-lose.ensures.heard slots h in
    decided_told ear marks slots c.args.number decided from lost c.args.self.now c.lose.new.self c.hear_packets.new.self c.args.tale.now c.lose.new.tale c.bring_back.new.tale c.hear_packets.new.tale
    some c.from-from.ensures c.lost-lost.ensures (c.in_ok-lose.ensures.told ear is_ear) c.in_ok-bring_back.ensures (λ at.
    subst (λ (ms : List Mark). Hears ear (packets_openings ear ms (lost_slots lost ++ slots) ((from + lost) % 65536) decided.packets) c.lose.new.self c.hear_packets.new.self c.bring_back.new.tale c.hear_packets.new.tale)
    c.in_ok-lose.ensures.marks
    (subst (λ (ps : List (List ℕ)). Hears ear (packets_openings ear (marks_left c.lose.new.self) (lost_slots lost ++ slots) ((from + lost) % 65536) ps) c.lose.new.self c.hear_packets.new.self c.bring_back.new.tale c.hear_packets.new.tale)
    c.packets.ensures (told ear at (lost_slots lost ++ slots) after))))

pub returns-clause-heard : goal.returns-clause-heard
returns-clause-heard c = ok_then c.hear_packets.result c.hear_packets.ensures.heard (λ heard slots h.
    let lost = c.lost-lost.result in
    decided_kept c.args.decided.now lost slots c.hear_packets.new.self c.lost-lost.ensures
    (subst (λ (ps : List (List ℕ)). HasHeard (reverse (map (λ (x : List ℕ). Some x) ps) ++ (lost_slots lost ++ slots)) c.hear_packets.new.self)
    c.packets.ensures (heard (lost_slots lost ++ slots) (c.in_ok-lose.ensures.heard slots h))))
