use Rattle.std.proofs.Common.{subst, sym, List, ℕ}
use Rattle.fax_explain.specs.Listening.{StartsWith, first_mark, marked_end, marks_left}
use Rattle.fax_explain.proofs.OpenedLemmas.{end_heard, hears_told, marked_ear, ok_then, same_ear}
use Rattle.fax_explain.proofs.listener.Listener.end_image.Goals as goal

pub returns-clause-told : goal.returns-clause-told
returns-clause-told c =
    let old = c.args.self.now in
    let new = c.words_of_end.new.self in
    let e = c.in_ok-words.ensures in
    ok_then c.tell.result c.tell.ensures (λ line ear is_ear.
    let now = same_ear ear old new e.lane e.outside e.usual is_ear in
    hears_told ear _ c.as_str.result.now old new new c.args.tale.now c.tell.new.tale now now e.receiver
    (end_heard _ c.as_str.result.now
    (subst (λ (w : List ℕ). StartsWith (marked_end (first_mark ear.usual (marks_left old)) ear.lane ear.is_outside old.image.octets c.args.whole) w) (sym c.as_str.ensures.value)
    (marked_ear ear old c.args.whole _ is_ear e.words))) line)
