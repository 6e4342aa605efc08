use Rattle.std.proofs.Common.{◌≡◌, ◌+◌, ◌≤◌, [], ◌++◌, Some, sym, ◌∙◌, ap, subst, arith, take}
use Rattle.std.specs.Io.KnownBytes.{Appends, IsAtEnd}
use Rattle.std.proofs.KnownBytes.{Appends-trans, Consumes-kept}
use Rattle.fax_say.specs.declared.last.Last.{Last}
use Rattle.fax_say.specs.Hearings.{HasHeard, HasPrinted, HearingValue}
use Rattle.fax_say.proofs.HearingLemmas.{closed_so, more_came, none_came, passed_all, passed_more, printed_so}
use Rattle.fax_say.proofs.run.hear.Goals as goal
use Rattle.fax_say.proofs.run.hear.Goals.{in-Ok+in-Ok-None, in-Err-Interrupted}

-- the stream was closed
pub returns-in-Ok-eq0-clause-answered : goal.returns-in-Ok-eq0-clause-answered
returns-in-Ok-eq0-clause-answered g c =
    let source = g.I.Source in
    let sink = g.O.Sink in
    let so_far = c.loop.invariant in
    let coming = source.remaining c.args.source.now in
    let left = source.remaining c.read.new.self in
    let held = sink.contents c.args.output.now in
    let holds = sink.contents c.loop.output in
    let hearing = c.loop.hearing in
    let nothing : take c.in-Ok-eq0.field-0 c.read.new.buffer ≡ [] = ap (λ n. take n c.read.new.buffer) c.in-Ok-eq0.field-0-test in
    let came = none_came coming (source.remaining c.loop.source) left so_far.octets (take c.in-Ok-eq0.field-0 c.read.new.buffer) so_far.came c.in-Ok-eq0.ensures.octets.0 nothing in
    let end : IsAtEnd left = c.in-Ok-eq0.ensures.octets.1 c.in-Ok-eq0.field-0-test (omega (arith, c.read.auto.buffer, so_far.room)) in
    λ last is. subst (λ stays. HasPrinted stays last coming left held holds) so_far.stays
    (closed_so hearing.stays hearing.last hearing.part last coming left held holds so_far.octets (sym c.ending.ensures ∙ is) so_far.heard
    (passed_all coming left held holds so_far.octets came so_far.printed) end)

-- the last line has come
pub returns-in-Ok-Some-clause-answered : goal.returns-in-Ok-Some-clause-answered
returns-in-Ok-Some-clause-answered g c =
    let source = g.I.Source in
    let sink = g.O.Sink in
    let so_far = c.loop.invariant in
    let coming = source.remaining c.args.source.now in
    let now = source.remaining c.loop.source in
    let left = source.remaining c.read.new.self in
    let held = sink.contents c.args.output.now in
    let holds = sink.contents c.loop.output in
    let then_holds = sink.contents c.print.new.output in
    let hearing = c.print.new.hearing in
    let (front, dropped, cut, printed, heard, all) = c.in-Ok-Some.ensures.heard in
    λ last same.
    let is : c.in-Ok-Some.last ≡ last = cc in
    subst (λ stays. HasPrinted stays last coming left held then_holds) (c.in-Ok-Some.ensures.stays ∙ so_far.stays)
    (printed_so hearing.stays hearing.last hearing.part last coming left held then_holds (so_far.octets ++ front) dropped
    (sym c.in-Ok-Some.ensures.over ∙ c.in-Ok-Some.field-0-is ∙ ap (λ (l : Last). Some l) is)
    (heard so_far.octets so_far.heard)
    (passed_more coming now left held holds then_holds so_far.octets (take c.in-Ok.count c.read.new.buffer) front dropped so_far.came c.in-Ok.ensures.octets.0
    so_far.printed printed cut))

pub loop-preserved : goal.loop-preserved
loop-preserved g c =
    let source = g.I.Source in
    let sink = g.O.Sink in
    let so_far = c.loop.invariant in
    let coming = source.remaining c.args.source.now in
    let now = source.remaining c.loop.source in
    let left = source.remaining c.read.new.self in
    let held = sink.contents c.args.output.now in
    let holds = sink.contents c.loop.output in
    let counted : c.loop.counter + 1 ≤ source.reads c.read.new.self = omega (arith, c.read.ensures.counted, so_far.reads, c.loop-test.true) in
    elim c.match-read.branch [
      | in-Ok+in-Ok-None w ↦
          let (front, dropped, cut, printed, heard, all) = w.in-Ok-None.ensures.heard in
          record {
            octets = so_far.octets ++ front;
            heard = subst (λ h. HasHeard h (so_far.octets ++ front)) (sym w.hearing-is) (heard so_far.octets so_far.heard);
            came = more_came coming now left so_far.octets (take w.in-Ok.count c.read.new.buffer) front dropped so_far.came w.in-Ok.ensures.octets.0 cut
                (all (sym w.in-Ok-None.ensures.over ∙ w.in-Ok-None.field-0-is));
            printed = subst (λ o. Appends held (sink.contents o) (so_far.octets ++ front)) (sym w.output-is)
                (Appends-trans held holds (sink.contents w.print.new.output) so_far.octets front so_far.printed printed);
            stays = ap (λ (h : HearingValue). h.stays) w.hearing-is ∙ w.in-Ok-None.ensures.stays ∙ so_far.stays;
            reads = counted;
            room = omega (arith, c.read.auto.buffer, so_far.room);
          }
      | in-Err-Interrupted w ↦
          record {
            octets = so_far.octets;
            heard = subst (λ h. HasHeard h so_far.octets) (sym w.hearing-is) so_far.heard;
            came = Consumes-kept coming now left so_far.octets so_far.came w.in-Err-Interrupted.ensures.octets;
            printed = subst (λ o. Appends held (sink.contents o) so_far.octets) (sym w.output-is) so_far.printed;
            stays = ap (λ (h : HearingValue). h.stays) w.hearing-is ∙ so_far.stays;
            reads = counted;
            room = omega (arith, c.read.auto.buffer, so_far.room);
          }
    ]
