use Rattle.std.proofs.Common.{ℕ, ◌+◌, [], ◌∷◌, ◌++◌, refl, rules, arith, sym, ◌∙◌, ap, append_assoc, length-append}
use Rattle.fax_command.specs.RowLines.{lines_of}
use Rattle.fax_trace.specs.Playing.{nothing_played}
use Rattle.fax_trace.proofs.PlayLemmas.{PlaysAll-push}
use Rattle.fax_trace.proofs.ScriptLemmas.{TellEvents-push}
use Rattle.fax_trace.proofs.TextLemmas.{text_of_none}
use Rattle.fax_trace.proofs.WantedLemmas.{not_ok, wanted_if, wanted_unplayed, wanted_unread}
use Rattle.fax_trace.proofs.answer.play_lines.Goals as goal

pub loop-line-init : goal.loop-line-init
loop-line-init c = record {
  before = [];
  lines_are = refl;
  so_many = sym c.requires.none;
  short = omega (arith, c.requires.none);
  events = [];
  tell = tt;
  played = λ setup writes set written. (nothing_played, refl, c.requires.new setup writes set);
}

pub loop-line-preserved : goal.loop-line-preserved
loop-line-preserved c =
    let so_far = c.loop-line.invariant in
    let line = c.in-Some.line.now in
    let event = c.in-Some-2.event in
    let told = rw c.in-Some-2.is at c.in_ok-event.ensures.some in
    record {
      before = so_far.before ++ line ∷ [];
      lines_are = so_far.lines_are ∙ ap (λ rest. so_far.before ++ rest) c.in-Some.ensures.lines ∙ sym (append_assoc so_far.before (line ∷ []) (lines_of c.in-Some.after.now));
      so_many = omega (arith, length-append so_far.before (line ∷ []), so_far.so_many);
      short = omega (arith, so_far.short, c.in-Some.ensures.shorter);
      events = so_far.events ++ event ∷ [];
      tell = TellEvents-push so_far.before so_far.events line event so_far.tell told;
      played = λ setup writes set written.
          let p = so_far.played setup writes set written in
          let next = c.in_ok-play.ensures.played setup writes p.0 written p.2 in
          (next.new, PlaysAll-push setup writes nothing_played so_far.events event p.0 next.new p.1 next.plays, next.is_playing);
    }

pub returns : goal.returns
unfolding lines_of
returns c =
    let so_far = c.loop-line.invariant in
    record {
      before = so_far.before;
      so_many = so_far.so_many;
      others = [];
      lines_are = so_far.lines_are ∙ ap (λ rest. so_far.before ++ rest) (ap lines_of c.in_default.ensures.none);
      events = so_far.events;
      tell = so_far.tell;
      ends = refl;
      told = λ setup writes set written.
          let p = so_far.played setup writes set written in
          record { played = p.0; is_played = p.1; is_trace = p.2.reached.is_trace; ends_so = tt; text_is = text_of_none p.0.lines _ p.2.told };
    }

pub returns-in_err-event : goal.returns-in_err-event
returns-in_err-event c =
    let so_far = c.loop-line.invariant in
    record {
      before = so_far.before;
      so_many = so_far.so_many;
      others = lines_of c.loop-line.rest.now;
      lines_are = so_far.lines_are;
      events = so_far.events;
      tell = so_far.tell;
      ends = search rules;
      told = λ setup writes set written.
          let p = so_far.played setup writes set written in
          record { played = p.0; is_played = p.1; is_trace = p.2.reached.is_trace; ends_so = wanted_if setup writes p.0.trace so_far.before (lines_of c.loop-line.rest.now) c.from_residual.result (search rules) (wanted_unread setup writes p.0.trace so_far.before c.in-Some.line.now (lines_of c.in-Some.after.now) (lines_of c.loop-line.rest.now) c.in-Some.ensures.lines c.in_err-event.ensures.memory); text_is = text_of_none p.0.lines _ p.2.told };
    }

pub returns-in_default-2 : goal.returns-in_default-2
returns-in_default-2 c =
    let so_far = c.loop-line.invariant in
    record {
      before = so_far.before;
      so_many = so_far.so_many;
      others = lines_of c.loop-line.rest.now;
      lines_are = so_far.lines_are;
      events = so_far.events;
      tell = so_far.tell;
      ends = (ap (λ (n : ℕ). n + 1) (sym so_far.so_many), c.in-Some.line.now, lines_of c.in-Some.after.now, c.in-Some.ensures.lines, rw c.in_default-2.is at c.in_ok-event.ensures.none);
      told = λ setup writes set written.
          let p = so_far.played setup writes set written in
          record { played = p.0; is_played = p.1; is_trace = p.2.reached.is_trace; ends_so = tt; text_is = text_of_none p.0.lines _ p.2.told };
    }

pub returns-in_err-play : goal.returns-in_err-play
returns-in_err-play c =
    let so_far = c.loop-line.invariant in
    record {
      before = so_far.before;
      so_many = so_far.so_many;
      others = lines_of c.loop-line.rest.now;
      lines_are = so_far.lines_are;
      events = so_far.events;
      tell = so_far.tell;
      ends = search rules;
      told = λ setup writes set written.
          let p = so_far.played setup writes set written in
          let told = rw c.in-Some-2.is at c.in_ok-event.ensures.some in
          record {
            played = p.0;
            is_played = p.1;
            is_trace = p.2.reached.is_trace;
            ends_so = wanted_if setup writes p.0.trace so_far.before (lines_of c.loop-line.rest.now) c.from_residual-in_err-play.result (search rules) (wanted_unplayed setup writes p.0.trace so_far.before c.in-Some.line.now (lines_of c.in-Some.after.now) (lines_of c.loop-line.rest.now) c.in-Some-2.event c.in-Some.ensures.lines told
                (λ early. not_ok (c.in_err-play.ensures.memory setup writes p.0 p.2 early)));
            text_is = c.in_err-play.ensures.err ∙ text_of_none p.0.lines _ p.2.told;
          };
    }
