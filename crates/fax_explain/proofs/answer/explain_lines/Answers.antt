use Rattle.std.proofs.Common.{ℕ, ◌+◌, [], ◌∷◌, ◌++◌, map, refl, rules, arith, sym, ◌∙◌, ap, append_assoc, length-append}
use Rattle.fax_command.specs.RowLines.{lines_of}
use Rattle.fax_trace.specs.Playing.{nothing_played}
use Rattle.fax_trace.proofs.ScriptLemmas.{TellEvents-push}
use Rattle.fax_trace.proofs.TextLemmas.{text_of_more}
use Rattle.fax_descriptions.specs.Tales.{line_text}
use Rattle.fax_explain.proofs.LadderLemmas.{paragraph_lines}
use Rattle.fax_explain.proofs.Told.{IsTold-push, explained}
use Rattle.fax_explain.proofs.answer.explain_lines.Goals as goal

pub loop-line-init : goal.loop-line-init
loop-line-init c = record {
  before = [];
  lines_are = refl;
  so_many = refl;
  short = omega arith;
  events = [];
  tell = tt;
  lines = [];
  told = λ setup writes set written. record { played = nothing_played; told = (refl, refl); at = refl; reached = c.requires.new setup writes set };
  text_is = c.requires.empty;
}

pub loop-line-preserved : goal.loop-line-preserved
loop-line-preserved c =
    let so_far = c.loop-line.invariant in
    let line = c.in-Some.line.now in
    let event = c.in-Some-2.event in
    let tells = rw c.in-Some-2.is at c.in_ok-event.ensures.some in
    let own = c.in_ok-own.ensures in
    record {
      before = so_far.before ++ line ∷ [];
      lines_are = so_far.lines_are ∙ ap (λ rest. so_far.before ++ rest) c.in-Some.ensures.lines ∙ sym (append_assoc so_far.before (line ∷ []) (lines_of c.in-Some.after.now));
      so_many = omega (arith, length-append so_far.before (line ∷ []), so_far.so_many);
      short = omega (arith, so_far.short, c.in-Some.ensures.shorter);
      events = so_far.events ++ event ∷ [];
      tell = TellEvents-push so_far.before so_far.events line event so_far.tell tells;
      lines = so_far.lines ++ map (line_text c.moment_of-moment.result) own.told;
      told = λ setup writes set written.
          let t = so_far.told setup writes set written in
          IsTold-push setup writes so_far.events event so_far.lines own.told _ _ _ _ t c.moment_of-moment.ensures
          (λ at. own.plays setup writes t.played written at t.reached);
      text_is = text_of_more so_far.lines (map (line_text c.moment_of-moment.result) own.told) c.loop-line.text.items _ _ so_far.text_is c.in_ok-add.ensures.ok
          (c.as_slice.ensures.value ∙ own.text_is ∙ paragraph_lines c.moment_of-moment.result own.told);
    }

pub loop-line-preserved-in_ok-add : goal.loop-line-preserved-in_ok-add
loop-line-preserved-in_ok-add c =
    let so_far = c.loop-line.invariant in
    let line = c.in-Some.line.now in
    let event = c.in-Some-2.event in
    let tells = rw c.in-Some-2.is at c.in_ok-event.ensures.some in
    let own = c.in_ok-own.ensures in
    record {
      before = so_far.before ++ line ∷ [];
      lines_are = so_far.lines_are ∙ ap (λ rest. so_far.before ++ rest) c.in-Some.ensures.lines ∙ sym (append_assoc so_far.before (line ∷ []) (lines_of c.in-Some.after.now));
      so_many = omega (arith, length-append so_far.before (line ∷ []), so_far.so_many);
      short = omega (arith, so_far.short, c.in-Some.ensures.shorter);
      events = so_far.events ++ event ∷ [];
      tell = TellEvents-push so_far.before so_far.events line event so_far.tell tells;
      lines = so_far.lines ++ map (line_text c.moment_of-moment.result) own.told;
      told = λ setup writes set written.
          let t = so_far.told setup writes set written in
          IsTold-push setup writes so_far.events event so_far.lines own.told _ _ _ _ t c.moment_of-moment.ensures
          (λ at. own.plays setup writes t.played written at t.reached);
      text_is = text_of_more so_far.lines (map (line_text c.moment_of-moment.result) own.told) c.loop-line.text.items _ _ so_far.text_is c.in_ok-add.ensures.ok
          (c.as_slice.ensures.value ∙ own.text_is ∙ paragraph_lines c.moment_of-moment.result own.told);
    }

pub loop-line-preserved-in_ok-add-2 : goal.loop-line-preserved-in_ok-add-2
loop-line-preserved-in_ok-add-2 c =
    let so_far = c.loop-line.invariant in
    let line = c.in-Some.line.now in
    let event = c.in-Some-2.event in
    let tells = rw c.in-Some-2.is at c.in_ok-event.ensures.some in
    let own = c.in_ok-own.ensures in
    record {
      before = so_far.before ++ line ∷ [];
      lines_are = so_far.lines_are ∙ ap (λ rest. so_far.before ++ rest) c.in-Some.ensures.lines ∙ sym (append_assoc so_far.before (line ∷ []) (lines_of c.in-Some.after.now));
      so_many = omega (arith, length-append so_far.before (line ∷ []), so_far.so_many);
      short = omega (arith, so_far.short, c.in-Some.ensures.shorter);
      events = so_far.events ++ event ∷ [];
      tell = TellEvents-push so_far.before so_far.events line event so_far.tell tells;
      lines = so_far.lines ++ map (line_text c.moment_of-moment.result) own.told;
      told = λ setup writes set written.
          let t = so_far.told setup writes set written in
          IsTold-push setup writes so_far.events event so_far.lines own.told _ _ _ _ t c.moment_of-moment.ensures
          (λ at. own.plays setup writes t.played written at t.reached);
      text_is = text_of_more so_far.lines (map (line_text c.moment_of-moment.result) own.told) c.loop-line.text.items _ _ so_far.text_is c.in_ok-add.ensures.ok
          (c.as_slice.ensures.value ∙ own.text_is ∙ paragraph_lines c.moment_of-moment.result own.told);
    }

pub returns : goal.returns
unfolding lines_of
returns c =
    let so_far = c.loop-line.invariant in
    record {
      before = so_far.before;
      others = [];
      lines_are = so_far.lines_are ∙ ap (λ rest. so_far.before ++ rest) (ap lines_of c.in_default.ensures.none);
      events = so_far.events;
      tell = so_far.tell;
      ends = refl;
      lines = so_far.lines;
      told = λ setup writes set written. explained setup writes so_far.events so_far.lines _ _ (so_far.told setup writes set written);
      text_is = so_far.text_is;
    }

pub returns-in_err-event : goal.returns-in_err-event
returns-in_err-event c =
    let so_far = c.loop-line.invariant in
    record {
      before = so_far.before;
      others = lines_of c.loop-line.rest.now;
      lines_are = so_far.lines_are;
      events = so_far.events;
      tell = so_far.tell;
      ends = search rules;
      lines = so_far.lines;
      told = λ setup writes set written. explained setup writes so_far.events so_far.lines _ _ (so_far.told setup writes set written);
      text_is = so_far.text_is;
    }

pub returns-in_default-2 : goal.returns-in_default-2
returns-in_default-2 c =
    let so_far = c.loop-line.invariant in
    record {
      before = so_far.before;
      others = lines_of c.loop-line.rest.now;
      lines_are = so_far.lines_are;
      events = so_far.events;
      tell = so_far.tell;
      ends = (ap (λ (n : ℕ). n + 1) so_far.so_many, c.in-Some.line.now, lines_of c.in-Some.after.now, c.in-Some.ensures.lines, rw c.in_default-2.is at c.in_ok-event.ensures.none);
      lines = so_far.lines;
      told = λ setup writes set written. explained setup writes so_far.events so_far.lines _ _ (so_far.told setup writes set written);
      text_is = so_far.text_is;
    }

pub returns-in_err-own : goal.returns-in_err-own
returns-in_err-own c =
    let so_far = c.loop-line.invariant in
    record {
      before = so_far.before;
      others = lines_of c.loop-line.rest.now;
      lines_are = so_far.lines_are;
      events = so_far.events;
      tell = so_far.tell;
      ends = search rules;
      lines = so_far.lines;
      told = λ setup writes set written. explained setup writes so_far.events so_far.lines _ _ (so_far.told setup writes set written);
      text_is = so_far.text_is;
    }

pub returns-in_err-add : goal.returns-in_err-add
returns-in_err-add c =
    let so_far = c.loop-line.invariant in
    record {
      before = so_far.before;
      others = lines_of c.loop-line.rest.now;
      lines_are = so_far.lines_are;
      events = so_far.events;
      tell = so_far.tell;
      ends = search rules;
      lines = so_far.lines;
      told = λ setup writes set written. explained setup writes so_far.events so_far.lines _ _ (so_far.told setup writes set written);
      text_is = c.in_err-add.ensures.err ∙ so_far.text_is;
    }
