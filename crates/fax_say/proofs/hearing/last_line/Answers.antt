use Rattle.std.proofs.Common.{◌++◌, sym, ◌∙◌, ap, subst, append_assoc}
use Rattle.fax_say.specs.Answers.{IsAnswer}
use Rattle.fax_say.specs.Hearings.{HasBegun}
use Rattle.fax_say.proofs.AnswerLemmas.{after_front}
use Rattle.fax_say.proofs.hearing.last_line.Goals as goal

pub returns-in-Some-last-clause-some : goal.returns-in-Some-last-clause-some
returns-in-Some-last-clause-some c =
    let so_far = c.loop-last.invariant in
    let (more, cut, ended) = c.in-Some.ensures.line in (
      so_far.front ++ more,
      after_front c.args.octets.now so_far.front c.loop-last.rest.now more c.in-Some.after.now so_far.all cut,
      λ before begun. subst (λ l. IsAnswer l c.in-Some-last.last) (append_assoc before so_far.front more)
          (rw c.in-Some-last.is at (ended (before ++ so_far.front) (so_far.begun before begun))),
    )

pub loop-last-preserved : goal.loop-last-preserved
loop-last-preserved c =
    let so_far = c.loop-last.invariant in
    let (more, cut, ended) = c.in-Some.ensures.line in
    record {
      front = so_far.front ++ more;
      all = after_front c.args.octets.now so_far.front c.loop-last.rest.now more c.in-Some.after.now so_far.all cut;
      begun = λ before begun. subst (HasBegun c.next_line.new.lines) (append_assoc before so_far.front more)
          (rw c.in_default-last.is at (ended (before ++ so_far.front) (so_far.begun before begun)));
    }

pub returns-clause-none : goal.returns-clause-none
returns-clause-none c =
    let so_far = c.loop-last.invariant in
    λ before begun. subst (HasBegun c.next_line.new.lines) (append_assoc before so_far.front c.loop-last.rest.now ∙ ap (λ l. before ++ l) (sym so_far.all))
    (c.in_default.ensures.none (before ++ so_far.front) (so_far.begun before begun))
