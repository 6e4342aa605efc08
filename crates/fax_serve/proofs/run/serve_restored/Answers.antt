use Rattle.std.proofs.Common.{ℕ, refl, subst}
use Rattle.fax_line.specs.Runs.{AreServed, none_waits}
use Rattle.fax_runs.proofs.Desking.{paces_do_words}
use Rattle.fax_serve.proofs.run.serve_restored.Goals as goal

pub serve-requires : goal.serve-requires
serve-requires g c = λ k d low. (c.requires.begun k d low).1.waits

pub returns-clause-alone : goal.returns-clause-alone
returns-clause-alone g c =
    let ran = c.serve.ensures.ran in
    record {
      begun = c.args.lines.lines;
      left = c.serve.new.lines.lines;
      first = c.args.lines.slot;
      done = ran.0;
      as_many = refl;
      restored = c.requires.begun;
      new = λ no. cc no;
      went = ran.1;
      served = ran.3;
      rising = ran.4;
      words = paces_do_words ran.0 c.args.pace.now c.serve.new.pace c.requires.idle ran.7;
      out = λ no. cc no;
    }

pub returns-clause-kept : goal.returns-clause-kept
returns-clause-kept g c =
    let ran = c.serve.ensures.ran in
    record {
      left = c.serve.new.lines.lines;
      after = ran.6.0;
      done = ran.0;
      settled = ran.6.2;
      served = subst (λ (first : ℕ). AreServed first ran.0 none_waits) c.requires.first ran.3;
      words = paces_do_words ran.0 c.args.pace.now c.serve.new.pace c.requires.idle ran.7;
      ran = ran.6.3;
    }
