use Rattle.std.proofs.Common.{[], refl}
use Rattle.fax_runs.proofs.Desking.{paces_do_words}
use Rattle.fax_serve.proofs.run.serve_new.Goals as goal

pub returns : goal.returns
returns g c =
    let ran = c.serve.ensures.ran in
    record {
      begun = c.args.lines.lines;
      left = c.serve.new.lines.lines;
      first = c.args.lines.slot;
      done = ran.0;
      as_many = refl;
      restored = λ k d low. ([], c.requires.new k d low);
      new = λ _. c.requires.new;
      went = ran.1;
      served = ran.3;
      rising = ran.4;
      words = paces_do_words ran.0 c.args.pace.now c.serve.new.pace c.requires.idle ran.7;
      out = λ _. ran.6.1;
    }
