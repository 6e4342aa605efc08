use Rattle.std.proofs.Common.{◌≡◌, ◌<◌, ◌++◌, List, ℕ, [], Ok, refl, ap, rules, arith, length, take}
use Rattle.std.proofs.lemmas.Grind.{common_steps}
use Rattle.std.proofs.lemmas.Result.{err_from_is_err_and}
use Rattle.std.proofs.KnownBytes.{Consumes-kept, Consumes-nil, Consumes-trans}
use Rattle.fax_capture.specs.Answers.{Allows, Fails}
use Rattle.fax_capture.proofs.AnswerLemmas.{broken, ended}
use Rattle.fax_capture.proofs.ReadingLemmas.{HasRead-same, HasRead-start}
use Rattle.fax_capture.proofs.reading.script_of.Goals as goal
use Rattle.fax_capture.proofs.reading.script_of.Goals.{in-Ok+in_ok-left-in-Ok, in-Err-Interrupted}

pub loop-init : goal.loop-init
loop-init g c = record {
  counted = λ h. h;
  unfailed = refl;
  room = c.in_ok-buffer.ensures;
  read = [];
  consumed = Consumes-nil (g.I.Source.remaining c.args.source.now);
  has = HasRead-start c.args.options.now _ _ _ c.new-capture.ensures c.new-left.ensures.items c.in_ok-script.ensures.few (c.in_ok-script.ensures.ring c.args.options.now refl);
}

pub returns-in_err-finish-in-Ok-eq0-clause-err : goal.returns-in_err-finish-in-Ok-eq0-clause-err
returns-in_err-finish-in-Ok-eq0-clause-err g c =
    let inv = c.loop.invariant in
    let options = c.args.options.now in
    let remaining = g.I.Source.remaining in
    let none : c.in-Ok-eq0.field-0 ≡ 0 = first_of (omega arith, search rules, grind (arith, common_steps)) in
    let some : 0 < length c.read.new.buffer = first_of (omega arith, search rules, grind (arith, common_steps)) in
    let p = err_from_is_err_and c.from_residual-in_err-finish-in-Ok-eq0.result c.from_residual-in_err-finish-in-Ok-eq0.ensures.1 in
    rw (p.1, p.2)
    (ended (λ (input : List ℕ). Fails options input c.in_err-finish-in-Ok-eq0.field-0.0) (remaining c.args.source.now) (remaining c.loop.source) (remaining c.read.new.self) inv.read c.read.new.buffer c.in-Ok-eq0.field-0
    inv.consumed c.in-Ok-eq0.ensures.octets none some
    (c.in_err-finish-in-Ok-eq0.ensures.err options inv.read (HasRead-same options inv.read inv.read c.loop.capture c.loop.capture c.loop.script c.loop.script c.loop.left.items c.as_slice.result.now inv.has refl refl refl c.as_slice.ensures.value)))

pub returns-in-Ok-eq0-clause-ok : goal.returns-in-Ok-eq0-clause-ok
returns-in-Ok-eq0-clause-ok g c =
    let inv = c.loop.invariant in
    let options = c.args.options.now in
    let remaining = g.I.Source.remaining in
    let none : c.in-Ok-eq0.field-0 ≡ 0 = first_of (omega arith, search rules, grind (arith, common_steps)) in
    let some : 0 < length c.read.new.buffer = first_of (omega arith, search rules, grind (arith, common_steps)) in
    ended (λ (input : List ℕ). Allows options input (Ok (c.in_ok-finish-in-Ok-eq0.field-0.text.items, c.in_ok-finish-in-Ok-eq0.field-0.counts))) (remaining c.args.source.now) (remaining c.loop.source) (remaining c.read.new.self) inv.read c.read.new.buffer c.in-Ok-eq0.field-0
    inv.consumed c.in-Ok-eq0.ensures.octets none some
    (c.in_ok-finish-in-Ok-eq0.ensures.ok options inv.read (HasRead-same options inv.read inv.read c.loop.capture c.loop.capture c.loop.script c.loop.script c.loop.left.items c.as_slice.result.now inv.has refl refl refl c.as_slice.ensures.value))

pub returns-in_err-left-in-Ok-clause-err : goal.returns-in_err-left-in-Ok-clause-err
returns-in_err-left-in-Ok-clause-err g c =
    let inv = c.loop.invariant in
    let options = c.args.options.now in
    let remaining = g.I.Source.remaining in
    let p = err_from_is_err_and c.from_residual-in_err-left-in-Ok.result c.from_residual-in_err-left-in-Ok.ensures.1 in
    rw (p.1, p.2)
    (broken (λ (input : List ℕ). Fails options input c.in_err-left-in-Ok.field-0.0) (remaining c.args.source.now) (remaining c.loop.source) (remaining c.read.new.self) inv.read _ (take c.in-Ok.count c.read.new.buffer)
    inv.consumed c.in-Ok.ensures.octets.0
    (c.in_err-left-in-Ok.ensures.err inv.read inv.has)
    (first_of (search rules, grind (arith, common_steps))))

pub loop-preserved : goal.loop-preserved
loop-preserved g c =
    let inv = c.loop.invariant in
    let remaining = g.I.Source.remaining in
    elim c.match-read.branch [
      | in-Ok+in_ok-left-in-Ok w ↦
          (record {
            counted = first_of (search rules, grind (arith, common_steps));
            unfailed = first_of (search rules, grind (arith, common_steps));
            room = first_of (search rules, grind (arith, common_steps));
            read = inv.read ++ take w.in-Ok.count c.read.new.buffer;
            consumed = Consumes-trans (remaining c.args.source.now) (remaining c.loop.source) (remaining c.read.new.self) inv.read (take w.in-Ok.count c.read.new.buffer) inv.consumed w.in-Ok.ensures.octets.0;
            has = HasRead-same c.args.options.now _ (inv.read ++ take w.in-Ok.count c.read.new.buffer) _ _ _ _ _ _ (w.in_ok-left-in-Ok.ensures.ok inv.read inv.has)
                (first_of (search rules, grind (arith, common_steps))) w.capture-is w.script-is (ap (λ v. v.items) w.left-is);
          })
      | in-Err-Interrupted w ↦
          (record {
            counted = first_of (search rules, grind (arith, common_steps));
            unfailed = first_of (search rules, grind (arith, common_steps));
            room = first_of (search rules, grind (arith, common_steps));
            read = inv.read;
            consumed = Consumes-kept (remaining c.args.source.now) (remaining c.loop.source) (remaining c.read.new.self) inv.read inv.consumed w.in-Err-Interrupted.ensures.octets;
            has = HasRead-same c.args.options.now inv.read inv.read _ _ _ _ _ _ inv.has refl w.capture-is w.script-is (ap (λ v. v.items) w.left-is);
          })
    ]
