use Rattle.std.proofs.Common.{◌≡◌, ◌++◌, replicate, refl, ◌+◌, ◌-◌, ◌*◌, ◌/◌, ◌%◌, ◌^◌, ◌<◌, ◌≤◌, false, length, drop, arith, sym, ◌∙◌, ap, append-nil, length-append, length-take}
use Rattle.std.proofs.lemmas.List.{length-replicate}
use Rattle.fax_bits.specs.Bits.{word_bits}
use Rattle.fax_bits.proofs.BitsLemmas.{length-word_bits}
use Rattle.fax_runcodes.specs.Rows.{Elements}
use Rattle.fax_runcodes.specs.declared.Colour.TheVariants.{White, Black}
use Rattle.fax_runcodes.proofs.WordLaws.{terminating_run}
use Rattle.fax_mhcode.specs.Pairs.{SpellsPair}
use Rattle.fax_mhcode.proofs.LineLemmas.{length-paint}
use Rattle.fax_mhcode.proofs.PairLemmas.{GoesOn-pair, GoesOn-then, after_first, after_more, at_top, at_top_bits, first_passes, nothing_passed, pair_spelt, rest_passes, shifted_top, top_of}
use Rattle.fax_mhcode.proofs.pairs.paint_pairs.Goals as goal

pub loop-init : goal.loop-init
loop-init c = record {
  goes_on = λ here there front passed width start so_far is. rw (nothing_passed here there passed) so_far;
  rest_is = at_top_bits c.args.window ∙ sym (append-nil (at_top (word_bits 56 c.args.window)));
  left = refl;
  bits = omega arith;
  fewer = omega arith;
}

pub overflow_add-white : goal.overflow_add-white
overflow_add-white c =
    let at = c.in-Some.ensures.some in
    let white : at.white.run < 64 = terminating_run White at.white at.begins.white_ends in
    let black : at.black.run < 64 = terminating_run Black at.black at.begins.black_ends in
    omega (arith, at.white_is, at.black_is, c.from-white.ensures)

pub loop-preserved : goal.loop-preserved
loop-preserved c =
    let so_far = c.loop.invariant in
    let window = word_bits 56 c.args.window in
    let wide : length window ≡ 56 = length-word_bits 56 c.args.window in
    let top : length (at_top window) ≡ 64 = omega (arith, length-append window (replicate 8 false), length-replicate 8 false, wide) in
    let at = c.in-Some.ensures.some in
    let few : c.from-used.result ≤ 11 = omega (arith, at.bits_is, at.begins.few, c.from-used.ensures) in
    let used : c.loop.bits + 11 ≤ 56 = omega (arith, so_far.bits, c.loop-test.true) in
    let room : length c.loop.line + c.loop.left ≡ length c.args.line.now + c.args.left = so_far.left in
    let white_some : 0 < c.from-white.result = omega (arith, at.begins.white_some, at.white_is, c.from-white.ensures) in
    let black_some : 0 < c.in-Some.pair.black = omega (arith, at.begins.black_some, at.black_is) in
    let fits : c.from-white.result + c.in-Some.pair.black ≤ c.loop.left = omega (arith, c.if-white-black.false) in
    let first : Elements = c.loop.line ++ replicate c.from-white.result White in
    let longer : length first ≡ length c.loop.line + c.from-white.result = length-paint c.loop.line first c.from-white.result White refl in
    let longest : length c.paint_pair.new.self ≡ length first + c.in-Some.pair.black = length-paint first c.paint_pair.new.self c.in-Some.pair.black Black c.paint_pair.ensures in
    record {
      goes_on = λ here there front passed. (
          let enough : 56 ≤ length here.left = omega (arith, sym (length-take 56 here.left) ∙ ap length front ∙ wide) in
          let spelt : SpellsPair (drop c.loop.bits here.left) c.from-white.result c.in-Some.pair.black c.from-used.result =
          rw (c.from-white.ensures, c.from-used.ensures)
          (pair_spelt here.left window (word_bits 56 (c.loop.rest / 2 ^ 8)) c.loop.bits c.in-Some.pair front wide (top_of c.loop.rest window c.loop.bits wide (omega (arith, used)) so_far.rest_is) used at) in
          GoesOn-then here (after_first c.loop.bits here) there c.args.line.now c.loop.line c.paint_pair.new.self c.args.left c.loop.left (c.loop.left - (c.from-white.result + c.in-Some.pair.black)) (sym room)
          (so_far.goes_on here (after_first c.loop.bits here) front (first_passes here c.loop.bits (omega (arith, enough, used))))
          (GoesOn-pair (after_first c.loop.bits here) there c.loop.line c.paint_pair.new.self c.from-white.result c.in-Some.pair.black c.from-used.result c.loop.left (c.loop.left - (c.from-white.result + c.in-Some.pair.black)) c.paint_pair.ensures
          spelt (rest_passes here there c.loop.bits c.from-used.result (omega (arith, enough, used, few)) passed) black_some (omega (arith, fits)))
          );
      rest_is = after_more 64 (at_top window) (word_bits 64 c.loop.rest) (word_bits 64 (c.loop.rest * 2 ^ c.from-used.result % 18446744073709551616)) c.loop.bits c.from-used.result top (omega (arith, used, few)) so_far.rest_is (shifted_top c.loop.rest c.from-used.result (omega (arith, few)));
      left = omega (arith, room, fits, longer, longest);
      bits = omega (arith, so_far.bits, few);
      fewer = omega (arith, so_far.fewer, white_some, fits);
    }
