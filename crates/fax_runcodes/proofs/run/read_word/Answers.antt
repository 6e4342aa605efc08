use Rattle.std.proofs.Common.{◌≡◌, ◌≢◌, ◌-◌, ◌<◌, ◌++◌, true, false, length, take, replicate, min, sym, ◌∙◌, arith}
use Rattle.fax_bits.specs.Bits.{word_bits}
use Rattle.fax_bits.proofs.WindowLemmas.{padded-known}
use Rattle.fax_runcodes.specs.Lookups.{no_run}
use Rattle.fax_runcodes.proofs.ReadLemmas.{found_of, none_of, EndsInside-zeros, not_begun, not_inside, EndsInside-word, word_front}
use Rattle.fax_runcodes.proofs.run.read_word.Goals as goal
use Rattle.fax_runcodes.proofs.run.read_word.Goals.{After-look_up-word}

-- the window is what is known of the bits that are left, with zeros after it
window_is : (c : After-look_up-word) → word_bits 56 c.window.result ≡ take c.known-known.result c.args.reader.now.left ++ replicate (56 - c.known-known.result) false
window_is c = c.window.ensures.bits ∙ padded-known 56 c.known-known.result c.args.reader.now.left c.known-known.ensures

known_is : (c : After-look_up-word) → c.known-known.result ≡ min 56 (length c.args.reader.now.left)
known_is c = c.known-known.ensures

pub returns-then-known-lt8-clause-fault : goal.returns-then-known-lt8-clause-fault
returns-then-known-lt8-clause-fault c =
    let shared : After-look_up-word = (goal.at.returns-then-known-lt8-clause-fault c).After-look_up-word in
    let zeros = none_of c.args.colour (word_bits 56 c.window.result) c.look_up-word.result c.look_up-word.ensures (omega arith) in
    λ run. EndsInside-zeros c.args.colour c.args.reader.now.left c.known-known.result (known_is shared) c.if-known-lt8.true zeros.0 (sym (window_is shared) ∙ zeros.1)

pub returns-else-known-lt8-clause-fault : goal.returns-else-known-lt8-clause-fault
returns-else-known-lt8-clause-fault c =
    let shared : After-look_up-word = (goal.at.returns-else-known-lt8-clause-fault c).After-look_up-word in
    let zeros = none_of c.args.colour (word_bits 56 c.window.result) c.look_up-word.result c.look_up-word.ensures (omega arith) in
    let e = sym (window_is shared) ∙ zeros.1 in
    λ run. (
      not_begun c.args.colour c.args.reader.now.left c.known-known.result (known_is shared) c.if-known-lt8.false zeros.0 e,
      not_inside c.args.colour c.args.reader.now.left c.known-known.result (known_is shared) c.if-known-lt8.false zeros.0 e,
    )

pub returns-then-bits-known-clause-fault : goal.returns-then-bits-known-clause-fault
returns-then-bits-known-clause-fault c =
    let shared : After-look_up-word = (goal.at.returns-then-bits-known-clause-fault c).After-look_up-word in
    let some : c.look_up-word.result.run ≢ no_run = λ e. (let yes : c.is_none.result ≡ true = c.is_none.ensures.1 e in cc) in
    let found = found_of c.args.colour (word_bits 56 c.window.result) c.look_up-word.result c.look_up-word.ensures some in
    let longer : c.known-known.result < length found.word.word = omega (arith, found.bits_is) in
    λ run. EndsInside-word c.args.colour c.args.reader.now.left c.known-known.result (known_is shared) found.word found.begins.0 longer found.begins.1 (sym (window_is shared) ∙ found.begins.2)

pub returns-clause-ok : goal.returns-clause-ok
returns-clause-ok c =
    let shared : After-look_up-word = (goal.at.returns-clause-ok c).After-look_up-word in
    let some : c.look_up-word.result.run ≢ no_run = λ e. (let yes : c.is_none.result ≡ true = c.is_none.ensures.1 e in cc) in
    let found = found_of c.args.colour (word_bits 56 c.window.result) c.look_up-word.result c.look_up-word.ensures some in
    let size : length found.word.word ≡ c.from-bits.result = omega (arith, found.bits_is) in
    let front : take (length found.word.word) c.args.reader.now.left ≡ found.word.word =
    word_front c.args.colour c.args.reader.now.left c.known-known.result (known_is shared) found.word (omega arith) found.begins.1 (sym (window_is shared) ∙ found.begins.2) in
    let text : take c.from-bits.result c.args.reader.now.left ≡ found.word.word = rw size at front in
    (found.word, found.begins.0, found.run_is, rw text at c.skip.ensures)
