use Rattle.std.proofs.Common.{rules, ◌≡◌, Bool, false, true, ◌∙◌, ◌||◌, sym, ap}
use Rattle.fax_sdp.specs.Texts.{has_word, is_word}
use Rattle.fax_sdp.proofs.TextLemmas.{has_more}
use Rattle.fax_sdp.proofs.lines.has_word.Goals as goal

pub loop-first-preserved : goal.loop-first-preserved
loop-first-preserved c =
    let word = c.args.word.now in
    let more = has_more c.loop-first.rest.now c.in-Some.first.now c.in-Some.after.now word c.in-Some.ensures.parts in
    let other : is_word c.in-Some.first.now word ≡ false = sym c.same_word.ensures ∙ c.if-same_word.false in
    (search rules, sym (more ∙ ap (λ (b : Bool). b || has_word c.in-Some.after.now word) other) ∙ c.loop-first.invariant.1)

pub returns-then-same_word : goal.returns-then-same_word
returns-then-same_word c =
    let word = c.args.word.now in
    let more = has_more c.loop-first.rest.now c.in-Some.first.now c.in-Some.after.now word c.in-Some.ensures.parts in
    let same : is_word c.in-Some.first.now word ≡ true = sym c.same_word.ensures ∙ c.if-same_word.true in
    sym (more ∙ ap (λ (b : Bool). b || has_word c.in-Some.after.now word) same) ∙ c.loop-first.invariant.1
