use Rattle.std.proofs.Common.{None, sym, ◌∙◌, ap}
use Rattle.fax_control.specs.Options.{text_of}
use Rattle.fax_control.specs.Words.{Ring, bounds_led}
use Rattle.fax_control.proofs.OptionLemmas.{bounds_begin}
use Rattle.fax_control.proofs.SayingLemmas.{ring_says}
use Rattle.fax_control.proofs.reading.ring_of.Goals as goal

pub returns-in_err-line-clause-only : goal.returns-in_err-line-clause-only
returns-in_err-line-clause-only c = λ order says.
    let s = ring_says c.args.rest.now c.first_word.result.0.now (text_of c.first_word.result.1) order c.first_word.ensures.said c.first_word.ensures.word says in
    absurd (c.in_err-line.ensures.only s.line s.word_is s.line_fits)

pub returns-in_err-tag-clause-only : goal.returns-in_err-tag-clause-only
returns-in_err-tag-clause-only c = λ order says.
    let s = ring_says c.args.rest.now c.first_word.result.0.now (text_of c.first_word.result.1) order c.first_word.ensures.said c.first_word.ensures.word says in
    absurd (c.in_err-tag.ensures.only s.tag (bounds_led s.bounds None) s.words_are s.tag_fits (λ _. bounds_begin s.bounds))

pub returns-in_err-bounds-clause-only : goal.returns-in_err-bounds-clause-only
returns-in_err-bounds-clause-only c = λ order says.
    let s = ring_says c.args.rest.now c.first_word.result.0.now (text_of c.first_word.result.1) order c.first_word.ensures.said c.first_word.ensures.word says in
    let tag = c.in_ok-tag.ensures.only s.tag (bounds_led s.bounds None) s.words_are s.tag_fits (λ _. bounds_begin s.bounds) in
    absurd (c.in_err-bounds.ensures.only s.bounds None tag.1 s.range (tt, tt))

pub returns-in-None-clause-only : goal.returns-in-None-clause-only
returns-in-None-clause-only c = λ order says.
    let s = ring_says c.args.rest.now c.first_word.result.0.now (text_of c.first_word.result.1) order c.first_word.ensures.said c.first_word.ensures.word says in
    let line = c.in_ok-line.ensures.only s.line s.word_is s.line_fits in
    let tag = c.in_ok-tag.ensures.only s.tag (bounds_led s.bounds None) s.words_are s.tag_fits (λ _. bounds_begin s.bounds) in
    let bounds = c.in_ok-bounds.ensures.only s.bounds None tag.1 s.range (tt, tt) in
    ap (λ x. Ring x (text_of c.in_ok-tag.tag) c.in_ok-bounds.bounds) line ∙ (ap (λ x. Ring s.line x c.in_ok-bounds.bounds) tag.0 ∙ (ap (λ x. Ring s.line s.tag x) bounds.0 ∙ sym s.is))

pub returns-in-Some-clause-only : goal.returns-in-Some-clause-only
returns-in-Some-clause-only c = λ order says.
    let s = ring_says c.args.rest.now c.first_word.result.0.now (text_of c.first_word.result.1) order c.first_word.ensures.said c.first_word.ensures.word says in
    let tag = c.in_ok-tag.ensures.only s.tag (bounds_led s.bounds None) s.words_are s.tag_fits (λ _. bounds_begin s.bounds) in
    let bounds = c.in_ok-bounds.ensures.only s.bounds None tag.1 s.range (tt, tt) in
    let more = ap text_of c.in-Some.is in
    absurd (cc)
