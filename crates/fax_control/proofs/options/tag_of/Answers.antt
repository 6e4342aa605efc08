use Rattle.std.proofs.Common.{◌≡◌, Some, sym, ◌∙◌, ap}
use Rattle.fax_control.specs.Options.{text_of}
use Rattle.fax_control.proofs.OptionLemmas.{no_tag, a_tag}
use Rattle.fax_control.proofs.options.tag_of.Goals as goal

pub returns-then-is_option-clause-only : goal.returns-then-is_option-clause-only
returns-then-is_option-clause-only c = λ tag rest is fits follows.
    let said : text_of c.args.words ≡ Some c.in-Some.text.now = ap text_of c.in-Some.is in
    let found = no_tag c.in-Some.text.now c.first_word.result.0.now _ rest tag c.first_word.ensures.said c.first_word.ensures.word (c.is_option.ensures.yes c.if-is_option.true) fits (sym said ∙ is) in
    (sym found.0, said ∙ sym found.1)

pub returns-then-is_tag-clause-only : goal.returns-then-is_tag-clause-only
returns-then-is_tag-clause-only c = λ tag rest is fits follows.
    let said : text_of c.args.words ≡ Some c.in-Some.text.now = ap text_of c.in-Some.is in
    let found = a_tag c.in-Some.text.now c.first_word.result.0.now _ rest tag c.first_word.ensures.said c.first_word.ensures.word (c.is_option.ensures.no c.if-is_option.false) fits follows (sym said ∙ is) in
    (sym found.0, found.2)

pub returns-else-is_tag-clause-only : goal.returns-else-is_tag-clause-only
returns-else-is_tag-clause-only c = λ tag rest is fits follows.
    let said : text_of c.args.words ≡ Some c.in-Some.text.now = ap text_of c.in-Some.is in
    let found = a_tag c.in-Some.text.now c.first_word.result.0.now _ rest tag c.first_word.ensures.said c.first_word.ensures.word (c.is_option.ensures.no c.if-is_option.false) fits follows (sym said ∙ is) in
    c.is_tag.ensures.no c.if-is_tag.false found.1
