use Rattle.std.proofs.Common.{◌≡◌, codes}
use Rattle.std.specs.List.{list_any}
use Rattle.fax_sip.specs.Lists.{elements_left}
use Rattle.fax_sip.specs.Messages.{message_text}
use Rattle.fax_sip.specs.Texts.{is_word}
use Rattle.fax_user_agent.specs.Intervals.{supports_timers}
use Rattle.fax_user_agent.proofs.agreeing.supports_timers.Given as goal

-- it is named among the words that are left, or not at all
abbrev pub invariant-loop-word : goal.invariant-loop-word
invariant-loop-word l = list_any (λ word. is_word word (codes "timer")) (elements_left l.word-iterator) ≡ supports_timers (message_text l.message)
