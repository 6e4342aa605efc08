-- What lines are told: the words of the switch.
use Rattle.std.specs.Prelude.{List, [], ◌∷◌}
use Rattle.std.specs.List.{flat_map}
use Rattle.fax_switch.specs.declared.action.LineAction.{LineAction}
use Rattle.fax_switch.specs.declared.action.LineAction.TheVariants as word
use Rattle.fax_switch.specs.declared.call.Entry.{Entry}
use Rattle.fax_user_agent.specs.declared.out.LineOrder.{LineOrder}
use Rattle.fax_user_agent.specs.declared.out.LineOrder.TheVariants as order

-- an order as the switch says it, which knows no tags
abbrev pub word_of : LineOrder → LineAction
word_of (order.Ring call tag) = word.RingAny
word_of (order.Peer place end moved) = word.Peer place end moved
word_of (order.AudioOn place end) = word.AudioOn place end
word_of (order.AudioOff place) = word.AudioOff place
word_of (order.Refuse place status) = word.RefuseCall place status
word_of (order.HangUp place) = word.HangUpLeg place

-- what is said by a word: nothing by `NoWord`
abbrev pub said_by : LineAction → List LineAction
said_by word.NoWord = []
said_by word.RingAny = word.RingAny ∷ []
said_by (word.Peer place end moved) = word.Peer place end moved ∷ []
said_by (word.AudioOn place end) = word.AudioOn place end ∷ []
said_by (word.AudioOff place) = word.AudioOff place ∷ []
said_by (word.RefuseCall place status) = word.RefuseCall place status ∷ []
said_by (word.HangUpLeg place) = word.HangUpLeg place ∷ []

-- what is to be said to lines, in the order of their calls
abbrev pub words_of : List Entry → List LineAction
words_of entries = flat_map (λ entry. said_by entry.line) entries
