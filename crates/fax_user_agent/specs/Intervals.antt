-- What both ends agree on of the interval of a session (RFC 4028, 7.2 and 9).
use Rattle.std.specs.Prelude.{ℕ, max, Bool, List, codes, Option, None, Some, option_map, unwrap_or}
use Rattle.std.specs.List.{list_any}
use Rattle.std.specs.Option.{option_and_then}
use Rattle.fax_dialogs.specs.declared.agreement.Agent.{Agent}
use Rattle.fax_dialogs.specs.declared.agreement.Agent.TheVariants.{Uac}
use Rattle.fax_dialogs.specs.declared.agreement.Agreement.{Agreement}
use Rattle.fax_dialogs.specs.declared.agreement.Agreement.TheVariants.{TooSmall, Without, With}
use Rattle.fax_dialogs.specs.declared.session_timer.TimerEvent.{TimerEvent}
use Rattle.fax_dialogs.specs.declared.session_timer.TimerEvent.TheVariants.{Agreed, NotAgreed}
use Rattle.fax_dialogs.specs.Agreements.{agreement, refresher_by}
use Rattle.fax_requests.specs.declared.interval.Interval.{Interval}
use Rattle.fax_requests.specs.Refreshing.{refresher_in}
use Rattle.fax_requests.specs.Seconds.{seconds_in}
use Rattle.fax_sip.specs.declared.name.Name.TheVariants.{SessionExpires, Supported}
use Rattle.fax_sip.specs.Fields.{first_of, values_of}
use Rattle.fax_sip.specs.Lists.{elements_of}
use Rattle.fax_sip.specs.Messages.{MessageText}
use Rattle.fax_sip.specs.Texts.{is_word}

-- the value that tells the interval
abbrev pub expires_in : MessageText → Option (List ℕ)
expires_in text = first_of (values_of SessionExpires text.lines)

abbrev pub supports_timers : MessageText → Bool
supports_timers text =
    list_any (λ word. is_word word (codes "timer")) (elements_of Supported text.lines)

-- what an INVITE of theirs asks for, and what it is answered
abbrev pub agreement_in : MessageText → Option (ℕ × Agreement)
agreement_in text = option_and_then (λ value.
    option_map (λ seconds. (seconds, agreement seconds (refresher_in value) (supports_timers text)))
    (seconds_in value)) (expires_in text)

abbrev pub agent_of : Agreement → Option Agent
agent_of TooSmall = None
agent_of Without = None
agent_of (With agent) = Some agent

-- the interval that a 2xx to it has, and who refreshes
abbrev pub kept_of : Option (ℕ × Agreement) → Option (ℕ × Agent)
kept_of asked =
    option_and_then (λ asked. option_map (λ agent. (asked.0, agent)) (agent_of asked.1)) asked

-- what a 2xx to an INVITE of ours has: where it does not say who refreshes, we do
abbrev pub agreed_in : MessageText → Option (ℕ × Agent)
agreed_in text = option_and_then (λ value. option_map
    (λ seconds. (seconds, unwrap_or (refresher_in value) Uac)) (seconds_in value)) (expires_in text)

-- a `Min-SE` came: our next INVITE has no shorter one (7.4)
abbrev pub raised_by : Option ℕ → Interval → Interval
raised_by None interval = interval
raised_by (Some least) interval = record interval { least = max interval.least least }

-- the session goes on with what was agreed on; our next INVITE asks for that again (7.4)
abbrev pub with_agreed : Option (ℕ × Agent) → Interval → Interval
with_agreed None interval = interval
with_agreed (Some agreed) interval = record interval { current = agreed.0 }

abbrev pub timer_event : Option (ℕ × Agent) → Bool → TimerEvent
timer_event None is_ours = NotAgreed
timer_event (Some agreed) is_ours = Agreed agreed.0 (refresher_by agreed.1 is_ours)
