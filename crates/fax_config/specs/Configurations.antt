-- What a document tells of a service and its lines (this project's profile).
use Rattle.std.specs.Prelude.{◌≡◌, ◌≢◌, ℕ, pos, ◌<◌, ◌≤◌, Option, None, Some, IfSome, All, List, [], ◌∷◌, ◌++◌, length, codes, get_or, map, flat_map, option_map, string_bytes}
use Rattle.std.specs.declared.net.socket_addr.SocketAddr.{SocketAddr}
use Rattle.toml.specs.Data.{Data, integer, table, Items, Members}
use Rattle.toml.specs.Parse.{parse_document}
use Rattle.fax_config.specs.declared.config.LegConfig.{LegConfig}
use Rattle.fax_config.specs.declared.config.LineConfig.{LineConfig}
use Rattle.fax_config.specs.declared.config.Config.{Config}
use Rattle.fax_config.specs.declared.config.RedialConfig.{RedialConfig}
use Rattle.fax_config.specs.declared.config.RetryConfig.{RetryConfig}
use Rattle.fax_config.specs.declared.keys.Level.TheVariants as levels
use Rattle.fax_config.specs.declared.sip.SipConfig.{SipConfig}
use Rattle.fax_config.specs.SipConfigurations.{IsSipAt}
use Rattle.fax_config.specs.Members.{AreTold, AreToldAt, HasKnownKeys, IsAddressAt, IsLineName, IsNumberAt, IsNumberIfAt, IsPathAt, IsRepeatAt, IsTableAt, IsTableIfAt, IsTextAt}

-- A line's name can be said in a control word, and its settings are in their ranges.
pub record IsInRange (line : LineConfig) : Type 0 where
  pub name : IsLineName (string_bytes line.name)
  pub redundancy : line.redundancy ≤ 8
  pub least_preamble : 40 ≤ line.preamble_ms
  pub most_preamble : line.preamble_ms ≤ 2000
  pub least_dial : 1 ≤ line.dial_seconds
  pub most_dial : line.dial_seconds ≤ 3600
  pub least_memory : 1048576 ≤ line.line_memory
  pub most_memory : line.line_memory ≤ 1073741824
  pub least_waiting : 1 ≤ line.most_waiting
  pub most_waiting : line.most_waiting ≤ 1000000

-- so many octets all lines together may hold of pages
abbrev pub IsMemory : ℕ → Type 0
IsMemory octets = (16777216 ≤ octets) × (octets ≤ 1099511627776)

-- no two in the list are alike
abbrev pub AreUnlike : {X : Type 0} → List X → Type 0
AreUnlike {X} xs = (i j : ℕ) (default : X)
    → i < j → j < length xs → get_or xs i default ≢ get_or xs j default

abbrev pub names_of_lines : List LineConfig → List (List ℕ)
names_of_lines lines = map (λ line. string_bytes line.name) lines

abbrev pub locals_of_lines : List LineConfig → List SocketAddr
locals_of_lines lines = flat_map (λ line. line.calling.local ∷ line.called.local ∷ []) lines

abbrev pub names_of_redials : List RedialConfig → List (List ℕ)
names_of_redials redials = map (λ redial. string_bytes redial.name) redials

abbrev pub locals_of_redials : List RedialConfig → List SocketAddr
locals_of_redials redials = map (λ redial. redial.called.local) redials

-- those of lines, and of redial lines after them
abbrev pub names_of_all : List LineConfig → List RedialConfig → List (List ℕ)
names_of_all lines redials = names_of_lines lines ++ names_of_redials redials

abbrev pub locals_of_all : List LineConfig → List RedialConfig → List SocketAddr
locals_of_all lines redials = locals_of_lines lines ++ locals_of_redials redials

abbrev pub names_of : Config → List (List ℕ)
names_of config = names_of_all config.lines.items config.redial.items

abbrev pub local_addresses : Config → List SocketAddr
local_addresses config = locals_of_all config.lines.items config.redial.items

-- The table tells this leg, which is not its own peer.
pub record IsLeg (members : Members) (leg : LegConfig) : Type 0 where
  pub keys : HasKnownKeys levels.Leg members
  pub local : IsAddressAt (codes "local") members (Some leg.local)
  pub peer : IsAddressAt (codes "peer") members leg.peer
  pub other : leg.peer ≢ Some leg.local

-- the table at a key tells this leg
abbrev pub IsLegAt : List ℕ → Members → LegConfig → Type 0
IsLegAt key members leg = (inner : Members) × IsTableAt key members inner × IsLeg inner leg

-- The table tells this line.
pub record IsLine (members : Members) (line : LineConfig) : Type 0 where
  pub keys : HasKnownKeys levels.Line members
  pub name : IsTextAt (codes "name") members (Some (string_bytes line.name))
  pub calling : IsLegAt (codes "calling") members line.calling
  pub called : IsLegAt (codes "called") members line.called
  pub redundancy : IsNumberAt (codes "redundancy") members 3 line.redundancy
  pub preamble_ms : IsNumberAt (codes "preamble_ms") members 40 line.preamble_ms
  pub repeat : IsRepeatAt members line.repeat
  pub dial_seconds : IsNumberAt (codes "dial_seconds") members 180 line.dial_seconds
  pub line_memory : IsNumberAt (codes "line_memory") members 16777216 line.line_memory
  pub most_waiting : IsNumberAt (codes "most_waiting") members 1000000 line.most_waiting
  pub in_range : IsInRange line

abbrev pub IsLineOf : Data → LineConfig → Type 0
IsLineOf value line = (members : Members) × (value ≡ table members) × IsLine members line

abbrev pub AreLines : Items → List LineConfig → Type 0
AreLines items lines = AreTold IsLineOf items lines

-- the lines of a document
abbrev pub AreLinesAt : Members → List LineConfig → Type 0
AreLinesAt members lines = AreToldAt IsLineOf (codes "lines") members lines

-- ---- jobs that could not be delivered

-- The table tells this redial line.
pub record IsRedial (members : Members) (redial : RedialConfig) : Type 0 where
  pub keys : HasKnownKeys levels.Redial members
  pub name : IsTextAt (codes "name") members (Some (string_bytes redial.name))
  pub is_name : IsLineName (string_bytes redial.name)
  pub called : IsLegAt (codes "called") members redial.called

abbrev pub IsRedialOf : Data → RedialConfig → Type 0
IsRedialOf value redial = (members : Members) × (value ≡ table members) × IsRedial members redial

abbrev pub AreRedialsAt : Members → List RedialConfig → Type 0
AreRedialsAt members redials = AreToldAt IsRedialOf (codes "redial") members redials

-- the value is how long a job waits for one of its times: a second at least, and a week at most
abbrev pub IsWait : Data → ℕ → Type 0
IsWait value seconds = (value ≡ integer (pos seconds)) × (1 ≤ seconds) × (seconds ≤ 604800)

-- The table tells when jobs are tried again.
pub record IsRetry (members : Members) (retry : RetryConfig) : Type 0 where
  pub keys : HasKnownKeys levels.Retry members
  pub waits : AreToldAt IsWait (codes "after_seconds") members retry.after_seconds.items

abbrev pub IsRetryIf : Option Members → RetryConfig → Type 0
IsRetryIf None retry = retry.after_seconds.items ≡ []
IsRetryIf (Some members) retry = IsRetry members retry

-- the document does: never, where it says nothing
abbrev pub IsRetryAt : Members → RetryConfig → Type 0
IsRetryAt members retry =
    (inner : Option Members) × IsTableIfAt (codes "retry") members inner × IsRetryIf inner retry

-- the local address of no leg of a line
abbrev pub IsAtNoLegOfLines : List LineConfig → SocketAddr → Type 0
IsAtNoLegOfLines lines address =
    All (λ line. (line.calling.local ≢ address) × (line.called.local ≢ address)) lines

-- that of no redial line's called leg
abbrev pub IsAtNoRedial : List RedialConfig → SocketAddr → Type 0
IsAtNoRedial redials address = All (λ redial. redial.called.local ≢ address) redials

-- the local address of no leg
abbrev pub IsAtNoLeg : List LineConfig → List RedialConfig → SocketAddr → Type 0
IsAtNoLeg lines redials address = IsAtNoLegOfLines lines address × IsAtNoRedial redials address

-- what SIP and audio are at is that of no leg
abbrev pub IsUnlikeSip : List LineConfig → List RedialConfig → Option SipConfig → Type 0
IsUnlikeSip lines redials None = Unit {0}
IsUnlikeSip lines redials (Some sip) =
    IsAtNoLeg lines redials sip.local × IsAtNoLeg lines redials sip.audio

-- The document tells this configuration.
pub record IsConfig (members : Members) (config : Config) : Type 0 where
  pub keys : HasKnownKeys levels.Top members
  pub control :
      IsPathAt (codes "control") members (option_map (λ path. string_bytes path) config.control)
  pub spool : IsPathAt (codes "spool") members (option_map (λ path. string_bytes path) config.spool)
  pub http : IsAddressAt (codes "http") members config.http
  pub stop_seconds : IsNumberAt (codes "stop_seconds") members 120 config.stop_seconds
  pub stop_in_range : config.stop_seconds ≤ 86400
  pub memory : IsNumberIfAt (codes "memory") members config.memory
  pub memory_in_range : IfSome config.memory IsMemory
  pub lines : AreLinesAt members config.lines.items
  pub few : length config.lines.items ≤ 4000
  pub retry : IsRetryAt members config.retry
  pub few_retries : length config.retry.after_seconds.items ≤ 16
  pub redial : AreRedialsAt members config.redial.items
  pub few_redials : length config.redial.items ≤ 4000
  pub names_unlike : AreUnlike (names_of config)
  pub addresses_unlike : AreUnlike (local_addresses config)
  pub sip : IsSipAt members config.sip
  pub sip_unlike : IsUnlikeSip config.lines.items config.redial.items config.sip

-- the text is a TOML document that tells this configuration
abbrev pub Tells : List ℕ → Config → Type 0
Tells text config =
    (members : Members) × (parse_document text ≡ Some members) × IsConfig members config
