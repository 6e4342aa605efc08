-- What each fault says of a text (this project's profile).
use Rattle.std.specs.Prelude.{◌≡◌, ◌≢◌, ℕ, ℤ, pos, Bool, true, ◌+◌, ◌<◌, ◌≤◌, ◌⊎◌, Option, None, Some, IsSome, IsSomeAnd, IsErr, List, [], length, take, codes, count_by, ◌==◌, get_or, Contains, option_and_then, string_bytes}
use Rattle.std.specs.List.{list_any}
use Rattle.std.specs.Net.Grammar.{IsSocketText}
use Rattle.std.specs.Net.Socket.{socket_port}
use Rattle.std.specs.declared.net.socket_addr.SocketAddr.{SocketAddr}
use Rattle.toml.specs.Data.{Data, string, integer, array, table, Items, no_items, item, Members, get_item, get_member, as_str, as_integer, as_bool, as_array, as_table}
use Rattle.toml.specs.Parse.{parse_document}
use Rattle.toml.specs.Errors.{span_start}
use Rattle.fax_gateway.specs.LegNames.{leg_text}
use Rattle.fax_config.specs.declared.config.LineConfig.{LineConfig}
use Rattle.fax_config.specs.declared.config.RedialConfig.{RedialConfig}
use Rattle.fax_config.specs.declared.config.Repeat.{Repeat}
use Rattle.fax_config.specs.declared.fault.ConfigFault.{ConfigFault}
use Rattle.fax_config.specs.declared.fault.ConfigFault.TheVariants as faults
use Rattle.fax_config.specs.declared.fault.Flaw.{Flaw}
use Rattle.fax_config.specs.declared.fault.Flaw.TheVariants as flaws
use Rattle.fax_config.specs.declared.fault.LineName.{LineName}
use Rattle.fax_config.specs.declared.fault.LineName.TheVariants as told
use Rattle.fax_config.specs.declared.fault.Misfit.{Misfit}
use Rattle.fax_config.specs.declared.fault.Misfit.TheVariants as misfits
use Rattle.fax_config.specs.declared.fault.Trouble.{Trouble}
use Rattle.fax_config.specs.declared.fault.Trouble.TheVariants as troubles
use Rattle.fax_config.specs.declared.keys.Level.{Level}
use Rattle.fax_config.specs.declared.keys.Level.TheVariants as levels
use Rattle.fax_config.specs.declared.sip.CallWith.{CallWith}
use Rattle.fax_config.specs.declared.sip.TrunkConfig.{TrunkConfig}
use Rattle.fax_config.specs.declared.sip_fault.SipMisfit.{SipMisfit}
use Rattle.fax_config.specs.declared.sip_fault.SipMisfit.TheVariants as sips
use Rattle.fax_config.specs.Configurations.{AreLinesAt, AreRedialsAt, names_of_all}
use Rattle.fax_config.specs.Members.{IsAddressAt, IsLineName, IsTableAt, keys_of, known_keys, repeat_text}
use Rattle.fax_config.specs.SipConfigurations.{AreTrunksAt, names_of_trunks, place_of_trunk}
use Rattle.fax_config.specs.SipMembers.{IsUser, call_with_text}
use Rattle.fax_trunks.specs.declared.network_fault.NetworkFault.{NetworkFault}
use Rattle.fax_trunks.specs.Networks.{IsFaultOf as IsNetworkFault}
use Rattle.fax_trunks.specs.Numbers.{reading}
use Rattle.fax_trunks.specs.Routes.{route_of}

-- the value is no list, or an item of it is no table
abbrev pub IsNoListOfTables : Data → Type 0
IsNoListOfTables value = (as_array value ≡ None) ⊎ ((items : Items)
    × (i : ℕ) × (value ≡ array items) × IsSomeAnd (get_item i items) (λ one. as_table one ≡ None))

-- the value is no list, or an item of it is no number
abbrev pub IsNoListOfNumbers : Data → Type 0
IsNoListOfNumbers value = (as_array value ≡ None) ⊎ ((items : Items)
    × (i : ℕ) × (value ≡ array items) × IsSomeAnd (get_item i items) (λ one. as_integer one ≡ None))

abbrev pub count_items : Items → ℕ
count_items no_items = 0
count_items (item value items) = 1 + count_items items

-- the value is no text, or one that is no network, for this reason
abbrev pub IsNoNetwork : Data → Type 0
IsNoNetwork value = (as_str value ≡ None)
    ⊎ ((text : List ℕ) × (why : NetworkFault) × (value ≡ string text) × IsNetworkFault text why)

abbrev pub HasNoNetwork : Items → Type 0
HasNoNetwork items = (i : ℕ) × IsSomeAnd (get_item i items) IsNoNetwork

-- the value is no list, or an item of it is no network
abbrev pub IsNoListOfNetworks : Data → Type 0
IsNoListOfNetworks value =
    (as_array value ≡ None) ⊎ ((items : Items) × (value ≡ array items) × HasNoNetwork items)

-- what is wrong with the value that was found at a key
abbrev pub IsTrouble : Trouble → Option Data → Type 0
IsTrouble troubles.Absent found = found ≡ None
IsTrouble troubles.NotText found = IsSomeAnd found (λ value. as_str value ≡ None)
IsTrouble troubles.NotNumber found = IsSomeAnd found (λ value. as_integer value ≡ None)
IsTrouble troubles.NotTable found = IsSomeAnd found (λ value. as_table value ≡ None)
IsTrouble troubles.NotTables found = IsSomeAnd found IsNoListOfTables
IsTrouble troubles.NotNumbers found = IsSomeAnd found IsNoListOfNumbers
IsTrouble (troubles.TooMany most) found =
    (items : Items) × (found ≡ Some (array items)) × (most < count_items items)
IsTrouble (troubles.ItemOutOfRange least most) found = (items : Items) × (i : ℕ)
    × (number : ℤ) × (found ≡ Some (array items)) × (get_item i items ≡ Some (integer number))
    × ((n : ℕ) → number ≡ pos n → least ≤ n → n ≤ most → ⊥)
IsTrouble troubles.NotAddress found = (text : List ℕ)
    × (found ≡ Some (string text)) × ((address : SocketAddr) → ¬ (IsSocketText text address))
IsTrouble troubles.NoPort found = (text : List ℕ) × (address : SocketAddr)
    × (found ≡ Some (string text)) × IsSocketText text address × (socket_port address ≡ 0)
IsTrouble troubles.NotTruth found = IsSomeAnd found (λ value. as_bool value ≡ None)
IsTrouble troubles.NotNetworks found = IsSomeAnd found IsNoListOfNetworks
IsTrouble troubles.NotUser found = (text : List ℕ) × (found ≡ Some (string text)) × ¬ (IsUser text)
IsTrouble troubles.NotCallWith found = (text : List ℕ)
    × (found ≡ Some (string text)) × ((kind : CallWith) → text ≢ call_with_text kind)
IsTrouble troubles.NotCalled found =
    (text : List ℕ) × (found ≡ Some (string text)) × IsErr (reading text)
IsTrouble troubles.NotDialled found = (text : List ℕ) × (found ≡ Some (string text))
    × ((prefix : List ℕ) (trunk strip : ℕ) → IsErr (route_of prefix trunk strip text))
IsTrouble troubles.Empty found = found ≡ Some (string [])
IsTrouble troubles.NotRepeat found =
    (text : List ℕ) × (found ≡ Some (string text)) × ((kind : Repeat) → text ≢ repeat_text kind)
IsTrouble troubles.NotName found =
    (text : List ℕ) × (found ≡ Some (string text)) × ¬ (IsLineName text)
IsTrouble (troubles.OutOfRange least most) found = (number : ℤ)
    × (found ≡ Some (integer number)) × ((n : ℕ) → number ≡ pos n → least ≤ n → n ≤ most → ⊥)

-- the table has the flaw: a key that is not known there, or trouble at a key
abbrev pub HasFlaw : Level → Members → Flaw → Type 0
HasFlaw level inside (flaws.Unknown key) = Contains (keys_of inside) (string_bytes key)
    × ¬ (Contains (known_keys level) (string_bytes key))
HasFlaw level inside (flaws.At key trouble) = IsTrouble trouble (get_member key.now inside)
HasFlaw level inside (flaws.Wants key other) =
    IsSome (get_member key.now inside) × (get_member other.now inside ≡ None)
HasFlaw level inside flaws.OwnPeer =
    (address : SocketAddr) × IsAddressAt (codes "local") inside (Some address)
    × IsAddressAt (codes "peer") inside (Some address)
HasFlaw level inside flaws.NoMemory = Unit {0}

-- a line is told of by its name, or by how many stand before it where it has no name that is a text
abbrev pub IsToldAs : ℕ → Members → LineName → Type 0
IsToldAs after line (told.Named name) =
    get_member (codes "name") line ≡ Some (string (string_bytes name))
IsToldAs after line (told.After count) =
    (count ≡ after) × (option_and_then as_str (get_member (codes "name") line) ≡ None)

-- the table of a line, after so many others, has the flaw, or the table of one of its legs
abbrev pub HasMisfit : ℕ → Members → Misfit → Type 0
HasMisfit after line (misfits.Line name flaw) =
    IsToldAs after line name × HasFlaw levels.Line line flaw
HasMisfit after line (misfits.Leg name leg flaw) = IsToldAs after line name
    × ((inner : Members) × IsTableAt (leg_text leg) line inner × HasFlaw levels.Leg inner flaw)
HasMisfit after line misfits.NoMemory = Unit {0}
HasMisfit after line _ = ⊥

-- some table of the list has the flaw
abbrev pub SomeLineHasMisfit : Items → Misfit → Type 0
SomeLineHasMisfit items misfit =
    (i : ℕ) × (line : Members) × (get_item i items ≡ Some (table line)) × HasMisfit i line misfit

-- the table of a redial line, after so many others, has the flaw, or the table of its leg
abbrev pub HasRedialMisfit : ℕ → Members → Misfit → Type 0
HasRedialMisfit after redial (misfits.Redial name flaw) =
    IsToldAs after redial name × HasFlaw levels.Redial redial flaw
HasRedialMisfit after redial (misfits.RedialLeg name flaw) = IsToldAs after redial name
    × ((inner : Members) × IsTableAt (codes "called") redial inner × HasFlaw levels.Leg inner flaw)
HasRedialMisfit after redial misfits.NoMemory = Unit {0}
HasRedialMisfit after redial _ = ⊥

-- some table of the list has the flaw
abbrev pub SomeRedialHasMisfit : Items → Misfit → Type 0
SomeRedialHasMisfit items misfit = (i : ℕ) × (redial : Members)
    × (get_item i items ≡ Some (table redial)) × HasRedialMisfit i redial misfit

-- two places of the list have it
abbrev pub HasTwice : {X : Type 0} → List X → X → Type 0
HasTwice xs x =
    (i : ℕ) × (j : ℕ) × (i < j) × (j < length xs) × (get_or xs i x ≡ x) × (get_or xs j x ≡ x)

-- the element stands at a place of the list, after one that is like it by this test
abbrev pub IsRepeated : {X : Type 0} → (X → X → Bool) → List X → X → Type 0
IsRepeated eq xs x =
    (j : ℕ) × (j < length xs) × (get_or xs j x ≡ x) × (list_any (eq x) (take j xs) ≡ true)

-- the table of `sip` has the flaw, or one address for SIP and audio
abbrev pub HasHeadMisfit : Members → SipMisfit → Type 0
HasHeadMisfit inside (sips.Sip flaw) = HasFlaw levels.Sip inside flaw
HasHeadMisfit inside sips.OneAddress =
    (address : SocketAddr) × IsAddressAt (codes "local") inside (Some address)
    × IsAddressAt (codes "audio") inside (Some address)
HasHeadMisfit inside sips.NoMemory = Unit {0}
HasHeadMisfit inside _ = ⊥

-- the table of a trunk, after so many others, has the flaw
abbrev pub HasTrunkMisfit : ℕ → Members → SipMisfit → Type 0
HasTrunkMisfit after inside (sips.Trunk name flaw) =
    IsToldAs after inside name × HasFlaw levels.Trunk inside flaw
HasTrunkMisfit after inside sips.NoMemory = Unit {0}
HasTrunkMisfit after inside _ = ⊥

-- the table of a route, after so many others, has the flaw, or it names a trunk that is none of these
abbrev pub HasRouteMisfit : List TrunkConfig → ℕ → Members → SipMisfit → Type 0
HasRouteMisfit trunks after inside (sips.Route count flaw) =
    (count ≡ after) × HasFlaw levels.Route inside flaw
HasRouteMisfit trunks after inside (sips.UnknownTrunk count name) =
    (count ≡ after) × (get_member (codes "trunk") inside ≡ Some (string (string_bytes name)))
    × (place_of_trunk trunks (string_bytes name) ≡ None)
HasRouteMisfit trunks after inside sips.NoMemory = Unit {0}
HasRouteMisfit trunks after inside _ = ⊥

-- which of two addresses is taken
abbrev pub IsTaken : SocketAddr → SocketAddr → SipMisfit → Type 0
IsTaken local audio (sips.Taken key) = (key.now ≡ codes "local") ⊎ (key.now ≡ codes "audio")
IsTaken local audio _ = ⊥

-- a table of the list at a key has it
abbrev pub SomeTableHas : List ℕ → Members → (ℕ → Members → Type 0) → Type 0
SomeTableHas key document Has = (items : Items) × (get_member key document ≡ Some (array items))
    × ((i : ℕ) × (inside : Members) × (get_item i items ≡ Some (table inside)) × Has i inside)

-- what is wrong with what a document tells of SIP
abbrev pub IsSipMisfitOf : Members → SipMisfit → Type 0
IsSipMisfitOf document (sips.WithoutSip key) =
    IsSome (get_member key.now document) × (get_member (codes "sip") document ≡ None)
IsSipMisfitOf document (sips.Top flaw) = HasFlaw levels.Top document flaw
IsSipMisfitOf document (sips.Sip flaw) = (inside : Members)
    × IsTableAt (codes "sip") document inside × HasHeadMisfit inside (sips.Sip flaw)
IsSipMisfitOf document sips.OneAddress = (inside : Members)
    × IsTableAt (codes "sip") document inside × HasHeadMisfit inside sips.OneAddress
IsSipMisfitOf document (sips.Taken key) = (inside : Members) × (address : SocketAddr)
    × IsTableAt (codes "sip") document inside × IsAddressAt key.now inside (Some address)
IsSipMisfitOf document (sips.Trunk name flaw) = SomeTableHas (codes "trunks") document
    (λ i inside. HasTrunkMisfit i inside (sips.Trunk name flaw))
IsSipMisfitOf document (sips.DoubledTrunk name) = (trunks : List TrunkConfig)
    × AreTrunksAt document trunks × HasTwice (names_of_trunks trunks) (string_bytes name)
IsSipMisfitOf document sips.TooManyTrunks = (items : Items)
    × (get_member (codes "trunks") document ≡ Some (array items)) × (64 < count_items items)
IsSipMisfitOf document sips.TooManyRoutes = (items : Items)
    × (get_member (codes "routes") document ≡ Some (array items)) × (1000 < count_items items)
IsSipMisfitOf document (sips.Route count flaw) = SomeTableHas (codes "routes") document
    (λ i inside. (count ≡ i) × HasFlaw levels.Route inside flaw)
IsSipMisfitOf document (sips.UnknownTrunk count name) = (trunks : List TrunkConfig)
    × AreTrunksAt document trunks × SomeTableHas (codes "routes") document
    (λ i inside. HasRouteMisfit trunks i inside (sips.UnknownTrunk count name))
IsSipMisfitOf document sips.NoMemory = Unit {0}

-- what is wrong with a document
abbrev pub IsMisfitOf : Members → Misfit → Type 0
IsMisfitOf document (misfits.Top flaw) = HasFlaw levels.Top document flaw
IsMisfitOf document (misfits.Sip misfit) = IsSipMisfitOf document misfit
IsMisfitOf document (misfits.Retry flaw) =
    (inner : Members) × IsTableAt (codes "retry") document inner × HasFlaw levels.Retry inner flaw
IsMisfitOf document (misfits.Redial name flaw) =
    (items : Items) × (get_member (codes "redial") document ≡ Some (array items))
    × SomeRedialHasMisfit items (misfits.Redial name flaw)
IsMisfitOf document (misfits.RedialLeg name flaw) =
    (items : Items) × (get_member (codes "redial") document ≡ Some (array items))
    × SomeRedialHasMisfit items (misfits.RedialLeg name flaw)
IsMisfitOf document (misfits.DoubledName name) =
    (lines : List LineConfig) × (redials : List RedialConfig) × AreLinesAt document lines
    × AreRedialsAt document redials × HasTwice (names_of_all lines redials) (string_bytes name)
IsMisfitOf document (misfits.DoubledAddress name leg) = (lines : List LineConfig)
    × (redials : List RedialConfig) × AreLinesAt document lines × AreRedialsAt document redials
IsMisfitOf document misfits.TooManyRedials = (items : Items)
    × (get_member (codes "redial") document ≡ Some (array items)) × (4000 < count_items items)
IsMisfitOf document misfits.TooManyLines = (items : Items)
    × (get_member (codes "lines") document ≡ Some (array items)) × (4000 < count_items items)
IsMisfitOf document misfits.NoMemory = Unit {0}
IsMisfitOf document misfit = (items : Items)
    × (get_member (codes "lines") document ≡ Some (array items)) × SomeLineHasMisfit items misfit

-- how many line feeds stand before a place of the text, and one
abbrev pub line_number : List ℕ → ℕ → ℕ
line_number text place = count_by (λ octet. octet == 10) (take place text) + 1

-- what a fault says is so: the text is no TOML, and that was met in this line of it; or memory was refused; or it is TOML, and something in it is wrong
abbrev pub IsFaultOf : List ℕ → ConfigFault → Type 0
IsFaultOf text (faults.NotToml line error) =
    (parse_document text ≡ None) × (line ≡ line_number text (span_start error))
IsFaultOf text (faults.Misfit misfit) = (misfit ≡ misfits.NoMemory)
    ⊎ ((members : Members) × (parse_document text ≡ Some members) × IsMisfitOf members misfit)
