-- What the members of a TOML table tell (TOML 1.1; which keys there are is this project's profile).
use Rattle.std.specs.Prelude.{◌≡◌, ◌≢◌, ℕ, ◌<◌, ◌≤◌, ◌⊎◌, pos, List, [], ◌∷◌, length, codes, Option, None, Some, All, Contains}
use Rattle.std.specs.Net.Grammar.{IsSocketText}
use Rattle.std.specs.Net.Socket.{socket_port}
use Rattle.std.specs.declared.net.socket_addr.SocketAddr.{SocketAddr}
use Rattle.toml.specs.Data.{Data, string, integer, array, table, Items, no_items, item, Members, no_members, member, get_member}
use Rattle.fax_config.specs.declared.config.Repeat.{Repeat}
use Rattle.fax_config.specs.declared.config.Repeat.TheVariants as repeat
use Rattle.fax_config.specs.declared.keys.Level.{Level}
use Rattle.fax_config.specs.declared.keys.Level.TheVariants as levels

-- the keys that a table may have: the document, a line, a leg of a line, what says when jobs are tried again, a redial line, and those of SIP
abbrev pub known_keys : Level → List (List ℕ)
known_keys levels.Top = codes "control"
    ∷ codes "spool" ∷ codes "http" ∷ codes "stop_seconds" ∷ codes "memory" ∷ codes "lines"
    ∷ codes "retry" ∷ codes "redial" ∷ codes "sip" ∷ codes "trunks" ∷ codes "routes" ∷ []
known_keys levels.Line =
    codes "name" ∷ codes "calling" ∷ codes "called" ∷ codes "redundancy" ∷ codes "preamble_ms"
    ∷ codes "repeat" ∷ codes "dial_seconds" ∷ codes "line_memory" ∷ codes "most_waiting" ∷ []
known_keys levels.Leg = codes "local" ∷ codes "peer" ∷ []
known_keys levels.Retry = codes "after_seconds" ∷ []
known_keys levels.Redial = codes "name" ∷ codes "called" ∷ []
known_keys levels.Sip = codes "local" ∷ codes "audio" ∷ codes "ring_seconds" ∷ []
known_keys levels.Trunk = codes "name" ∷ codes "address" ∷ codes "allow" ∷ codes "user"
    ∷ codes "password_file" ∷ codes "register" ∷ codes "call_with" ∷ codes "calls" ∷ []
known_keys levels.Route = codes "prefix" ∷ codes "trunk" ∷ codes "strip" ∷ codes "add" ∷ []

-- the keys of some members, in order
abbrev pub keys_of : Members → List (List ℕ)
keys_of no_members = []
keys_of (member key value members) = key ∷ keys_of members

-- each key of the table may stand there
abbrev pub HasKnownKeys : Level → Members → Type 0
HasKnownKeys level members = All (Contains (known_keys level)) (keys_of members)

-- the text at a key, or that there is none
abbrev pub IsTextAt : List ℕ → Members → Option (List ℕ) → Type 0
IsTextAt key members None = get_member key members ≡ None
IsTextAt key members (Some text) = get_member key members ≡ Some (string text)

-- the number at a key, or the default where there is none
abbrev pub IsNumberAt : List ℕ → Members → ℕ → ℕ → Type 0
IsNumberAt key members default n = ((get_member key members ≡ None) × (n ≡ default))
    ⊎ (get_member key members ≡ Some (integer (pos n)))

-- the number at a key, or that there is none
abbrev pub IsNumberIfAt : List ℕ → Members → Option ℕ → Type 0
IsNumberIfAt key members None = get_member key members ≡ None
IsNumberIfAt key members (Some n) = get_member key members ≡ Some (integer (pos n))

-- the path at a key, of an octet at least, or that there is none
abbrev pub IsPathAt : List ℕ → Members → Option (List ℕ) → Type 0
IsPathAt key members None = get_member key members ≡ None
IsPathAt key members (Some path) = (get_member key members ≡ Some (string path)) × (path ≢ [])

-- the address at a key, whose port is not 0, or that there is none
abbrev pub IsAddressAt : List ℕ → Members → Option SocketAddr → Type 0
IsAddressAt key members None = get_member key members ≡ None
IsAddressAt key members (Some address) =
    (text : List ℕ) × (get_member key members ≡ Some (string text))
    × IsSocketText text address × (socket_port address ≢ 0)

-- the table at a key
abbrev pub IsTableAt : List ℕ → Members → Members → Type 0
IsTableAt key members inner = get_member key members ≡ Some (table inner)

-- the same, or that there is none
abbrev pub IsTableIfAt : List ℕ → Members → Option Members → Type 0
IsTableIfAt key members None = get_member key members ≡ None
IsTableIfAt key members (Some inner) = IsTableAt key members inner

abbrev pub repeat_text : Repeat → List ℕ
repeat_text repeat.Full = codes "full"
repeat_text repeat.Last = codes "last"
repeat_text repeat.None = codes "none"

-- which datagrams are sent again: all, where nothing is said
abbrev pub IsRepeatAt : Members → Repeat → Type 0
IsRepeatAt members kind = ((get_member (codes "repeat") members ≡ None) × (kind ≡ repeat.Full))
    ⊎ (get_member (codes "repeat") members ≡ Some (string (repeat_text kind)))

-- the text can be the name of a line: 1 to 64 octets, none of them a space or a control character of ASCII below it, and not `any`
abbrev pub IsLineName : List ℕ → Type 0
IsLineName text =
    (0 < length text) × (length text ≤ 64) × (text ≢ codes "any") × All (λ octet. 32 < octet) text

-- each item tells the one at its place, and there are as many
abbrev pub AreTold : {X : Type 0} → (Data → X → Type 0) → Items → List X → Type 0
AreTold tells no_items [] = Unit {0}
AreTold tells no_items (one ∷ others) = ⊥
AreTold tells (item value items) [] = ⊥
AreTold tells (item value items) (one ∷ others) = tells value one × AreTold tells items others

-- what the list at a key tells: none, where there is none
abbrev pub AreToldAt : {X : Type 0} → (Data → X → Type 0) → List ℕ → Members → List X → Type 0
AreToldAt tells key members all = ((get_member key members ≡ None) × (all ≡ []))
    ⊎ ((items : Items) × (get_member key members ≡ Some (array items)) × AreTold tells items all)
