-- What a document tells of SIP (this project's profile).
use Rattle.std.specs.Prelude.{◌≡◌, ◌≢◌, ℕ, ◌<◌, ◌≤◌, ◌⊎◌, Bool, true, IsSome, IsOk, Option, None, Some, List, [], length, codes, get_or, map, option_map, position, bytes_eq, string_bytes}
use Rattle.std.specs.declared.net.socket_addr.SocketAddr.{SocketAddr}
use Rattle.toml.specs.Data.{Data, string, array, table, Items, Members, get_member}
use Rattle.fax_trunks.specs.declared.network.Network.{Network}
use Rattle.fax_trunks.specs.Numbers.{reading}
use Rattle.fax_trunks.specs.Routes.{route_of}
use Rattle.fax_config.specs.declared.sip.RouteConfig.{RouteConfig}
use Rattle.fax_config.specs.declared.sip.SipConfig.{SipConfig}
use Rattle.fax_config.specs.declared.sip.TrunkConfig.{TrunkConfig}
use Rattle.fax_config.specs.declared.keys.Level.TheVariants as levels
use Rattle.fax_config.specs.Members.{AreTold, AreToldAt, HasKnownKeys, IsAddressAt, IsLineName, IsNumberAt, IsPathAt, IsTableAt, IsTextAt}
use Rattle.fax_config.specs.SipMembers.{AreNetworksAt, IsCallWithAt, IsTruthAt, IsUserAt}

-- no two of these names are alike
abbrev pub AreUnlikeNames : List (List ℕ) → Type 0
AreUnlikeNames names = (i j : ℕ) (default : List ℕ)
    → i < j → j < length names → get_or names i default ≢ get_or names j default

-- The table tells where a trunk is.
pub record IsReach (members : Members)
    (name : List ℕ) (address : SocketAddr) (allow : List Network) : Type 0 where
  pub name_at : IsTextAt (codes "name") members (Some name)
  pub is_name : IsLineName name
  pub address_at : IsAddressAt (codes "address") members (Some address)
  pub allow_at : AreNetworksAt (codes "allow") members allow

-- The table tells as whom a trunk is called: a password and a registration have a user.
pub record IsAccount (members : Members)
    (user : Option (List ℕ)) (password_file : Option (List ℕ)) (registers : Bool) : Type 0 where
  pub user_at : IsUserAt members user
  pub password_file_at : IsPathAt (codes "password_file") members password_file
  pub register_at : IsTruthAt (codes "register") members registers
  pub password_has_user : IsSome password_file → IsSome user
  pub registration_has_user : registers ≡ true → IsSome user

-- The table tells this trunk.
pub record IsTrunk (members : Members) (trunk : TrunkConfig) : Type 0 where
  pub keys : HasKnownKeys levels.Trunk members
  pub reach : IsReach members (string_bytes trunk.name) trunk.address trunk.allow.items
  pub account : IsAccount members (option_map (λ user. string_bytes user) trunk.user) (option_map
      (λ path. string_bytes path) trunk.password_file) trunk.registers
  pub call_with : IsCallWithAt members trunk.call_with
  pub calls : IsNumberAt (codes "calls") members 100 trunk.calls
  pub least_calls : 1 ≤ trunk.calls
  pub most_calls : trunk.calls ≤ 4000

abbrev pub IsTrunkOf : Data → TrunkConfig → Type 0
IsTrunkOf value trunk = (members : Members) × (value ≡ table members) × IsTrunk members trunk

abbrev pub AreTrunks : Items → List TrunkConfig → Type 0
AreTrunks items trunks = AreTold IsTrunkOf items trunks

abbrev pub AreTrunksAt : Members → List TrunkConfig → Type 0
AreTrunksAt members trunks = AreToldAt IsTrunkOf (codes "trunks") members trunks

abbrev pub names_of_trunks : List TrunkConfig → List (List ℕ)
names_of_trunks trunks = map (λ trunk. string_bytes trunk.name) trunks

-- what is put in front of a number: nothing, where nothing is said
abbrev pub IsAddAt : Members → List ℕ → Type 0
IsAddAt members add = ((get_member (codes "add") members ≡ None) × (add ≡ []))
    ⊎ (get_member (codes "add") members ≡ Some (string add))

-- The table tells this route, over the trunk at this place: its prefix is a number, and what it adds can stand in front of one.
pub record IsRouteOver (trunk : ℕ) (members : Members) (route : RouteConfig) : Type 0 where
  pub over : route.trunk ≡ trunk
  pub prefix : IsTextAt (codes "prefix") members (Some (string_bytes route.prefix))
  pub is_called : IsOk (reading (string_bytes route.prefix))
  pub strip : IsNumberAt (codes "strip") members 0 route.strip
  pub most_strip : route.strip ≤ 32
  pub add : IsAddAt members (string_bytes route.add)
  pub is_dialled :
      IsOk (route_of (string_bytes route.prefix) trunk route.strip (string_bytes route.add))

-- the first trunk of this name
abbrev pub place_of_trunk : List TrunkConfig → List ℕ → Option ℕ
place_of_trunk trunks name = position (λ trunk. bytes_eq (string_bytes trunk.name) name) trunks

-- The table tells this route, over one of these trunks.
pub record IsRoute (trunks : List TrunkConfig) (members : Members) (route : RouteConfig) :
    Type 0 where
  pub keys : HasKnownKeys levels.Route members
  pub trunk : (name : List ℕ) × IsTextAt (codes "trunk") members (Some name)
      × (place_of_trunk trunks name ≡ Some route.trunk)
  pub rest : IsRouteOver route.trunk members route

abbrev pub IsRouteOf : List TrunkConfig → Data → RouteConfig → Type 0
IsRouteOf trunks value route =
    (members : Members) × (value ≡ table members) × IsRoute trunks members route

abbrev pub AreRoutes : List TrunkConfig → Items → List RouteConfig → Type 0
AreRoutes trunks items routes = AreTold (IsRouteOf trunks) items routes

abbrev pub AreRoutesAt : List TrunkConfig → Members → List RouteConfig → Type 0
AreRoutesAt trunks members routes = AreToldAt (IsRouteOf trunks) (codes "routes") members routes

-- The table tells where SIP and audio are, which differ, and how long a call waits for its answer.
pub record IsHead (members : Members) (local : SocketAddr) (audio : SocketAddr) (ring_seconds : ℕ) :
    Type 0 where
  pub keys : HasKnownKeys levels.Sip members
  pub local_at : IsAddressAt (codes "local") members (Some local)
  pub audio_at : IsAddressAt (codes "audio") members (Some audio)
  pub unlike : local ≢ audio
  pub ring_seconds_at : IsNumberAt (codes "ring_seconds") members 90 ring_seconds
  pub least_ring : 1 ≤ ring_seconds
  pub most_ring : ring_seconds ≤ 600

abbrev pub IsHeadAt : Members → SocketAddr → SocketAddr → ℕ → Type 0
IsHeadAt members local audio ring_seconds = (inner : Members)
    × IsTableAt (codes "sip") members inner × IsHead inner local audio ring_seconds

-- The document tells this of SIP.
pub record IsSip (members : Members) (sip : SipConfig) : Type 0 where
  pub head : IsHeadAt members sip.local sip.audio sip.ring_seconds
  pub trunks : AreTrunksAt members sip.trunks.items
  pub few_trunks : length sip.trunks.items ≤ 64
  pub names_unlike : AreUnlikeNames (names_of_trunks sip.trunks.items)
  pub routes : AreRoutesAt sip.trunks.items members sip.routes.items
  pub few_routes : length sip.routes.items ≤ 1000

-- there is neither SIP, nor a trunk, nor a route
pub record IsWithoutSip (members : Members) : Type 0 where
  pub no_sip : get_member (codes "sip") members ≡ None
  pub no_trunks : get_member (codes "trunks") members ≡ None
  pub no_routes : get_member (codes "routes") members ≡ None

abbrev pub IsSipAt : Members → Option SipConfig → Type 0
IsSipAt members None = IsWithoutSip members
IsSipAt members (Some sip) = IsSip members sip
