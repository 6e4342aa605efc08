-- What the members of a TOML table tell of SIP (this project's profile).
use Rattle.std.specs.Prelude.{◌≡◌, ◌≢◌, ℕ, ◌<◌, ◌≤◌, ◌⊎◌, Bool, true, false, ◌||◌, IsTrue, List, [], ◌∷◌, length, codes, Option, None, Some, All, nat_eq}
use Rattle.std.specs.Char.{is_ascii_alphanumeric}
use Rattle.std.specs.List.{list_any}
use Rattle.toml.specs.Data.{Data, string, boolean, Items, Members, get_member}
use Rattle.fax_trunks.specs.declared.network.Network.{Network}
use Rattle.fax_trunks.specs.Networks.{IsNetwork}
use Rattle.fax_config.specs.declared.sip.CallWith.{CallWith}
use Rattle.fax_config.specs.declared.sip.CallWith.TheVariants as with
use Rattle.fax_config.specs.Members.{AreTold, AreToldAt}

-- what is said at a key is so; where nothing is said, it is not
abbrev pub IsTruthAt : List ℕ → Members → Bool → Type 0
IsTruthAt key members truth = ((get_member key members ≡ None) × (truth ≡ false))
    ⊎ (get_member key members ≡ Some (boolean truth))

abbrev pub call_with_text : CallWith → List ℕ
call_with_text with.T38 = codes "t38"
call_with_text with.Audio = codes "audio"

-- what a call offers first: T.38, where nothing is said
abbrev pub IsCallWithAt : Members → CallWith → Type 0
IsCallWithAt members kind = ((get_member (codes "call_with") members ≡ None) × (kind ≡ with.T38))
    ⊎ (get_member (codes "call_with") members ≡ Some (string (call_with_text kind)))

-- a letter, a digit, or one of `-_.+`: none of them is escaped in an address (RFC 3261, 25.1)
abbrev pub is_user_octet : ℕ → Bool
is_user_octet octet =
    is_ascii_alphanumeric octet || list_any (λ one. nat_eq one octet) (codes "-_.+")

-- the text can be a user
abbrev pub IsUser : List ℕ → Type 0
IsUser text =
    (0 < length text) × (length text ≤ 64) × All (λ octet. IsTrue (is_user_octet octet)) text

abbrev pub IsUserAt : Members → Option (List ℕ) → Type 0
IsUserAt members None = get_member (codes "user") members ≡ None
IsUserAt members (Some user) =
    (get_member (codes "user") members ≡ Some (string user)) × IsUser user

-- the item tells this network
abbrev pub IsNetworkOf : Data → Network → Type 0
IsNetworkOf value network = (text : List ℕ) × (value ≡ string text) × IsNetwork text network

abbrev pub AreNetworks : Items → List Network → Type 0
AreNetworks items networks = AreTold IsNetworkOf items networks

abbrev pub AreNetworksAt : List ℕ → Members → List Network → Type 0
AreNetworksAt key members networks = AreToldAt IsNetworkOf key members networks
