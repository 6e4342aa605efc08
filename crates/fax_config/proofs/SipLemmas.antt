-- What a document tells of SIP, and what is wrong with it.
use Rattle.std.proofs.Common.{◌≡◌, ℕ, ◌⊎◌, List, codes, Bool, Some, IsSomeAnd, inl, inr, sym, subst}
use Rattle.std.specs.declared.net.socket_addr.SocketAddr.{SocketAddr}
use Rattle.toml.specs.Data.{Data, string, integer, float, boolean, datetime, array, table, Items, Members, get_item, get_member, as_bool}
use Rattle.fax_config.specs.declared.sip.TrunkConfig.{TrunkConfig}
use Rattle.fax_config.specs.declared.sip_fault.SipMisfit.{SipMisfit}
use Rattle.fax_config.specs.declared.sip_fault.SipMisfit.TheVariants as sips
use Rattle.fax_config.specs.Faults.{HasHeadMisfit, HasRouteMisfit, HasTrunkMisfit, IsNoNetwork, IsSipMisfitOf, IsTaken}
use Rattle.fax_config.specs.Members.{IsAddressAt, IsTableAt}
use Rattle.fax_config.specs.SipConfigurations.{AreTrunksAt, IsHead}

pub is_boolean : (d : Data) (b : Bool) → as_bool d ≡ Some b → d ≡ boolean b
is_boolean (string t) b e = absurd (cc)
is_boolean (integer n) b e = absurd (cc)
is_boolean (float x) b e = absurd (cc)
is_boolean (boolean c) b e = cc
is_boolean (datetime dt) b e = absurd (cc)
is_boolean (array items) b e = absurd (cc)
is_boolean (table inner) b e = absurd (cc)

-- a fact of an item
pub item_with : (P : Data → Type 0) (items : Items) (i : ℕ) (value : Data) → get_item i items ≡ Some value → P value → IsSomeAnd (get_item i items) P
item_with P items i value here h = subst (λ o. IsSomeAnd o P) (sym here) h

-- what is wrong with the table of `sip` is wrong with the document
pub misfit_of_head : (document : Members) (inside : Members) (misfit : SipMisfit) → IsTableAt (codes "sip") document inside → HasHeadMisfit inside misfit → IsSipMisfitOf document misfit
misfit_of_head document inside (sips.WithoutSip key) at h = absurd h
misfit_of_head document inside (sips.Sip flaw) at h = (inside, at, h)
misfit_of_head document inside sips.OneAddress at h = (inside, at, h)
misfit_of_head document inside (sips.Taken key) at h = absurd h
misfit_of_head document inside (sips.Top flaw) at h = absurd h
misfit_of_head document inside (sips.Trunk name flaw) at h = absurd h
misfit_of_head document inside (sips.DoubledTrunk name) at h = absurd h
misfit_of_head document inside sips.TooManyTrunks at h = absurd h
misfit_of_head document inside sips.TooManyRoutes at h = absurd h
misfit_of_head document inside (sips.Route count flaw) at h = absurd h
misfit_of_head document inside (sips.UnknownTrunk count name) at h = absurd h
misfit_of_head document inside sips.NoMemory at h = tt

-- the same of the table of a trunk
pub misfit_of_trunk : (document : Members) (items : Items) (i : ℕ) (inside : Members) (misfit : SipMisfit) → get_item i items ≡ Some (table inside) → HasTrunkMisfit i inside misfit
    → get_member (codes "trunks") document ≡ Some (array items) → IsSipMisfitOf document misfit
misfit_of_trunk document items i inside (sips.WithoutSip key) here h at = absurd h
misfit_of_trunk document items i inside (sips.Sip flaw) here h at = absurd h
misfit_of_trunk document items i inside sips.OneAddress here h at = absurd h
misfit_of_trunk document items i inside (sips.Taken key) here h at = absurd h
misfit_of_trunk document items i inside (sips.Top flaw) here h at = absurd h
misfit_of_trunk document items i inside (sips.Trunk name flaw) here h at = (items, at, (i, inside, here, h))
misfit_of_trunk document items i inside (sips.DoubledTrunk name) here h at = absurd h
misfit_of_trunk document items i inside sips.TooManyTrunks here h at = absurd h
misfit_of_trunk document items i inside sips.TooManyRoutes here h at = absurd h
misfit_of_trunk document items i inside (sips.Route count flaw) here h at = absurd h
misfit_of_trunk document items i inside (sips.UnknownTrunk count name) here h at = absurd h
misfit_of_trunk document items i inside sips.NoMemory here h at = tt

-- the same of the table of a route
pub misfit_of_route : (document : Members) (items : Items) (trunks : List TrunkConfig) (i : ℕ) (inside : Members) (misfit : SipMisfit) → get_item i items ≡ Some (table inside)
    → HasRouteMisfit trunks i inside misfit → get_member (codes "routes") document ≡ Some (array items) → AreTrunksAt document trunks → IsSipMisfitOf document misfit
misfit_of_route document items trunks i inside (sips.WithoutSip key) here h at told = absurd h
misfit_of_route document items trunks i inside (sips.Sip flaw) here h at told = absurd h
misfit_of_route document items trunks i inside sips.OneAddress here h at told = absurd h
misfit_of_route document items trunks i inside (sips.Taken key) here h at told = absurd h
misfit_of_route document items trunks i inside (sips.Top flaw) here h at told = absurd h
misfit_of_route document items trunks i inside (sips.Trunk name flaw) here h at told = absurd h
misfit_of_route document items trunks i inside (sips.DoubledTrunk name) here h at told = absurd h
misfit_of_route document items trunks i inside sips.TooManyTrunks here h at told = absurd h
misfit_of_route document items trunks i inside sips.TooManyRoutes here h at told = absurd h
misfit_of_route document items trunks i inside (sips.Route count flaw) here h at told = (items, at, (i, inside, here, h))
misfit_of_route document items trunks i inside (sips.UnknownTrunk count name) here h at told = (trunks, told, (items, at, (i, inside, here, h)))
misfit_of_route document items trunks i inside sips.NoMemory here h at told = tt

-- an address that is taken is one of the table of `sip`
pub misfit_of_taken : (document : Members) (inside : Members) (local audio : SocketAddr) (ring : ℕ) (misfit : SipMisfit) → IsTableAt (codes "sip") document inside → IsHead inside local audio ring
    → IsTaken local audio misfit → IsSipMisfitOf document misfit
misfit_of_taken document inside local audio ring (sips.WithoutSip key) at head h = absurd h
misfit_of_taken document inside local audio ring (sips.Sip flaw) at head h = absurd h
misfit_of_taken document inside local audio ring sips.OneAddress at head h = absurd h
misfit_of_taken document inside local audio ring (sips.Taken key) at head h =
    elim h [
      | inl e ↦ (inside, local, at, subst (λ k. IsAddressAt k inside (Some local)) (sym e) head.local_at)
      | inr e ↦ (inside, audio, at, subst (λ k. IsAddressAt k inside (Some audio)) (sym e) head.audio_at)
    ]
misfit_of_taken document inside local audio ring (sips.Top flaw) at head h = absurd h
misfit_of_taken document inside local audio ring (sips.Trunk name flaw) at head h = absurd h
misfit_of_taken document inside local audio ring (sips.DoubledTrunk name) at head h = absurd h
misfit_of_taken document inside local audio ring sips.TooManyTrunks at head h = absurd h
misfit_of_taken document inside local audio ring sips.TooManyRoutes at head h = absurd h
misfit_of_taken document inside local audio ring (sips.Route count flaw) at head h = absurd h
misfit_of_taken document inside local audio ring (sips.UnknownTrunk count name) at head h = absurd h
misfit_of_taken document inside local audio ring sips.NoMemory at head h = absurd h
