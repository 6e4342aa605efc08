-- What wires make of what comes: a peer stays, or is heard.
use Rattle.std.proofs.Common.{◌≡◌, Bool, true, false, Option, None, Some, sym, ◌∙◌, ap, subst, inl, inr}
use Rattle.std.specs.declared.net.socket_addr.SocketAddr.{SocketAddr}
use Rattle.fax_wires.specs.repeat.Peers.{Hears, HearsWhere, PeerValue, heard, learned}

-- one that was heard and is heard again was heard
heard_more : (old mid new : PeerValue) → mid ≡ heard old → Hears mid new → Hears old new
heard_more old mid new was (inl same) = inr (inl (same ∙ was))
heard_more old mid new was (inr (inl again)) = inr (inl (again ∙ ap heard was))
heard_more old mid new was (inr (inr (learns, address, is))) = inr (inr (sym (ap (λ (v : PeerValue). v.learns) was) ∙ learns, address, is ∙ ap (learned address) was))

no_more : (b : Bool) → b ≡ false → b ≡ true → ⊥
no_more true is other = cc
no_more false is other = cc

learned_more : (old mid new : PeerValue) (address : SocketAddr) → old.learns ≡ true → mid ≡ learned address old → Hears mid new → Hears old new
learned_more old mid new address learns was (inl same) = inr (inr (learns, address, same ∙ was))
learned_more old mid new address learns was (inr (inl again)) = inr (inr (learns, address, again ∙ ap heard was))
learned_more old mid new address learns was (inr (inr (still, other, is))) = absurd (no_more mid.learns (ap (λ (v : PeerValue). v.learns) was) still)

pub hears_more : (old mid new : PeerValue) → Hears old mid → Hears mid new → Hears old new
hears_more old mid new (inl same) second = subst (λ (v : PeerValue). Hears v new) same second
hears_more old mid new (inr (inl once)) second = heard_more old mid new once second
hears_more old mid new (inr (inr (learns, address, is))) second = learned_more old mid new address learns is second

pub hears_where_more : (old mid new : Option PeerValue) → HearsWhere old mid → HearsWhere mid new → HearsWhere old new
hears_where_more None mid new first second = subst (λ (o : Option PeerValue). HearsWhere o new) first second
hears_where_more (Some old) None new first second = absurd first
hears_where_more (Some old) (Some mid) None first second = absurd second
hears_where_more (Some old) (Some mid) (Some new) first second = hears_more old mid new first second
