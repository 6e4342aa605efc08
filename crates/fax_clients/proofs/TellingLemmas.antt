-- What a reader of events is told where lines were lost.
use Rattle.std.proofs.Common.{◌≡◌, ℕ, zero, suc, List, flat_map, refl, sym, ◌∙◌, append-nil}
use Rattle.fax_control.specs.events.Queues.{Lost, lost_lines}
use Rattle.fax_clients.specs.Clients.{telling_text}

pub lost_told : (lost : ℕ) (octets : List ℕ) → (lost ≡ 0 → ⊥) → octets ≡ telling_text (Lost lost) → octets ≡ flat_map telling_text (lost_lines lost)
lost_told zero octets some is = absurd (some refl)
lost_told (suc n) octets some is = is ∙ sym (append-nil (telling_text (Lost (suc n))))
