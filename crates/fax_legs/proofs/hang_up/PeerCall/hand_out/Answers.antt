use Rattle.std.proofs.Common.{ℕ, List, Some, ◌++◌, ◌∙◌, ap, drop}
use Rattle.fax_legs.specs.declared.hang_up.Standing.TheVariants as standings
use Rattle.fax_legs.specs.declared.hang_up.PeerCall.{PeerCall}
use Rattle.fax_legs.specs.HangUps.{goodbye}
use Rattle.fax_legs.proofs.hang_up.PeerCall.hand_out.Goals as goal

-- the call in which a goodbye of this number was handed out
abbrev called : ℕ → PeerCall
called n = record { newest = Some n; standing = standings.Told }

pub returns-clause-handed : goal.returns-clause-handed
returns-clause-handed c =
    let number = c.number_after-number.ensures in
    λ _. record {
      octets = ap (λ (front : List ℕ). front ++ drop 14 c.args.buffer.now) (c.copy_from_slice.ensures.after ∙ c.goodbye.ensures ∙ ap goodbye number);
      call = ap called number;
    }
