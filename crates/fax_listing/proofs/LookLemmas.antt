-- What is seen of a spool, and how a run ends.
use Rattle.std.proofs.Common.{◌≡◌, ℕ, List, Option, Some, None, Result, Ok, Err, IfOk, IfSome, string_bytes, subst}
use Rattle.std.specs.Io.KnownBytes.{Appends}
use Rattle.fax_command.specs.declared.status.Status.{Status}
use Rattle.fax_spool.specs.Listed.{IsListed}
use Rattle.fax_spool.specs.declared.listing.Listing.{Listing}
use Rattle.fax_listing.specs.Jobs.{chosen, without_cards}
use Rattle.fax_listing.specs.Looks.{AreKnown, Looks, LooksAt, damage_told}
use Rattle.fax_listing.specs.Pictures.{FileValue}
use Rattle.fax_listing.specs.declared.fault.LookFault.{LookFault}
use Rattle.fax_listing.specs.declared.looking.Seen.{Seen}
use Rattle.fax_listing.specs.declared.looking.SpoolOptions.{SpoolOptions}

-- what is listed was looked at
pub looked : (options : SpoolOptions) (one other kept_one kept_other : List ℕ) (waiting kept : Listing) (told : List ℕ) (before after : Option (List FileValue)) (r : Result Seen LookFault)
    → IsListed one other waiting → IsListed kept_one kept_other kept → told ≡ damage_told options.folder.now waiting kept
    → IfOk r (LooksAt options (chosen options.choice waiting.pages.items) (chosen options.choice (without_cards kept.pages.items)) waiting.torn.items kept.torn.items told before after)
    → IfOk r (Looks options one other kept_one kept_other before after)
looked options one other kept_one kept_other waiting kept told before after (Ok seen) listed kept_listed d h = record {
  waiting = waiting;
  kept = kept;
  listed = listed;
  kept_listed = kept_listed;
  looks = subst (λ (x : List ℕ). LooksAt options (chosen options.choice waiting.pages.items) (chosen options.choice (without_cards kept.pages.items)) waiting.torn.items kept.torn.items x before after seen) d h;
}
looked options one other kept_one kept_other waiting kept told before after (Err fault) listed kept_listed d h = tt

-- what was seen was told and written, where the octets of all files are known
pub answered : (one other kept_one kept_other : Option (List ℕ)) (options : SpoolOptions) (before after : Option (List FileValue)) (seen : Seen) (status : Status) (told : List ℕ) (old new : Option (List ℕ))
    → status ≡ seen.status → told ≡ string_bytes seen.told → Appends old new seen.text.items
    → AreKnown one other kept_one kept_other (λ a b c d. Looks options a b c d before after seen)
    → AreKnown one other kept_one kept_other (λ a b c d. (s : Seen) × Looks options a b c d before after s × (status ≡ s.status) × (told ≡ string_bytes s.told) × Appends old new s.text.items)
answered None other kept_one kept_other options before after seen status told old new a b c looks = tt
answered (Some w) None kept_one kept_other options before after seen status told old new a b c looks = tt
answered (Some w) (Some x) None kept_other options before after seen status told old new a b c looks = tt
answered (Some w) (Some x) (Some y) None options before after seen status told old new a b c looks = tt
answered (Some w) (Some x) (Some y) (Some z) options before after seen status told old new a b c looks = (seen, looks, a, b, c)
